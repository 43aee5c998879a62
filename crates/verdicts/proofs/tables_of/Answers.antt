-- `verdicts::tables_of` meets its contract: each table is the description's. Assumes nothing.
use Prim.Native.Nat.{suc, ◌-◌}
use mathlib.Core.Path.{◌≡◌, ap}
use native.Mathlib.Omega.{arith}
use lib.ListN.{get_or}
use Rattle.verdicts.proofs.tables_of.Goals as goal

pub starts_by-requires : goal.starts_by-requires
starts_by-requires c =
    let d = c.args.d in
    (λ k p. let e : suc k - 1 ≡ k = omega arith in omega (arith, c.requires.0.fields.run_most (suc k) (omega arith) (omega arith), ap (λ i. get_or d.runs i 0) e))
