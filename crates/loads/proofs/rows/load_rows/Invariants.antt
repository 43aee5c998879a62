-- The rows below i are filled.
use Prim.Native.Nat.{ℕ, ◌<◌}
use mathlib.Core.Path.{◌≡◌}
use mathlib.Core.List.{[]}
use lib.ListN.{length, get_or}
use Rattle.loads.specs.Tables.{RowBy}
use Rattle.loads.proofs.rows.load_rows.Given as goal

abbrev pub invariant-loop-i : goal.invariant-loop-i
invariant-loop-i l = (length l.t ≡ 48) × ((r : ℕ) → r < l.i → RowBy (get_or l.s.brings.now r 0) l.s.works.now l.s.count (get_or l.t r []))
