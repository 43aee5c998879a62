-- Each row struct holds the sheet's row of that number.
use Prim.Native.Nat.{ℕ, ◌<◌}
use mathlib.Core.Path.{◌≡◌}
use mathlib.Core.List.{[]}
use lib.ListN.{length, get_or}
use Rattle.model.specs.Loads.{no_row}
use Rattle.loads.proofs.as_rows.Given as goal

abbrev pub invariant-loop-i : goal.invariant-loop-i
invariant-loop-i l = (length l.rows ≡ 48) × ((k : ℕ) → k < l.i → get_or l.rows k no_row ≡ record { loads = get_or l.fn.t k [] })
