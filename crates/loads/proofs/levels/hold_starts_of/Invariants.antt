-- The starts from task j + 1 on are there.
use Prim.Native.Nat.{ℕ, suc, ◌<◌}
use mathlib.Core.Path.{◌≡◌}
use lib.ListN.{length, get_or}
use Rattle.works.specs.Works.{load_by}
use Rattle.loads.proofs.Columns.{HoldFrom}
use Rattle.loads.proofs.levels.hold_starts_of.Given as goal

abbrev pub invariant-loop-j : goal.invariant-loop-j
invariant-loop-j l = (length l.loads ≡ 32) × ((k : ℕ) → k < 32 → k < l.j → get_or l.loads k 0 ≡ load_by (get_or l.s.brings.now k 0) l.s.works.now l.s.count (suc l.j)) × HoldFrom l.s.brings.now l.s.works.now l.runs l.s.count l.j l.starts
