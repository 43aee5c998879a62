-- The levels from task j + 1 on are there, and the loads of sources at that task.
use Prim.Native.Nat.{ℕ, suc, ◌+◌, ◌<◌}
use mathlib.Core.Path.{◌≡◌}
use lib.ListN.{length, get_or}
use Rattle.works.specs.Works.{load_by}
use Rattle.loads.proofs.Columns.{LevelsFrom}
use Rattle.loads.proofs.levels.levels_of.Given as goal

abbrev pub invariant-loop-j : goal.invariant-loop-j
invariant-loop-j l = (length l.loads ≡ 16) × ((u : ℕ) → u < l.m → get_or l.loads u 0 ≡ load_by (get_or l.s.brings.now (32 + u) 0) l.s.works.now l.s.count (suc l.j)) × LevelsFrom l.s.brings.now l.s.works.now l.s.count l.m l.below l.j l.levels
