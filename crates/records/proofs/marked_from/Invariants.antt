use Prim.Native.Nat.{ℕ, ◌+◌, ◌-◌}
use mathlib.Core.Path.{◌≡◌}
use mathlib.Core.Bool.{false, ◌&&◌}
use lib.ListN.{get_or}
use lib.Dec.{leb, ltb}
use Rattle.sets.specs.Sets.{member}
use Rattle.records.proofs.marked_from.Given as goal

-- the word has the first k marks
abbrev pub invariant-loop-k : goal.invariant-loop-k
invariant-loop-k l = (j : ℕ) → member l.set j ≡ (ltb j (l.first + l.k) && (leb l.first j && get_or l.marks (j - l.first) false))
