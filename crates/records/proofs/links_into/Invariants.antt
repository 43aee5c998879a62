use Prim.Native.Nat.{ℕ}
use mathlib.Core.Path.{◌≡◌}
use mathlib.Core.Bool.{◌&&◌}
use Rattle.model.specs.Basics.{any_n}
use Rattle.sets.specs.Sets.{member}
use Rattle.sets.specs.Wide.{inside}
use Rattle.wiring.specs.Rows.{row_at}
use Rattle.records.proofs.links_into.Given as goal

-- the links into the first k tasks
abbrev pub invariant-loop-k : goal.invariant-loop-k
invariant-loop-k l = (i : ℕ) → inside l.set i ≡ any_n (λ j. member l.fn.tasks j && inside (row_at l.fn.rows j).into i) 0 l.k
