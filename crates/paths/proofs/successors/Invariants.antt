-- The sets hold the links passed so far.
use Prim.Native.Nat.{ℕ, ◌-◌}
use mathlib.Core.Path.{◌≡◌}
use lib.ListN.{length}
use Rattle.sets.specs.Sets.{member}
use Rattle.theory.proofs.Links.{Linkable, linked_to}
use Rattle.paths.specs.Rows.{row_of}
use Rattle.paths.proofs.successors.Given as goal

abbrev pub invariant-loop-link : goal.invariant-loop-link
invariant-loop-link l = (length l.succ ≡ 48) × ((i j : ℕ) → Linkable i j → member (row_of l.succ i) (j - 1) ≡ linked_to l.fn.d l.link-index i j)
