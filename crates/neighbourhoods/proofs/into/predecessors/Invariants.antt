-- `predecessors` meets its contract: the sets hold the links passed so far. Assumes nothing.
use Prim.Native.Nat.{ℕ}
use mathlib.Core.Path.{◌≡◌}
use lib.ListN.{length}
use Rattle.theory.proofs.Links.{Linkable, linked_to}
use Rattle.neighbourhoods.specs.Into.{link_into}
use Rattle.neighbourhoods.proofs.into.predecessors.Given as goal

abbrev pub invariant-loop-link : goal.invariant-loop-link
invariant-loop-link l = (length l.into ≡ 32) × ((i j : ℕ) → Linkable i j → link_into l.into i j ≡ linked_to l.fn.d l.link-index i j)
