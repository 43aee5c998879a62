use Prim.Native.Nat.{ℕ, ◌<◌}
use mathlib.Core.Path.{◌≡◌}
use lib.ListN.{get_or, length}
use Rattle.model.specs.Graph.{link_at}
use Rattle.wiring.specs.Rows.{RowsOf}
use Rattle.wiring.proofs.wiring_of.Given as goal

-- the tables hold the first l links
abbrev pub invariant-loop-l : goal.invariant-loop-l
invariant-loop-l l = (length l.to ≡ 256) × RowsOf l.fn.d l.l l.rows × ((k : ℕ) → k < l.l → get_or l.to k 0 ≡ (link_at l.fn.d k).to)
