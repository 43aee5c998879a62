-- The ends of a description's links, and the first links of it. Assumes nothing.
use Prim.Native.Nat.{ℕ, ◌≤◌, ◌<◌}
use mathlib.Core.Bool.{Bool, ◌&&◌}
use mathlib.Core.Logic.{◌⊎◌, inl, inr}
use native.Mathlib.Omega.{arith}
use lib.Dec.{eqb}
use Rattle.model.specs.declared.Description.{Description}
use Rattle.model.specs.Basics.{any_n}
use Rattle.model.specs.Graph.{system, link_at, source_at}
use Rattle.model.specs.Delays.{spacing_of}
use Rattle.lemmas.proofs.Tests.{cases}
use Rattle.theory.proofs.WellFormed.{IsTask, IsSource}
use Rattle.theory.proofs.WellFormed.{Fielded}
use Rattle.theory.proofs.Spacing.{spacing_most}

-- a node and a task that tables by number have room for
abbrev pub Linkable : ℕ → ℕ → Type 0
Linkable i j = (1 ≤ i) × (i ≤ 48) × (1 ≤ j) × (j ≤ 32)

-- whether one of the first n links goes from i to j
unfoldable pub linked_to : Description → ℕ → ℕ → ℕ → Bool
linked_to d n i j = any_n (λ l. eqb (link_at d l).from i && eqb (link_at d l).to j) 0 n

-- the ends of a link are a node and a task
pub ends_inside : (d : Description) → Fielded d → (l : ℕ) → l < d.link_count → Linkable (link_at d l).from (link_at d l).to
unfolding system
ends_inside d g l here =
    let t = g.link_to l here in
    let u = node (g.link_from l here) in
    (u.0, u.1, t.0, omega (arith, t.1, g.few_tasks))
  where
    node : IsTask (system d) (link_at d l).from ⊎ IsSource (system d) (link_at d l).from → (1 ≤ (link_at d l).from) × ((link_at d l).from ≤ 48)
    node (inl x) = (x.0, omega (arith, x.1, g.few_tasks))
    node (inr x) = (omega (arith, x.0), omega (arith, x.1, g.few_sources))

pub from_most : (d : Description) → Fielded d → (l : ℕ) → l < d.link_count → (link_at d l).from < 49
from_most d g l here = omega (arith, (ends_inside d g l here).1)

pub to_most : (d : Description) → Fielded d → (l : ℕ) → l < d.link_count → (1 ≤ (link_at d l).to) × ((link_at d l).to ≤ 32)
to_most d g l here = let e = ends_inside d g l here in (e.2, e.3)

-- the spacing of a link's source is at most 1,000,000,000
pub link_gap_most : (d : Description) → Fielded d → (t l : ℕ) → l < d.link_count → 33 ≤ (link_at d l).from → spacing_of d t (link_at d l).from ≤ 1000000000
unfolding spacing_of system
link_gap_most d g t l here b =
    cases (g.link_from l here)
    (λ w. absurd (omega (arith, w.1, g.few_tasks)))
    (λ w. spacing_most (source_at d (link_at d l).from) t (g.source_scale (link_at d l).from w.0 w.1))
