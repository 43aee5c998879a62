-- The rows of a description's links, bit by bit.
use Rattle.std.specs.Prelude.{ℕ, ◌+◌, ◌<◌, ◌&&◌, List, [], ◌≡◌, get_or, length, eqb, ltb}
use Rattle.model.specs.declared.Description.{Description}
use Rattle.model.specs.Basics.{any_n}
use Rattle.model.specs.Graph.{link_at}
use Rattle.theory.proofs.WellFormed.{WellFormed}
use Rattle.sets.specs.Sets.{member}
use Rattle.sets.specs.Wide.{inside}
use Rattle.wiring.specs.declared.Row.{Row}
use Rattle.wiring.specs.declared.Wiring.{Wiring}

-- a node's row, and one without links past the last
abbrev pub row_at : List Row → ℕ → Row
row_at rows x = get_or rows x (record { out = record { words = [] }; into = record { words = [] }; wakes = 0 })

-- the rows of a description's first n links: those out of node x, those into it, and the tasks that it wakes
pub record RowsOf (d : Description) (n : ℕ) (rows : List Row) : Type 0 where
  pub long : length rows ≡ 64
  pub out : (x l : ℕ) → inside (row_at rows x).out l ≡ (ltb l n && eqb (link_at d l).from x)
  pub into : (x l : ℕ) → inside (row_at rows x).into l ≡ (ltb l n && eqb (link_at d l).to x)
  pub wakes : (x k : ℕ) → member (row_at rows x).wakes k ≡ any_n (λ l. eqb (link_at d l).from x && eqb (link_at d l).to k) 0 n

-- one link more, from node x to task y
pub record Wired (rows : List Row) (l x y : ℕ) (rows' : List Row) : Type 0 where
  pub long : length rows' ≡ 64
  pub wired : (d : Description) → (link_at d l).from ≡ x → (link_at d l).to ≡ y → RowsOf d l rows → RowsOf d (l + 1) rows'

-- the wiring of a description
pub record WiringOf (d : Description) (w : Wiring) : Type 0 where
  pub formed : WellFormed d
  pub rowed : RowsOf d d.link_count w.rows
  pub many : d.link_count ≡ w.links
  pub enters : (l : ℕ) → l < w.links → get_or w.to l 0 ≡ (link_at d l).to
  pub as_many : d.task_count ≡ w.tasks
  pub same_runs : w.runs ≡ d.runs
  pub as_wide : d.source_count ≡ w.sources
