-- What is assured of a list of tick calls while the knob moves, as one type, and demand 3 of document 01, which is its case of one tempo. Read it beside
-- C-13 of document 02 and the paragraph of document 01 that begins "Demand 3 is a single claim".
use Rattle.std.specs.Prelude.{ℕ, ◌≤◌, ◌<◌, Bool, true, ◌&&◌, List, [], ◌∷◌, ◌≡◌, ◌↔◌, length, eqb, Ok}
use Rattle.model.specs.declared.Description.{Description}
use Rattle.model.specs.declared.Policy.{Policy}
use Rattle.model.specs.declared.Machine.{Machine}
use Rattle.model.specs.declared.Arrivals.{Arrivals}
use Rattle.model.specs.Refusals.{Outcome}
use Rattle.model.specs.declared.Ticked.{Ticked}
use Rattle.model.specs.Graph.{link_at}
use Rattle.model.specs.File.{Widths}
use Rattle.model.specs.Verdicts.{quote_of, verdict_at, delay_in}
use Rattle.model.specs.Machine.{idle, started, plain_tick, dropped_at}
use Rattle.model.specs.History.{Call, Tick, answers, left, history, fires, tick_at, Dropped, wait_of}

-- what the start call ensures of its answer
abbrev pub StartMeets : Description → Ticked → Type 0
StartMeets d r = r ≡ started d

-- what the tick call ensures of its outcome and of the caller's record, lent as m and left as m'
abbrev pub TickMeets : Policy → Description → ℕ → Machine → Arrivals → Bool → Outcome → Machine → Type 0
TickMeets p d t m a finish o m' = (o ≡ (plain_tick p d t m a finish).outcome) × (m' ≡ (plain_tick p d t m a finish).machine)

-- a list of calls with one description: each has its own tempo, is lent the record as the call before left it, nothing else writes it,
-- and each meets what the tick call ensures
pub data Calls (p : Policy) (d : Description) : Machine → List Call → List Ticked → Machine → Type 0 where
  none : {m : Machine} → Calls p d m [] [] m
  call : {m : Machine} {c : Call} {r : Ticked} {cs : List Call} {rs : List Ticked} {m' : Machine}
      → TickMeets p d c.tempo m c.arrivals c.finish r.outcome r.machine → Calls p d r.machine cs rs m' → Calls p d m (c ∷ cs) (r ∷ rs) m'

-- "no tempo of a run" is above q: of its ticks, for a refused call's tempo is not given
abbrev pub UpTo : ℕ → List Tick → Type 0
UpTo q h = (x : ℕ) → x < length h → (tick_at h x).tempo ≤ q

-- what is assured of such a list, whose calls were answered by rs and left the record m
pub record Assured (p : Policy) (d : Description) (q : ℕ) (cs : List Call) (rs : List Ticked) (m : Machine) : Type 0 where
  -- "each call's refusal, or that there is none, and the record it leaves are equal to that machine's"
  pub plain : rs ≡ answers p d (idle d) cs
  pub plain_left : m ≡ left p d (idle d) cs
  -- no critical link has been dropped
  pub kept : (l : ℕ) → l < d.link_count → (link_at d l).critical ≡ 1
      → Dropped (history p d cs) (link_at d l).from (link_at d l).to → ⊥
  -- "its dropped mark is set exactly then", for every link
  pub marked : (l : ℕ) → l < d.link_count
      → (dropped_at m l ≡ true) ↔ Dropped (history p d cs) (link_at d l).from (link_at d l).to
  -- no event from a source on a critical link has waited longer than the delay printed for it, which is the verdict's at the quote
  pub waited : (l x : ℕ) → l < d.link_count → (link_at d l).critical ≡ 1 → 33 ≤ (link_at d l).from
      → x < length (history p d cs) → fires (tick_at (history p d cs) x) (link_at d l).from ≡ true
      → wait_of (history p d cs) (link_at d l).to x ≤ delay_in (verdict_at p d q l)

-- The promise: for one accepted file that has a quote (given as a record whose numbers fit their types), the record that the start call answers,
-- and every list of calls on it, however the knob moves up to the quote; of either model, with its own quote and its own machine
abbrev pub Promise : Type 0
Promise = (p : Policy) (d : Description) (q : ℕ) (s : Ticked) (cs : List Call) (rs : List Ticked) (m : Machine)
    → Widths d → quote_of p d ≡ Ok q → StartMeets d s → Calls p d s.machine cs rs m → UpTo q (history p d cs) → Assured p d q cs rs m

-- every call of a list is at tempo t
unfoldable pub at_tempo : ℕ → List Call → Bool
at_tempo t [] = true
at_tempo t (c ∷ cs) = eqb c.tempo t && at_tempo t cs

-- Demand 3: the same of calls that all have one tempo up to the quote; 01 has "the same T, from 200 to that quote", and below 200 every call is refused.
-- On the hold-on model it is what "a buyer of this box relies on": "no critical loss, no longer wait, at any one tempo up to its quote" (C-14)
abbrev pub Demand3 : Type 0
Demand3 = (p : Policy) (d : Description) (q t : ℕ) (s : Ticked) (cs : List Call) (rs : List Ticked) (m : Machine)
    → Widths d → quote_of p d ≡ Ok q → t ≤ q → at_tempo t cs ≡ true → StartMeets d s → Calls p d s.machine cs rs m → Assured p d q cs rs m
