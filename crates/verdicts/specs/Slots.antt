-- The verdict on each link from the tables, at given spacings.
use Rattle.std.specs.Prelude.{ℕ, suc, ◌+◌, ◌-◌, ◌≤◌, ◌<◌, ◌≡◌, Bool, false, cond, ◌&&◌, List, [], get_or, replicate, eqb, ltb, leb}
use Rattle.model.specs.declared.Link.{Link}
use Rattle.model.specs.declared.Description.{Description}
use Rattle.model.specs.declared.Policy.{Policy}
use Rattle.model.specs.declared.Verdict.{Verdict}
use Rattle.model.specs.declared.Verdict.TheVariants.{Free, HeldOrder, DoubtOrder, Held, Doubt}
use Rattle.model.specs.declared.VerdictSlot.{VerdictSlot}
use Rattle.model.specs.declared.Verdicts.{Verdicts}
use Rattle.model.specs.declared.Refusal.{Refusal}
use Rattle.model.specs.Refusals.{Refused}
use Rattle.model.specs.Basics.{tab}
use Rattle.model.specs.Graph.{system, link_at}
use Rattle.model.specs.Delays.{tail_of}
use Rattle.model.specs.Verdicts.{free_slot, verdict_of}
use Rattle.theory.proofs.Levels.{level_reach}
use Rattle.theory.proofs.WellFormed.{WellFormed}
use Rattle.spacings.specs.Gaps.{GapsIn}
use Rattle.neighbourhoods.specs.Orders.{OrdersOf}
use Rattle.verdicts.specs.Tables.{LevelsOf, StartsOf, TailsOf}
use Rattle.verdicts.specs.declared.Tables.{Tables}

unfoldable pub verdict_by : Link → Bool → ℕ → ℕ → Verdict
verdict_by l order gap reach =
    cond (eqb l.critical 0) Free
    (cond (ltb l.from 33) (cond order HeldOrder DoubtOrder)
    (cond (ltb reach gap) (Held reach gap) (Doubt gap)))

unfoldable pub gap_by : List ℕ → Link → ℕ
gap_by gaps l = cond (ltb l.from 33) 0 (get_or gaps (l.from - 33) 0)

unfoldable pub by_tables : Bool → List ℕ → List ℕ → Link → Verdict
by_tables order gaps reaches l = verdict_by l order (gap_by gaps l) (get_or reaches (l.to - 1) 0)

unfoldable pub slot_by : Description → List Bool → List ℕ → List ℕ → ℕ → VerdictSlot
slot_by d orders gaps reaches l =
    cond (ltb l d.link_count) (record { verdict = by_tables (get_or orders l false) gaps reaches (link_at d l) }) free_slot

-- the verdict at place l at the spacings of gap; free past the links
unfoldable pub slot_of : Policy → Description → (ℕ → ℕ) → ℕ → VerdictSlot
slot_of p d gap l = cond (ltb l d.link_count) (record { verdict = verdict_of p (system d) gap (link_at d l) }) free_slot

-- the verdicts at the spacings of a table
abbrev pub SlotsAt : Policy → Description → List ℕ → List VerdictSlot → Type 0
SlotsAt p d gaps r = (gap : ℕ → ℕ) → GapsIn gap d.source_count gaps → r ≡ tab 256 (slot_of p d gap)

-- the spacing of a critical link's source, or 0 for any other link
unfoldable pub limit_by : List ℕ → Link → ℕ
limit_by gaps l = cond (eqb l.critical 1 && leb 33 l.from) (get_or gaps (l.from - 33) 0) 0

-- by level: a limit that no spacing of a critical source link into it exceeds
pub record LimitsOf (d : Description) (gaps limits : List ℕ) : Type 0 where
  pub covers : (l : ℕ) → l < d.link_count → 33 ≤ (link_at d l).from → (link_at d l).critical ≡ 1 → get_or gaps ((link_at d l).from - 33) 0 ≤ get_or limits ((link_at d l).to - 1) 0
  pub most : (j : ℕ) → get_or limits j 0 ≤ 1000000000

-- where the rounds of task j come to below a limit, with what the delay has beyond them
abbrev pub reach_with : Policy → Description → (ℕ → ℕ) → ℕ → ℕ → ℕ
reach_with p d gap j limit = level_reach p (system d) gap j (limit - tail_of p (system d) j) + tail_of p (system d) j

-- by level: where its delay comes to
abbrev pub ReachesOf : Policy → Description → (ℕ → ℕ) → List ℕ → List ℕ → Type 0
ReachesOf p d gap limits reaches = (j : ℕ) → j < d.task_count → get_or reaches j 0 ≡ reach_with p d gap (suc j) (get_or limits j 0)

-- tables of n tasks and m sources with numbers from the scale
pub record Leveled (t : Tables) (n m : ℕ) : Type 0 where
  pub few_tasks : n ≤ 32
  pub few_sources : m ≤ 16
  pub start_most : (j : ℕ) → j < n → get_or t.starts j 0 ≤ 1010000000
  pub tail_most : (j : ℕ) → j < n → get_or t.tails j 0 ≤ 10000000
  pub load_most : (j u : ℕ) → j < n → u < m → get_or (get_or t.levels j []) u 0 ≤ 1000000000

-- where the delay of each level comes to, whatever model and description the tables are of
abbrev pub ReachesBy : Tables → List ℕ → List ℕ → ℕ → ℕ → List ℕ → Type 0
ReachesBy t gaps limits n m r = (p : Policy) (d : Description) (gap : ℕ → ℕ) → WellFormed d → LevelsOf p d t.levels → StartsOf p d t.starts → TailsOf p d t.tails → n ≡ d.task_count → m ≡ d.source_count → GapsIn gap m gaps → ReachesOf p d gap limits r

-- the tables that verdicts are worked out from; nothing is said of the others
pub record SlotTables (p : Policy) (d : Description) (t : Tables) : Type 0 where
  pub good : WellFormed d
  pub by_level : LevelsOf p d t.levels
  pub by_start : StartsOf p d t.starts
  pub by_tail : TailsOf p d t.tails
  pub by_order : OrdersOf d t.orders

-- there is a model that they are of
pub record SlotTabled (d : Description) (t : Tables) : Type 0 where
  pub model : Policy
  pub tables : SlotTables model d t

-- the verdicts at the spacings of a table, whatever model the tables are of
abbrev pub SlotsBy : Description → Tables → List ℕ → List VerdictSlot → Type 0
SlotsBy d t gaps r = (p : Policy) → SlotTables p d t → SlotsAt p d gaps r

-- beside a refusal every verdict is free
abbrev pub refused_verdicts : Refusal → ℕ → Verdicts
refused_verdicts r place = record { outcome = Refused r place; slots = replicate 256 free_slot }
