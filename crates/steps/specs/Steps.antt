-- What steps 2 to 4 on words of bits ensure: of every record that the words hold, they hold what the plain machine's step makes of it.
use Rattle.std.specs.Prelude.{ℕ, ◌+◌, ◌^◌, ◌≤◌, ◌<◌, Bool, true, cond, List, ◌≡◌, get_or, length, eqb}
use Rattle.model.specs.declared.Description.{Description}
use Rattle.model.specs.declared.Policy.{Policy}
use Rattle.model.specs.declared.Machine.{Machine}
use Rattle.model.specs.Machine.{awake_at, used_at, set_used, choose, run_task, complete, clear_into, end_run, age_all}
use Rattle.theory.proofs.WellFormed.{WellFormed}
use Rattle.sets.specs.Sets.{LastIn}
use Rattle.wiring.specs.declared.Row.{Row}
use Rattle.wiring.specs.Rows.{RowsOf}
use Rattle.words.specs.declared.Words.{Words}
use Rattle.words.specs.Words.{awake_in, Marks, Holds, holds_on, Goes}

-- the run of task h is over, and it has served what it took
abbrev pub ended : Description → ℕ → Machine → Machine
ended d h m = clear_into d h (complete h m)

-- it began in this tick
pub record Sleeps (rows : List Row) (h : ℕ) (w w' : Words) : Type 0 where
  pub slept : (d : Description) (m : Machine) → WellFormed d → RowsOf d d.link_count rows → 1 ≤ h → h ≤ 32 → used_at m h ≡ 0 → Marks d w m → Marks d w' (ended d h m)
  pub then : w'.tick ≡ w.tick
  pub knob : (w'.low ≡ w.low) × (w'.peak ≡ w.peak)
  pub runs : w'.running ≡ w.running

-- it began before this tick
pub record Completes (rows : List Row) (h : ℕ) (w w' : Words) : Type 0 where
  pub completed : (d : Description) (m : Machine) → WellFormed d → RowsOf d d.link_count rows → 1 ≤ h → h ≤ 32 → 0 < used_at m h → Marks d w m → Marks d w' (ended d h m)
  pub then : w'.tick ≡ w.tick
  pub knob : (w'.low ≡ w.low) × (w'.peak ≡ w.peak)
  pub runs : w'.running ≡ 0

-- it had used so many ticks before this one
pub record Ends (rows : List Row) (h spent : ℕ) (w w' : Words) : Type 0 where
  pub over : (d : Description) (m : Machine) → WellFormed d → RowsOf d d.link_count rows → 1 ≤ h → h ≤ 32 → used_at m h ≡ spent → Marks d w m → Marks d w' (ended d h m)
  pub then : w'.tick ≡ w.tick
  pub knob : (w'.low ≡ w.low) × (w'.peak ≡ w.peak)
  pub runs : w'.running ≡ cond (eqb spent 0) w.running 0

-- the task that a tick runs: the one that goes on, or else the highest awake
pub record Chosen (running awake h : ℕ) : Type 0 where
  pub goes : 0 < running → h ≡ running
  pub highest : running ≡ 0 → LastIn awake h

-- the run of task h begins in this tick and is not over: it has taken what was fresh
pub record Starts (p : Policy) (rows : List Row) (h : ℕ) (w w' : Words) : Type 0 where
  pub started : (d : Description) (m : Machine) (more : ℕ) → WellFormed d → RowsOf d d.link_count rows → 1 ≤ h → h ≤ 32 → used_at m h ≡ 0 → awake_at m h ≡ true → 0 < more → Marks d w m → Marks d w' (set_used h more m)
  pub then : w'.tick ≡ w.tick
  pub knob : (w'.low ≡ w.low) × (w'.peak ≡ w.peak)
  pub runs : w'.running ≡ cond (holds_on p) h 0

-- it had used so many ticks before this one, and is not over
pub record GoesOn (p : Policy) (rows : List Row) (h spent : ℕ) (w w' : Words) : Type 0 where
  pub gone : (d : Description) (m : Machine) (more : ℕ) → WellFormed d → RowsOf d d.link_count rows → 1 ≤ h → h ≤ 32 → used_at m h ≡ spent → awake_at m h ≡ true → 0 < more → Marks d w m → Marks d w' (set_used h more m)
  pub then : w'.tick ≡ w.tick
  pub knob : (w'.low ≡ w.low) × (w'.peak ≡ w.peak)
  pub runs : w'.running ≡ cond (eqb spent 0) (cond (holds_on p) h 0) w.running

-- the task that a tick runs has run in a record, and its run has ended if this tick ends it
abbrev pub worked : Policy → Description → Bool → Machine → Machine
worked p d finish m = let h = choose p d m in end_run d h finish (run_task h m)

-- these are the longest runs of a description's tasks
abbrev pub RunsIn : Description → List ℕ → Type 0
RunsIn d runs = (k : ℕ) → k < 32 → get_or runs k 0 ≡ get_or d.runs k 0

pub record Works (p : Policy) (rows : List Row) (runs : List ℕ) (finish : Bool) (w : Words) (used : List ℕ) (w' : Words) (used' : List ℕ) : Type 0 where
  pub worked_on : (d : Description) (since : List ℕ) (m : Machine) → WellFormed d → RowsOf d d.link_count rows → RunsIn d runs
      → Goes p w.running used → Holds d w used since m → Holds d w' used' since (worked p d finish m)
  pub goes : length used ≡ 32 → Goes p w.running used → Goes p w'.running used'
  pub then : w'.tick ≡ w.tick
  pub knob : (w'.low ≡ w.low) × (w'.peak ≡ w.peak)

-- awake tasks have places in the tables, the one that goes on is awake, and a tick more fits what each has used
pub record Workable (w : Words) (used : List ℕ) : Type 0 where
  pub low : (k : ℕ) → awake_in w k ≡ true → (1 ≤ k) × (k ≤ 32)
  pub going : 0 < w.running → awake_in w w.running ≡ true
  pub countable : (k : ℕ) → k < 32 → get_or used k 0 + 1 < 2 ^ 32

-- one tick more has passed
pub record Passes (w w' : Words) : Type 0 where
  pub passed : (d : Description) (used since : List ℕ) (m : Machine) → WellFormed d → Holds d w used since m → Holds d w' used since (age_all d m)
  pub then : w'.tick ≡ w.tick + 1
  pub knob : (w'.low ≡ w.low) × (w'.peak ≡ w.peak)
  pub runs : w'.running ≡ w.running
