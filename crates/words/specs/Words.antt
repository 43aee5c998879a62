-- How words of bits hold the machine's record.
use Rattle.std.specs.Prelude.{ℕ, ◌-◌, ◌≤◌, ◌<◌, min, max, Bool, true, false, ◌||◌, ◌&&◌, cond, List, ◌≡◌, ◌⊎◌, get_or, length, eqb, ltb}
use Rattle.model.specs.declared.Description.{Description}
use Rattle.model.specs.declared.Policy.{Policy}
use Rattle.model.specs.declared.Policy.TheVariants.{Preemptive, HoldOn}
use Rattle.model.specs.declared.Machine.{Machine}
use Rattle.model.specs.Graph.{link_at, run_of}
use Rattle.model.specs.Machine.{awake_at, used_at, waiting_at, dropped_at, again_at, late_at, age_at, fastest_at, longest_gap}
use Rattle.assurance.proofs.Firing.{Sized}
use Rattle.sets.specs.Sets.{member}
use Rattle.sets.specs.Wide.{inside}
use Rattle.words.specs.declared.Words.{Words}

-- the marks of tasks and links, by what words say: a task is awake that was woken or is part done, and again that is both; a link waits that is fresh or
-- taken, and has been dropped, marked so or not yet, if it is both
abbrev pub awake_in : Words → ℕ → Bool
awake_in w k = member w.woken k || member w.part k

abbrev pub again_in : Words → ℕ → Bool
again_in w k = member w.woken k && member w.part k

abbrev pub waiting_in : Words → ℕ → Bool
waiting_in w l = inside w.fresh l || inside w.taken l

abbrev pub dropped_in : Words → ℕ → Bool
dropped_in w l = inside w.dropped l || (inside w.fresh l && inside w.taken l)

-- a link into a task that is part done; it is late if it is fresh
abbrev pub enters : Description → ℕ → ℕ → Bool
enters d part l = ltb l d.link_count && member part (link_at d l).to

abbrev pub late_in : Description → Words → ℕ → Bool
late_in d w l = inside w.fresh l && enters d w.part l

-- the words hold the marks of a record, in which absent tasks sleep
pub record Marks (d : Description) (w : Words) (m : Machine) : Type 0 where
  pub sized : Sized m
  pub no_zero : awake_in w 0 ≡ false
  pub present : (k : ℕ) → awake_in w k ≡ true → k ≤ d.task_count
  pub part : (k : ℕ) → 1 ≤ k → member w.part k ≡ ltb 0 (used_at m k)
  pub awake : (k : ℕ) → 1 ≤ k → awake_in w k ≡ awake_at m k
  pub again : (k : ℕ) → 1 ≤ k → again_in w k ≡ again_at m k
  pub waiting : (l : ℕ) → waiting_in w l ≡ waiting_at m l
  pub late : (l : ℕ) → late_in d w l ≡ late_at m l
  pub dropped : (l : ℕ) → dropped_in w l ≡ dropped_at m l
  -- what is taken is taken by a run in progress
  pub held : (l : ℕ) → inside w.taken l ≡ true → enters d w.part l ≡ true

-- the ages of a record are read off the ticks at which they were 0
pub record Ages (d : Description) (now : ℕ) (since : List ℕ) (m : Machine) : Type 0 where
  pub many : length since ≡ 16
  pub before : (u : ℕ) → u < d.source_count → get_or since u 0 ≤ now
  pub here : (u : ℕ) → u < d.source_count → age_at m u ≡ min (longest_gap d u) (now - get_or since u 0)
  pub past : (u : ℕ) → d.source_count ≤ u → age_at m u ≡ 0

-- the words, what tasks have used and when ages were 0 hold a record but for its kept tempos, and no task has used a whole run
pub record Holds (d : Description) (w : Words) (used since : List ℕ) (m : Machine) : Type 0 where
  pub marks : Marks d w m
  pub same_used : used ≡ m.used
  pub below : (k : ℕ) → 1 ≤ k → k ≤ d.task_count → used_at m k < run_of d k
  pub ages : Ages d w.tick since m

-- whether a task that is part done goes on
abbrev pub holds_on : Policy → Bool
holds_on Preemptive = false
holds_on HoldOn = true

-- the task that goes on, 0 for none, by what tasks have used: on the hold-on model the one that is part done
pub record Goes (p : Policy) (running : ℕ) (used : List ℕ) : Type 0 where
  pub low : running ≤ 32
  pub here : (k : ℕ) → 1 ≤ k → k ≤ 32 → eqb k running ≡ (holds_on p && ltb 0 (get_or used (k - 1) 0))

-- a kept tempo raised by a faster one
abbrev pub raised_to : ℕ → ℕ → ℕ
raised_to t f = cond (eqb f 0) 0 (max f t)

-- of kept tempos none is below some tempo, but 0
abbrev pub Above : ℕ → List ℕ → Type 0
Above low fastest = (u : ℕ) → u < 16 → (get_or fastest u 0 ≡ 0) ⊎ (low ≤ get_or fastest u 0)

-- and its kept tempos are these, raised to the fastest given since the last arrival
pub record Keeps (w : Words) (fastest : List ℕ) (m : Machine) : Type 0 where
  pub many : length fastest ≡ 16
  pub here : (u : ℕ) → u < 16 → fastest_at m u ≡ raised_to w.peak (get_or fastest u 0)
  pub above : Above w.low fastest
  pub least : 200 ≤ w.peak
  pub high : w.peak ≤ 3000
