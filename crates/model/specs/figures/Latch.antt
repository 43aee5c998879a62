-- Request C-15, "A task reads its inputs when it begins": the files its figures speak of, and the figures as the rows of one statement.
use Rattle.std.specs.Prelude.{ℕ, Bool, true, false, ◌||◌, List, [], ◌∷◌, ◌≡◌, eqb}
use Rattle.model.specs.declared.Source.TheVariants.{Fixed}
use Rattle.model.specs.declared.Description.{Description}
use Rattle.model.specs.declared.Machine.{Machine}
use Rattle.model.specs.declared.Policy.{Policy}
use Rattle.model.specs.declared.Policy.TheVariants.{Preemptive, HoldOn}
use Rattle.model.specs.declared.Verdict.TheVariants.{Held}
use Rattle.model.specs.Basics.{tab}
use Rattle.model.specs.Refusals.{of_outcome}
use Rattle.model.specs.Verdicts.{verdict_at}
use Rattle.model.specs.Machine.{awake_at, used_at, waiting_at, dropped_at, again_at, late_at, idle, set_awake, set_used, set_waiting, set_again, set_late, again_rule, judge_tick}
use Rattle.model.specs.History.{Call, left, served_before, wait_of, history}
use Rattle.model.specs.figures.Marked.{describe, critical, free, quick, up_to_length, arriving, calls_where}

-- a task of some run that two sources wake
abbrev pub scan : ℕ → Description
scan e = describe (e ∷ []) (Fixed 10 ∷ Fixed 10 ∷ []) (critical 33 1 ∷ critical 34 1 ∷ [])

-- n calls at 20.0 with no "finish": source 33 comes in the first, 34 in call x
abbrev pub scan_calls : ℕ → ℕ → List Call
scan_calls n x = tab n (λ y. record { tempo = 200; arrivals = record { marks = up_to_length 16 false (eqb y 0 ∷ eqb y x ∷ []) }; finish = false })

-- source 33 comes, and the caller says finish in the same tick
abbrev pub finished : List Call
finished = record { tempo = 200; arrivals = record { marks = arriving 1 }; finish = true } ∷ []

-- a task that is interrupted by a higher one, which has a link to it
abbrev pub nested : Description
nested = describe (3 ∷ 1 ∷ []) (Fixed 10 ∷ Fixed 10 ∷ []) (free 2 1 ∷ free 33 1 ∷ free 34 2 ∷ [])

abbrev pub left_by : Policy → Description → List Call → Machine
left_by p d cs = left p d (idle d) cs

-- of task 1: awake, the ticks it has used, again; of the links at places 0 and 1: waiting, and late
abbrev pub task_marks : Machine → Bool × ℕ × Bool
task_marks m = (awake_at m 1, used_at m 1, again_at m 1)

abbrev pub link_marks : Machine → (Bool × Bool) × (Bool × Bool)
link_marks m = ((waiting_at m 0, waiting_at m 1), (late_at m 0, late_at m 1))

-- task 1 of `scan 3` after a tick, and with marks besides
abbrev pub part_done : Machine
part_done = set_used 1 1 (set_waiting 0 true (set_awake 1 true (idle (scan 3))))

abbrev pub refused_as : Machine → ℕ
refused_as m = (of_outcome (judge_tick Preemptive (scan 3) 200 m (arriving 0))).number

pub record LatchFigures : Type 0 where
  -- a task of 2 ticks, and a source that comes at its second tick: the run in progress has read its inputs, and the event waits for the next one, ticks 2
  -- and 3. The first source's event waits two ticks, the second's three; both models print 4 for each
  pub reads_first : wait_of (history Preemptive (scan 2) (scan_calls 4 1)) 1 0 ≡ 2
  pub reads_later : wait_of (history Preemptive (scan 2) (scan_calls 4 1)) 1 1 ≡ 3
  pub hold_reads_first : wait_of (history HoldOn (scan 2) (scan_calls 4 1)) 1 0 ≡ 2
  pub hold_reads_later : wait_of (history HoldOn (scan 2) (scan_calls 4 1)) 1 1 ≡ 3
  -- so the second's event is not served in tick 1, where the run in progress ends, but in tick 3
  pub not_served_by_run : served_before (history Preemptive (scan 2) (scan_calls 4 1)) 1 1 2 ≡ false
  pub served_by_next : served_before (history Preemptive (scan 2) (scan_calls 4 1)) 1 1 4 ≡ true
  pub delay : verdict_at Preemptive (scan 2) 200 1 ≡ Held 4 10
  pub hold_delay : verdict_at HoldOn (scan 2) 200 1 ≡ Held 4 10
  -- the same with a run of 3 ticks, record by record. The run begins in the tick of its event: nothing is late
  pub begun_task : task_marks (left_by Preemptive (scan 3) (scan_calls 1 1)) ≡ (true, 1, false)
  pub begun_links : link_marks (left_by Preemptive (scan 3) (scan_calls 1 1)) ≡ ((true, false), (false, false))
  -- "or the caller says finish": the task sleeps, nothing waits, and the event was served within its tick
  pub finished_task : task_marks (left_by Preemptive (scan 3) finished) ≡ (false, 0, false)
  pub finished_wait : wait_of (history Preemptive (scan 3) finished) 1 0 ≡ 1
  -- "an event for a task whose used is above 0 sets waiting and late, and 'again' on its task"
  pub late_task : task_marks (left_by Preemptive (scan 3) (scan_calls 2 1)) ≡ (true, 2, true)
  pub late_links : link_marks (left_by Preemptive (scan 3) (scan_calls 2 1)) ≡ ((true, true), (false, true))
  -- "late links stay waiting and lose 'late', other links into the task clear, and a task marked 'again' is awake with used 0 and loses the mark"
  pub ended_task : task_marks (left_by Preemptive (scan 3) (scan_calls 3 1)) ≡ (true, 0, false)
  pub ended_links : link_marks (left_by Preemptive (scan 3) (scan_calls 3 1)) ≡ ((false, true), (false, false))
  -- "a second firing while waiting is a drop, as before", and late where its task is part done
  pub second_dropped : dropped_at (left_by Preemptive quick (calls_where 3 (λ y. eqb y 0 || eqb y 2))) 0 ≡ true
  pub second_late : late_at (left_by Preemptive quick (calls_where 3 (λ y. eqb y 0 || eqb y 2))) 0 ≡ true
  -- an event from a task, for one that it interrupted
  pub nested_task : task_marks (left_by Preemptive nested (scan_calls 2 1)) ≡ (true, 1, true)
  pub nested_links : link_marks (left_by Preemptive nested (scan_calls 2 1)) ≡ ((true, true), (true, false))
  -- "'again' only on a task part done": with or without a late link
  pub rule_again : refused_as (set_again 1 true part_done) ≡ 0
  pub rule_again_unused : refused_as (set_again 1 true (set_used 1 0 part_done)) ≡ 16
  pub rule_again_absent : again_rule (set_again 2 true part_done) 2 ≡ false
  -- "'late' only on a waiting link into a task marked 'again'"
  pub rule_late : refused_as (set_late 0 true (set_again 1 true part_done)) ≡ 0
  pub rule_late_not_again : refused_as (set_late 0 true part_done) ≡ 16
  pub rule_late_not_waiting : refused_as (set_late 1 true (set_again 1 true part_done)) ≡ 16
  pub rule_late_absent : refused_as (set_late 2 true part_done) ≡ 16
