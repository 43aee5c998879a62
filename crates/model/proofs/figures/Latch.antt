-- The figures of tasks that read their inputs when they begin hold: each row is computed. Assumes nothing.
use Prim.Native.Nat.{ℕ}
use mathlib.Core.Bool.{Bool, true, false, ◌||◌}
use mathlib.Core.List.{List}
use mathlib.Core.Path.{◌≡◌, refl, ap}
use lib.Dec.{eqb}
use Rattle.model.specs.declared.Machine.{Machine}
use Rattle.model.specs.declared.Policy.TheVariants.{Preemptive, HoldOn}
use Rattle.model.specs.Machine.{dropped_at, late_at}
use Rattle.model.specs.figures.Marked.{quick, calls_where}
use Rattle.model.specs.History.{Tick, served_before, wait_of, history}
use Rattle.model.specs.figures.Latch.{scan, scan_calls, nested, left_by, task_marks, link_marks, LatchFigures}
use Rattle.model.proofs.figures.Marked.{computing}

-- what is asked of one list of ticks or of one record is computed at once
abbrev asked_waits : List Tick → ℕ × ℕ
asked_waits h = (wait_of h 1 0, wait_of h 1 1)

abbrev asked_served : List Tick → ℕ × ℕ × Bool × Bool
asked_served h = (wait_of h 1 0, wait_of h 1 1, served_before h 1 1 2, served_before h 1 1 4)

waits : asked_served (history Preemptive (scan 2) (scan_calls 4 1)) ≡ (2, 3, false, true)
unfolding computing
waits = refl

hold_waits : asked_waits (history HoldOn (scan 2) (scan_calls 4 1)) ≡ (2, 3)
unfolding computing
hold_waits = refl

abbrev asked_marks : Machine → (Bool × ℕ × Bool) × ((Bool × Bool) × (Bool × Bool))
asked_marks m = (task_marks m, link_marks m)

begun : asked_marks (left_by Preemptive (scan 3) (scan_calls 1 1)) ≡ ((true, 1, false), ((true, false), (false, false)))
unfolding computing
begun = refl

late : asked_marks (left_by Preemptive (scan 3) (scan_calls 2 1)) ≡ ((true, 2, true), ((true, true), (false, true)))
unfolding computing
late = refl

ended : asked_marks (left_by Preemptive (scan 3) (scan_calls 3 1)) ≡ ((true, 0, false), ((false, true), (false, false)))
unfolding computing
ended = refl

abbrev asked_second : Machine → Bool × Bool
asked_second m = (dropped_at m 0, late_at m 0)

second : asked_second (left_by Preemptive quick (calls_where 3 (λ y. eqb y 0 || eqb y 2))) ≡ (true, true)
unfolding computing
second = refl

interrupted : asked_marks (left_by Preemptive nested (scan_calls 2 1)) ≡ ((true, 1, true), ((true, true), (true, false)))
unfolding computing
interrupted = refl

pub latch_figures : LatchFigures
unfolding computing
latch_figures = record {
  reads_first = ap (λ x. x.0) waits;
  reads_later = ap (λ x. x.1) waits;
  hold_reads_first = ap (λ x. x.0) hold_waits;
  hold_reads_later = ap (λ x. x.1) hold_waits;
  not_served_by_run = ap (λ x. x.2) waits;
  served_by_next = ap (λ x. x.3) waits;
  delay = refl;
  hold_delay = refl;
  begun_task = ap (λ x. x.0) begun;
  begun_links = ap (λ x. x.1) begun;
  finished_task = refl;
  finished_wait = refl;
  late_task = ap (λ x. x.0) late;
  late_links = ap (λ x. x.1) late;
  ended_task = ap (λ x. x.0) ended;
  ended_links = ap (λ x. x.1) ended;
  second_dropped = ap (λ x. x.0) second;
  second_late = ap (λ x. x.1) second;
  nested_task = ap (λ x. x.0) interrupted;
  nested_links = ap (λ x. x.1) interrupted;
  rule_again = refl;
  rule_again_unused = refl;
  rule_again_absent = refl;
  rule_late = refl;
  rule_late_not_again = refl;
  rule_late_not_waiting = refl;
  rule_late_absent = refl;
}
