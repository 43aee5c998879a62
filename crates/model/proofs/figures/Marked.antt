-- The P figures hold: each row is computed. Assumes nothing.
use Prim.Native.Nat.{ℕ, ◌%◌}
use mathlib.Core.Bool.{Bool, true, false}
use mathlib.Core.List.{List}
use mathlib.Core.Path.{◌≡◌, refl, ap}
use lib.Dec.{eqb}
use Rattle.model.specs.declared.Policy.TheVariants.{Preemptive}
use Rattle.model.specs.figures.Marked.{twin, quick, calls_where, Figures, CallOrder}
use Rattle.model.specs.Basics.{sum_n, top_n, any_n, all_n, unset, up_to, tab, joined}
use Rattle.model.specs.Header.{bytes_of, number_in, header_at}
use Rattle.model.specs.Field.{body_of, field_bytes, field_in, take_field, check_field, field_of}
use Rattle.model.specs.Graph.{linked, system, walks, cyclic}
use Rattle.model.specs.Loads.{work_f, work, added, load, too_heavy}
use Rattle.model.specs.File.{file_of, last_checks, parse_from, parse_file, read_file, overfull, judge}
use Rattle.model.specs.Delays.{spacing, spacing_of, spacings, start_of, round_of, settle, delay_of}
use Rattle.model.specs.Order.{visit, walk, in_order}
use Rattle.model.specs.Verdicts.{source_verdict, order_verdict, verdict_of, verdict_at, all_held, judge_at, largest_below, quote_of}
use Rattle.model.specs.Machine.{idle, rules_kept, parts_done, lawful, fire_link, fire, arrive_one, arrive, highest_in, choose, run_task, clear_link, clear_into, end_run, age_one, age_all, keep, stepped, strangers, too_soon, judge_tick, plain_tick}
use Rattle.model.specs.History.{Tick, answers, left, observe, ticks, ends_within, ticks_until, served_before, wait_of, history}
use Rattle.model.specs.Run.{codes}
use Rattle.model.specs.Report.{digits, decimal, tempo_text, tempo_line, verdict_text, link_line, link_lines, refused_line, report_for, plain_report, report_of}
use Rattle.model.specs.Page.{lines_of, tempo_words, held_words}

-- to unfold this is to unfold every definition that a row computes with
unfoldable pub computing : ℕ
unfolding sum_n top_n any_n all_n unset up_to tab joined bytes_of number_in body_of field_bytes field_in header_at take_field check_field field_of linked system walks cyclic work_f work added load too_heavy file_of last_checks parse_from parse_file read_file overfull judge spacing spacing_of spacings start_of round_of settle delay_of visit walk in_order source_verdict order_verdict verdict_of verdict_at all_held judge_at largest_below quote_of idle rules_kept parts_done lawful fire_link fire arrive_one arrive highest_in choose run_task clear_link clear_into end_run age_one age_all keep stepped strangers too_soon judge_tick plain_tick answers left observe ticks ends_within ticks_until served_before wait_of codes digits decimal tempo_text tempo_line verdict_text link_line link_lines refused_line report_for plain_report report_of lines_of tempo_words held_words
computing = 0

-- what is asked of one list of ticks is computed at once
abbrev asked_served : List Tick → ℕ × ℕ × Bool × Bool
asked_served h = (wait_of h 2 0, wait_of h 1 0, served_before h 1 0 6, served_before h 1 0 5)

twin_served : asked_served (history Preemptive (twin 9) (calls_where 9 (λ x. eqb x 0))) ≡ (2, 6, true, false)
unfolding computing
twin_served = refl

abbrev asked_cut : List Tick → ℕ × Bool
asked_cut h = (wait_of h 1 0, served_before h 1 0 4)

twin_cut : asked_cut (history Preemptive (twin 9) (calls_where 4 (λ x. eqb x 0))) ≡ (4, false)
unfolding computing
twin_cut = refl

abbrev asked_quick : List Tick → ℕ × ℕ × ℕ
asked_quick h = (wait_of h 1 2, wait_of h 1 4, wait_of h 1 8)

quick_served : asked_quick (history Preemptive quick (calls_where 9 (λ x. eqb (x % 2) 0))) ≡ (6, 4, 1)
unfolding computing
quick_served = refl

pub figures : Figures
unfolding computing
figures = record {
  p1_empty = refl;
  p1_alone = refl;
  p2_load_33_1 = refl;
  p2_load_2_3 = refl;
  p2_read = refl;
  p2_written = refl;
  p2_length = refl;
  p3_held = refl;
  p3_spacing = refl;
  p3_first = refl;
  p3_next = refl;
  p3_delay = refl;
  p3_doubtful = refl;
  p4_load = refl;
  p4_first = refl;
  p4_second = refl;
  p4_doubtful = refl;
  p5_dropped_at_21 = refl;
  p6_held = refl;
  p6_doubtful = refl;
  p6_source = refl;
  p7_doubtful = refl;
  p7_met_twice = refl;
  p8_480 = refl;
  p8_24 = refl;
  p9_refused = refl;
  p9_pass = refl;
  p10_twice = refl;
  numbers = refl;
  waits_second = ap (λ x. x.0) twin_served;
  waits_first = ap (λ x. x.1) twin_served;
  served = ap (λ x. x.2) twin_served;
  not_yet_served = ap (λ x. x.3) twin_served;
  waits_to_last = ap (λ x. x.0) twin_cut;
  not_served_in_list = ap (λ x. x.1) twin_cut;
  waits_part_done = ap (λ x. x.0) quick_served;
  waits_next_run = ap (λ x. x.1) quick_served;
  waits_last_tick = ap (λ x. x.2) quick_served;
  page_box = refl;
  page_box_lines = refl;
  page_box_tempo = refl;
  page_box_link_3 = refl;
  page_box_link_4 = refl;
  page_refused = refl;
}

pub call_order : CallOrder
unfolding computing
call_order = record { first_11 = refl; then_16 = refl; then_15 = refl; then_14 = refl }
