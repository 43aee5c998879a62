-- Request C-14, "The hold-on model": the files its figures speak of, and the figures as the rows of one statement.
use Rattle.std.specs.Prelude.{ℕ, true, false, List, [], ◌∷◌, ◌++◌, ◌≡◌, length, eqb, Ok}
use Rattle.model.specs.declared.Source.TheVariants.{Fixed}
use Rattle.model.specs.declared.Description.{Description}
use Rattle.model.specs.declared.Machine.{Machine}
use Rattle.model.specs.declared.Policy.{Policy}
use Rattle.model.specs.declared.Policy.TheVariants.{Preemptive, HoldOn}
use Rattle.model.specs.declared.Verdict.TheVariants.{HeldOrder, Held, Doubt}
use Rattle.model.specs.Basics.{tab}
use Rattle.model.specs.Refusals.{of_outcome}
use Rattle.model.specs.Graph.{system}
use Rattle.model.specs.File.{file_of}
use Rattle.model.specs.Delays.{spacing_of, start_of, round_of}
use Rattle.model.specs.Verdicts.{verdict_at, quote_of}
use Rattle.model.specs.Machine.{idle, set_awake, set_used, alone_rule, choose, judge_tick}
use Rattle.model.specs.History.{Call, Tick, wait_of, history}
use Rattle.model.specs.Report.{policy_line, report_for, report_of}
use Rattle.model.specs.Page.{lines_of, line_at, TempoLine, tempo_words, held_words}
use Rattle.model.specs.figures.Marked.{describe, critical, box, twin, same_twice, refused_page, up_to_length, arriving}

-- a task of run 3 and a higher one of run 1, each with a source of its own
abbrev pub pair : Description
pair = describe (3 ∷ 1 ∷ []) (Fixed 10 ∷ Fixed 10 ∷ []) (critical 33 1 ∷ critical 34 2 ∷ [])

-- four calls at 20.0 with no "finish": source 33 comes in the first, 34 in call x
abbrev pub pair_calls : ℕ → List Call
pair_calls x = tab 4 (λ y. record { tempo = 200; arrivals = record { marks = up_to_length 16 false (eqb y 0 ∷ eqb y x ∷ []) }; finish = false })

-- the tasks that ran
abbrev pub ran_in : List Tick → List ℕ
ran_in [] = []
ran_in (k ∷ h) = k.ran ∷ ran_in h

-- two tasks of run 3, both awake: records with none part done, with the lower one, and with both
abbrev pub threes : Description
threes = describe (3 ∷ 3 ∷ []) [] []

abbrev pub none_done : Machine
none_done = set_awake 2 true (set_awake 1 true (idle threes))

abbrev pub one_done : Machine
one_done = set_used 1 1 none_done

abbrev pub both_done : Machine
both_done = set_used 2 1 one_done

-- what Box prints on the hold-on model, six lines
abbrev pub box_hold_page : List ℕ
box_hold_page =
    104 ∷ 111 ∷ 108 ∷ 100 ∷ 10 ∷
    116 ∷ 101 ∷ 109 ∷ 112 ∷ 111 ∷ 32 ∷ 49 ∷ 50 ∷ 52 ∷ 46 ∷ 56 ∷ 10 ∷
    108 ∷ 105 ∷ 110 ∷ 107 ∷ 32 ∷ 49 ∷ 32 ∷ 50 ∷ 62 ∷ 49 ∷ 32 ∷ 102 ∷ 114 ∷ 101 ∷ 101 ∷ 10 ∷
    108 ∷ 105 ∷ 110 ∷ 107 ∷ 32 ∷ 50 ∷ 32 ∷ 50 ∷ 62 ∷ 51 ∷ 32 ∷ 104 ∷ 101 ∷ 108 ∷ 100 ∷ 32 ∷ 111 ∷ 114 ∷ 100 ∷ 101 ∷ 114 ∷ 10 ∷
    108 ∷ 105 ∷ 110 ∷ 107 ∷ 32 ∷ 51 ∷ 32 ∷ 51 ∷ 51 ∷ 62 ∷ 50 ∷ 32 ∷ 104 ∷ 101 ∷ 108 ∷ 100 ∷ 32 ∷ 49 ∷ 48 ∷ 48 ∷ 48 ∷ 32 ∷ 111 ∷ 102 ∷ 32 ∷ 49 ∷ 48 ∷ 48 ∷ 49 ∷ 10 ∷
    108 ∷ 105 ∷ 110 ∷ 107 ∷ 32 ∷ 52 ∷ 32 ∷ 51 ∷ 52 ∷ 62 ∷ 51 ∷ 32 ∷ 104 ∷ 101 ∷ 108 ∷ 100 ∷ 32 ∷ 54 ∷ 48 ∷ 48 ∷ 32 ∷ 111 ∷ 102 ∷ 32 ∷ 50 ∷ 48 ∷ 48 ∷ 48 ∷ 10 ∷ []

pub record HoldFigures : Type 0 where
  -- Box, 33>2: D starts as the larger of 400 + 0 and 300 + 200; a round adds 200 of source 34; D is 700, and 300 follow. The spacing of source 33,
  -- 1,250,000 / T, is above 1,000 up to 124.8
  pub box_first : start_of HoldOn (system box) 2 ≡ 500
  pub box_next : round_of HoldOn (system box) (spacing_of box 1248) 2 500 ≡ 700
  pub box_delay : round_of HoldOn (system box) (spacing_of box 1248) 2 700 ≡ 700
  pub box_held : verdict_at HoldOn box 1248 2 ≡ Held 1000 1001
  pub box_doubtful : verdict_at HoldOn box 1249 2 ≡ Doubt 1000
  pub box_quote : quote_of HoldOn box ≡ Ok 1248
  -- 34>3: the longest run is 400, nothing is above task 3, and 200 follow
  pub box_highest : start_of HoldOn (system box) 3 ≡ 400
  pub box_second : verdict_at HoldOn box 1248 3 ≡ Held 600 2000
  -- "links between tasks keep their rule"
  pub box_order : verdict_at HoldOn box 1248 1 ≡ HeldOrder
  -- Twin: 33>1 starts with 2 + 2, a round adds 4 of source 33, D is 8, and 2 follow; 33>2 has D = 2 + 2, to which nothing is added, and 2 follow
  pub twin_first : verdict_at HoldOn (twin 11) 200 2 ≡ Held 10 11
  pub twin_second : verdict_at HoldOn (twin 11) 200 3 ≡ Held 6 11
  pub twin_doubtful : verdict_at HoldOn (twin 10) 200 2 ≡ Doubt 10
  pub twin_quote : quote_of HoldOn (twin 11) ≡ Ok 3000
  -- "a line `hold` before its first, a refused line included"
  pub page_box : policy_line HoldOn ++ report_for HoldOn box (Ok 1248) ≡ box_hold_page
  pub page_box_lines : length (lines_of box_hold_page) ≡ 6
  pub page_box_tempo : TempoLine HoldOn box_hold_page (tempo_words 1248)
  pub page_box_link_3 : line_at box_hold_page 4 ≡ held_words 3 33 2 1000 1001
  pub page_refused : report_of HoldOn (file_of same_twice) ≡ 104 ∷ 111 ∷ 108 ∷ 100 ∷ 10 ∷ refused_page
  -- "the highest awake task is chosen only when none is running"
  pub goes_on : choose HoldOn threes one_done ≡ 1
  pub interrupted : choose Preemptive threes one_done ≡ 2
  pub none_runs : choose HoldOn threes none_done ≡ 2
  -- the lower task holds the processor while the higher one wakes, which then waits three ticks; on the preemptive model it waits one
  pub holds : ran_in (history HoldOn pair (pair_calls 1)) ≡ 1 ∷ 1 ∷ 1 ∷ 2 ∷ []
  pub preempts : ran_in (history Preemptive pair (pair_calls 1)) ≡ 1 ∷ 2 ∷ 1 ∷ 1 ∷ []
  pub holds_wait : wait_of (history HoldOn pair (pair_calls 1)) 2 1 ≡ 3
  pub preempts_wait : wait_of (history Preemptive pair (pair_calls 1)) 2 1 ≡ 1
  -- "an arrival at the very tick of choice is seen before the choice"
  pub seen : ran_in (history HoldOn pair (pair_calls 0)) ≡ 2 ∷ 1 ∷ 1 ∷ 1 ∷ []
  -- "the state rule allows only one such"
  pub not_alone : alone_rule HoldOn both_done ≡ false
  pub one_part : (of_outcome (judge_tick HoldOn threes 200 one_done (arriving 0))).number ≡ 0
  pub two_parts : (of_outcome (judge_tick HoldOn threes 200 both_done (arriving 0))).number ≡ 16
  pub two_parts_preemptive : (of_outcome (judge_tick Preemptive threes 200 both_done (arriving 0))).number ≡ 0
