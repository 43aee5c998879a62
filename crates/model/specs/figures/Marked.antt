-- "Figures to keep, marked P": the files they speak of, and the figures as the rows of one statement.
use Rattle.std.specs.Prelude.{Some, ℕ, ◌+◌, ◌-◌, ◌%◌, Bool, true, false, ◌||◌, List, [], ◌∷◌, ◌++◌, ◌≡◌, length, replicate, eqb, Ok}
use Rattle.model.specs.declared.Source.{Source}
use Rattle.model.specs.declared.Source.TheVariants.{Fixed, Paced}
use Rattle.model.specs.declared.SourceSlot.{SourceSlot}
use Rattle.model.specs.declared.Link.{Link}
use Rattle.model.specs.declared.Policy.{Policy}
use Rattle.model.specs.declared.Policy.TheVariants.{Preemptive}
use Rattle.model.specs.declared.Description.{Description}
use Rattle.model.specs.declared.Refusal.TheVariants.{CutShort, StrangeTag, WrongLength, OutOfTurn, TooMany, OffScale, NoSuchEnd, NoTask, Loop, TooHeavy, OffKnob, NoTempo, ShortPage, TooSoon, Stranger, ForeignState}
use Rattle.model.specs.Refusals.{Outcome, Done, number_of, of_outcome, of_reading, of_quote, no_source, no_link}
use Rattle.model.specs.declared.Verdict.TheVariants.{HeldOrder, DoubtOrder, Held, Doubt}
use Rattle.model.specs.declared.Machine.{Machine}
use Rattle.model.specs.declared.Ticked.{Ticked}
use Rattle.model.specs.Basics.{tab}
use Rattle.model.specs.Graph.{system}
use Rattle.model.specs.Loads.{load}
use Rattle.model.specs.File.{file_of, read_file}
use Rattle.model.specs.Delays.{spacing, spacing_of, round_of, start_of}
use Rattle.model.specs.Order.{walk}
use Rattle.model.specs.Verdicts.{verdict_at, quote_of}
use Rattle.model.specs.Machine.{idle, dropped_at, set_age, set_fastest, set_used, judge_tick}
use Rattle.model.specs.History.{Call, answers, history, served_before, wait_of}
use Rattle.model.specs.Run.{page}
use Rattle.model.specs.Report.{report_for, report_of}
use Rattle.model.specs.Page.{lines_of, line_at, TempoLine, tempo_words, held_words}

-- a list filled up to n places
abbrev pub up_to_length : {A : Type 0} → ℕ → A → List A → List A
up_to_length n a l = l ++ replicate (n - length l) a

-- a description from its parts
abbrev pub describe : List ℕ → List Source → List Link → Description
describe runs sources links = record {
  task_count = length runs;
  runs = up_to_length 32 0 runs;
  source_count = length sources;
  sources = up_to_length 16 no_source (slots sources);
  link_count = length links;
  links = up_to_length 256 no_link links;
}
  where
    slots : List Source → List SourceSlot
    slots [] = []
    slots (s ∷ ss) = record { source = s } ∷ slots ss

abbrev pub free : ℕ → ℕ → Link
free i j = record { from = i; to = j; critical = 0 }

abbrev pub critical : ℕ → ℕ → Link
critical i j = record { from = i; to = j; critical = 1 }

-- "Box, a file of 57 bytes", and what it describes
abbrev pub box_file : List ℕ
box_file =
    0x01 ∷ 0x00 ∷ 0x04 ∷ 0x00 ∷ 0x00 ∷ 0x01 ∷ 0x90 ∷ 0x01 ∷ 0x00 ∷ 0x04 ∷ 0x00 ∷ 0x00 ∷ 0x01 ∷ 0x2C ∷
    0x01 ∷ 0x00 ∷ 0x04 ∷ 0x00 ∷ 0x00 ∷ 0x00 ∷ 0xC8 ∷ 0x03 ∷ 0x00 ∷ 0x02 ∷ 0x01 ∷ 0xE0 ∷
    0x02 ∷ 0x00 ∷ 0x04 ∷ 0x00 ∷ 0x00 ∷ 0x07 ∷ 0xD0 ∷ 0x04 ∷ 0x00 ∷ 0x03 ∷ 0x02 ∷ 0x01 ∷ 0x00 ∷
    0x04 ∷ 0x00 ∷ 0x03 ∷ 0x02 ∷ 0x03 ∷ 0x01 ∷ 0x04 ∷ 0x00 ∷ 0x03 ∷ 0x21 ∷ 0x02 ∷ 0x01 ∷
    0x04 ∷ 0x00 ∷ 0x03 ∷ 0x22 ∷ 0x03 ∷ 0x01 ∷ []

abbrev pub box_of : List Source → Description
box_of sources = describe (400 ∷ 300 ∷ 200 ∷ []) sources (free 2 1 ∷ critical 2 3 ∷ critical 33 2 ∷ critical 34 3 ∷ [])

abbrev pub box_with : Source → Description
box_with pulse = box_of (pulse ∷ Fixed 2000 ∷ [])

abbrev pub box : Description
box = box_with (Paced 480)

-- what Box "prints", five lines
abbrev pub box_page : List ℕ
box_page =
    116 ∷ 101 ∷ 109 ∷ 112 ∷ 111 ∷ 32 ∷ 49 ∷ 55 ∷ 56 ∷ 46 ∷ 51 ∷ 10 ∷
    108 ∷ 105 ∷ 110 ∷ 107 ∷ 32 ∷ 49 ∷ 32 ∷ 50 ∷ 62 ∷ 49 ∷ 32 ∷ 102 ∷ 114 ∷ 101 ∷ 101 ∷ 10 ∷
    108 ∷ 105 ∷ 110 ∷ 107 ∷ 32 ∷ 50 ∷ 32 ∷ 50 ∷ 62 ∷ 51 ∷ 32 ∷ 104 ∷ 101 ∷ 108 ∷ 100 ∷ 32 ∷ 111 ∷ 114 ∷ 100 ∷ 101 ∷ 114 ∷ 10 ∷
    108 ∷ 105 ∷ 110 ∷ 107 ∷ 32 ∷ 51 ∷ 32 ∷ 51 ∷ 51 ∷ 62 ∷ 50 ∷ 32 ∷ 104 ∷ 101 ∷ 108 ∷ 100 ∷ 32 ∷ 55 ∷ 48 ∷ 48 ∷ 32 ∷ 111 ∷ 102 ∷ 32 ∷ 55 ∷ 48 ∷ 49 ∷ 10 ∷
    108 ∷ 105 ∷ 110 ∷ 107 ∷ 32 ∷ 52 ∷ 32 ∷ 51 ∷ 52 ∷ 62 ∷ 51 ∷ 32 ∷ 104 ∷ 101 ∷ 108 ∷ 100 ∷ 32 ∷ 52 ∷ 48 ∷ 48 ∷ 32 ∷ 111 ∷ 102 ∷ 32 ∷ 50 ∷ 48 ∷ 48 ∷ 48 ∷ 10 ∷ []

-- "Twin: runs 2, 2, 2; source 33 fixed; links 1>3, 2>3, 33>1, 33>2, all critical"
abbrev pub twin : ℕ → Description
twin m = describe (2 ∷ 2 ∷ 2 ∷ []) (Fixed m ∷ []) (critical 1 3 ∷ critical 2 3 ∷ critical 33 1 ∷ critical 33 2 ∷ [])

-- the files of P1, P6, P7, P9 and P10
abbrev pub alone : Description
alone = describe (1 ∷ []) [] []

abbrev pub order : Description
order = describe (1 ∷ 1 ∷ 1 ∷ []) [] (free 1 3 ∷ critical 3 2 ∷ [])

abbrev pub order_with_source : Description
order_with_source = describe (1 ∷ 1 ∷ 1 ∷ []) (Fixed 100 ∷ []) (free 1 3 ∷ critical 3 2 ∷ free 33 3 ∷ [])

abbrev pub met_twice : Description
met_twice = describe (1 ∷ 1 ∷ 1 ∷ 1 ∷ []) [] (free 1 3 ∷ free 1 4 ∷ free 3 4 ∷ critical 4 2 ∷ [])

abbrev pub pulse : Description
pulse = describe (1 ∷ []) (Fixed 5 ∷ []) (free 33 1 ∷ [])

-- a source that comes twice in a run of its task
abbrev pub quick : Description
quick = describe (4 ∷ []) (Fixed 2 ∷ []) (free 33 1 ∷ [])

abbrev pub same_twice : Description
same_twice = describe (1 ∷ []) (Fixed 5 ∷ []) (free 33 1 ∷ free 33 1 ∷ [])

-- the page of a link that stands twice: `refused 4 at 20`
abbrev pub refused_page : List ℕ
refused_page = 114 ∷ 101 ∷ 102 ∷ 117 ∷ 115 ∷ 101 ∷ 100 ∷ 32 ∷ 52 ∷ 32 ∷ 97 ∷ 116 ∷ 32 ∷ 50 ∷ 48 ∷ 10 ∷ []

-- n calls, source 33 arriving in those that pass the test, with no "finish": at the tempos of a knob, and at 20.0
abbrev pub calls_turned : (ℕ → ℕ) → ℕ → (ℕ → Bool) → List Call
calls_turned knob n test = tab n (λ x. record { tempo = knob x; arrivals = record { marks = up_to_length 16 false (test x ∷ []) }; finish = false })

abbrev pub calls_where : ℕ → (ℕ → Bool) → List Call
calls_where = calls_turned (λ x. 200)

abbrev pub sevenths : ℕ → Bool
sevenths x = eqb (x % 7) 0

-- after each call, how it ended and whether the link at place l is marked dropped
abbrev pub marks_of : ℕ → List Ticked → List (Outcome × Bool)
marks_of l [] = []
marks_of l (r ∷ rs) = (r.outcome, dropped_at r.machine l) ∷ marks_of l rs

pub record Figures : Type 0 where
  pub p1_empty : of_reading (read_file []) ≡ record { number = 8; value = 0 }
  pub p1_alone : of_quote (quote_of Preemptive alone) ≡ record { number = 0; value = 3000 }
  pub p2_load_33_1 : load (system box) 33 1 ≡ 900
  pub p2_load_2_3 : load (system box) 2 3 ≡ 200
  pub p2_read : read_file box_file ≡ record { outcome = Done; description = box }
  pub p2_written : file_of box ≡ box_file
  pub p2_length : length box_file ≡ 57
  pub p3_held : verdict_at Preemptive box 1783 2 ≡ Held 700 701
  pub p3_spacing : spacing_of box 1784 33 ≡ 700
  pub p3_first : start_of Preemptive (system box) 2 ≡ 0
  pub p3_next : round_of Preemptive (system box) (spacing_of box 1784) 2 0 ≡ 700
  pub p3_delay : round_of Preemptive (system box) (spacing_of box 1784) 2 700 ≡ 700
  pub p3_doubtful : verdict_at Preemptive box 1784 2 ≡ Doubt 700
  pub p4_load : load (system (twin 9)) 33 1 ≡ 8
  pub p4_first : verdict_at Preemptive (twin 9) 200 2 ≡ Held 8 9
  pub p4_second : verdict_at Preemptive (twin 9) 200 3 ≡ Held 6 9
  pub p4_doubtful : verdict_at Preemptive (twin 8) 200 2 ≡ Doubt 8
  pub p5_dropped_at_21 : marks_of 2 (answers Preemptive (twin 7) (idle (twin 7)) (calls_where 22 sevenths)) ≡ replicate 21 (Done, false) ++ ((Done, true) ∷ [])
  pub p6_held : verdict_at Preemptive order 200 1 ≡ HeldOrder
  pub p6_doubtful : verdict_at Preemptive order_with_source 200 1 ≡ DoubtOrder
  pub p6_source : (walk (system order_with_source) 3 2).failed ≡ Some 33
  pub p7_doubtful : verdict_at Preemptive met_twice 200 3 ≡ DoubtOrder
  pub p7_met_twice : (walk (system met_twice) 4 2).failed ≡ Some 1
  pub p8_480 : spacing (Paced 480) 1200 ≡ 1041
  pub p8_24 : spacing (Paced 24) 1200 ≡ 20833
  pub p9_refused : page Preemptive pulse (calls_where 5 (λ x. eqb x 0 || eqb x 4)) ≡ 0 ∷ 0 ∷ 0 ∷ 0 ∷ 14 ∷ []
  pub p9_pass : page Preemptive pulse (calls_where 6 (λ x. eqb x 0 || eqb x 5)) ≡ replicate 6 0
  pub p10_twice : of_reading (read_file (file_of same_twice)) ≡ record { number = 4; value = 20 }
  -- document 01's numbers, in its order
  pub numbers : number_of CutShort ∷ number_of StrangeTag ∷ number_of WrongLength ∷ number_of OutOfTurn ∷ number_of TooMany ∷ number_of OffScale ∷ number_of NoSuchEnd ∷ number_of NoTask ∷ number_of Loop ∷ number_of TooHeavy ∷ number_of OffKnob ∷ number_of NoTempo ∷ number_of ShortPage ∷ number_of TooSoon ∷ number_of Stranger ∷ number_of ForeignState ∷ []
      ≡ 1 ∷ 2 ∷ 3 ∷ 4 ∷ 5 ∷ 6 ∷ 7 ∷ 8 ∷ 9 ∷ 10 ∷ 11 ∷ 12 ∷ 13 ∷ 14 ∷ 15 ∷ 16 ∷ []
  -- Twin with the spacing 9 and one arrival, at tick 0: task 2 runs in ticks 0 and 1, task 3 in 2 and 3, task 1 in 4 and 5
  pub waits_second : wait_of (history Preemptive (twin 9) (calls_where 9 (λ x. eqb x 0))) 2 0 ≡ 2
  pub waits_first : wait_of (history Preemptive (twin 9) (calls_where 9 (λ x. eqb x 0))) 1 0 ≡ 6
  pub served : served_before (history Preemptive (twin 9) (calls_where 9 (λ x. eqb x 0))) 1 0 6 ≡ true
  pub not_yet_served : served_before (history Preemptive (twin 9) (calls_where 9 (λ x. eqb x 0))) 1 0 5 ≡ false
  -- a list that ends before the event is served: "or else to the last of the list"
  pub waits_to_last : wait_of (history Preemptive (twin 9) (calls_where 4 (λ x. eqb x 0))) 1 0 ≡ 4
  pub not_served_in_list : served_before (history Preemptive (twin 9) (calls_where 4 (λ x. eqb x 0))) 1 0 4 ≡ false
  -- an event of tick 2 finds its task part done, in the run of ticks 0 to 3, and waits for the run of ticks 4 to 7, which takes one of tick 4 too
  pub waits_part_done : wait_of (history Preemptive quick (calls_where 9 (λ x. eqb (x % 2) 0))) 1 2 ≡ 6
  pub waits_next_run : wait_of (history Preemptive quick (calls_where 9 (λ x. eqb (x % 2) 0))) 1 4 ≡ 4
  -- an event of the last tick waits one
  pub waits_last_tick : wait_of (history Preemptive quick (calls_where 9 (λ x. eqb (x % 2) 0))) 1 8 ≡ 1
  pub page_box : report_for Preemptive box (Ok 1783) ≡ box_page
  pub page_box_lines : length (lines_of box_page) ≡ 5
  pub page_box_tempo : TempoLine Preemptive box_page (tempo_words 1783)
  pub page_box_link_3 : line_at box_page 3 ≡ held_words 3 33 2 700 701
  pub page_box_link_4 : line_at box_page 4 ≡ held_words 4 34 3 400 2000
  pub page_refused : report_of Preemptive (file_of same_twice) ≡ refused_page

-- "calls then check 11, 16, 15, 14": a call that breaks all four, and then one fewer each time. Its record has task 1 asleep with
-- a tick used; sources 33 and 34 arrive, 33 too soon, and 34 does not exist.
abbrev pub early : Machine
early = set_fastest 0 200 (set_age 0 0 (idle pulse))

abbrev pub foreign : Machine
foreign = set_used 1 1 early

abbrev pub arriving : ℕ → List Bool
arriving n = up_to_length 16 false (replicate n true)

pub record CallOrder : Type 0 where
  pub first_11 : (of_outcome (judge_tick Preemptive pulse 199 foreign (arriving 2))).number ≡ 11
  pub then_16 : (of_outcome (judge_tick Preemptive pulse 200 foreign (arriving 2))).number ≡ 16
  pub then_15 : (of_outcome (judge_tick Preemptive pulse 200 early (arriving 2))).number ≡ 15
  pub then_14 : (of_outcome (judge_tick Preemptive pulse 200 early (arriving 1))).number ≡ 14
