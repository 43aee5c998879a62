-- The promise at two files of document 01, on both models, and at a swung one, and verdicts by spacings at Box with a pulse of each kind and with a source more: hypotheses met by computation, so that the
-- theorems are known to speak of something. Assumes nothing.
use Rattle.std.specs.Prelude.{Ok}
use Prim.Native.Nat.{ℕ, suc, ◌+◌, ◌%◌, ◌^◌, ◌≤◌, ◌<◌}
use mathlib.Core.Path.{◌≡◌, refl, sym, ◌∙◌}
use mathlib.Core.Bool.{Bool, true, false}
use mathlib.Core.List.{List}
use mathlib.Core.Logic.{inl, inr, ⊎_elim}
use native.Mathlib.Omega.{arith}
use lib.ListN.{length, get_or}
use lib.Dec.{ltb}
use borrow.Author.Tests.{ltb-true}
use Rattle.model.specs.declared.Source.{Source}
use Rattle.model.specs.declared.Source.TheVariants.{Fixed, Paced, Swung}
use Rattle.model.specs.declared.Policy.{Policy}
use Rattle.model.specs.declared.Policy.TheVariants.{Preemptive, HoldOn}
use Rattle.model.specs.declared.Description.{Description}
use Rattle.model.specs.declared.Arrivals.{Arrivals}
use Rattle.model.specs.Refusals.{Done, no_source}
use Rattle.model.specs.declared.Verdict.TheVariants.{Doubt}
use Rattle.model.specs.Basics.{sum_n, top_n, any_n, all_n, tab, joined}
use Rattle.model.specs.Header.{bytes_of, number_in, header_at}
use Rattle.model.specs.Field.{body_of, field_bytes, field_in, take_field, check_field, field_of}
use Rattle.model.specs.Graph.{source_at, linked, system, walks, cyclic}
use Rattle.model.specs.Loads.{work_f, work, added, load, too_heavy}
use Rattle.model.specs.File.{SourceFits, Widths, file_of, last_checks, parse_from, parse_file, read_file, overfull, judge}
use Rattle.model.specs.Delays.{spacing, spacing_of, spacings, start_of, round_of, settle, delay_of}
use Rattle.model.specs.Order.{visit, walk, in_order}
use Rattle.model.specs.Verdicts.{source_verdict, order_verdict, verdict_of, verdict_at, all_held, tempos, largest_below, quote_of}
use Rattle.model.specs.Machine.{idle}
use Rattle.model.specs.History.{Call, ticks, tick_at, fires, wait_of}
use Rattle.model.specs.Promise.{UpTo}
use Rattle.model.specs.Report.{plain_report, report_of}
use Rattle.model.specs.Page.{HeldLine, FromPage}
use Rattle.model.specs.figures.Marked.{box_with, box, box_file, box_page, twin}
use Rattle.model.specs.figures.Hold.{box_hold_page}
use Rattle.model.specs.figures.Swing.{swung_box}
use Rattle.model.specs.figures.Spacings.{fixed_box, spare_box}
use Rattle.model.proofs.figures.Marked.{figures}
use Rattle.model.proofs.figures.Hold.{hold_figures}
use Rattle.model.proofs.figures.Spacings.{spacing_figures}
use Rattle.lemmas.proofs.Tests.{Cmp, less, same, more, cmp}
use Rattle.lemmas.proofs.Range.{all_at}
use Rattle.lemmas.proofs.Decimal.{every_at}
use Rattle.theory.specs.Structure.{SameSpacings}
use Rattle.theory.proofs.WellFormed.{WellFormed, Shaped}
use Rattle.theory.proofs.Fielded.{shaped}
use Rattle.theory.proofs.FileLaws.{judge_well_formed}
use Rattle.theory.proofs.Levels.{Overloaded, test_6_link}
use Rattle.theory.proofs.Quotes.{quote_at}
use Rattle.theory.proofs.BySpacings.{verdict_same}
use Rattle.assurance.proofs.Demand3.{slow_ticks, slow_tab}
use Rattle.assurance.proofs.PlainCalls.{AssuredOf, plain_assured}
use Rattle.theory.proofs.Pages.{hold_first}
use Rattle.assurance.proofs.Paper.{from_page}

-- to unfold this is to unfold every definition that judging and a verdict compute with
computing : ℕ
unfolding sum_n top_n any_n all_n joined bytes_of number_in body_of field_bytes field_in header_at take_field check_field field_of linked system walks cyclic work_f work added load too_heavy file_of last_checks parse_from parse_file read_file overfull judge spacing spacing_of spacings start_of round_of settle delay_of visit walk in_order source_verdict order_verdict verdict_of verdict_at all_held
computing = 0

-- widths by a test
fits : Source → Bool
fits (Fixed m) = ltb m (2 ^ 32)
fits (Paced p) = ltb p (2 ^ 16)
fits (Swung p swing) = ltb p (2 ^ 16)

source_fits : (s : Source) → fits s ≡ true → SourceFits s
unfolding fits
source_fits (Fixed m) e = ltb-true m (2 ^ 32) e
source_fits (Paced p) e = ltb-true p (2 ^ 16) e
source_fits (Swung p swing) e = ltb-true p (2 ^ 16) e

widths_by : (d : Description) → all_n (λ k. ltb (get_or d.runs k 0) (2 ^ 32)) 0 d.task_count ≡ true → all_n (λ k. fits (get_or d.sources k no_source).source) 0 d.source_count ≡ true → Widths d
widths_by d e f = record {
  run_width = λ k h. ltb-true (get_or d.runs k 0) (2 ^ 32) (all_at (λ k. ltb (get_or d.runs k 0) (2 ^ 32)) 0 d.task_count e k (omega arith) (omega arith));
  source_width = λ k h. source_fits (get_or d.sources k no_source).source (all_at (λ k. fits (get_or d.sources k no_source).source) 0 d.source_count f k (omega arith) (omega arith));
}

-- a quote from its judging and two verdicts
quote_by : (pol : Policy) (d : Description) (q : ℕ) → Widths d → judge d ≡ Done → 200 ≤ q → q ≤ 3000 → all_held pol d q ≡ true → (q < 3000 → all_held pol d (suc q) ≡ false) → quote_of pol d ≡ Ok q
unfolding quote_of
quote_by pol d q w e low high h n = rw e (quote_at pol d (judge_well_formed d w e) q low high h n)

-- Box: quoted at 178.3
box_widths : Widths box
unfolding computing fits
box_widths = widths_by box refl refl

box_judged : judge box ≡ Done
unfolding computing
box_judged = refl

box_formed : WellFormed box
box_formed = judge_well_formed box box_widths box_judged

box_held : all_held Preemptive box 1783 ≡ true
unfolding computing
box_held = refl

box_doubtful : all_held Preemptive box 1784 ≡ false
unfolding computing
box_doubtful = refl

pub box_quote : quote_of Preemptive box ≡ Ok 1783
box_quote = quote_by Preemptive box 1783 box_widths box_judged (omega arith) (omega arith) box_held (λ h. box_doubtful)

-- of every list of calls, however the knob moves up to it
pub box_assured : (cs : List Call) → UpTo 1783 (ticks Preemptive box (idle box) cs) → AssuredOf Preemptive box 1783 cs
box_assured = plain_assured Preemptive box 1783 box_widths box_quote

-- the knob goes up through every tempo from 20.0 to 178.3, falls back and goes up again, whatever comes in each call
abbrev pub sweep : ℕ → ℕ
sweep x = 200 + x % 1584

abbrev pub sweeping : (ℕ → Arrivals) → (ℕ → Bool) → ℕ → Call
sweeping arrivals finish x = record { tempo = sweep x; arrivals = arrivals x; finish = finish x }

pub box_swept : (arrivals : ℕ → Arrivals) (finish : ℕ → Bool) (n : ℕ) → AssuredOf Preemptive box 1783 (tab n (sweeping arrivals finish))
box_swept arrivals finish n =
    box_assured (tab n (sweeping arrivals finish)) (slow_ticks Preemptive 1783 box (tab n (sweeping arrivals finish)) (idle box) (slow_tab 1783 (sweeping arrivals finish) (λ x. omega arith) n))

-- from its 57 bytes: the page, what it assures, and its line `link 3 33>2 held 700 of 701`
pub box_page_lem : report_of Preemptive box_file ≡ box_page
unfolding report_of plain_report quote_of
box_page_lem =
    let q : largest_below (all_held Preemptive box) tempos ≡ Ok 1783 = rw box_judged at box_quote in
    rw (figures.p2_read, q) figures.page_box

box_bytes : (i : ℕ) → get_or box_file i 0 < 256
box_bytes i = ltb-true (get_or box_file i 0) 256 (every_at (λ c. ltb c 256) box_file 0 refl refl i)

pub box_paper : FromPage Preemptive box_file box_page 1783
box_paper =
    rw box_page_lem at (from_page Preemptive Preemptive box_file 1783 box_bytes (hold_first Preemptive box_file) (rw box_page_lem figures.page_box_tempo))

pub box_line : HeldLine Preemptive box 1783 3 33 2 700 701
box_line = rw figures.p2_read at (box_paper.held 3 33 2 700 701 (3, omega (arith, figures.page_box_lines), figures.page_box_link_3))

-- Box with a swing of 66: quoted at 121.2
swung_widths : Widths swung_box
unfolding computing fits
swung_widths = widths_by swung_box refl refl

swung_judged : judge swung_box ≡ Done
unfolding computing
swung_judged = refl

swung_held : all_held Preemptive swung_box 1212 ≡ true
unfolding computing
swung_held = refl

swung_doubtful : all_held Preemptive swung_box 1213 ≡ false
unfolding computing
swung_doubtful = refl

pub swung_quote : quote_of Preemptive swung_box ≡ Ok 1212
swung_quote = quote_by Preemptive swung_box 1212 swung_widths swung_judged (omega arith) (omega arith) swung_held (λ h. swung_doubtful)

pub swung_assured : (cs : List Call) → UpTo 1212 (ticks Preemptive swung_box (idle swung_box) cs) → AssuredOf Preemptive swung_box 1212 cs
swung_assured = plain_assured Preemptive swung_box 1212 swung_widths swung_quote

-- Box at 178.3, and Box with any pulse at a tempo where its spacing is 701 too: the verdicts are the same (C-12)
keys : (t : ℕ) → spacing (Fixed 2000) 1783 ≡ spacing (Fixed 2000) t
unfolding spacing
keys t = refl

box_spacings : (x : Source) (t : ℕ) → spacing x t ≡ 701 → SameSpacings box 1783 (box_with x) t
unfolding spacing_of
box_spacings x t e u p q r = go (cmp u 33)
  where
    go : Cmp u 33 → spacing (source_at box u) 1783 ≡ spacing (source_at (box_with x) u) t
    go (less y) = absurd (omega arith)
    go (same y) = rw y (spacing_figures.paced ∙ sym e)
    go (more y) = let z : u ≡ 34 = omega arith in rw z (keys t)

box_shaped : (x : Source) → Shaped (system (box_with x))
unfolding system linked
box_shaped x = shaped box box_formed

pub kinds_alike : (x : Source) (t l : ℕ) → spacing x t ≡ 701 → l < 4 → verdict_at Preemptive box 1783 l ≡ verdict_at Preemptive (box_with x) t l
kinds_alike x t l e h =
    verdict_same box (box_with x) (record { tasks = refl; links = refl; run = λ k q. refl; link = λ k q. refl }) box_formed (box_shaped x) 1783 t (box_spacings x t e) Preemptive l h

-- with a swing of 66 at 121.2, and with a fixed pulse at any tempo
pub swung_alike : (l : ℕ) → l < 4 → verdict_at Preemptive box 1783 l ≡ verdict_at Preemptive swung_box 1212 l
swung_alike l = kinds_alike (Swung 480 66) 1212 l spacing_figures.swung

pub fixed_alike : (t l : ℕ) → l < 4 → verdict_at Preemptive box 1783 l ≡ verdict_at Preemptive fixed_box t l
unfolding spacing
fixed_alike t l = kinds_alike (Fixed 701) t l refl

-- Box and Box with one more source, which no link leaves: the verdicts are the same at every tempo, on both models
spare_shaped : (x : Source) → Shaped (system (spare_box x))
unfolding system linked
spare_shaped x =
    let s : Shaped (system box) = box_shaped (Paced 480) in
    record { few = s.few; runs = s.runs; to_task = s.to_task; from_node = λ i j l. ⊎_elim inl (λ u. inr (u.0, omega (arith, u.1))) (s.from_node i j l) }

spare_spacings : (x : Source) (t : ℕ) → SameSpacings box t (spare_box x) t
unfolding spacing_of
spare_spacings x t u p q r = go (cmp u 33)
  where
    go : Cmp u 33 → spacing (source_at box u) t ≡ spacing (source_at (spare_box x) u) t
    go (less y) = absurd (omega arith)
    go (same y) = rw y refl
    go (more y) = let z : u ≡ 34 = omega arith in rw z refl

pub spare_alike : (pol : Policy) (x : Source) (t l : ℕ) → l < 4 → verdict_at pol box t l ≡ verdict_at pol (spare_box x) t l
spare_alike pol x t =
    verdict_same box (spare_box x) (record { tasks = refl; links = refl; run = λ k q. refl; link = λ k q. refl }) box_formed (spare_shaped x) t t (spare_spacings x t) pol

-- Twin with spacing 9: quoted at 300.0
twin_widths : Widths (twin 9)
unfolding computing fits
twin_widths = widths_by (twin 9) refl refl

twin_judged : judge (twin 9) ≡ Done
unfolding computing
twin_judged = refl

twin_held : all_held Preemptive (twin 9) 3000 ≡ true
unfolding computing
twin_held = refl

pub twin_quote : quote_of Preemptive (twin 9) ≡ Ok 3000
twin_quote = quote_by Preemptive (twin 9) 3000 twin_widths twin_judged (omega arith) (omega arith) twin_held (λ h. absurd (omega arith))

pub twin_assured : (cs : List Call) → UpTo 3000 (ticks Preemptive (twin 9) (idle (twin 9)) cs) → AssuredOf Preemptive (twin 9) 3000 cs
twin_assured = plain_assured Preemptive (twin 9) 3000 twin_widths twin_quote

-- so no event of its source waits longer than 8 ticks for task 1
pub twin_waits : (cs : List Call) → UpTo 3000 (ticks Preemptive (twin 9) (idle (twin 9)) cs) → (x : ℕ) → x < length (ticks Preemptive (twin 9) (idle (twin 9)) cs) → fires (tick_at (ticks Preemptive (twin 9) (idle (twin 9)) cs) x) 33 ≡ true → wait_of (ticks Preemptive (twin 9) (idle (twin 9)) cs) 1 x ≤ 8
unfolding computing
twin_waits cs up x h f = (twin_assured cs up).waited 2 x (omega arith) refl (omega arith) h f

-- The same on the hold-on model: Box quoted at 124.8, and Twin with spacing 11 at 300.0
box_holds : all_held HoldOn box 1248 ≡ true
unfolding computing
box_holds = refl

box_hold_doubtful : all_held HoldOn box 1249 ≡ false
unfolding computing
box_hold_doubtful = refl

pub box_hold_quote : quote_of HoldOn box ≡ Ok 1248
box_hold_quote = quote_by HoldOn box 1248 box_widths box_judged (omega arith) (omega arith) box_holds (λ h. box_hold_doubtful)

pub box_hold_assured : (cs : List Call) → UpTo 1248 (ticks HoldOn box (idle box) cs) → AssuredOf HoldOn box 1248 cs
box_hold_assured = plain_assured HoldOn box 1248 box_widths box_hold_quote

-- from its 57 bytes: the page, what it assures, and its line `link 3 33>2 held 1000 of 1001`
pub box_hold_page_lem : report_of HoldOn box_file ≡ box_hold_page
unfolding report_of plain_report quote_of
box_hold_page_lem =
    let q : largest_below (all_held HoldOn box) tempos ≡ Ok 1248 = rw box_judged at box_hold_quote in
    rw (figures.p2_read, q) hold_figures.page_box

pub box_hold_paper : FromPage HoldOn box_file box_hold_page 1248
box_hold_paper = rw box_hold_page_lem at (from_page HoldOn HoldOn box_file 1248 box_bytes (hold_first HoldOn box_file) (rw box_hold_page_lem hold_figures.page_box_tempo))

pub box_hold_line : HeldLine HoldOn box 1248 3 33 2 1000 1001
box_hold_line = rw figures.p2_read at (box_hold_paper.held 3 33 2 1000 1001 (4, omega (arith, hold_figures.page_box_lines), hold_figures.page_box_link_3))

twin_11_widths : Widths (twin 11)
unfolding computing fits
twin_11_widths = widths_by (twin 11) refl refl

twin_11_judged : judge (twin 11) ≡ Done
unfolding computing
twin_11_judged = refl

twin_11_holds : all_held HoldOn (twin 11) 3000 ≡ true
unfolding computing
twin_11_holds = refl

pub twin_hold_quote : quote_of HoldOn (twin 11) ≡ Ok 3000
twin_hold_quote = quote_by HoldOn (twin 11) 3000 twin_11_widths twin_11_judged (omega arith) (omega arith) twin_11_holds (λ h. absurd (omega arith))

pub twin_hold_assured : (cs : List Call) → UpTo 3000 (ticks HoldOn (twin 11) (idle (twin 11)) cs) → AssuredOf HoldOn (twin 11) 3000 cs
twin_hold_assured = plain_assured HoldOn (twin 11) 3000 twin_11_widths twin_hold_quote

-- so no event of its source waits longer than 10 ticks for task 1
pub twin_hold_waits : (cs : List Call) → UpTo 3000 (ticks HoldOn (twin 11) (idle (twin 11)) cs) → (x : ℕ) → x < length (ticks HoldOn (twin 11) (idle (twin 11)) cs) → fires (tick_at (ticks HoldOn (twin 11) (idle (twin 11)) cs) x) 33 ≡ true → wait_of (ticks HoldOn (twin 11) (idle (twin 11)) cs) 1 x ≤ 10
unfolding computing
twin_hold_waits cs up x h f = (twin_hold_assured cs up).waited 2 x (omega arith) refl (omega arith) h f

-- Twin with spacing 8: task 1 is loaded by exactly 1, 8 / 8, so 33>1 is doubtful at every tempo (document 000's test (6))
twin_8_formed : WellFormed (twin 8)
unfolding computing fits
twin_8_formed = judge_well_formed (twin 8) (widths_by (twin 8) refl refl) refl

twin_full : (t : ℕ) → Overloaded Preemptive (system (twin 8)) (spacing_of (twin 8) t) 1
unfolding computing
twin_full t = record {
  P = 8;
  m = λ u. 1;
  some = omega arith;
  multiple = λ u p q. let e : u ≡ 33 = omega arith in rw e refl;
  full = omega arith;
}

pub twin_8_doubt : (t : ℕ) → verdict_at Preemptive (twin 8) t 2 ≡ Doubt 8
unfolding computing
twin_8_doubt t = test_6_link (twin 8) twin_8_formed t 2 (omega arith) refl (omega arith) (twin_full t)
