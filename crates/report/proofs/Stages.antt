-- The report stage by stage, from the answers of the calls that make it: examined, quoted. Assumes nothing.
use Prim.Native.Nat.{ℕ, ◌+◌, ◌≤◌}
use mathlib.Core.Path.{◌≡◌, sym, ap, ◌∙◌}
use mathlib.Core.List.{List, ◌++◌}
use native.Mathlib.Omega.{arith}
use Rattle.model.specs.declared.Description.{Description}
use Rattle.model.specs.declared.Policy.{Policy}
use Rattle.std.specs.Prelude.{Ok, Err}
use Rattle.model.specs.declared.Rejection.{Rejection}
use Rattle.model.specs.Refusals.{Quote}
use Rattle.model.specs.declared.VerdictSlot.{VerdictSlot}
use Rattle.model.specs.Basics.{tab}
use Rattle.model.specs.File.{read_file}
use Rattle.model.specs.Verdicts.{all_held, tempos, largest_below, slot_at}
use Rattle.model.specs.Report.{tempo_line, link_lines, refused_line, shown_tempo, report_for, plain_report}
use Rattle.theory.proofs.WellFormed.{WellFormed}
use Rattle.theory.proofs.Quotes.{Largest, largest_found}
use Rattle.files.specs.declared.Judged.{Judged}
use Rattle.files.specs.Answers.{ReadAs}
use lib.ListN.{length, length-append}
use Rattle.model.specs.Delays.{spacing_of}
use Rattle.theory.proofs.NumberBytes.{Bytes}
use Rattle.spacings.specs.Sources.{Scaled}
use Rattle.spacings.specs.Gaps.{GapsBy, GapsOf}
use Rattle.spacings.proofs.GapLaws.{gaps_of, scaled_of}
use Rattle.verdicts.specs.declared.Tables.{Tables}
use Rattle.verdicts.specs.Tables.{TablesOf}
use Rattle.verdicts.specs.Slots.{SlotsBy}
use Rattle.verdicts.proofs.TableLaws.{slot_tables, slots_at_tempo}
use Rattle.quotes.specs.Best.{QuoteBy}
use Rattle.report.specs.Longest.{longest_plain}
use Rattle.report.specs.Listing.{listing}
use Rattle.report.proofs.ReportLaws.{plain_length, report_refused, report_done, listing_is}

quoted_parts : (pol : Policy) (d : Description) (q : Quote) (slots : List VerdictSlot) → WellFormed d → q ≡ largest_below (all_held pol d) tempos → slots ≡ tab 256 (slot_at pol d (shown_tempo q)) → tempo_line q ++ listing d slots d.link_count ≡ report_for pol d (largest_below (all_held pol d) tempos)
unfolding report_for
quoted_parts pol d q slots w e f =
    ap (λ (l : List ℕ). tempo_line q ++ l) (listing_is pol d (shown_tempo q) slots w.fields.few_links f)
    ∙ ap (λ (x : Quote). tempo_line x ++ link_lines pol d (shown_tempo x)) e

-- the tempo shown is on the knob
pub shown_on : (pol : Policy) (d : Description) (q : Quote) → q ≡ largest_below (all_held pol d) tempos → (200 ≤ shown_tempo q) × (shown_tempo q ≤ 3000)
shown_on pol d (Ok t) e =
    let r : Largest (all_held pol d) tempos t = largest_found (all_held pol d) tempos t (sym e) in
    (r.low, omega (arith, r.high))
shown_on pol d (Err x) e = (omega arith, omega arith)

-- the file is refused
pub stage_refused : (pol : Policy) (s : List ℕ) (x : Rejection) → ReadAs (read_file s) (Err x) → refused_line x.why x.place ≡ plain_report pol s
stage_refused pol s x examined = report_refused pol s x.why x.place examined

-- or accepted
module _ (pol : Policy) (s : List ℕ) (j : Judged) (examined : ReadAs (read_file s) (Ok j)) where
  pub stage_good : WellFormed j.description
  stage_good = examined.good

  -- the tempo line and the link lines are the report
  pub stage_parts : (q : Quote) (slots : List VerdictSlot) → q ≡ largest_below (all_held pol j.description) tempos → slots ≡ tab 256 (slot_at pol j.description (shown_tempo q)) → tempo_line q ++ listing j.description slots j.description.link_count ≡ plain_report pol s
  stage_parts q slots f k =
      quoted_parts pol j.description q slots stage_good f k
      ∙ ap (λ (d : Description). report_for pol d (largest_below (all_held pol d) tempos)) examined.same
      ∙ report_done pol s examined.judged

  -- from the tables: the quote, the spacings at the tempo shown, and the verdicts there
  module _ (t : Tables) (tables : TablesOf pol j.description t) (q : Quote) (quote : QuoteBy t q) where
    pub stage_quoted : q ≡ largest_below (all_held pol j.description) tempos
    stage_quoted = quote pol j.description tables.by_levels tables.all_ordered

    pub stage_shown : (shown : ℕ) → shown ≡ shown_tempo q → Scaled t.sources × (200 ≤ shown) × (shown ≤ 3000)
    stage_shown shown is =
        let on = shown_on pol j.description q stage_quoted in
        (scaled_of j.description t.sources stage_good tables.by_levels.by_source, omega (arith, on.0, is), omega (arith, on.1, is))

    pub stage_lines : (shown : ℕ) (gaps : List ℕ) (slots : List VerdictSlot) → shown ≡ shown_tempo q → GapsBy t.sources shown gaps → SlotsBy j.description t gaps slots → tempo_line q ++ listing j.description slots j.description.link_count ≡ plain_report pol s
    stage_lines shown gaps slots is z by =
        let spaced : GapsOf j.description (shown_tempo q) gaps = rw is at (gaps_of j.description t.sources shown gaps tables.by_levels.by_source z) in
        stage_parts q slots stage_quoted (by pol (slot_tables pol j.description t tables) (spacing_of j.description (shown_tempo q)) spaced ∙ slots_at_tempo pol j.description (shown_tempo q))

    -- and they fit on the page
    pub stage_room : Bytes s → (slots : List VerdictSlot) → tempo_line q ++ listing j.description slots j.description.link_count ≡ plain_report pol s → length (tempo_line q) + length (listing j.description slots j.description.link_count) ≤ longest_plain
    stage_room b slots parts =
        omega (arith, plain_length pol s b, sym (ap length parts) ∙ length-append (tempo_line q) (listing j.description slots j.description.link_count))
