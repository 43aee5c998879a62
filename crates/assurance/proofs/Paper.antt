-- The printed page alone: its line `tempo a.b` says that the file is accepted, what its quote is and that the promise holds up to it, and each line
-- of a held source link says how long its events wait. Assumes nothing.
use Rattle.std.specs.Prelude.{Ok, Err}
use Prim.Native.Nat.{ℕ, suc, ◌-◌, ◌≤◌, ◌<◌}
use mathlib.Core.Path.{◌≡◌, refl, sym, ap, ◌∙◌}
use mathlib.Core.Bool.{not}
use mathlib.Core.List.{List, ◌++◌}
use native.Mathlib.Omega.{arith}
use borrow.Author.Tests.{not-true}
use lib.ListN.{take}
use Rattle.model.specs.declared.Description.{Description}
use Rattle.model.specs.declared.Policy.{Policy}
use Rattle.model.specs.Refusals.{Outcome, Done, Refused, Quote}
use Rattle.model.specs.declared.Refusal.{Refusal}
use Rattle.model.specs.Graph.{link_at}
use Rattle.model.specs.File.{Widths, read_file}
use Rattle.model.specs.Delays.{spacing_of}
use Rattle.model.specs.Verdicts.{verdict_at, doubtful, all_held, tempos, largest_below, quote_of, quoted_file}
use Rattle.model.specs.Report.{refused_line, report_for, plain_report, policy_line, report_of, reported, page_reported, printed}
use Rattle.model.specs.Page.{TempoLine, HasLine, tempo_words, held_words, HeldLine, FromPage, TellsModel, Paper, CallPaper}
use Rattle.lemmas.proofs.Range.{all_at}
use Rattle.theory.proofs.WellFormed.{Fielded}
use Rattle.theory.proofs.NumberBytes.{Bytes}
use Rattle.theory.proofs.FileLaws.{judge_well_formed}
use Rattle.theory.proofs.ReadBack.{read_whence, read_judged}
use Rattle.theory.proofs.Quotes.{largest_found, quoted}
use Rattle.theory.proofs.Pages.{Named, held_says, source_held, page_held, page_told, page_first, page_tempo, tempo_line_lem, held_line, refused_no_tempo, model_told, printed_whole, filled_page}
use Rattle.assurance.proofs.Demand3.{promise}
use Rattle.assurance.proofs.PlainCalls.{plain_assured}

-- of a description with a quote
module _ (pol : Policy) (d : Description) (q : ℕ) (w : Widths d) (e : quote_of pol d ≡ Ok q) where
  fields : Fielded d
  fields = (judge_well_formed d w (quoted pol d q e).judged).fields

  -- what a held line says of the link that it names
  line_true : (k l i j D M : ℕ) → k < d.link_count → Named k (link_at d k) (verdict_at pol d q k) l i j D M → HeldLine pol d q l i j D M
  line_true k l i j D M h n =
      let p : l - 1 ≡ k = omega (arith, n.place_is) in
      let s = held_says pol d fields q k D M h n.verdict_is in
      record {
        first = omega (arith, n.place_is);
        last = omega (arith, n.place_is);
        from = rw p n.from_is;
        to = rw p n.to_is;
        critical = rw p s.critical;
        source = rw n.from_is at s.source;
        verdict = rw p n.verdict_is;
        spacing = rw n.from_is at s.spacing;
        below = s.below;
        waits = λ x cs up inside f.
            rw (n.to_is, n.verdict_is) at ((plain_assured pol d q w e cs up).waited k x h s.critical s.source inside (rw n.from_is f));
      }

  -- and every critical link from a source is held
  line_there : (l : ℕ) → l < d.link_count → (link_at d l).critical ≡ 1 → 33 ≤ (link_at d l).from → (D : ℕ) × (M : ℕ) × HasLine (report_for pol d (Ok q)) (held_words (suc l) (link_at d l).from (link_at d l).to D M)
  unfolding all_held
  line_there l h c s =
      let v = source_held pol d q l c s (not-true _ (all_at (λ k. not (doubtful (verdict_at pol d q k))) 0 d.link_count (quoted pol d q e).held l (omega arith) (omega arith))) in
      (v.0, spacing_of d q (link_at d l).from, page_told pol d (Ok q) l v.0 (spacing_of d q (link_at d l).from) h v.1)

from_report : (pol : Policy) (file : List ℕ) (q : ℕ) → Bytes file → TempoLine pol (report_of pol file) (tempo_words q) → FromPage pol file (report_of pol file) q
unfolding report_of plain_report quoted_file quote_of
from_report pol file q b e = go (read_file file).outcome refl
  where
    d : Description
    d = (read_file file).description

    found : Quote
    found = largest_below (all_held pol d) tempos

    go : (o : Outcome) → (read_file file).outcome ≡ o → FromPage pol file (report_of pol file) q
    go (Err x) a = absurd (refused_no_tempo x.why x.place q ((tempo_line_lem pol (refused_line x.why x.place) (tempo_words q)).0 (rw a at e)))
    go Done a =
        let k : found ≡ Ok q = page_tempo pol d found q (λ t f. omega (arith, (largest_found (all_held pol d) tempos t f).high)) ((tempo_line_lem pol (report_for pol d found) (tempo_words q)).0 (rw a at e)) in
        let w : Widths d = (read_whence file b a).widths in
        let z : quote_of pol d ≡ Ok q = rw (read_judged file b a) k in
        let page : report_of pol file ≡ policy_line pol ++ report_for pol d (Ok q) = rw a (ap (λ (x : Quote). policy_line pol ++ report_for pol d x) k) in
        record {
          accepted = a;
          quoted = rw a z;
          low = (quoted pol d q z).low;
          high = (quoted pol d q z).high;
          assured = λ s cs rs m a c up. promise pol d q s cs rs m w z a c up;
          held = λ l i j D M h.
              let n = page_held pol d (Ok q) (fields pol d q w z) l i j D M ((held_line pol (report_for pol d (Ok q)) l i j D M).0 (rw page at h)) in
              line_true pol d q w z n.0 l i j D M n.1 n.2;
          told = λ l h c s. let x = line_there pol d q w z l h c s in (x.0, x.1, rw page ((held_line pol (report_for pol d (Ok q)) (suc l) (link_at d l).from (link_at d l).to x.0 x.1).1 x.2));
        }

-- the model is the one that the page tells
pub from_page : Paper
from_page made p file q b t = rw (sym (model_told made p file t)) (from_report p file q b)

-- the converse: the page of a file with a quote has that tempo
pub quoted_page : (pol : Policy) (file : List ℕ) (q : ℕ) → Bytes file → quoted_file pol file ≡ Ok q → TempoLine pol (report_of pol file) (tempo_words q)
unfolding report_of plain_report quoted_file quote_of
quoted_page pol file q b e = go (read_file file).outcome refl
  where
    d : Description
    d = (read_file file).description

    not_tempo : (r : Refusal) (place : ℕ) → Refused r place ≡ Ok q → ⊥
    not_tempo r place f = let z : ◌≡◌ {A = ℕ} 0 1 = cc in omega arith

    go : (o : Outcome) → (read_file file).outcome ≡ o → TempoLine pol (report_of pol file) (tempo_words q)
    go (Err x) a = absurd (not_tempo x.why x.place (rw a at e))
    go Done a =
        let k : largest_below (all_held pol d) tempos ≡ Ok q = rw (a, read_judged file b a) at e in
        rw (a, k) ((tempo_line_lem pol (report_for pol d (Ok q)) (tempo_words q)).1 (page_first pol d (Ok q)))

-- what holds of the report holds of the page that the program prints for its input
pub from_printed : (made p : Policy) (input : List ℕ) (q : ℕ) → Bytes input → TellsModel p (printed made input) → TempoLine p (printed made input) (tempo_words q) → FromPage p input (printed made input) q
from_printed made p input q b t e =
    let w = printed_whole made input in
    rw w (from_page made p input q b (rw w at t) (rw w at e))

-- and of the page that the report call leaves at the front of a lent buffer
pub from_buffer : CallPaper
unfolding reported page_reported
from_buffer made p file buffer buffer' r n q b c f t e =
    let w : take n buffer' ≡ report_of made file = ap (take n) c.1 ∙ filled_page (report_of made file) buffer n (sym c.0 ∙ f) in
    rw w (from_page made p file q b (rw w at t) (rw w at e))
