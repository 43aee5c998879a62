-- The report by the outcomes of reading, and its length. Assumes nothing.
use Rattle.std.specs.Prelude.{Err}
use Prim.Native.Nat.{ℕ, zero, suc, ◌+◌, ◌≤◌, ◌<◌}
use mathlib.Core.Path.{◌≡◌, refl, ap, ◌∙◌}
use mathlib.Core.List.{List, [], ◌++◌}
use native.Mathlib.Omega.{arith}
use borrow.Author.Tests.{lt-ltb}
use lib.ListN.{length, get_or, length-append}
use Rattle.model.specs.declared.Description.{Description}
use Rattle.model.specs.declared.Policy.{Policy}
use Rattle.model.specs.declared.Policy.TheVariants.{Preemptive, HoldOn}
use Rattle.model.specs.Refusals.{Outcome, Done, Refused}
use Rattle.model.specs.declared.Refusal.{Refusal}
use Rattle.model.specs.declared.VerdictSlot.{VerdictSlot}
use Rattle.model.specs.Basics.{tab, joined}
use Rattle.model.specs.Graph.{link_at}
use Rattle.model.specs.File.{read_file}
use Rattle.model.specs.Verdicts.{all_held, tempos, largest_below, slot_at, free_slot, verdict_at}
use Rattle.model.specs.Report.{policy_line, link_line, link_lines, refused_line, report_for, plain_report, report_of}
use Rattle.theory.proofs.NumberBytes.{Bytes}
use Rattle.theory.proofs.RecordLaws.{joined_cut}
use Rattle.lemmas.proofs.Table.{get_d_tab, joined_more}
use Rattle.files.proofs.Laws.{read_good}
use Rattle.report.specs.Listing.{line_at, listing}
use Rattle.report.specs.Longest.{longest_plain, longest_report}
use Rattle.report.proofs.ReportLength.{verdicts_length, refusal_length}

-- the model's line
pub policy_length : (pol : Policy) → length (policy_line pol) ≤ 5
policy_length Preemptive = omega arith
policy_length HoldOn = omega arith

-- the two ways that a reading ends
module _ (pol : Policy) (s : List ℕ) where
  pub report_refused : (r : Refusal) (p : ℕ) → (read_file s).outcome ≡ Refused r p → refused_line r p ≡ plain_report pol s
  unfolding plain_report
  report_refused r p e = rw e

  pub report_done : (read_file s).outcome ≡ Done → report_for pol (read_file s).description (largest_below (all_held pol (read_file s).description) tempos) ≡ plain_report pol s
  unfolding plain_report
  report_done e = rw e

  -- no report is longer than the longest, without and with the model's line
  pub plain_length : Bytes s → length (plain_report pol s) ≤ longest_plain
  plain_length b = go (read_file s).outcome refl
    where
      go : (o : Outcome) → (read_file s).outcome ≡ o → length (plain_report pol s) ≤ longest_plain
      go (Err x) e = rw (← report_refused x.why x.place e) (omega (arith, refusal_length x.why x.place))
      go Done e =
          rw (← report_done e) (verdicts_length pol (read_file s).description (read_good s b e) (all_held pol (read_file s).description))

  pub report_length : Bytes s → length (report_of pol s) ≤ longest_report
  unfolding report_of
  report_length b = rw (length-append (policy_line pol) (plain_report pol s)) (omega (arith, plain_length b, policy_length pol))

-- the lines by the table of verdicts are the lines of the report
joined_alike : (n : ℕ) (f g : ℕ → List ℕ) → ((l : ℕ) → l < n → f l ≡ g l) → joined n f ≡ joined n g
unfolding joined
joined_alike zero f g h = refl
joined_alike (suc n) f g h = rw (joined_alike n f g (λ l p. h l (omega arith)), h n (omega arith))

pub listing_is : (pol : Policy) (d : Description) (t : ℕ) (slots : List VerdictSlot) → d.link_count ≤ 256 → slots ≡ tab 256 (slot_at pol d t) → listing d slots d.link_count ≡ link_lines pol d t
unfolding listing link_lines
listing_is pol d t slots h e =
    joined_alike
    d.link_count
    (line_at d slots)
    (λ l. link_line l (link_at d l) (verdict_at pol d t l))
    (λ l p. ap (λ (x : VerdictSlot). link_line l (link_at d l) x.verdict) (slot l p))
  where
    slot : (l : ℕ) → l < d.link_count → get_or slots l free_slot ≡ record { verdict = verdict_at pol d t l }
    slot l p = rw e (get_d_tab 256 (slot_at pol d t) free_slot l (omega arith) ∙ rw (lt-ltb l d.link_count p))

-- a line is behind the lines before it
pub listing_none : (d : Description) (slots : List VerdictSlot) → [] ≡ listing d slots 0
unfolding listing joined
listing_none d slots = refl

pub listing_more : (d : Description) (slots : List VerdictSlot) (n : ℕ) → listing d slots (n + 1) ≡ listing d slots n ++ line_at d slots n
unfolding listing
listing_more d slots n = joined_more n (line_at d slots)

pub listing_room : (d : Description) (slots : List VerdictSlot) (n k : ℕ) → k < n → length (listing d slots k) + length (line_at d slots k) ≤ length (listing d slots n)
unfolding listing
listing_room d slots n k h =
    let c = joined_cut n (line_at d slots) k h in
    omega (arith, ap length c.1 ∙ length-append (joined k (line_at d slots)) (line_at d slots k ++ c.0), length-append (line_at d slots k) c.0)
