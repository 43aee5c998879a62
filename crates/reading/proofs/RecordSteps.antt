-- The judging of a record, field by field, against the reading of its file. Assumes nothing.
use Prim.Native.Nat.{ℕ, zero, suc, ◌+◌, ◌<◌}
use mathlib.Core.Path.{◌≡◌, sym, ap, ◌∙◌}
use native.Mathlib.Omega.{arith}
use lib.ListN.{length}
use Rattle.model.specs.declared.Description.{Description}
use Rattle.model.specs.declared.Refusal.{Refusal}
use Rattle.model.specs.Field.{Fine, Unfit, check_field, field_of, field_count}
use Rattle.model.specs.Refusals.{Outcome, Done, Refused}
use Rattle.model.specs.declared.Reading.{Reading}
use Rattle.model.specs.File.{file_of, parse_file}
use Rattle.theory.proofs.FieldLaws.{length-field}
use Rattle.theory.proofs.RecordLaws.{Widths, offset, offset_more, progress_at, read_at, read_fine, read_unfit, read_end, read_start}
use Rattle.theory.proofs.JudgeLaws.{offset_le}

-- r is how the reading of the record's file ends, from its field k on
abbrev pub JudgesAs : Description → ℕ → Outcome → Type 0
JudgesAs d k r = (n : ℕ) → length (file_of d) < offset d k + n → r ≡ (read_at d n k).outcome

pub judges_start : (d : Description) (r : Outcome) → JudgesAs d 0 r → r ≡ (parse_file (file_of d)).outcome
judges_start d r h = rw (read_start d) (h (suc (length (file_of d))) (omega arith))

pub judges_more : (d : Description) → Widths d → (k : ℕ) (r : Outcome) → k < field_count d → check_field (progress_at d k) (field_of d k) ≡ Fine → JudgesAs d (suc k) r → JudgesAs d k r
unfolding file_of
judges_more d w k r l e h zero m = absurd (omega (arith, offset_le d k (field_count d) (omega arith)))
judges_more d w k r l e h (suc n) m =
    h n (omega (arith, offset_more d k, length-field (field_of d k))) ∙ sym (ap (λ (x : Reading). x.outcome) (read_fine d w n k l e))

pub judges_unfit : (d : Description) → Widths d → (k : ℕ) (r : Refusal) → k < field_count d → check_field (progress_at d k) (field_of d k) ≡ Unfit r → JudgesAs d k (Refused r (offset d k))
unfolding file_of
judges_unfit d w k r l e zero m = absurd (omega (arith, offset_le d k (field_count d) (omega arith)))
judges_unfit d w k r l e (suc n) m = sym (ap (λ (x : Reading). x.outcome) (read_unfit d w n k r l e))

pub judges_end : (d : Description) (k : ℕ) → k ≡ field_count d → JudgesAs d k Done
unfolding file_of
judges_end d k q zero m = absurd (omega (arith, offset_le d k (field_count d) (omega arith)))
judges_end d k q (suc n) m = rw q (sym (ap (λ (x : Reading). x.outcome) (read_end d n)))
