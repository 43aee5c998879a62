-- The fields from a place of the bytes on are those of the bytes that are left there. Assumes nothing.
use Rattle.std.specs.Prelude.{Ok, Some}
use Prim.Native.Nat.{ℕ, zero, suc, ◌+◌, ◌-◌}
use mathlib.Core.Path.{◌≡◌, refl, ap, ◌∙◌}
use mathlib.Core.List.{List}
use lib.ListN.{length, drop, length-drop}
use lib.Seq.{get_or-drop}
use native.Mathlib.Nat.{add-zero, add_assoc}
use native.Mathlib.Omega.{arith}
use Rattle.model.specs.declared.Description.{Description}
use Rattle.model.specs.declared.Field.{Field}
use Rattle.model.specs.declared.Refusal.{Refusal}
use Rattle.model.specs.declared.Refusal.TheVariants.{CutShort}
use Rattle.model.specs.Header.{HeaderAt, Body, Faulty, Ended, header_at}
use Rattle.model.specs.Field.{Taken, Whole, Broken, End, Check, Fine, Unfit, field_tags, field_in, taken_by, take_field, check_field, passed, with_field, no_progress}
use Rattle.model.specs.declared.Progress.{Progress}
use Rattle.model.specs.Refusals.{Done, blank}
use Rattle.model.specs.declared.Reading.{Reading}
use Rattle.model.specs.File.{refused_reading, parse_from, parse_file}
use Rattle.theory.proofs.NumberBytes.{Bytes, number_left}
use Rattle.theory.proofs.HeaderLaws.{onward, header_left}
use Rattle.theory.proofs.WellFormed.{Fielded}
use Rattle.theory.proofs.RecordLaws.{parse_fine, parse_unfit, parse_broken, parse_end}
use Rattle.theory.proofs.ReadBack.{parsed_fielded}
use Rattle.lemmas.proofs.Outcomes.{refused_not}
use Rattle.model.specs.File.{parse_at}

field_left : (s : List ℕ) (a t b n : ℕ) → field_in s t (a + b) n ≡ field_in (drop a s) t b n
unfolding field_in
field_left s a t b n =
    let e : a + b + 1 ≡ a + (b + 1) = omega arith in
    let f : a + b + 2 ≡ a + (b + 2) = omega arith in
    rw (e, f, number_left s a b 4, number_left s a b 2, get_or-drop a s b 0, get_or-drop a s (b + 1) 0, get_or-drop a s (b + 2) 0)

-- what is taken, with the next place counted from a further on
abbrev further : ℕ → Taken → Taken
further a (Whole f next) = Whole f (a + next)
further a (Broken r) = Broken r
further a End = End

-- the field at a place is the one in the bytes that are left
take_left : (s : List ℕ) (a k : ℕ) → take_field s (a + k) ≡ further a (take_field (drop a s) k)
unfolding take_field
take_left s a k = ap (taken_by s) (header_left field_tags s a k) ∙ body (header_at field_tags (drop a s) k)
  where
    body : (h : HeaderAt) → taken_by s (onward a h) ≡ further a (taken_by (drop a s) h)
    body (Ok (Some h)) = λ i. Whole (field_left s a h.tag h.at h.size i) (add_assoc a h.at h.size i)
    body (Faulty r) = refl
    body Ended = refl

-- one reading holds what another does, and is done only if that one is
abbrev Same : Reading → Reading → Type 0
Same r q = (r.description ≡ q.description) × (r.outcome ≡ Done → q.outcome ≡ Done)

refused_same : (r q : Refusal) (m n : ℕ) → Same (refused_reading r m) (refused_reading q n)
refused_same r q m n = (refl, λ e. refused_not e)

parse_none : (s : List ℕ) (at : ℕ) (p : Progress) (d : Description) → parse_from 0 s at p d ≡ refused_reading CutShort at
unfolding parse_from
parse_none s at p d = refl

-- a reading from a place is the reading of the bytes that are left, but for a refusal's place
parse_left : (n : ℕ) (s : List ℕ) (a k : ℕ) (p : Progress) (d : Description) → Same (parse_from n s (a + k) p d) (parse_from n (drop a s) k p d)
parse_left zero s a k p d = rw (parse_none s (a + k) p d, parse_none (drop a s) k p d) (refused_same CutShort CutShort (a + k) k)
parse_left (suc n) s a k p d = taken (take_field (drop a s) k) refl (parse_left n s a)
  where
    whole : (t : Taken) → take_field (drop a s) k ≡ t → take_field s (a + k) ≡ further a t
    whole t e = take_left s a k ∙ ap (further a) e

    checked : (f : Field) (next : ℕ) → take_field (drop a s) k ≡ Whole f next → (c : Check) → check_field p f ≡ c → ((j : ℕ) (q : Progress) (x : Description) → Same (parse_from n s (a + j) q x) (parse_from n (drop a s) j q x)) → Same (parse_from (suc n) s (a + k) p d) (parse_from (suc n) (drop a s) k p d)
    checked f next e Fine q ih =
        rw (parse_fine n s (a + k) p d f (a + next) (whole (Whole f next) e) q, parse_fine n (drop a s) k p d f next e q) (ih next (passed p f) (with_field d f))
    checked f next e (Unfit r) q ih =
        rw (parse_unfit n s (a + k) p d f (a + next) r (whole (Whole f next) e) q, parse_unfit n (drop a s) k p d f next r e q) (refused_same r r (a + k) k)

    taken : (t : Taken) → take_field (drop a s) k ≡ t → ((j : ℕ) (q : Progress) (x : Description) → Same (parse_from n s (a + j) q x) (parse_from n (drop a s) j q x)) → Same (parse_from (suc n) s (a + k) p d) (parse_from (suc n) (drop a s) k p d)
    taken (Whole f next) e ih = checked f next e (check_field p f) refl ih
    taken (Broken r) e ih =
        rw (parse_broken n s (a + k) p d r (whole (Broken r) e), parse_broken n (drop a s) k p d r e) (refused_same r r (a + k) k)
    taken End e ih = rw (parse_end n s (a + k) p d (whole End e), parse_end n (drop a s) k p d e) (refl, λ h. h)

parsed_left : (s : List ℕ) (a : ℕ) → Same (parse_at s a) (parse_file (drop a s))
unfolding parse_file
parsed_left s a = rw (length-drop a s) (rw (add-zero a) at (parse_left (suc (length s - a)) s a 0 no_progress blank))

-- a reading from a place that accepts all fields gives a description with good fields
pub parsed_fielded_at : (s : List ℕ) (a : ℕ) → Bytes s → (parse_at s a).outcome ≡ Done → Fielded (parse_at s a).description
parsed_fielded_at s a b e =
    let m = parsed_left s a in
    rw m.0 (parsed_fielded (drop a s) (λ i. rw (get_or-drop a s i 0) (b (a + i))) (m.1 e))
