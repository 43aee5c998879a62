-- The lengths of bodies, and a step by the header that it finds. Assumes nothing.
use Prim.Native.Nat.{ℕ, ◌≤◌}
use mathlib.Core.Path.{◌≡◌, refl, sym, ap}
use mathlib.Core.Bool.{true}
use mathlib.Core.List.{List}
use native.Mathlib.Omega.{arith}
use Rattle.model.specs.Header.{HeaderAt, is_tag, length_fits, header_at}
use Rattle.model.specs.Field.{field_tags, taken_by, take_field, step_of, step_at}
use Rattle.lemmas.proofs.Tests.{within}
use Rattle.theory.proofs.FieldLaws.{tag_range, by_form}

-- a paced source has two bytes or three
pub paced_length : (n : ℕ) → length_fits field_tags 3 n ≡ true → (2 ≤ n) × ((n ≡ 2 → ⊥) → n ≡ 3)
paced_length n e = let h = within 2 n 3 e in (h.0, λ q. omega (arith, h))

-- every tag but 3 has a body of three bytes or more
pub other_length : (t n : ℕ) → (t ≡ 3 → ⊥) → is_tag field_tags t ≡ true → length_fits field_tags t n ≡ true → 3 ≤ n
other_length t n h k e =
    by_form (λ t n. (t ≡ 3 → ⊥) → 3 ≤ n) t n (tag_range t k).0 (tag_range t k).1 e
    (λ q. omega arith)
    (λ q. omega arith)
    (λ q. absurd (q refl))
    (λ q. omega arith)
    (λ q. omega arith)
    h

pub header_step : (s : List ℕ) (at : ℕ) (h : HeaderAt) → header_at field_tags s at ≡ h → step_of (taken_by s h) at ≡ step_at s at
unfolding take_field
header_step s at h e = ap (λ (x : HeaderAt). step_of (taken_by s x) at) (sym e)
