-- A reading that goes on past a field, and one that stops. Assumes nothing.
use Rattle.std.specs.Prelude.{Option, Some, None, Result, Ok, Err}
use Prim.Native.Nat.{ℕ, zero, suc, ◌+◌, ◌<◌}
use mathlib.Core.Path.{◌≡◌, refl, sym, ap, ◌∙◌}
use mathlib.Core.List.{List}
use native.Mathlib.Omega.{arith}
use lib.ListN.{length}
use Rattle.model.specs.declared.Description.{Description}
use Rattle.model.specs.declared.Field.{Field}
use Rattle.model.specs.declared.Refusal.{Refusal}
use Rattle.model.specs.declared.Rejection.{Rejection}
use Rattle.model.specs.declared.Progress.{Progress}
use Rattle.model.specs.declared.Reading.{Reading}
use Rattle.model.specs.Field.{Taken, Whole, Broken, End, Check, Fine, Unfit, take_field, check_field, passed, with_field}
use Rattle.model.specs.Refusals.{Done, Refused}
use Rattle.model.specs.File.{parse_from, refused_reading}
use Rattle.theory.proofs.FieldLaws.{length-field, take-took, took_length, took_inside}
use Rattle.theory.proofs.RecordLaws.{parse_fine, parse_unfit, parse_broken, parse_end}
use Rattle.reading.specs.Steps.{if_fine, checked_taken, found_of}

-- what was taken, by what is found of it
abbrev taken_by : Result (Option (Field × ℕ)) Rejection → Taken
taken_by (Ok (Some x)) = Whole x.0 x.1
taken_by (Ok None) = End
taken_by (Err x) = Broken x.why

pub found_back : (t : Taken) (at : ℕ) (x : Result (Option (Field × ℕ)) Rejection) → found_of t at ≡ x → t ≡ taken_by x
found_back (Whole f next) at x e = ap taken_by e
found_back (Broken r) at x e = ap taken_by e
found_back End at x e = ap taken_by e

-- a taken field that was checked
pub fine_taken : (p : Progress) (t : Taken) (f : Field) (next : ℕ) → checked_taken p t ≡ Whole f next → (t ≡ Whole f next) × (check_field p f ≡ Fine)
fine_taken p (Broken r) f next e = absurd (let z : ◌≡◌ {A = ℕ} 0 1 = cc in omega arith)
fine_taken p End f next e = absurd (let z : ◌≡◌ {A = ℕ} 0 1 = cc in omega arith)
fine_taken p (Whole g m) f next e = go (check_field p g) refl
  where
    go : (k : Check) → check_field p g ≡ k → (Whole g m ≡ Whole f next) × (check_field p f ≡ Fine)
    go (Ok tt) q = let h : Whole g m ≡ Whole f next = rw q at e in let i : g ≡ f = cc in (h, rw i at q)
    go (Unfit r) q = let h : Broken r ≡ Whole f next = rw q at e in absurd (let z : ◌≡◌ {A = ℕ} 0 1 = cc in omega arith)

-- r is what a reading answers from a place on
abbrev pub ReadsAs : List ℕ → ℕ → Progress → Description → Reading → Type 0
ReadsAs s at p d r = (n : ℕ) → 0 < n → length s < at + n → r ≡ parse_from n s at p d

pub reads_more : (s : List ℕ) (at : ℕ) (p : Progress) (d : Description) (f : Field) (next : ℕ) (r : Reading) → take_field s at ≡ Whole f next → check_field p f ≡ Fine → ReadsAs s next (passed p f) (with_field d f) r → ReadsAs s at p d r
reads_more s at p d f next r e q h zero z m = absurd (omega arith)
reads_more s at p d f next r e q h (suc n) z m =
    let k = take-took s at f next e in
    h n (omega (arith, took_inside k, took_length k, length-field f)) (omega (arith, took_length k, length-field f)) ∙ sym (parse_fine n s at p d f next e q)

-- the end, a field that does not come out whole, and one that may not stand where it does end the reading
pub reads_end : (s : List ℕ) (at : ℕ) (p : Progress) (d : Description) → checked_taken p (take_field s at) ≡ End → ReadsAs s at p d (record { outcome = Done; description = d })
reads_end s at p d e zero z m = absurd (omega arith)
reads_end s at p d e (suc n) z m = go (take_field s at) refl
  where
    unfit : (f : Field) (next : ℕ) (h : Check) → if_fine h f next ≡ End → record { outcome = Done; description = d } ≡ parse_from (suc n) s at p d
    unfit f next (Ok tt) k = absurd (let z : ◌≡◌ {A = ℕ} 0 1 = cc in omega arith)
    unfit f next (Unfit r) k = absurd (let z : ◌≡◌ {A = ℕ} 0 1 = cc in omega arith)

    go : (t : Taken) → take_field s at ≡ t → record { outcome = Done; description = d } ≡ parse_from (suc n) s at p d
    go (Whole f next) q = unfit f next (check_field p f) (rw q at e)
    go (Broken r) q = absurd (let y : Broken r ≡ End = rw q at e in let z : ◌≡◌ {A = ℕ} 0 1 = cc in omega arith)
    go End q = sym (parse_end n s at p d q)

pub reads_refused : (s : List ℕ) (at : ℕ) (p : Progress) (d : Description) (x : Rejection) → found_of (checked_taken p (take_field s at)) at ≡ Err x → ReadsAs s at p d (refused_reading x.why x.place)
reads_refused s at p d x e zero z m = absurd (omega arith)
reads_refused s at p d x e (suc n) z m = go (take_field s at) refl
  where
    same : (r : Refusal) → found_of (Broken r) at ≡ Err x → refused_reading x.why x.place ≡ refused_reading r at
    same r k = let y : x ≡ record { why = r; place = at } = cc in rw y refl

    unfit : (f : Field) (next : ℕ) → take_field s at ≡ Whole f next → (h : Check) → check_field p f ≡ h → found_of (if_fine h f next) at ≡ Err x → refused_reading x.why x.place ≡ parse_from (suc n) s at p d
    unfit f next q (Ok tt) g k = absurd (let z : ◌≡◌ {A = ℕ} 0 1 = cc in omega arith)
    unfit f next q (Unfit r) g k = same r k ∙ sym (parse_unfit n s at p d f next r q g)

    go : (t : Taken) → take_field s at ≡ t → refused_reading x.why x.place ≡ parse_from (suc n) s at p d
    go (Whole f next) q = unfit f next q (check_field p f) refl (rw q at e)
    go (Broken r) q = same r (rw q at e) ∙ sym (parse_broken n s at p d r q)
    go End q = absurd (let y : found_of End at ≡ Err x = rw q at e in let z : ◌≡◌ {A = ℕ} 0 1 = cc in omega arith)
