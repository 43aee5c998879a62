-- A page that takes a record's file field by field. Assumes nothing.
use Prim.Native.Nat.{ℕ, suc, ◌+◌, ◌-◌, ◌≤◌}
use mathlib.Core.Path.{◌≡◌, refl, sym, ap, ◌∙◌}
use mathlib.Core.List.{List, [], ◌∷◌, ◌++◌, append_assoc}
use native.Mathlib.Omega.{arith}
use native.Mathlib.Nat.{add-zero}
use lib.ListN.{length, drop, set}
use Rattle.std.proofs.lemmas.List.{drop-drop}
use lib.Seq.{sets, sets-eq, length-sets}
use Rattle.model.specs.declared.Description.{Description}
use Rattle.model.specs.declared.Field.{Field}
use Rattle.model.specs.Basics.{joined}
use Rattle.model.specs.Field.{field_bytes, field_of, field_count}
use Rattle.model.specs.File.{file_of}
use borrow.Rule.Slice.PartMut.{put_mid}
use Rattle.lemmas.proofs.Table.{joined_more}
use Rattle.theory.proofs.RecordLaws.{offset}

-- two runs of stores, one after the other, are one run
sets_join : {A : Type 0} (l : List A) (i : ℕ) (xs ys : List A) → sets (sets l i xs) (i + length xs) ys ≡ sets l i (xs ++ ys)
sets_join l i [] ys = rw add-zero refl
sets_join l i (x ∷ xs) ys =
    let e : i + suc (length xs) ≡ suc i + length xs = omega arith in
    rw e (sets_join (set l i x) (suc i) xs ys)

-- a run of stores from the front
sets_front : {A : Type 0} (text out : List A) → length text ≤ length out → sets out 0 text ≡ text ++ drop (length text) out
sets_front text out h =
    let e : 0 + length text ≡ length text = omega arith in
    rw e at (sets-eq text out 0 (omega arith))

-- the page with the first k fields on it
abbrev pub page_of : Description → List ℕ → ℕ → List ℕ
page_of d out k = sets out 0 (joined k (λ i. field_bytes (field_of d i)))

pub page_long : (d : Description) (out : List ℕ) (k : ℕ) (l : List ℕ) → l ≡ page_of d out k → length l ≡ length out
page_long d out k l e = ap length e ∙ length-sets out 0 (joined k (λ i. field_bytes (field_of d i)))

pub page_none : (d : Description) (out : List ℕ) → out ≡ page_of d out 0
unfolding joined
page_none d out = refl

pub page_more : (d : Description) (out : List ℕ) (k : ℕ) (l : List ℕ) (at : ℕ) (f : Field) → l ≡ page_of d out k → at ≡ offset d k → f ≡ field_of d k → sets l at (field_bytes f) ≡ page_of d out (k + 1)
page_more d out k l at f p q r =
    let s : List ℕ = joined k (λ i. field_bytes (field_of d i)) in
    let e : at ≡ 0 + length s = omega (arith, q) in
    rw (p, r, e, joined_more k (λ i. field_bytes (field_of d i))) (sets_join out 0 s (field_bytes (field_of d k)))

pub page_all : (d : Description) (out : List ℕ) (k : ℕ) (l : List ℕ) → l ≡ page_of d out k → k ≡ field_count d → length (file_of d) ≤ length out → l ≡ file_of d ++ drop (length (file_of d)) out
unfolding file_of
page_all d out k l p q h = rw q at p ∙ sets_front (file_of d) out h

-- a part of a buffer that is copied over
pub part_copied : (xs out part : List ℕ) (at n : ℕ) → length xs ≡ n → at + n ≤ length out → part ≡ xs → put_mid at (at + n - at) out part ≡ sets out at xs
part_copied xs out part at n l h e =
    let k : at + n - at ≡ n = omega arith in
    rw (k, e, ← l, drop-drop (length xs) at out, ← append_assoc) (sym (sets-eq xs out at (omega (arith, l))))
