-- One field of a description file: what is written is taken whole, and what is taken whole was written. Assumes nothing.
use Rattle.std.specs.Prelude.{Ok, Some}
use Prim.Native.Nat.{ℕ, zero, suc, ◌+◌, ◌*◌, ◌^◌, ◌≤◌, ◌<◌}
use mathlib.Core.Path.{◌≡◌, refl, sym, ap, subst, ◌∙◌}
use mathlib.Core.Bool.{Bool, true, false, ◌&&◌}
use mathlib.Core.List.{List, [], ◌∷◌, ◌++◌, append_assoc}
use native.Mathlib.Omega.{arith}
use native.Mathlib.Numerals.{add-one}
use native.Mathlib.Nat.{add-zero, add_assoc}
use lib.Dec.{leb, eqb}
use lib.ListN.{length, get_or, take, drop, length-append, get_or-eq_default}
use lib.Seq.{get_or-append-add, take-add, drop-drop, drop-cons}
use borrow.Author.Tests.{leb-true, leb-false, ltb-true, eqb-true, eqb-false}
use Rattle.model.specs.declared.Source.TheVariants.{Fixed, Paced, Swung}
use Rattle.model.specs.declared.Field.{Field}
use Rattle.model.specs.declared.Field.TheVariants.{OfTask, OfSource, OfLink}
use Rattle.model.specs.declared.Refusal.{Refusal}
use Rattle.model.specs.Header.{HeaderAt, Body, Faulty, Ended, bytes_of, number_in, is_tag, length_fits, header_at}
use Rattle.model.specs.Field.{Whole, Broken, End, tag_of, body_length, body_of, field_bytes, field_tags, field_in, taken_by, take_field}
use Rattle.lemmas.proofs.Tests.{within}
pub use Rattle.model.specs.File.{SourceFits}
use Rattle.theory.proofs.HeaderLaws.{header_whole, header_headed, header_end}
use Rattle.theory.proofs.NumberBytes.{Bytes, length-bytes_of, number_bytes, number_fits, bytes_number, number_same}

-- the numbers of a field fit the widths that its body has for them
abbrev pub FieldFits : Field → Type 0
FieldFits (OfTask e) = e < 2 ^ 32
FieldFits (OfSource s) = SourceFits s
FieldFits (OfLink l) = Unit {0}

pub length-body : (f : Field) → length (body_of f) ≡ body_length f
unfolding body_of
length-body (OfTask e) = length-bytes_of 4 e
length-body (OfSource (Fixed m)) = length-bytes_of 4 m
length-body (OfSource (Paced p)) = length-bytes_of 2 p
length-body (OfSource (Swung p swing)) = length-append (bytes_of 2 p) (swing ∷ []) ∙ ap (λ (x : ℕ). x + 1) (length-bytes_of 2 p)
length-body (OfLink l) = refl

pub length-field : (f : Field) → length (field_bytes f) ≡ 3 + body_length f
unfolding field_bytes
length-field f =
    let e = length-append (bytes_of 2 (body_length f)) (body_of f) in
    let b = length-body f in
    let h = length-bytes_of 2 (body_length f) in
    omega arith

-- a field's length is one of its tag's
length-fits : (f : Field) → length_fits field_tags (tag_of f) (body_length f) ≡ true
length-fits (OfTask e) = refl
length-fits (OfSource (Fixed m)) = refl
length-fits (OfSource (Paced p)) = refl
length-fits (OfSource (Swung p swing)) = refl
length-fits (OfLink l) = refl

pub tag_some : (f : Field) → 1 ≤ tag_of f
tag_some (OfTask e) = omega arith
tag_some (OfSource (Fixed m)) = omega arith
tag_some (OfSource (Paced p)) = omega arith
tag_some (OfSource (Swung p swing)) = omega arith
tag_some (OfLink l) = omega arith

pub tag_most : (f : Field) → tag_of f ≤ 4
tag_most (OfTask e) = omega arith
tag_most (OfSource (Fixed m)) = omega arith
tag_most (OfSource (Paced p)) = omega arith
tag_most (OfSource (Swung p swing)) = omega arith
tag_most (OfLink l) = omega arith

-- the table has the tags 1 to 4, and no other
tag_in : (t : ℕ) → 1 ≤ t → t ≤ 4 → is_tag field_tags t ≡ true
tag_in zero lo hi = absurd (omega arith)
tag_in (suc zero) lo hi = refl
tag_in (suc (suc zero)) lo hi = refl
tag_in (suc (suc (suc zero))) lo hi = refl
tag_in (suc (suc (suc (suc zero)))) lo hi = refl
tag_in (suc (suc (suc (suc (suc t))))) lo hi = absurd (omega arith)

pub tag_range : (t : ℕ) → is_tag field_tags t ≡ true → (1 ≤ t) × (t ≤ 4)
tag_range zero e = absurd (omega (arith, ltb-true 0 0 e))
tag_range (suc t) e = (omega arith, go (leb t 3) refl)
  where
    go : (b : Bool) → leb t 3 ≡ b → suc t ≤ 4
    go true q = omega (arith, leb-true t 3 q)
    go false q =
        let past : 10 ≤ 2 * suc t + 1 = omega (arith, leb-false t 3 q) in
        absurd (omega (arith, ltb-true 0 (get_or field_tags (2 * suc t + 1) 0) e, get_or-eq_default field_tags 0 past))

-- a field that passes the four tests is taken
pub take_whole : (s : List ℕ) (at tag n : ℕ) → get_or s at 0 ≡ tag → 1 ≤ tag → tag ≤ 4 → number_in s (at + 1) 2 ≡ n → length_fits field_tags tag n ≡ true → at + 3 + n ≤ length s → take_field s at ≡ Whole (field_in s tag (at + 3) n) (at + 3 + n)
unfolding take_field
take_whole s at tag n e lo hi size right fits = ap (taken_by s) (header_whole field_tags s at tag n e (tag_in tag lo hi) size right fits)

-- reading past what stands before
number_shift : (pre ys : List ℕ) (b n : ℕ) → number_in (pre ++ ys) (length pre + b) n ≡ number_in ys b n
number_shift pre ys b n = number_same (pre ++ ys) ys (length pre + b) b n (λ i p. rw (add_assoc (length pre) b i) (get_or-append-add pre ys (b + i) 0))

field_shift : (pre ys : List ℕ) (tag b n : ℕ) → field_in (pre ++ ys) tag (length pre + b) n ≡ field_in ys tag b n
unfolding field_in
field_shift pre ys tag b n =
    rw (number_shift pre ys b 4, number_shift pre ys b 2, add_assoc (length pre) b 1, add_assoc (length pre) b 2, get_or-append-add pre ys b 0, get_or-append-add pre ys (b + 1) 0, get_or-append-add pre ys (b + 2) 0)

-- the body of a written field reads back
body_back : (f : Field) (rest : List ℕ) → FieldFits f → field_in (field_bytes f ++ rest) (tag_of f) 3 (body_length f) ≡ f
unfolding field_in field_bytes body_of bytes_of
body_back (OfTask e) rest h = ap (λ (x : ℕ). OfTask x) (number_bytes 4 e (1 ∷ 0 ∷ 4 ∷ []) rest h)
body_back (OfSource (Fixed m)) rest h = ap (λ (x : ℕ). OfSource (Fixed x)) (number_bytes 4 m (2 ∷ 0 ∷ 4 ∷ []) rest h)
body_back (OfSource (Paced p)) rest h = ap (λ (x : ℕ). OfSource (Paced x)) (number_bytes 2 p (3 ∷ 0 ∷ 2 ∷ []) rest h)
body_back (OfSource (Swung p swing)) rest h = ap (λ (x : ℕ). OfSource (Swung x swing)) (number_bytes 2 p (3 ∷ 0 ∷ 3 ∷ []) (swing ∷ rest) h)
body_back (OfLink l) rest h = refl

pub body_most : (f : Field) → body_length f ≤ 4
body_most (OfTask e) = omega arith
body_most (OfSource (Fixed m)) = omega arith
body_most (OfSource (Paced p)) = omega arith
body_most (OfSource (Swung p swing)) = omega arith
body_most (OfLink l) = omega arith

header_back : (f : Field) (rest : List ℕ) → number_in (field_bytes f ++ rest) 1 2 ≡ body_length f
unfolding field_bytes
header_back f rest =
    rw (append_assoc (bytes_of 2 (body_length f)) (body_of f) rest)
    (number_bytes 2 (body_length f) (tag_of f ∷ []) (body_of f ++ rest) (omega (arith, body_most f)))

tag_back : (f : Field) (rest : List ℕ) → get_or (field_bytes f ++ rest) 0 0 ≡ tag_of f
unfolding field_bytes
tag_back f rest = refl

-- a written field is taken whole, wherever it stands
pub take-written : (pre : List ℕ) (f : Field) (rest : List ℕ) → FieldFits f → take_field (pre ++ (field_bytes f ++ rest)) (length pre) ≡ Whole f (length pre + length (field_bytes f))
take-written pre f rest h =
    let s : List ℕ = pre ++ (field_bytes f ++ rest) in
    let g : get_or s (length pre) 0 ≡ tag_of f = rw add-zero at (get_or-append-add pre (field_bytes f ++ rest) 0 0 ∙ tag_back f rest) in
    let n : number_in s (length pre + 1) 2 ≡ body_length f = number_shift pre (field_bytes f ++ rest) 1 2 ∙ header_back f rest in
    let l : length pre + 3 + body_length f ≤ length s = omega (arith, length-append pre (field_bytes f ++ rest), length-append (field_bytes f) rest, length-field f) in
    let e : length pre + length (field_bytes f) ≡ length pre + 3 + body_length f = omega (arith, length-field f) in
    rw (e, take_whole s (length pre) (tag_of f) (body_length f) g (tag_some f) (tag_most f) n (length-fits f) l, field_shift pre (field_bytes f ++ rest) (tag_of f) 3 (body_length f), body_back f rest h)

-- what is known of a field that was taken whole
pub record Took (s : List ℕ) (at : ℕ) (f : Field) (next : ℕ) : Type 0 where
  pub tag_low : 1 ≤ get_or s at 0
  pub tag_high : get_or s at 0 ≤ 4
  pub header : length_fits field_tags (get_or s at 0) (number_in s (at + 1) 2) ≡ true
  pub inside : at + 3 + number_in s (at + 1) 2 ≤ length s
  pub is : field_in s (get_or s at 0) (at + 3) (number_in s (at + 1) 2) ≡ f
  pub ends : next ≡ at + 3 + number_in s (at + 1) 2

broken_whole : {r : Refusal} {f : Field} {n : ℕ} → Broken r ≡ Whole f n → ⊥
broken_whole q = let z : ◌≡◌ {A = ℕ} 0 1 = cc in omega arith

end_whole : {f : Field} {n : ℕ} → End ≡ Whole f n → ⊥
end_whole q = let z : ◌≡◌ {A = ℕ} 0 1 = cc in omega arith

pub take-took : (s : List ℕ) (at : ℕ) (f : Field) (next : ℕ) → take_field s at ≡ Whole f next → Took s at f next
unfolding take_field
take-took s at f next e = go (header_at field_tags s at) refl e
  where
    go : (h : HeaderAt) → header_at field_tags s at ≡ h → taken_by s h ≡ Whole f next → Took s at f next
    go (Ok (Some h)) q w =
        let k = header_headed field_tags s at h.tag h.at h.size q in
        let r = tag_range h.tag k.known in
        record {
          tag_low = rw k.tag_is r.0;
          tag_high = rw k.tag_is r.1;
          header = rw (k.tag_is, k.size_is) k.right;
          inside = omega (arith, k.begins, k.size_is, k.inside);
          is = rw (k.tag_is, k.size_is, k.begins) cc;
          ends = rw (k.size_is, k.begins) cc;
        }
    go (Faulty r) q w = absurd (broken_whole w)
    go Ended q w = absurd (end_whole w)

-- only past the last byte is there no field
broken_end : {r : Refusal} → Broken r ≡ End → ⊥
broken_end q = let z : ◌≡◌ {A = ℕ} 0 1 = cc in omega arith

whole_end : {f : Field} {n : ℕ} → Whole f n ≡ End → ⊥
whole_end q = let z : ◌≡◌ {A = ℕ} 0 1 = cc in omega arith

pub take-end : (s : List ℕ) (at : ℕ) → take_field s at ≡ End → length s ≤ at
unfolding take_field
take-end s at e = go (header_at field_tags s at) refl e
  where
    go : (h : HeaderAt) → header_at field_tags s at ≡ h → taken_by s h ≡ End → length s ≤ at
    go (Ok (Some h)) q w = absurd (whole_end w)
    go (Faulty r) q w = absurd (broken_end w)
    go Ended q w = header_end field_tags s at q

-- a tag from 1 to 4 and a length of its own
by_length : (P : ℕ → Type 0) (n m : ℕ) → (leb m n && leb n m) ≡ true → P m → P n
by_length P n m e x = let l : n ≡ m = omega (arith, within m n m e) in subst P (sym l) x

pub by_form : (P : ℕ → ℕ → Type 0) (t n : ℕ) → 1 ≤ t → t ≤ 4 → length_fits field_tags t n ≡ true → P 1 4 → P 2 4 → P 3 2 → P 3 3 → P 4 3 → P t n
by_form P zero n lo hi e a b c d f = absurd (omega arith)
by_form P (suc zero) n lo hi e a b c d f = by_length (P 1) n 4 e a
by_form P (suc (suc zero)) n lo hi e a b c d f = by_length (P 2) n 4 e b
by_form P (suc (suc (suc zero))) n lo hi e a b c d f = go (eqb n 2) refl
  where
    go : (x : Bool) → eqb n 2 ≡ x → P 3 n
    go true q = subst (P 3) (sym (eqb-true n 2 q)) c
    go false q = let l : n ≡ 3 = omega (arith, within 2 n 3 e, eqb-false n 2 q) in subst (P 3) (sym l) d
by_form P (suc (suc (suc (suc zero)))) n lo hi e a b c d f = by_length (P 4) n 3 e f
by_form P (suc (suc (suc (suc (suc t))))) n lo hi e a b c d f = absurd (omega arith)

-- the field of a tag has that tag, the length and the body that were read
tag_of-field : (s : List ℕ) (b t n : ℕ) → 1 ≤ t → t ≤ 4 → length_fits field_tags t n ≡ true → tag_of (field_in s t b n) ≡ t
unfolding field_in
tag_of-field s b t n lo hi e = by_form (λ x y. tag_of (field_in s x b y) ≡ x) t n lo hi e refl refl refl refl refl

length-of_field : (s : List ℕ) (b t n : ℕ) → 1 ≤ t → t ≤ 4 → length_fits field_tags t n ≡ true → body_length (field_in s t b n) ≡ n
unfolding field_in
length-of_field s b t n lo hi e = by_form (λ x y. body_length (field_in s x b y) ≡ y) t n lo hi e refl refl refl refl refl

drop-one : (s : List ℕ) (b : ℕ) → b < length s → drop b s ≡ get_or s b 0 ∷ drop (b + 1) s
drop-one s b h = drop-cons s b 0 h ∙ ap (λ (x : ℕ). get_or s b 0 ∷ drop x s) (sym (add-one b))

three : (s : List ℕ) (b : ℕ) → b + 3 ≤ length s → get_or s b 0 ∷ get_or s (b + 1) 0 ∷ get_or s (b + 2) 0 ∷ [] ≡ take 3 (drop b s)
three s b h =
    rw
    (drop-one s b (omega arith), drop-one s (b + 1) (omega arith), add_assoc b 1 1, drop-one s (b + 2) (omega arith))

-- two bytes as a number, and the one after them
two_and_one : (s : List ℕ) (b : ℕ) → Bytes s → b + 3 ≤ length s → bytes_of 2 (number_in s b 2) ++ (get_or s (b + 2) 0 ∷ []) ≡ take 3 (drop b s)
two_and_one s b h l = rw (bytes_number s b 2 h (omega arith)) (pair ∙ three s b l)
  where
    pair : take 2 (drop b s) ++ (get_or s (b + 2) 0 ∷ []) ≡ get_or s b 0 ∷ get_or s (b + 1) 0 ∷ get_or s (b + 2) 0 ∷ []
    pair = rw (drop-one s b (omega arith), drop-one s (b + 1) (omega arith))

body_of-field : (s : List ℕ) (b t n : ℕ) → Bytes s → 1 ≤ t → t ≤ 4 → length_fits field_tags t n ≡ true → b + n ≤ length s → body_of (field_in s t b n) ≡ take n (drop b s)
unfolding field_in body_of
body_of-field s b t n h lo hi e = by_form (λ x y. b + y ≤ length s → body_of (field_in s x b y) ≡ take y (drop b s)) t n lo hi e
    (λ l. bytes_number s b 4 h l)
    (λ l. bytes_number s b 4 h l)
    (λ l. bytes_number s b 2 h l)
    (λ l. two_and_one s b h l)
    (λ l. three s b l)

fits_of_field : (s : List ℕ) (b t n : ℕ) → Bytes s → 1 ≤ t → t ≤ 4 → length_fits field_tags t n ≡ true → FieldFits (field_in s t b n)
unfolding field_in
fits_of_field s b t n h lo hi e = by_form (λ x y. FieldFits (field_in s x b y)) t n lo hi e (number_fits s b 4 h) (number_fits s b 4 h) (number_fits s b 2 h) (number_fits s b 2 h) tt

pub took_fits : {s : List ℕ} {at : ℕ} {f : Field} {next : ℕ} → Bytes s → Took s at f next → FieldFits f
took_fits {s} {at} {f} h k = rw k.is at (fits_of_field s (at + 3) (get_or s at 0) (number_in s (at + 1) 2) h k.tag_low k.tag_high k.header)

pub took_tag : {s : List ℕ} {at : ℕ} {f : Field} {next : ℕ} → Took s at f next → tag_of f ≡ get_or s at 0
took_tag {s} {at} {f} k = rw k.is at (tag_of-field s (at + 3) (get_or s at 0) (number_in s (at + 1) 2) k.tag_low k.tag_high k.header)

took_size : {s : List ℕ} {at : ℕ} {f : Field} {next : ℕ} → Took s at f next → body_length f ≡ number_in s (at + 1) 2
took_size {s} {at} {f} k = rw k.is at (length-of_field s (at + 3) (get_or s at 0) (number_in s (at + 1) 2) k.tag_low k.tag_high k.header)

pub took_length : {s : List ℕ} {at : ℕ} {f : Field} {next : ℕ} → Took s at f next → next ≡ at + length (field_bytes f)
took_length {s} {at} {f} {next} k = rw (k.ends, length-field f, took_size k) (omega arith)

pub took_inside : {s : List ℕ} {at : ℕ} {f : Field} {next : ℕ} → Took s at f next → next ≤ length s
took_inside k = omega (arith, k.ends, k.inside)

-- a field that was taken whole is the next bytes
pub took_bytes : {s : List ℕ} {at : ℕ} {f : Field} {next : ℕ} → Bytes s → Took s at f next → take next s ≡ take at s ++ field_bytes f
unfolding field_bytes
took_bytes {s} {at} {f} {next} h k =
    let n : ℕ = number_in s (at + 1) 2 in
    let b : body_of f ≡ take n (drop (at + 3) s) = rw k.is at (body_of-field s (at + 3) (get_or s at 0) n h k.tag_low k.tag_high k.header (omega (arith, k.inside))) in
    let z : bytes_of 2 n ≡ take 2 (drop (at + 1) s) = bytes_number s (at + 1) 2 h (omega (arith, k.inside)) in
    let e : next ≡ at + suc (2 + n) = omega (arith, k.ends) in
    let e1 : suc at ≡ at + 1 = omega arith in
    let e3 : at + 1 + 2 ≡ at + 3 = omega arith in
    rw (e, took_tag k, took_size k, b, z, take-add at (suc (2 + n)) s, drop-cons s at 0 (omega (arith, k.inside)), e1, take-add 2 n (drop (at + 1) s), drop-drop 2 (at + 1) s, e3)
