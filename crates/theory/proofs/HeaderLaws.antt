-- The header at a reading place, by any table of tags: when it is whole, what is known of it then, and that bytes before the place do not matter. Assumes
-- nothing.
use Rattle.std.specs.Prelude.{Ok, Err, Some, None}
use Prim.Native.Nat.{ℕ, ◌+◌, ◌-◌, ◌≤◌}
use mathlib.Core.Path.{◌≡◌, refl, sym, ap, ◌∙◌}
use mathlib.Core.Bool.{Bool, true, false, cond, not}
use mathlib.Core.List.{List}
use native.Mathlib.Omega.{arith}
use lib.Dec.{leb, ltb}
use lib.ListN.{length, get_or, drop, length-drop}
use lib.Seq.{get_or-drop}
use borrow.Author.Tests.{le-leb, lt-leb, le-ltb, leb-true, leb-false, ltb-false, not-false}
use Rattle.model.specs.declared.Refusal.{Refusal}
use Rattle.model.specs.declared.Refusal.TheVariants.{CutShort, StrangeTag, WrongLength}
use Rattle.model.specs.Header.{HeaderAt, Body, Faulty, Ended, number_in, is_tag, length_fits, header_at}
use Rattle.lemmas.proofs.Tests.{same_test}
use Rattle.theory.proofs.NumberBytes.{number_left}

-- a header that passes the four tests is whole
pub header_whole : (tags s : List ℕ) (at tag n : ℕ) → get_or s at 0 ≡ tag → is_tag tags tag ≡ true → number_in s (at + 1) 2 ≡ n → length_fits tags tag n ≡ true → at + 3 + n ≤ length s → header_at tags s at ≡ Body tag (at + 3) n
unfolding header_at
header_whole tags s at tag n e known size right fits =
    rw (e, size, lt-leb (length s) at (omega arith), le-ltb (length s - at) 3 (omega arith), known, right, le-ltb (length s - at - 3) n (omega arith))

-- what is known of a whole header
pub record Headed (tags s : List ℕ) (at tag b n : ℕ) : Type 0 where
  pub tag_is : get_or s at 0 ≡ tag
  pub begins : at + 3 ≡ b
  pub size_is : number_in s (at + 1) 2 ≡ n
  pub known : is_tag tags tag ≡ true
  pub right : length_fits tags tag n ≡ true
  pub inside : b + n ≤ length s

cond-else : {A : Type 0} (b : Bool) (x y z : A) → cond b x y ≡ z → (x ≡ z → ⊥) → (b ≡ false) × (y ≡ z)
cond-else true x y z e n = absurd (n e)
cond-else false x y z e n = (refl, e)

faulty_body : {r : Refusal} {tag b n : ℕ} → Faulty r ≡ Body tag b n → ⊥
faulty_body q = let z : ◌≡◌ {A = ℕ} 0 1 = cc in omega arith

ended_body : {tag b n : ℕ} → Ended ≡ Body tag b n → ⊥
ended_body q = let z : ◌≡◌ {A = ℕ} 0 1 = cc in omega arith

-- the numbers of a header
abbrev tag_in : HeaderAt → ℕ
tag_in (Ok (Some h)) = h.tag
tag_in (Ok None) = 0
tag_in (Err r) = 0

abbrev start_in : HeaderAt → ℕ
start_in (Ok (Some h)) = h.at
start_in (Ok None) = 0
start_in (Err r) = 0

abbrev size_in : HeaderAt → ℕ
size_in (Ok (Some h)) = h.size
size_in (Ok None) = 0
size_in (Err r) = 0

pub header_headed : (tags s : List ℕ) (at tag b n : ℕ) → header_at tags s at ≡ Body tag b n → Headed tags s at tag b n
unfolding header_at
header_headed tags s at tag b n e =
    let z : HeaderAt = Body tag b n in
    let a1 = cond-else (leb (length s) at) _ _ z e ended_body in
    let a2 = cond-else (ltb (length s - at) 3) _ _ z a1.1 faulty_body in
    let a3 = cond-else (not (is_tag tags (get_or s at 0))) _ _ z a2.1 faulty_body in
    let a4 = cond-else (not (length_fits tags (get_or s at 0) (number_in s (at + 1) 2))) _ _ z a3.1 faulty_body in
    let a5 = cond-else (ltb (length s - at - 3) (number_in s (at + 1) 2)) _ _ z a4.1 faulty_body in
    let q : Body (get_or s at 0) (at + 3) (number_in s (at + 1) 2) ≡ Body tag b n = a5.1 in
    let t : get_or s at 0 ≡ tag = ap tag_in q in
    let o : at + 3 ≡ b = ap start_in q in
    let l : number_in s (at + 1) 2 ≡ n = ap size_in q in
    let k : is_tag tags (get_or s at 0) ≡ true = not-false _ a3.0 in
    let r : length_fits tags (get_or s at 0) (number_in s (at + 1) 2) ≡ true = not-false _ a4.0 in
    let h1 = leb-false (length s) at a1.0 in
    let h2 = ltb-false (length s - at) 3 a2.0 in
    let h5 = ltb-false (length s - at - 3) (number_in s (at + 1) 2) a5.0 in
    record {
      tag_is = t;
      begins = o;
      size_is = l;
      known = rw t at k;
      right = rw (t, l) at r;
      inside = omega arith;
    }

-- only past the last byte is there no header
cond-not : {A : Type 0} (b : Bool) (x y z : A) → (x ≡ z → ⊥) → (y ≡ z → ⊥) → cond b x y ≡ z → ⊥
cond-not true x y z f g e = f e
cond-not false x y z f g e = g e

faulty_ended : {r : Refusal} → Faulty r ≡ Ended → ⊥
faulty_ended q = let z : ◌≡◌ {A = ℕ} 0 1 = cc in omega arith

body_ended : {tag b n : ℕ} → Body tag b n ≡ Ended → ⊥
body_ended q = let z : ◌≡◌ {A = ℕ} 0 1 = cc in omega arith

pub header_end : (tags s : List ℕ) (at : ℕ) → header_at tags s at ≡ Ended → length s ≤ at
unfolding header_at
header_end tags s at e = go (leb (length s) at) refl
  where
    go : (b : Bool) → leb (length s) at ≡ b → length s ≤ at
    go true q = leb-true (length s) at q
    go false q =
        absurd
        (cond-not (ltb (length s - at) 3) (Faulty CutShort) _ Ended faulty_ended
        (cond-not (not (is_tag tags (get_or s at 0))) (Faulty StrangeTag) _ Ended faulty_ended
        (cond-not (not (length_fits tags (get_or s at 0) (number_in s (at + 1) 2))) (Faulty WrongLength) _ Ended faulty_ended
        (cond-not (ltb (length s - at - 3) (number_in s (at + 1) 2)) (Faulty CutShort) _ Ended faulty_ended body_ended)))
        (rw q at e))

-- a header, with the offset of its body counted from a further on
abbrev pub onward : ℕ → HeaderAt → HeaderAt
onward a (Ok (Some h)) = Body h.tag (a + h.at) h.size
onward a (Faulty r) = Faulty r
onward a Ended = Ended

onward_tests : (a : ℕ) (b c d e g : Bool) (tag at n : ℕ) → cond b Ended (cond c (Faulty CutShort) (cond d (Faulty StrangeTag) (cond e (Faulty WrongLength) (cond g (Faulty CutShort) (Body tag (a + at) n))))) ≡ onward a (cond b Ended (cond c (Faulty CutShort) (cond d (Faulty StrangeTag) (cond e (Faulty WrongLength) (cond g (Faulty CutShort) (Body tag at n))))))
onward_tests a true c d e g tag at n = refl
onward_tests a false true d e g tag at n = refl
onward_tests a false false true e g tag at n = refl
onward_tests a false false false true g tag at n = refl
onward_tests a false false false false true tag at n = refl
onward_tests a false false false false false tag at n = refl

end_left : (s : List ℕ) (a k : ℕ) → leb (length s) (a + k) ≡ leb (length (drop a s)) k
end_left s a k =
    same_test (leb (length s) (a + k)) (leb (length (drop a s)) k)
    (λ e. le-leb (length (drop a s)) k (omega (arith, leb-true (length s) (a + k) e, length-drop a s)))
    (λ e. le-leb (length s) (a + k) (omega (arith, leb-true (length (drop a s)) k e, length-drop a s)))

-- the tests of a header in their order, over what they look at
unfoldable headed_by : List ℕ → Bool → ℕ → ℕ → ℕ → ℕ → HeaderAt
headed_by tags end left tag size at =
    cond end Ended
    (cond (ltb left 3) (Faulty CutShort)
    (cond (not (is_tag tags tag)) (Faulty StrangeTag)
    (cond (not (length_fits tags tag size)) (Faulty WrongLength)
    (cond (ltb (left - 3) size) (Faulty CutShort)
    (Body tag at size)))))

header_by : (tags s : List ℕ) (at : ℕ) → header_at tags s at ≡ headed_by tags (leb (length s) at) (length s - at) (get_or s at 0) (number_in s (at + 1) 2) (at + 3)
unfolding header_at headed_by
header_by tags s at = refl

headed_onward : (tags : List ℕ) (a : ℕ) (end : Bool) (left tag size at : ℕ) → headed_by tags end left tag size (a + at) ≡ onward a (headed_by tags end left tag size at)
unfolding headed_by
headed_onward tags a end left tag size at =
    onward_tests a end (ltb left 3) (not (is_tag tags tag)) (not (length_fits tags tag size)) (ltb (left - 3) size) tag at size

-- the header at a place is the one in the bytes that are left
pub header_left : (tags s : List ℕ) (a k : ℕ) → header_at tags s (a + k) ≡ onward a (header_at tags (drop a s) k)
header_left tags s a k =
    let left : length s - (a + k) ≡ length (drop a s) - k = omega (arith, length-drop a s) in
    let tag : get_or s (a + k) 0 ≡ get_or (drop a s) k 0 = sym (get_or-drop a s k 0) in
    let one : a + k + 1 ≡ a + (k + 1) = omega arith in
    let three : a + k + 3 ≡ a + (k + 3) = omega arith in
    let size : number_in s (a + k + 1) 2 ≡ number_in (drop a s) (k + 1) 2 = ap (λ (x : ℕ). number_in s x 2) one ∙ number_left s a (k + 1) 2 in
    header_by tags s (a + k) ∙ (λ i. headed_by tags (end_left s a k i) (left i) (tag i) (size i) (three i)) ∙ headed_onward tags a _ _ _ _ _ ∙ ap (onward a) (sym (header_by tags (drop a s) k))
