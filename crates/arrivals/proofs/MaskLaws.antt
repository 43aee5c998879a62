-- Masks of arrivals, bit by bit, as a loop over the bits that are set goes through them. Assumes nothing.
use Prim.Native.Nat.{ℕ, ◌+◌, ◌-◌, ◌/◌, ◌^◌, ◌≤◌, ◌<◌}
use mathlib.Core.Path.{◌≡◌, refl, sym, ap, subst, ◌∙◌}
use mathlib.Core.Bool.{Bool, true, false, ◌||◌, ◌&&◌}
use native.Mathlib.Omega.{arith}
use native.Mathlib.Nat.{div-div-eq-div-mul, div-eq_of_lt, zero-div, add-sub_of_le}
use lib.Pow.{pow-add}
use lib.ListN.{get_or}
use lib.Dec.{leb, ltb}
use borrow.Author.Tests.{le-leb, leb-true, lt-ltb, ltb-true}
use Rattle.model.specs.Basics.{any_n}
use Rattle.lemmas.proofs.Tests.{Cmp, less, same, more, cmp, not_both, false_of, same_test, and_left, and_right, both, or_left, or_right, or_cases}
use Rattle.lemmas.proofs.Range.{any_at, any_found}
use Rattle.lemmas.proofs.Table.{get_d_tab}
use Rattle.sets.specs.Sets.{member, FirstIn, RestOf}
use Rattle.sets.proofs.SetLaws.{member_none}
use Rattle.model.specs.Run.{heard, marks_in}
use Rattle.arrivals.specs.Parts.{Sourced}
use Rattle.lemmas.proofs.Bools.{and_on}

-- a mask with nothing left above the first s bits has no bit there
pub none_above : (mask s k : ℕ) → mask / 2 ^ s ≡ 0 → s ≤ k → heard mask k ≡ false
none_above mask s k e h =
    let q : mask / 2 ^ k ≡ 0 = ap (λ n. mask / 2 ^ n) (sym (add-sub_of_le h)) ∙ rw pow-add (sym (div-div-eq-div-mul mask (2 ^ s) (2 ^ (k - s))) ∙ ap (λ x. x / 2 ^ (k - s)) e ∙ zero-div (2 ^ (k - s))) in
    rw q refl

pub mark_in : (mask k : ℕ) → k < 16 → get_or (marks_in mask) k false ≡ heard mask k
unfolding marks_in
mark_in mask k h = get_d_tab 16 (heard mask) false k h

pub heard_under : (mask s k : ℕ) → mask / 2 ^ s ≡ 0 → heard mask k ≡ true → k < s
heard_under mask s k q e = go (cmp k s)
  where
    far : s ≤ k → ⊥
    far p = not_both e (none_above mask s k q p)

    go : Cmp k s → k < s
    go (less p) = p
    go (same p) = absurd (far (omega arith))
    go (more p) = absurd (far (omega arith))

-- what is left of a mask has its members from r on
abbrev pub Rest : ℕ → ℕ → ℕ → Type 0
Rest mask r rest = (j : ℕ) → member rest j ≡ (heard mask j && leb r j)

pub rest_all : (mask : ℕ) → Rest mask 0 mask
unfolding member
rest_all mask j = sym (and_on (heard mask j) (leb 0 j) (le-leb 0 j (omega arith)))

-- nothing is left: no member from r on
rest_none : (mask r rest : ℕ) → Rest mask r rest → rest ≡ 0 → (u : ℕ) → r ≤ u → heard mask u ≡ false
rest_none mask r rest h e u p = false_of (heard mask u) (λ q. not_both (h u ∙ both (heard mask u) (leb r u) q (le-leb r u p)) (ap (λ s. member s u) e ∙ member_none u))

pub rest_under : (mask r rest : ℕ) → Rest mask r rest → rest ≡ 0 → (u : ℕ) → heard mask u ≡ true → u < r
rest_under mask r rest h e u q = go (cmp u r)
  where
    go : Cmp u r → u < r
    go (less p) = p
    go (same p) = absurd (not_both q (rest_none mask r rest h e u (omega arith)))
    go (more p) = absurd (not_both q (rest_none mask r rest h e u (omega arith)))

-- the least of what is left is u, and what it leaves
pub record Turn (mask r u rest' : ℕ) : Type 0 where
  pub within : u < 16
  pub from : r ≤ u
  pub here : heard mask u ≡ true
  pub between : (v : ℕ) → r ≤ v → v < u → heard mask v ≡ false
  pub after : Rest mask (u + 1) rest'

pub turn : (mask r rest u rest' : ℕ) → Sourced mask → Rest mask r rest → FirstIn rest u → RestOf rest rest' → Turn mask r u rest'
turn mask r rest u rest' w h f q =
    let e : (heard mask u && leb r u) ≡ true = sym (h u) ∙ f.in_set in
    let on : heard mask u ≡ true = and_left (heard mask u) (leb r u) e in
    let low : r ≤ u = leb-true r u (and_right (heard mask u) (leb r u) e) in
    record {
      within = w u on;
      from = low;
      here = on;
      between = λ v a b. false_of (heard mask v) (λ z. not_both (h v ∙ both (heard mask v) (leb r v) z (le-leb r v a)) (f.none_before v b));
      after = λ j. q.later u f j ∙ ap (λ b. b && ltb u j) (h j) ∙ same_test ((heard mask j && leb r j) && ltb u j) (heard mask j && leb (u + 1) j) (λ z. let y = and_left (heard mask j && leb r j) (ltb u j) z in both (heard mask j) (leb (u + 1) j) (and_left (heard mask j) (leb r j) y) (le-leb (u + 1) j (omega (arith, ltb-true u j (and_right (heard mask j && leb r j) (ltb u j) z))))) (λ z. let y : u + 1 ≤ j = leb-true (u + 1) j (and_right (heard mask j) (leb (u + 1) j) z) in both (heard mask j && leb r j) (ltb u j) (both (heard mask j) (leb r j) (and_left (heard mask j) (leb (u + 1) j) z) (le-leb r j (omega arith))) (lt-ltb u j (omega arith)));
    }

-- it is in the mask, and is the number of a source
pub here : (mask r rest u : ℕ) → Rest mask r rest → FirstIn rest u → heard mask u ≡ true
here mask r rest u h f = and_left (heard mask u) (leb r u) (sym (h u) ∙ f.in_set)

pub least : (mask r rest u : ℕ) → Sourced mask → Rest mask r rest → FirstIn rest u → u < 16
least mask r rest u w h f = w u (here mask r rest u h f)

-- so that what holds of the members below r, and of u, holds of all up to it
pub passed : (P : ℕ → Type 0) (mask r u rest' : ℕ) → Turn mask r u rest' → ((v : ℕ) → v < r → heard mask v ≡ true → P v) → P u → (v : ℕ) → v < u + 1 → heard mask v ≡ true → P v
passed P mask r u rest' T low this v h e = go (cmp v u) (cmp v r)
  where
    go : Cmp v u → Cmp v r → P v
    go (less p) (less q) = low v q e
    go (less p) (same q) = absurd (not_both e (T.between v (omega arith) p))
    go (less p) (more q) = absurd (not_both e (T.between v (omega arith) p))
    go (same p) q = subst P (sym p) this
    go (more p) q = absurd (omega arith)

-- and what some member up to it passes, some member below r or u passes
pub any_turn : (f : ℕ → Bool) (mask r u rest' : ℕ) → Turn mask r u rest' → any_n (λ v. heard mask v && f v) 0 (u + 1) ≡ (any_n (λ v. heard mask v && f v) 0 r || f u)
any_turn f mask r u rest' T = same_test (any_n p 0 (u + 1)) (any_n p 0 r || f u) to back
  where
    p : ℕ → Bool
    p v = heard mask v && f v

    to : any_n p 0 (u + 1) ≡ true → (any_n p 0 r || f u) ≡ true
    to e =
        let z = any_found p 0 (u + 1) e in
        passed (λ v. f v ≡ true → (any_n p 0 r || f u) ≡ true) mask r u rest' T (λ v h on y. or_left (any_n p 0 r) (f u) (any_at p 0 r v (omega arith) (omega arith) (both (heard mask v) (f v) on y))) (λ y. or_right (any_n p 0 r) (f u) y) z.at (omega (arith, z.within)) (and_left (heard mask z.at) (f z.at) z.passes) (and_right (heard mask z.at) (f z.at) z.passes)

    back : (any_n p 0 r || f u) ≡ true → any_n p 0 (u + 1) ≡ true
    back e =
        or_cases (any_n p 0 r) (f u) e (λ q. let z = any_found p 0 r q in any_at p 0 (u + 1) z.at (omega arith) (omega (arith, z.within, T.from)) z.passes) (λ q. any_at p 0 (u + 1) u (omega arith) (omega arith) (both (heard mask u) (f u) T.here q))

-- a mask of 16 bits
pub sourced : (mask : ℕ) → mask < 2 ^ 16 → Sourced mask
sourced mask w u e = heard_under mask 16 u (div-eq_of_lt w) e
