-- Steps of the backward walk over the sets of links, for every bound on its depth that is enough. Assumes nothing.
use Rattle.std.specs.Prelude.{Option, Some, None, is_some}
use Prim.Native.Nat.{ℕ, zero, suc, ◌+◌, ◌-◌, ◌/◌, ◌%◌, ◌^◌, ◌<◌, ◌≤◌}
use mathlib.Core.Path.{◌≡◌, refl, ap, sym, ◌∙◌}
use mathlib.Core.Bool.{Bool, true, false}
use mathlib.Core.List.{List, [], ◌∷◌}
use native.Mathlib.Omega.{arith}
use native.Mathlib.Numerals.{add-one}
use lib.ListN.{get_or, set, length}
use borrow.Author.Tests.{ne_eqb}
use Rattle.model.specs.declared.Walk.{Walk}
use Rattle.model.specs.Basics.{up_to}
use Rattle.model.specs.Order.{fail_at, meet, visit}
use Rattle.lemmas.proofs.Tests.{Cmp, less, same, more, cmp, not_both}
use Rattle.lemmas.proofs.Range.{up_to-more}
use Rattle.theory.proofs.Walk.{step_to, visit_source, visit_again, visit_low, visit_high, step_skip, step_into, step_stop, is_none_false, some_none}
use Rattle.sets.specs.Sets.{member, FirstIn}
use Rattle.sets.proofs.SetLaws.{member_none}
use Rattle.neighbourhoods.specs.Into.{link_into, into_system, unmet, VisitIs}
use Rattle.neighbourhoods.proofs.IntoLaws.{rest_node, rest_link}

pub unmet_le : (l : List Bool) (x : ℕ) → unmet (set l x true) ≤ unmet l
unfolding unmet
unmet_le [] x = omega arith
unmet_le (true ∷ l) zero = omega arith
unmet_le (false ∷ l) zero = omega arith
unmet_le (true ∷ l) (suc x) = unmet_le l x
unmet_le (false ∷ l) (suc x) = omega (arith, unmet_le l x)

pub unmet_falls : (l : List Bool) (x : ℕ) → x < length l → get_or l x false ≡ false → unmet (set l x true) < unmet l
unfolding unmet
unmet_falls [] x b e = absurd (omega arith)
unmet_falls (true ∷ l) zero b e = absurd (not_both refl e)
unmet_falls (false ∷ l) zero b e = omega arith
unmet_falls (true ∷ l) (suc x) b e = unmet_falls l x (omega arith) e
unmet_falls (false ∷ l) (suc x) b e = omega (arith, unmet_falls l x (omega arith) e)

-- whether a walk has failed
pub some_failed : {A : Type 0} (o : Option A) → is_some o ≡ true → o ≡ None → ⊥
some_failed None e f = not_both e refl
some_failed (Some x) e f = some_none f

pub none_failed : {A : Type 0} (o : Option A) → is_some o ≡ false → o ≡ None
none_failed None e = refl
none_failed (Some x) e = absurd (not_both refl e)

module _ (into : List ℕ) (j x : ℕ) (w : Walk) where
  pub visit_is_far : 32 < x → VisitIs into j x w (fail_at x w)
  visit_is_far p zero b = absurd (omega arith)
  visit_is_far p (suc f) b = sym (visit_source (into_system into) j f x w p)

  pub visit_is_again : x ≤ 32 → get_or w.met (x - 1) false ≡ true → VisitIs into j x w (fail_at x w)
  visit_is_again p e zero b = absurd (omega arith)
  visit_is_again p e (suc f) b = sym (visit_again (into_system into) j f x w p e)

  pub visit_is_low : x ≤ 32 → get_or w.met (x - 1) false ≡ false → x < j → VisitIs into j x w (meet x w)
  visit_is_low p e q zero b = absurd (omega arith)
  visit_is_low p e q (suc f) b = sym (visit_low (into_system into) j f x w p e q)

  pub visit_is_high : (r : Walk) → x ≤ 32 → get_or w.met (x - 1) false ≡ false → j ≤ x → ((f : ℕ) → unmet w.met ≤ f → r ≡ up_to 48 (step_to (into_system into) j f x) (meet x w)) → VisitIs into j x w r
  visit_is_high r p e q h zero b = absurd (omega arith)
  visit_is_high r p e q h (suc f) b = h f (omega arith) ∙ sym (visit_high (into_system into) j f x w p e q)

-- steps that change nothing
still : {A : Type 0} (step : ℕ → A → A) (a v : A) (m n : ℕ) → m ≤ n → v ≡ up_to m step a → ((k : ℕ) → m ≤ k → k < n → step k v ≡ v) → v ≡ up_to n step a
unfolding up_to
still step a v m zero p e h = let z : m ≡ 0 = omega arith in e ∙ ap (λ k. up_to k step a) z
still step a v m (suc n) p e h = go (cmp m (suc n)) (still step a v m n)
  where
    go : Cmp m (suc n) → (m ≤ n → v ≡ up_to m step a → ((k : ℕ) → m ≤ k → k < n → step k v ≡ v) → v ≡ up_to n step a) → v ≡ up_to (suc n) step a
    go (less q) ih = sym (h n (omega arith) (omega arith)) ∙ ap (λ u. step n u) (ih (omega arith) e (λ k x y. h k x (omega arith)))
    go (same q) ih = e ∙ ap (λ k. up_to k step a) q
    go (more q) ih = absurd (omega arith)

-- the loop over predecessors: v has passed the nodes up to r, and what is left of the set is shifted by r
module _ (into : List ℕ) (j x f r : ℕ) (a v : Walk) (e : v ≡ up_to r (step_to (into_system into) j f x) a) where
  -- nodes without a link are passed
  passed : (k : ℕ) → r + k ≤ 48 → ((i : ℕ) → i < k → member (get_or into (x - 1) 0 % 281474976710656 / 2 ^ r) i ≡ false) → v ≡ up_to (r + k) (step_to (into_system into) j f x) a
  passed k b h =
      still (step_to (into_system into) j f x) a v r (r + k) (omega arith) e
      (λ i p q. let z : i ≡ r + (i - r) = omega arith in step_skip (into_system into) j f x i v (ap (λ n. link_into into (suc n) x) z ∙ rest_link into x r (i - r) (omega arith) ∙ h (i - r) (omega arith)))

  pub turn_on : (k : ℕ) → v.failed ≡ None → FirstIn (get_or into (x - 1) 0 % 281474976710656 / 2 ^ r) k → visit f (into_system into) j (r + k + 1) v ≡ up_to (r + k + 1) (step_to (into_system into) j f x) a
  turn_on k z g =
      let b : r + k < 48 = rest_node (get_or into (x - 1) 0) r k g.in_set in
      ap (λ n. visit f (into_system into) j n v) (add-one (r + k))
      ∙ sym (step_into (into_system into) j f x (r + k) v (rest_link into x r k b ∙ g.in_set) z)
      ∙ ap (λ u. step_to (into_system into) j f x (r + k) u) (passed k (omega arith) g.none_before)
      ∙ sym (up_to-more (r + k) (step_to (into_system into) j f x) a)

  pub turn_none : r ≤ 48 → get_or into (x - 1) 0 % 281474976710656 / 2 ^ r ≡ 0 → v ≡ up_to 48 (step_to (into_system into) j f x) a
  turn_none b z =
      let n : r + (48 - r) ≡ 48 = omega arith in
      passed (48 - r) (omega arith) (λ i q. ap (λ s. member s i) z ∙ member_none i) ∙ ap (λ n. up_to n (step_to (into_system into) j f x) a) n

  -- a walk that has failed stays as it is
  pub turn_failed : r ≤ 48 → (v.failed ≡ None → ⊥) → v ≡ up_to 48 (step_to (into_system into) j f x) a
  turn_failed b n = still (step_to (into_system into) j f x) a v r 48 b e (λ i p q. step_stop (into_system into) j f x i v (is_none_false v.failed n))
