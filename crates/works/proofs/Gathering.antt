-- How the tasks that a node brings in are gathered, link by link. Assumes nothing.
use Prim.Native.Nat.{ℕ, ◌+◌, ◌-◌, ◌<◌, ◌≤◌}
use mathlib.Core.Path.{◌≡◌, refl, sym, ap, ◌∙◌}
use mathlib.Core.Bool.{Bool, true, false, ◌&&◌, ◌||◌}
use mathlib.Core.List.{List}
use native.Mathlib.Omega.{arith}
use lib.Dec.{ltb}
use borrow.Author.Tests.{ltb-true, lt-ltb}
use Rattle.lemmas.proofs.Tests.{Cmp, less, same, more as above, cmp, not_both, or_left, or_right, or_cases, and_left, and_right, and_false_left, both}
use Rattle.sets.specs.Sets.{member, FirstIn, RestOf}
use Rattle.sets.proofs.SetLaws.{member_none}
use Rattle.paths.specs.Paths.{Through}
use Rattle.paths.specs.Paths.Through.{one, more}
use Rattle.paths.specs.Rows.{link_by, row_of, NodeOf, TaskOf, Brought}
use Rattle.paths.proofs.Tabled.{link_is, link_inside}

-- a set that holds the tasks node i has links to, and what those of them that are not left bring in below themselves
pub record Gathered (succ : List ℕ) (n i left set : ℕ) : Type 0 where
  pub links : (k : ℕ) → member left k ≡ true → link_by succ n i (k + 1) ≡ true
  pub only : (j : ℕ) → TaskOf n j → member set (j - 1) ≡ true → Through (link_by succ n) j i j
  pub direct : (j : ℕ) → link_by succ n i j ≡ true → member set (j - 1) ≡ true
  pub passed : (k j : ℕ) → link_by succ n i k ≡ true → member left (k - 1) ≡ false → TaskOf n j → j < k → Through (link_by succ n) j k j → member set (j - 1) ≡ true

-- the task that a link ends at is a node
pub linked_node : (succ : List ℕ) (n : ℕ) → n ≤ 32 → (i k : ℕ) → link_by succ n i (k + 1) ≡ true → NodeOf (k + 1)
linked_node succ n few i k l = omega (arith, (link_inside succ n i (k + 1) l).1)

module _ (succ : List ℕ) (n i : ℕ) (N : NodeOf i) where
  -- all links are left
  pub gathered_none : (set : ℕ) → ((k : ℕ) → member set k ≡ (member (row_of succ i) k && ltb k n)) → Gathered succ n i set set
  gathered_none set e =
      record {
        links = λ k m. let q : k + 1 - 1 ≡ k = omega arith in link_is succ n i (k + 1) N (omega arith, omega (arith, inside k m)) ∙ rw q (row k m);
        only = λ j T m. one (link_is succ n i j N T ∙ row (j - 1) m);
        direct = direct;
        passed = λ k j l m T p t. absurd (not_both (direct k l) m);
      }
    where
      row : (k : ℕ) → member set k ≡ true → member (row_of succ i) k ≡ true
      row k m = and_left (member (row_of succ i) k) (ltb k n) (sym (e k) ∙ m)

      inside : (k : ℕ) → member set k ≡ true → k < n
      inside k m = ltb-true k n (and_right (member (row_of succ i) k) (ltb k n) (sym (e k) ∙ m))

      direct : (j : ℕ) → link_by succ n i j ≡ true → member set (j - 1) ≡ true
      direct j l =
          let T = (link_inside succ n i j l).1 in
          e (j - 1) ∙ both (member (row_of succ i) (j - 1)) (ltb (j - 1) n) (sym (link_is succ n i j N T) ∙ l) (lt-ltb (j - 1) n (omega (arith, T)))

  -- one link less is left
  pub gathered_more : (left left' set set' k low b : ℕ) → Gathered succ n i left set → FirstIn left k → RestOf left left' → Brought succ n (k + 1) b → ((j : ℕ) → member low j ≡ (member b j && ltb j k)) → ((j : ℕ) → member set' j ≡ (member set j || member low j)) → Gathered succ n i left' set'
  gathered_more left left' set set' k low b G F R B L U =
      record {
        links = λ m e. G.links m (kept m e);
        only = λ j T e. or_cases (member set (j - 1)) (member low (j - 1)) (sym (U (j - 1)) ∙ e) (G.only j T) (λ f. more (G.links k F.in_set) (omega (arith, T, under j f)) (B.only j T (and_left (member b (j - 1)) (ltb (j - 1) k) (sym (L (j - 1)) ∙ f))));
        direct = λ j l. held j (G.direct j l);
        passed = λ m j l e T p t. past m j l e T p t (member left (m - 1)) refl;
      }
    where
      kept : (m : ℕ) → member left' m ≡ true → member left m ≡ true
      kept m e = and_left (member left m) (ltb k m) (sym (R.later k F m) ∙ e)

      held : (j : ℕ) → member set (j - 1) ≡ true → member set' (j - 1) ≡ true
      held j e = U (j - 1) ∙ or_left (member set (j - 1)) (member low (j - 1)) e

      under : (j : ℕ) → member low (j - 1) ≡ true → j - 1 < k
      under j f = ltb-true (j - 1) k (and_right (member b (j - 1)) (ltb (j - 1) k) (sym (L (j - 1)) ∙ f))

      taken : (j : ℕ) → TaskOf n j → j < k + 1 → Through (link_by succ n) j (k + 1) j → member set' (j - 1) ≡ true
      taken j T p t =
          U (j - 1) ∙ or_right (member set (j - 1)) (member low (j - 1)) (L (j - 1) ∙ both (member b (j - 1)) (ltb (j - 1) k) (B.all j T t) (lt-ltb (j - 1) k (omega (arith, T))))

      past : (m j : ℕ) → link_by succ n i m ≡ true → member left' (m - 1) ≡ false → TaskOf n j → j < m → Through (link_by succ n) j m j → (c : Bool) → member left (m - 1) ≡ c → member set' (j - 1) ≡ true
      past m j l e T p t false f = held j (G.passed m j l f T p t)
      past m j l e T p t true f = go (cmp (m - 1) k)
        where
          go : Cmp (m - 1) k → member set' (j - 1) ≡ true
          go (less q) = absurd (not_both f (F.none_before (m - 1) q))
          go (same q) = let z : m ≡ k + 1 = omega arith in taken j T (omega arith) (rw z at t)
          go (above q) = absurd (not_both (R.later k F (m - 1) ∙ both (member left (m - 1)) (ltb k (m - 1)) f (lt-ltb k (m - 1) q)) e)

  -- no link is left
  pub gathered_all : (set : ℕ) → Gathered succ n i 0 set → Brought succ n i set
  gathered_all set G = record { only = G.only; all = all }
    where
      all : (j : ℕ) → TaskOf n j → Through (link_by succ n) j i j → member set (j - 1) ≡ true
      all j T (one e) = G.direct j e
      all j T (more {k = k} e p t) = G.passed k j e (member_none (k - 1)) T p t

  -- a node without a link brings nothing in
  pub brought_none : row_of succ i ≡ 0 → Brought succ n i 0
  brought_none e =
      gathered_all 0 (gathered_none 0 (λ k. member_none k ∙ sym (and_false_left (member (row_of succ i) k) (ltb k n) (ap (λ r. member r k) e ∙ member_none k))))
