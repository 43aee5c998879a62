-- The rules of the record, place by place. Assumes nothing.
use Prim.Native.Nat.{ℕ, zero, suc, ◌+◌, ◌-◌, ◌≤◌, ◌<◌}
use mathlib.Core.Path.{◌≡◌, refl, sym, ap, ◌∙◌}
use mathlib.Core.Bool.{Bool, true, false, ◌||◌, ◌&&◌, not, cond}
use mathlib.Core.List.{List}
use native.Mathlib.Omega.{arith}
use native.Mathlib.Decide.{dec_lt}
use native.Mathlib.Nat.{zero-add}
use lib.ListN.{length, get_or, drop, get_or-eq_default}
use lib.Dec.{ltb, leb, eqb}
use borrow.Author.Tests.{ltb-true, leb-true, le-leb, lt-ltb, not-true}
use Rattle.std.specs.List.{list_all, range_with_len}
use Rattle.model.specs.declared.Description.{Description}
use Rattle.model.specs.declared.Machine.{Machine}
use Rattle.model.specs.Basics.{sum_n, all_n, unset, given}
use Rattle.model.specs.Verdicts.{on_knob}
use Rattle.model.specs.Machine.{longest_gap, task_rule, link_rule, source_rule, again_rule, late_rule}
use Rattle.lemmas.proofs.Tests.{Cmp, less, same, more, cmp, same_test, both, and_left, and_right, and_false_left}
use Rattle.lemmas.proofs.Range.{all_at, all_of}
use Rattle.lemmas.proofs.Table.{unset_of, unset_at}
use Rattle.theory.proofs.Links.{to_most}
use Rattle.wiring.specs.declared.Wiring.{Wiring}
use Rattle.wiring.specs.Rows.{WiringOf}
use Rattle.spacings.specs.Gaps.{GapsOf}
use Rattle.rules.specs.Rules.{Enters}

-- tests of the numbers of a list, one after the other, as tests over a range
listed_all : (q : ℕ → Bool) (i n : ℕ) → list_all q (range_with_len i n) ≡ true → (k : ℕ) → i ≤ k → k < i + n → q k ≡ true
listed_all q i zero e k a b = absurd (omega arith)
listed_all q i (suc n) e k a b = go (cmp i k) (λ h. listed_all q (i + 1) n (and_right (q i) _ e) k h (omega arith))
  where
    go : Cmp i k → (i + 1 ≤ k → q k ≡ true) → q k ≡ true
    go (less h) later = later (omega arith)
    go (same h) later = ap q (sym h) ∙ and_left (q i) _ e
    go (more h) later = absurd (omega arith)

all_listed : (q : ℕ → Bool) (i n : ℕ) → ((k : ℕ) → i ≤ k → k < i + n → q k ≡ true) → list_all q (range_with_len i n) ≡ true
all_listed q i zero h = refl
all_listed q i (suc n) h = both (q i) _ (h i (omega arith) (omega arith)) (all_listed q (i + 1) n (λ k a b. h k (omega arith) (omega arith)))

pub all_range : (p q : ℕ → Bool) (a n : ℕ) → ((k : ℕ) → k < n → q k ≡ p (a + k)) → list_all q (range_with_len 0 n) ≡ all_n p a n
all_range p q a n h =
    same_test (list_all q (range_with_len 0 n)) (all_n p a n)
    (λ e. all_of p a n (λ k u v. let s : a + (k - a) ≡ k = omega arith in ap p (sym s) ∙ sym (h (k - a) (omega arith)) ∙ listed_all q 0 n e (k - a) (omega arith) (omega arith)))
    (λ e. all_listed q 0 n (λ k u v. h k (omega arith) ∙ all_at p a n e (a + k) (omega arith) (omega arith)))

-- nothing is set from a place on
pub absent_is : (n : ℕ) (marks : List Bool) → length marks ≡ 256 → list_all (λ l. not (get_or marks l false)) (range_with_len n (256 - n)) ≡ unset (drop n marks)
absent_is n marks z =
    same_test (list_all (λ l. not (get_or marks l false)) (range_with_len n (256 - n))) (unset (drop n marks))
    (λ e. unset_of n marks (λ k p. off e k p (dec_lt k 256)))
    (λ e. all_listed (λ l. not (get_or marks l false)) n (256 - n) (λ k a b. ap not (unset_at n marks e k a)))
  where
    off : list_all (λ l. not (get_or marks l false)) (range_with_len n (256 - n)) ≡ true → (k : ℕ) → n ≤ k → Dec (k < 256) → get_or marks k false ≡ false
    off e k p (yes q) = not-true (get_or marks k false) (listed_all (λ l. not (get_or marks l false)) n (256 - n) e k p (omega arith))
    off e k p (no q) = get_or-eq_default marks false {n = k} (omega arith)

-- a task's rule, by its place
pub task_is : (d : Description) (w : Wiring) (m : Machine) → WiringOf d w → (k : ℕ) → task_rule d m (1 + k) ≡ cond (ltb k w.tasks) (ltb (get_or m.used k 0) (get_or w.runs k 0) && (get_or m.awake k false || eqb (get_or m.used k 0) 0)) (not (get_or m.awake k false) && eqb (get_or m.used k 0) 0)
task_is d w m r k =
    let s : 1 + k - 1 ≡ k = omega arith in
    let f : leb (1 + k) w.tasks ≡ ltb k w.tasks = same_test (leb (1 + k) w.tasks) (ltb k w.tasks) (λ x. lt-ltb k w.tasks (omega (arith, leb-true (1 + k) w.tasks x))) (λ x. le-leb (1 + k) w.tasks (omega (arith, ltb-true k w.tasks x))) in
    rw (r.as_many, r.same_runs, s, f) refl

-- a link's rule
pub link_is : (d : Description) (w : Wiring) (m : Machine) → WiringOf d w → (l : ℕ) → l < w.links → link_rule d m (0 + l) ≡ (not (get_or m.waiting l false) || get_or m.awake (get_or w.to l 0 - 1) false)
link_is d w m r l h = rw (zero-add l, r.enters l h) refl

-- a source's rule
pub source_is : (d : Description) (w : Wiring) (m : Machine) (gaps : List ℕ) → WiringOf d w → GapsOf d 200 gaps → (u : ℕ) → source_rule d m (0 + u) ≡ cond (ltb u w.sources) (leb (get_or m.ages u 0) (get_or gaps u 0) && cond (eqb (get_or m.fastest u 0) 0) (eqb (get_or m.ages u 0) (get_or gaps u 0)) (on_knob (get_or m.fastest u 0))) (eqb (get_or m.ages u 0) 0 && eqb (get_or m.fastest u 0) 0)
source_is d w m gaps r g u = rw (zero-add u, ← r.as_wide) (go (ltb u d.source_count) refl)
  where
    here : ℕ → Bool
    here gap = leb (get_or m.ages u 0) gap && cond (eqb (get_or m.fastest u 0) 0) (eqb (get_or m.ages u 0) gap) (on_knob (get_or m.fastest u 0))

    past : Bool
    past = eqb (get_or m.ages u 0) 0 && eqb (get_or m.fastest u 0) 0

    go : (b : Bool) → ltb u d.source_count ≡ b → cond (ltb u d.source_count) (here (longest_gap d u)) past ≡ cond (ltb u d.source_count) (here (get_or gaps u 0)) past
    go true h = rw (h, g.at u (ltb-true u d.source_count h)) refl
    go false h = rw h refl

-- the rule of the mark "again", and that of the mark "late"
pub again_is : (m : Machine) (k : ℕ) → again_rule m (1 + k) ≡ (not (get_or m.again k false) || ltb 0 (get_or m.used k 0))
again_is m k = let s : 1 + k - 1 ≡ k = omega arith in rw s refl

pub late_is : (d : Description) (w : Wiring) (m : Machine) → WiringOf d w → (l : ℕ) → l < w.links → late_rule d m (0 + l) ≡ (not (get_or m.late l false) || (get_or m.waiting l false && get_or m.again (get_or w.to l 0 - 1) false))
late_is d w m r l h = rw (zero-add l, r.enters l h) refl

pub and_true : (a b : Bool) → a ≡ true → (a && b) ≡ b
and_true a b e = rw e refl

-- tests one after the other: the first that says no decides, one that says yes leaves it to the others
pub broken : {a t : Bool} (b : Bool) → t ≡ a → t ≡ false → false ≡ (a && b)
broken {a} {t} b e f = sym (and_false_left a b (sym e ∙ f))

pub kept : {a b t r : Bool} → t ≡ a → t ≡ true → r ≡ b → r ≡ (a && b)
kept {a} {b} {t} {r} e f h = h ∙ sym (and_true a b (sym e ∙ f))

pub nested : (t l s a x : Bool) → ((((t && l) && s) && a) && x) ≡ (t && (l && (s && (a && x))))
nested true true true true x = refl
nested true true true false x = refl
nested true true false a x = refl
nested true false s a x = refl
nested false l s a x = refl

-- what the links of a description's wiring enter
pub entered : (d : Description) (w : Wiring) → WiringOf d w → Enters w.to w.links
entered d w r = record {
  few = omega (arith, r.many, r.formed.fields.few_links);
  some = λ l h.
      let k : l < d.link_count = omega (arith, r.many) in
      omega (arith, r.enters l h, (to_most d r.formed.fields l k).0);
  most = λ l h.
      let k : l < d.link_count = omega (arith, r.many) in
      omega (arith, r.enters l h, (to_most d r.formed.fields l k).1);
}

-- tasks that are part done, counted one by one
pub counted_none : (used : List ℕ) → 0 ≡ sum_n (λ j. given (ltb 0 (get_or used (j - 1) 0)) 1) 1 0
unfolding sum_n
counted_none used = refl

pub counted : (used : List ℕ) (k count part : ℕ) → count ≡ sum_n (λ j. given (ltb 0 (get_or used (j - 1) 0)) 1) 1 k → part ≡ given (ltb 0 (get_or used k 0)) 1 → count + part ≡ sum_n (λ j. given (ltb 0 (get_or used (j - 1) 0)) 1) 1 (k + 1)
unfolding sum_n
counted used k count part e f =
    let n : suc k ≡ k + 1 = omega arith in
    let i : 1 + k - 1 ≡ k = omega arith in
    ap (λ x. x + part) e
    ∙ ap (λ x. sum_n (λ j. given (ltb 0 (get_or used (j - 1) 0)) 1) 1 k + x) (f ∙ ap (λ x. given (ltb 0 (get_or used x 0)) 1) (sym i))
    ∙ ap (sum_n (λ j. given (ltb 0 (get_or used (j - 1) 0)) 1) 1) n
