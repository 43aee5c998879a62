-- A record and the words that hold it: marks one by one, ages, the start, and the rules. Assumes nothing.
use Prim.Native.Nat.{ℕ, zero, suc, ◌+◌, ◌-◌, ◌/◌, ◌%◌, ◌≤◌, ◌<◌, min}
use mathlib.Core.Path.{◌≡◌, refl, sym, ap, ◌∙◌}
use mathlib.Core.Bool.{Bool, true, false, ◌||◌, ◌&&◌, not, cond}
use mathlib.Core.List.{List, [], ◌∷◌}
use mathlib.Core.Logic.{inl}
use native.Mathlib.Omega.{arith}
use native.Mathlib.Decide.{dec_lt}
use lib.ListN.{get_or, length, replicate, take, drop, get_or-eq_default}
use Rattle.std.proofs.lemmas.List.{get_or-take, get_or-drop}
use lib.Seq.{ext_get_or}
use lib.Dec.{eqb, ltb, leb}
use borrow.Author.Tests.{eqb-true, eq-eqb, ne_eqb, leb-true, le-leb, lt-ltb, le-ltb, lt-leb, ltb-true, not-true}
use Rattle.model.specs.declared.Description.{Description}
use Rattle.model.specs.declared.Policy.{Policy}
use Rattle.model.specs.declared.Policy.TheVariants.{Preemptive, HoldOn}
use Rattle.model.specs.declared.Machine.{Machine}
use Rattle.model.specs.Basics.{all_n, any_n}
use Rattle.model.specs.Graph.{link_at, run_of}
use Rattle.model.specs.Verdicts.{on_knob}
use Rattle.model.specs.Machine.{awake_at, used_at, waiting_at, dropped_at, again_at, late_at, age_at, fastest_at, longest_gap, idle, task_rule, links_rule, source_rule, again_rule, late_rule, lates_rule, rules_kept, parts_done, alone_rule}
use Rattle.lemmas.proofs.Tests.{Cmp, less, same, more, cmp, same_test, not_both, both, and_left, and_right, and_false_left, and_false_right, or_new, or_else, or_false}
use Rattle.lemmas.proofs.Table.{get_d_tab, length-tab, is_tab, get_d_same, unset_at}
use Rattle.lemmas.proofs.Range.{any_at, any_found, any_more, all_at, one_only}
use Rattle.theory.proofs.Links.{to_most}
use Rattle.theory.proofs.WellFormed.{WellFormed}
use Rattle.theory.proofs.Spacing.{gap_most}
use Rattle.assurance.proofs.Firing.{Sized}
use Rattle.sets.specs.declared.wide.Wide.{Wide}
use Rattle.sets.specs.Sets.{member, LastIn}
use Rattle.sets.specs.Wide.{word_in, inside}
use Rattle.sets.proofs.SetLaws.{member_none}
use Rattle.words.specs.declared.Words.{Words}
use Rattle.spacings.specs.Gaps.{GapsOf}
use Rattle.wiring.specs.declared.Row.{Row}
use Rattle.wiring.specs.Rows.{row_at, RowsOf}
use Rattle.words.specs.Words.{awake_in, again_in, waiting_in, dropped_in, enters, late_in, Holds, holds_on, Goes, Keeps, raised_to}
use Rattle.records.specs.Record.{OnePart, TasksIn, PartIn, Into, AgesOf, SinceOf, Begins}
use Rattle.lemmas.proofs.Bools.{and_off}

-- a number that is marked
pub on : (a b c : Bool) → b ≡ true → (a || c) ≡ (a || (b && c))
on a b c e = rw e refl

-- no mark is numbered below the first
pub none_numbered : (first j : ℕ) (b : Bool) → member 0 j ≡ (ltb j (first + 0) && (leb first j && b))
none_numbered first j b = member_none j ∙ go (dec_lt j first)
  where
    go : Dec (j < first) → false ≡ (ltb j (first + 0) && (leb first j && b))
    go (yes p) = sym (and_false_right (ltb j (first + 0)) _ (and_false_left (leb first j) b (lt-leb first j p)))
    go (no p) = sym (and_false_left (ltb j (first + 0)) _ (le-ltb j (first + 0) (omega arith)))

-- the marks of a word, numbered from 0
abbrev pub MarksFrom0 : ℕ → List Bool → Type 0
MarksFrom0 w marks = (j : ℕ) → member w j ≡ (leb 0 j && get_or marks (j - 0) false)

-- four words of 64 marks each
pub links_words : (a b c d : ℕ) (marks : List Bool) → length marks ≡ 256 → MarksFrom0 a (take 64 marks) → MarksFrom0 b (take 64 (drop 64 marks)) → MarksFrom0 c (take 64 (drop 128 marks)) → MarksFrom0 d (take 64 (drop 192 marks)) → (l : ℕ) → inside (record { words = a ∷ b ∷ c ∷ d ∷ [] }) l ≡ get_or marks l false
unfolding inside word_in
links_words a b c d marks z p q r t l = go (l / 64) refl
  where
    at : (w n : ℕ) (part : List Bool) → MarksFrom0 w part → get_or part (l % 64) false ≡ get_or marks (n + l % 64) false → n + l % 64 ≡ l → member w (l % 64) ≡ get_or marks l false
    at w n part h e f = let o : l % 64 - 0 ≡ l % 64 = omega arith in h (l % 64) ∙ rw (le-leb 0 (l % 64) (omega arith)) (ap (λ i. get_or part i false) o ∙ e ∙ ap (λ i. get_or marks i false) f)

    half : (n : ℕ) → get_or (take 64 (drop n marks)) (l % 64) false ≡ get_or marks (n + l % 64) false
    half n = let h : l % 64 < 64 = omega arith in get_or-take 64 (drop n marks) (l % 64) false h ∙ get_or-drop n marks (l % 64) false

    go : (v : ℕ) → l / 64 ≡ v → member (word_in (record { words = a ∷ b ∷ c ∷ d ∷ [] }) v) (l % 64) ≡ get_or marks l false
    go zero e = at a 0 (take 64 marks) p (half 0) (omega arith)
    go (suc zero) e = at b 64 _ q (half 64) (omega arith)
    go (suc (suc zero)) e = at c 128 _ r (half 128) (omega arith)
    go (suc (suc (suc zero))) e = at d 192 _ t (half 192) (omega arith)
    go (suc (suc (suc (suc v)))) e = member_none (l % 64) ∙ sym (get_or-eq_default marks false {n = l} (omega arith))

-- the tasks of a word that are marked, and those that are part done
pub tasks_marked : (marks : List Bool) (r : ℕ) → ((j : ℕ) → member r j ≡ (leb 1 j && get_or marks (j - 1) false)) → TasksIn marks r
tasks_marked marks r h = (h 0, λ k p. h k ∙ rw (le-leb 1 k p) refl)

pub part_marked : (used : List ℕ) (marks : List Bool) (r : ℕ) → length used ≡ 32 → length marks ≡ 32 → ((k : ℕ) → k < 32 → get_or marks k false ≡ ltb 0 (get_or used k 0)) → TasksIn marks r → PartIn used r
part_marked used marks r z y e h = (h.0, λ k p. h.1 k p ∙ go (k - 1) (dec_lt (k - 1) 32))
  where
    go : (k : ℕ) → Dec (k < 32) → get_or marks k false ≡ ltb 0 (get_or used k 0)
    go k (yes p) = e k p
    go k (no p) = get_or-eq_default marks false {n = k} (omega arith) ∙ sym (ap (ltb 0) (get_or-eq_default used 0 {n = k} (omega arith)))

-- who goes on: nobody where none is part done, and on the hold-on model the one that is
pub going_none : (p : Policy) (used : List ℕ) (part : ℕ) → part ≡ 0 → PartIn used part → Goes p 0 used
going_none p used part e h = record {
  low = omega arith;
  here = λ k o b. ne_eqb k 0 (λ z. omega arith) ∙ sym (ap (λ x. holds_on p && x) (sym (h.1 k o) ∙ ap (λ s. member s k) e ∙ member_none k) ∙ and_off (holds_on p));
}

pub last_low : (used : List ℕ) (part found : ℕ) → length used ≡ 32 → PartIn used part → LastIn part found → (1 ≤ found) × (found ≤ 32)
last_low used part found z h f = (some found f.in_set, by (dec_lt 32 found))
  where
    some : (k : ℕ) → member part k ≡ true → 1 ≤ k
    some zero e = absurd (not_both e h.0)
    some (suc k) e = omega arith

    by : Dec (32 < found) → found ≤ 32
    by (yes q) =
        let u : 0 < get_or used (found - 1) 0 = ltb-true 0 (get_or used (found - 1) 0) (sym (h.1 found (some found f.in_set)) ∙ f.in_set) in
        absurd (omega (arith, get_or-eq_default used 0 {n = found - 1} (omega arith)))
    by (no q) = omega arith

pub going_one : (p : Policy) (used : List ℕ) (part found : ℕ) → length used ≡ 32 → PartIn used part → LastIn part found → (holds_on p ≡ true → OnePart used) → Goes p (cond (holds_on p) found 0) used
going_one p used part found z h f one = go (holds_on p) refl
  where
    some : 1 ≤ found
    some = (last_low used part found z h f).0

    spent : 0 < get_or used (found - 1) 0
    spent = ltb-true 0 (get_or used (found - 1) 0) (sym (h.1 found some) ∙ f.in_set)

    most : found ≤ 32
    most = (last_low used part found z h f).1

    go : (b : Bool) → holds_on p ≡ b → Goes p (cond (holds_on p) found 0) used
    go false e = record { low = rw e (omega arith); here = λ k o b. rw e (ne_eqb k 0 (λ y. omega arith)) }
    go true e = record { low = rw e most; here = λ k o b. rw e (at k o b (cmp 0 (get_or used (k - 1) 0))) }
      where
        at : (k : ℕ) → 1 ≤ k → k ≤ 32 → Cmp 0 (get_or used (k - 1) 0) → eqb k found ≡ ltb 0 (get_or used (k - 1) 0)
        at k o b (less u) =
            let q : k - 1 ≡ found - 1 = one e (k - 1) (found - 1) (omega arith) (omega (arith, most)) u spent in
            eq-eqb k found (omega (arith, some)) ∙ sym (lt-ltb 0 (get_or used (k - 1) 0) u)
        at k o b (same u) = ne_eqb k found (λ y. omega (arith, spent, ap (λ i. get_or used (i - 1) 0) y)) ∙ sym (le-ltb 0 (get_or used (k - 1) 0) (omega arith))
        at k o b (more u) = absurd (omega arith)

-- the rule of one part done, task by task
pub one_part : (p : Policy) (m : Machine) → alone_rule p m ≡ true → holds_on p ≡ true → OnePart m.used
unfolding parts_done
one_part Preemptive m e h = absurd (not_both h refl)
one_part HoldOn m e h = λ j k p q u v.
    let a : 1 + j - 1 ≡ j = omega arith in
    let b : 1 + k - 1 ≡ k = omega arith in
    let z : 1 + j ≡ 1 + k = one_only (λ i. ltb 0 (used_at m i)) 1 32 (leb-true _ 1 e) (1 + j) (1 + k) (omega arith) (omega arith) (omega arith) (omega arith) (rw a (lt-ltb 0 (get_or m.used j 0) u)) (rw b (lt-ltb 0 (get_or m.used k 0) v)) in
    omega arith

-- one task more of those whose links are joined
pub into_more : (rows : List Row) (tasks k : ℕ) → k < 33 → (set set' : Wide) (b : Bool) → b ≡ member tasks k → ((l : ℕ) → inside set' l ≡ cond b (inside set l || inside (row_at (take 33 rows) k).into l) (inside set l)) → ((l : ℕ) → inside set l ≡ any_n (λ j. member tasks j && inside (row_at rows j).into l) 0 k) → (l : ℕ) → inside set' l ≡ any_n (λ j. member tasks j && inside (row_at rows j).into l) 0 (k + 1)
into_more rows tasks k p set set' b m e h l = e l ∙ go b m ∙ ap (λ x. x || (member tasks k && inside (row_at rows k).into l)) (h l) ∙ sym (any_more (λ j. member tasks j && inside (row_at rows j).into l) k)
  where
    row : row_at (take 33 rows) k ≡ row_at rows k
    row = get_or-take 33 rows k _ p

    none : (x : Bool) → x ≡ (x || false)
    none true = refl
    none false = refl

    go : (b : Bool) → b ≡ member tasks k → cond b (inside set l || inside (row_at (take 33 rows) k).into l) (inside set l) ≡ (inside set l || (member tasks k && inside (row_at rows k).into l))
    go true q = rw (row, sym q) refl
    go false q = rw (sym q) (none (inside set l))

-- the links into some tasks, by the description
pub into_is : (d : Description) (rows : List Row) (tasks : ℕ) (r : Wide) → WellFormed d → RowsOf d d.link_count rows → Into rows tasks r → (l : ℕ) → inside r l ≡ enters d tasks l
into_is d rows tasks r g w h l = h l ∙ same_test (any_n p 0 33) (enters d tasks l) to back
  where
    p : ℕ → Bool
    p k = member tasks k && inside (row_at rows k).into l

    to : any_n p 0 33 ≡ true → enters d tasks l ≡ true
    to e =
        let z = any_found p 0 33 e in
        let y : (ltb l d.link_count && eqb (link_at d l).to z.at) ≡ true = sym (w.into z.at l) ∙ and_right (member tasks z.at) _ z.passes in
        let q : (link_at d l).to ≡ z.at = eqb-true (link_at d l).to z.at (and_right (ltb l d.link_count) _ y) in
        both (ltb l d.link_count) _ (and_left (ltb l d.link_count) _ y) (ap (member tasks) q ∙ and_left (member tasks z.at) _ z.passes)

    back : enters d tasks l ≡ true → any_n p 0 33 ≡ true
    back e =
        let a : ltb l d.link_count ≡ true = and_left (ltb l d.link_count) _ e in
        let i : l < d.link_count = ltb-true l d.link_count a in
        let k : ℕ = (link_at d l).to in
        any_at p 0 33 k (omega arith) (omega (arith, (to_most d g.fields l i).1)) (both (member tasks k) _ (and_right (ltb l d.link_count) _ e) (w.into k l ∙ both (ltb l d.link_count) _ a (eq-eqb k k refl)))

-- the record that words hold is the record of their lists
pub record Listed (d : Description) (gaps : List ℕ) (sources : ℕ) (w : Words) (since : List ℕ) (aw wa dr : List Bool) (ages : List ℕ) (ag la : List Bool) : Type 0 where
  pub awake : (length aw ≡ 32) × ((k : ℕ) → k < 32 → get_or aw k false ≡ awake_in w (k + 1))
  pub waiting : (length wa ≡ 256) × ((l : ℕ) → l < 256 → get_or wa l false ≡ waiting_in w l)
  pub dropped : (length dr ≡ 256) × ((l : ℕ) → l < 256 → get_or dr l false ≡ dropped_in w l)
  pub aged : AgesOf gaps sources since w.tick ages
  pub again : (length ag ≡ 32) × ((k : ℕ) → k < 32 → get_or ag k false ≡ again_in w (k + 1))
  pub late : (length la ≡ 256) × ((l : ℕ) → l < 256 → get_or la l false ≡ late_in d w l)

pub unpacked : (d : Description) (gaps : List ℕ) (sources : ℕ) (w : Words) (used since fastest : List ℕ) (m : Machine) (aw wa dr : List Bool) (old : List ℕ) (ag la : List Bool) → d.source_count ≡ sources → GapsOf d 200 gaps → Holds d w used since m → fastest ≡ m.fastest → Listed d gaps sources w since aw wa dr old ag la → record { awake = aw; used = used; waiting = wa; dropped = dr; ages = old; fastest = fastest; again = ag; late = la } ≡ m
unpacked d gaps sources w used since fastest m aw wa dr old ag la q g h k t =
    whole (ext_get_or false aw m.awake (t.awake.0 ∙ sym h.marks.sized.awakes) (λ k p. t.awake.1 k (omega (arith, t.awake.0)) ∙ h.marks.awake (k + 1) (omega arith) ∙ ap (λ i. get_or m.awake i false) (less k)))
    h.same_used
    (ext_get_or false wa m.waiting (t.waiting.0 ∙ sym h.marks.sized.waitings) (λ l p. t.waiting.1 l (omega (arith, t.waiting.0)) ∙ h.marks.waiting l))
    (ext_get_or false dr m.dropped (t.dropped.0 ∙ sym h.marks.sized.droppeds) (λ l p. t.dropped.1 l (omega (arith, t.dropped.0)) ∙ h.marks.dropped l))
    (ext_get_or 0 old m.ages (t.aged.many ∙ sym h.marks.sized.ages) (λ u p. age u (dec_lt u d.source_count)))
    k
    (ext_get_or false ag m.again (t.again.0 ∙ sym h.marks.sized.agains) (λ k p. t.again.1 k (omega (arith, t.again.0)) ∙ h.marks.again (k + 1) (omega arith) ∙ ap (λ i. get_or m.again i false) (less k)))
    (ext_get_or false la m.late (t.late.0 ∙ sym h.marks.sized.lates) (λ l p. t.late.1 l (omega (arith, t.late.0)) ∙ h.marks.late l))
  where
    less : (k : ℕ) → k + 1 - 1 ≡ k
    less k = omega arith

    whole : aw ≡ m.awake → used ≡ m.used → wa ≡ m.waiting → dr ≡ m.dropped → old ≡ m.ages → fastest ≡ m.fastest → ag ≡ m.again → la ≡ m.late → record { awake = aw; used = used; waiting = wa; dropped = dr; ages = old; fastest = fastest; again = ag; late = la } ≡ m
    whole p q r s t k u v = rw (p, q, r, s, t, k, u, v) refl

    age : (u : ℕ) → Dec (u < d.source_count) → get_or old u 0 ≡ get_or m.ages u 0
    age u (yes p) = t.aged.here u (omega arith) ∙ ap (λ x. min x (w.tick - get_or since u 0)) (g.at u p) ∙ sym (h.ages.here u p)
    age u (no p) = t.aged.past u (omega arith) ∙ sym (h.ages.past u (omega arith))

-- at the start
pub begun : (d : Description) (w : Words) (gaps since : List ℕ) → WellFormed d → Begins w → GapsOf d 200 gaps → SinceOf gaps since → Holds d w (replicate 32 0) since (idle d)
unfolding idle
begun d w gaps since g b s r = record {
  marks = record {
    sized = record { awakes = refl; useds = refl; waitings = refl; droppeds = refl; ages = length-tab 16 _; fastests = refl; agains = refl; lates = refl };
    no_zero = asleep 0;
    present = λ k p. absurd (not_both p (asleep k));
    part = λ k p. unbegun k ∙ sym (ap (ltb 0) (get_d_same 32 (k - 1) 0));
    awake = λ k p. asleep k ∙ sym (get_d_same 32 (k - 1) false);
    again = λ k p. and_false_right (member w.woken k) _ (unbegun k) ∙ sym (get_d_same 32 (k - 1) false);
    waiting = λ l. or_false (inside w.fresh l) _ (b.fresh l) (b.taken l) ∙ sym (get_d_same 256 l false);
    late = λ l. and_false_left (inside w.fresh l) _ (b.fresh l) ∙ sym (get_d_same 256 l false);
    dropped = λ l. or_false (inside w.dropped l) _ (b.dropped l) (and_false_left (inside w.fresh l) _ (b.fresh l)) ∙ sym (get_d_same 256 l false);
    held = λ l p. absurd (not_both p (b.taken l));
  };
  same_used = refl;
  below = λ k o t. rw (get_d_same {A = ℕ} 32 (k - 1) 0) (omega (arith, g.fields.run_some k o t));
  ages = record {
    many = r.many;
    before = λ u p. omega (arith, b.first, at u p);
    here = λ u p. get_d_tab 16 _ 0 u (omega (arith, g.fields.few_sources)) ∙ rw (lt-ltb u d.source_count p) (omega (arith, b.first, at u p, s.at u p, s.fit.most u));
    past = λ u p. absent u p (dec_lt u 16);
  };
}
  where
    at : (u : ℕ) → u < d.source_count → get_or since u 0 ≡ 4294967296 - get_or gaps u 0
    at u p = r.here u (omega (arith, g.fields.few_sources))

    unbegun : (k : ℕ) → member w.part k ≡ false
    unbegun k = ap (λ s. member s k) b.none ∙ member_none k

    asleep : (k : ℕ) → awake_in w k ≡ false
    asleep k = or_false (member w.woken k) _ (ap (λ s. member s k) b.asleep ∙ member_none k) (unbegun k)

    absent : (u : ℕ) → d.source_count ≤ u → Dec (u < 16) → age_at (idle d) u ≡ 0
    absent u p (yes q) = get_d_tab 16 _ 0 u q ∙ rw (le-ltb u d.source_count p) refl
    absent u p (no q) = get_or-eq_default (idle d).ages 0 {n = u} (omega (arith, length-tab 16 (λ u. cond (ltb u d.source_count) (longest_gap d u) 0)))

-- and the record of the start, by its ages
pub idle_aged : (d : Description) (gaps since old : List ℕ) → WellFormed d → GapsOf d 200 gaps → SinceOf gaps since → AgesOf gaps d.source_count since 4294967296 old → record { awake = replicate 32 false; used = replicate 32 0; waiting = replicate 256 false; dropped = replicate 256 false; ages = old; fastest = replicate 16 0; again = replicate 32 false; late = replicate 256 false } ≡ idle d
unfolding idle
idle_aged d gaps since old g s r a =
    ap (λ (l : List ℕ). let m : Machine = record { awake = replicate 32 false; used = replicate 32 0; waiting = replicate 256 false; dropped = replicate 256 false; ages = l; fastest = replicate 16 0; again = replicate 32 false; late = replicate 256 false } in m) (is_tab 0 16 _ old a.many (λ u p. at u p (dec_lt u d.source_count)))
  where
    at : (u : ℕ) → u < 16 → Dec (u < d.source_count) → get_or old u 0 ≡ cond (ltb u d.source_count) (longest_gap d u) 0
    at u p (yes q) = rw (lt-ltb u d.source_count q) (omega (arith, a.here u q, r.here u p, s.at u q, s.fit.most u))
    at u p (no q) = rw (le-ltb u d.source_count (omega arith)) (a.past u (omega arith))

-- nobody goes on
pub none_going : (p : Policy) (w : Words) → Begins w → Goes p w.running (replicate 32 0)
none_going p w b = record {
  low = omega (arith, b.idle);
  here = λ k o h. ne_eqb k w.running (λ z. omega (arith, b.idle)) ∙ sym (ap (λ x. holds_on p && ltb 0 x) (get_d_same {A = ℕ} 32 (k - 1) 0) ∙ and_off (holds_on p));
}

-- it keeps no tempo
pub none_kept : (d : Description) (w : Words) → Begins w → Keeps w (replicate 16 0) (idle d)
unfolding idle
none_kept d w b = record {
  many = refl;
  here = λ u p. get_d_same 16 u 0 ∙ sym (ap (raised_to w.peak) (get_d_same 16 u 0));
  above = λ u p. inl (get_d_same 16 u 0);
  least = omega (arith, b.knob.1);
  high = omega (arith, b.knob.1);
}

-- words of a record that keeps the rules hold it
module _ (d : Description) (m : Machine) (g : WellFormed d) (l : rules_kept d m ≡ true) (z : Sized m) where
  task_rule_lem : (k : ℕ) → 1 ≤ k → k ≤ 32 → task_rule d m k ≡ true
  unfolding rules_kept
  task_rule_lem k p q = all_at (task_rule d m) 1 32 (and_left (all_n (task_rule d m) 1 32) _ l) k p (omega arith)

  rules : all_n (source_rule d m) 0 16 && (all_n (again_rule m) 1 32 && lates_rule d m) ≡ true
  unfolding rules_kept
  rules = and_right (links_rule d m) _ (and_right (all_n (task_rule d m) 1 32) _ l)

  source_rule_lem : (u : ℕ) → u < 16 → source_rule d m u ≡ true
  source_rule_lem u p = all_at (source_rule d m) 0 16 (and_left (all_n (source_rule d m) 0 16) _ rules) u (omega arith) (omega arith)

  again_rule_lem : (k : ℕ) → 1 ≤ k → k ≤ 32 → again_rule m k ≡ true
  again_rule_lem k p q = all_at (again_rule m) 1 32 (and_left (all_n (again_rule m) 1 32) _ (and_right (all_n (source_rule d m) 0 16) _ rules)) k p (omega arith)

  lates_rule_lem : lates_rule d m ≡ true
  lates_rule_lem = and_right (all_n (again_rule m) 1 32) _ (and_right (all_n (source_rule d m) 0 16) _ rules)

  late_rule_lem : (i : ℕ) → i < d.link_count → late_rule d m i ≡ true
  late_rule_lem i p = all_at (late_rule d m) 0 d.link_count (and_left (all_n (late_rule d m) 0 d.link_count) _ lates_rule_lem) i (omega arith) (omega arith)

  absent : (k : ℕ) → 1 ≤ k → d.task_count < k → awake_at m k ≡ true → ⊥
  absent k p q e = go (dec_lt 32 k)
    where
      go : Dec (32 < k) → ⊥
      go (yes h) = not_both e (get_or-eq_default m.awake false {n = k - 1} (omega (arith, z.awakes)))
      go (no h) =
          let r : (not (awake_at m k) && eqb (used_at m k) 0) ≡ true = rw (lt-leb k d.task_count q) at (task_rule_lem k p (omega arith)) in
          not_both e (not-true (awake_at m k) (and_left (not (awake_at m k)) _ r))

  age_low : (u : ℕ) → u < d.source_count → age_at m u ≤ longest_gap d u
  age_low u p =
      let r : (leb (age_at m u) (longest_gap d u) && cond (eqb (fastest_at m u) 0) (eqb (age_at m u) (longest_gap d u)) (on_knob (fastest_at m u))) ≡ true = rw (lt-ltb u d.source_count p) at (source_rule_lem u (omega (arith, g.fields.few_sources))) in
      leb-true (age_at m u) (longest_gap d u) (and_left (leb (age_at m u) (longest_gap d u)) _ r)

  longest_most : (u : ℕ) → u < d.source_count → longest_gap d u ≤ 1000000000
  longest_most u p = gap_most d g (33 + u) (omega arith) (omega arith) 200

  age_none : (u : ℕ) → d.source_count ≤ u → age_at m u ≡ 0
  age_none u p = go (dec_lt u 16)
    where
      go : Dec (u < 16) → age_at m u ≡ 0
      go (yes h) =
          let r : (eqb (age_at m u) 0 && eqb (fastest_at m u) 0) ≡ true = rw (le-ltb u d.source_count p) at (source_rule_lem u h) in
          eqb-true (age_at m u) 0 (and_left (eqb (age_at m u) 0) _ r)
      go (no h) = get_or-eq_default m.ages 0 {n = u} (omega (arith, z.ages))

  -- a task that is part done is one of the description's, below its run and awake; one that is marked again is part done
  low : (k : ℕ) → 1 ≤ k → k ≤ d.task_count → (used_at m k < run_of d k) × ((awake_at m k || eqb (used_at m k) 0) ≡ true)
  low k p q =
      let r : (ltb (used_at m k) (run_of d k) && (awake_at m k || eqb (used_at m k) 0)) ≡ true = rw (le-leb k d.task_count q) at (task_rule_lem k p (omega (arith, g.fields.few_tasks))) in
      (ltb-true (used_at m k) (run_of d k) (and_left (ltb (used_at m k) (run_of d k)) _ r), and_right (ltb (used_at m k) (run_of d k)) _ r)

  part_awake : (k : ℕ) → 1 ≤ k → ltb 0 (used_at m k) ≡ true → awake_at m k ≡ true
  part_awake k p e = go (dec_lt 32 k) (dec_lt d.task_count k)
    where
      u : 0 < used_at m k
      u = ltb-true 0 (used_at m k) e

      go : Dec (32 < k) → Dec (d.task_count < k) → awake_at m k ≡ true
      go (yes h) t = absurd (omega (arith, u, get_or-eq_default m.used 0 {n = k - 1} (omega (arith, z.useds))))
      go (no h) (yes t) =
          let r : (not (awake_at m k) && eqb (used_at m k) 0) ≡ true = rw (lt-leb k d.task_count t) at (task_rule_lem k p (omega arith)) in
          absurd (omega (arith, u, eqb-true (used_at m k) 0 (and_right (not (awake_at m k)) _ r)))
      go (no h) (no t) = or_else (awake_at m k) (eqb (used_at m k) 0) (ne_eqb (used_at m k) 0 (λ y. omega (arith, u))) (low k p (omega arith)).1

  again_part : (k : ℕ) → 1 ≤ k → again_at m k ≡ true → ltb 0 (used_at m k) ≡ true
  again_part k p e = go (dec_lt 32 k)
    where
      go : Dec (32 < k) → ltb 0 (used_at m k) ≡ true
      go (yes h) = absurd (not_both e (get_or-eq_default m.again false {n = k - 1} (omega (arith, z.agains))))
      go (no h) = or_new (not (again_at m k)) _ (ap not e) (again_rule_lem k p (omega arith))

  -- a late link waits, for a task that is part done
  late_waits : (i : ℕ) → late_at m i ≡ true → (i < d.link_count) × (waiting_at m i ≡ true) × (again_at m (link_at d i).to ≡ true)
  late_waits i e = go (dec_lt i d.link_count)
    where
      go : Dec (i < d.link_count) → (i < d.link_count) × (waiting_at m i ≡ true) × (again_at m (link_at d i).to ≡ true)
      go (no h) = absurd (not_both e (unset_at d.link_count m.late (and_right (all_n (late_rule d m) 0 d.link_count) _ lates_rule_lem) i (omega arith)))
      go (yes h) =
          let q : (waiting_at m i && again_at m (link_at d i).to) ≡ true = or_new (not (late_at m i)) _ (ap not e) (late_rule_lem i h) in
          (h, and_left (waiting_at m i) _ q, and_right (waiting_at m i) _ q)

  pub packed : (since : List ℕ) (w : Words) (awake again : ℕ) (waiting late into : Wide) → TasksIn m.awake awake → TasksIn m.again again → PartIn m.used w.part → ((k : ℕ) → member w.woken k ≡ ((member awake k && not (member w.part k)) || member again k)) → ((i : ℕ) → inside waiting i ≡ waiting_at m i) → ((i : ℕ) → inside late i ≡ late_at m i) → ((i : ℕ) → inside into i ≡ enters d w.part i) → ((i : ℕ) → inside w.taken i ≡ ((inside waiting i && inside into i) && not (inside late i))) → ((i : ℕ) → inside w.fresh i ≡ (inside waiting i && not (inside w.taken i))) → ((i : ℕ) → inside w.dropped i ≡ dropped_at m i) → SinceOf m.ages since → w.tick ≡ 4294967296 → Holds d w m.used since m
  packed since w awake again waiting late into a b part woken c e f taken fresh drops r n = record {
    marks = record {
      sized = z;
      no_zero = or_false (member w.woken 0) _ (woken 0 ∙ or_false (member awake 0 && not (member w.part 0)) _ (and_false_left (member awake 0) _ a.0) b.0) part.0;
      present = λ k p. present k p (dec_lt d.task_count k);
      part = part.1;
      awake = awake_is;
      again = λ k p. rw (woken k, part.1 k p, b.1 k p) (both_again (member awake k) (ltb 0 (used_at m k)) (again_at m k) (again_part k p));
      waiting = λ i. rw (fresh i) (split (inside waiting i) (inside w.taken i) (λ q. and_left (inside waiting i) _ (and_left (inside waiting i && inside into i) _ (sym (taken i) ∙ q)))) ∙ c i;
      late = λ i. ap (λ x. x && enters d w.part i) (fresh i ∙ ap (λ x. inside waiting i && not x) (taken i)) ∙ rw (f i) (ap (λ x. (inside waiting i && not ((inside waiting i && enters d w.part i) && not x)) && enters d w.part i) (e i) ∙ lates (inside waiting i) (enters d w.part i) (late_at m i) (λ q. c i ∙ (late_waits i q).1) (late_enters i));
      dropped = λ i. rw (fresh i) (apart (inside w.dropped i) (inside waiting i) (inside w.taken i)) ∙ drops i;
      held = λ i p. sym (f i) ∙ and_right (inside waiting i) _ (and_left (inside waiting i && inside into i) _ (sym (taken i) ∙ p));
    };
    same_used = refl;
    below = λ k o t. (low k o t).0;
    ages = record {
      many = r.many;
      before = λ u p. omega (arith, r.here u (omega (arith, g.fields.few_sources)));
      here = λ u p. omega (arith, r.here u (omega (arith, g.fields.few_sources)), age_low u p, longest_most u p);
      past = age_none;
    };
  }
    where
      both_awake : (a p g : Bool) → (p ≡ true → a ≡ true) → (g ≡ true → p ≡ true) → (((a && not p) || g) || p) ≡ a
      both_awake true true true h i = refl
      both_awake true true false h i = refl
      both_awake true false true h i = absurd (not_both (i refl) refl)
      both_awake true false false h i = refl
      both_awake false true g h i = absurd (not_both (h refl) refl)
      both_awake false false true h i = absurd (not_both (i refl) refl)
      both_awake false false false h i = refl

      both_again : (a p g : Bool) → (g ≡ true → p ≡ true) → (((a && not p) || g) && p) ≡ g
      both_again true true true i = refl
      both_again true true false i = refl
      both_again true false true i = absurd (not_both (i refl) refl)
      both_again true false false i = refl
      both_again false true true i = refl
      both_again false true false i = refl
      both_again false false true i = absurd (not_both (i refl) refl)
      both_again false false false i = refl

      split : (x t : Bool) → (t ≡ true → x ≡ true) → ((x && not t) || t) ≡ x
      split true true h = refl
      split true false h = refl
      split false true h = absurd (not_both (h refl) refl)
      split false false h = refl

      lates : (x y l : Bool) → (l ≡ true → x ≡ true) → (l ≡ true → y ≡ true) → ((x && not ((x && y) && not l)) && y) ≡ l
      lates true true true h i = refl
      lates true true false h i = refl
      lates true false true h i = absurd (not_both (i refl) refl)
      lates true false false h i = refl
      lates false y true h i = absurd (not_both (h refl) refl)
      lates false y false h i = refl

      apart : (q x t : Bool) → (q || ((x && not t) && t)) ≡ q
      apart true x t = refl
      apart false true true = refl
      apart false true false = refl
      apart false false t = refl

      late_enters : (i : ℕ) → late_at m i ≡ true → enters d w.part i ≡ true
      late_enters i q =
          let y = late_waits i q in
          let o : 1 ≤ (link_at d i).to = (to_most d g.fields i y.0).0 in
          both (ltb i d.link_count) _ (lt-ltb i d.link_count y.0) (part.1 (link_at d i).to o ∙ again_part (link_at d i).to o y.2)

      awake_is : (k : ℕ) → 1 ≤ k → awake_in w k ≡ awake_at m k
      awake_is k p = rw (woken k, part.1 k p, a.1 k p, b.1 k p) (both_awake (awake_at m k) (ltb 0 (used_at m k)) (again_at m k) (part_awake k p) (again_part k p))

      some : (k : ℕ) → awake_in w k ≡ true → 1 ≤ k
      some zero p = absurd (not_both p (or_false (member w.woken 0) _ (woken 0 ∙ or_false (member awake 0 && not (member w.part 0)) _ (and_false_left (member awake 0) _ a.0) b.0) part.0))
      some (suc k) p = omega arith

      present : (k : ℕ) → awake_in w k ≡ true → Dec (d.task_count < k) → k ≤ d.task_count
      present k p (yes h) = absurd (absent k (some k p) h (sym (awake_is k (some k p)) ∙ p))
      present k p (no h) = omega arith
