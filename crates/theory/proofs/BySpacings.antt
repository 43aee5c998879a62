-- A verdict is a function of structure and spacings: two descriptions with the same tasks and links get the same verdicts, each at its own tempo, if their sources have
-- the same spacings there. A source that one of them has alone has no link, and so no load. For every rule that goes by spacings, and so for verdicts. Assumes nothing.
use Prim.Native.Nat.{ℕ, suc, ◌+◌, ◌-◌, ◌*◌, ◌≤◌, ◌<◌}
use mathlib.Core.Path.{◌≡◌, refl, sym, ap, ◌∙◌, fun_ext}
use mathlib.Core.Bool.{Bool, true, false, cond, not}
use mathlib.Core.List.{List}
use native.Mathlib.Omega.{arith}
use lib.Dec.{eqb, ltb}
use borrow.Author.Tests.{ltb-true, ltb-false}
use Rattle.model.specs.declared.Description.{Description}
use Rattle.model.specs.declared.Policy.{Policy}
use Rattle.model.specs.declared.Policy.TheVariants.{Preemptive, HoldOn}
use Rattle.model.specs.Refusals.{Done}
use Rattle.model.specs.declared.Verdict.{Verdict}
use Rattle.model.specs.declared.Verdict.TheVariants.{Free, HeldOrder, DoubtOrder}
use Rattle.model.specs.declared.VerdictSlot.{VerdictSlot}
use Rattle.model.specs.declared.Verdicts.{Verdicts}
use Rattle.model.specs.Basics.{sum_n, any_n, all_n, tab}
use Rattle.model.specs.Graph.{System, system, link_at, linked}
use Rattle.model.specs.Loads.{load}
use Rattle.model.specs.File.{Widths, read_file}
use Rattle.model.specs.Delays.{spacing_of, spacings, start_of, level_of, round_of, tail_of, settle, delay_of}
use Rattle.model.specs.Verdicts.{settled_verdict, source_verdict, order_verdict, verdict_of, verdict_at, doubtful, all_held, slot_at, free_slot, judge_at, verdicts}
use Rattle.lemmas.proofs.Tests.{false_of, cond_same, cases}
use Rattle.lemmas.proofs.Range.{Found, sum_n-cong, sum_n-spare, top_to-cong, any_found, none_any, all_cong}
use Rattle.lemmas.proofs.Table.{tab_cong}
use Rattle.theory.specs.Structure.{SameStructure, SameSpacings, Rule, ruled, with_sources, SameLinked, BySpacings}
use Rattle.theory.proofs.WellFormed.{WellFormed, Shaped}
use Rattle.theory.proofs.NumberBytes.{Bytes}
use Rattle.theory.proofs.Fielded.{link_at_lem, shaped}
use Rattle.theory.proofs.LoadLaws.{no_link-load}
use Rattle.theory.proofs.Alike.{SameLinks, same_load, same_order}
use Rattle.theory.proofs.JudgeLaws.{system_same}
use Rattle.theory.proofs.FileLaws.{judge_well_formed, at_known}
use Rattle.theory.proofs.ReadBack.{read_whence, read_judged}

-- verdicts go by spacings: first what no source bears on
module _ (s : System) (n : ℕ) where
  as_linked : SameLinks s (with_sources s n)
  as_linked = record { tasks = refl; link = λ i j. refl }

  as_loaded : (i j : ℕ) → load s i j ≡ load (with_sources s n) i j
  as_loaded = same_load s (with_sources s n) as_linked (λ j. refl)

  start_same : (pol : Policy) (j : ℕ) → start_of pol s j ≡ start_of pol (with_sources s n) j
  unfolding start_of
  start_same Preemptive j = top_to-cong _ _ 1 (j - 1) (λ k p q. as_loaded k j)
  start_same HoldOn j = top_to-cong _ _ 1 j (λ k p q. ap (λ x. s.run k + x) (as_loaded k (suc j)))

  tail_same : (pol : Policy) (j : ℕ) → tail_of pol s j ≡ tail_of pol (with_sources s n) j
  tail_same Preemptive j = refl
  tail_same HoldOn j = refl

  order_same : (i j : ℕ) → order_verdict s i j ≡ order_verdict (with_sources s n) i j
  unfolding order_verdict
  order_same i j = ap (λ b. cond b HeldOrder DoubtOrder) (same_order s (with_sources s n) as_linked i j)

-- then the sources: one that no link leaves has no load
module _ (pol : Policy) (s : System) (n : ℕ) (gap gap' : ℕ → ℕ) (g : SameLinked s n gap gap') where
  abbrev counted : ℕ → ℕ → (ℕ → ℕ) → ℕ → ℕ
  counted j d m u = load s u (level_of pol j) * spacings d (m u)

  idle : (j d : ℕ) (m : ℕ → ℕ) (u : ℕ) → ((k : ℕ) → k ≤ s.tasks → s.link u k ≡ false) → counted j d m u ≡ 0
  idle j d m u none =
      let z : load s u (level_of pol j) ≡ 0 = no_link-load s u (level_of pol j) (λ k a b. none k b) in
      rw z (omega arith)

  counted_same : (j d u : ℕ) → 33 ≤ u → counted j d gap u ≡ counted j d gap' u
  counted_same j d u p = go (any_n (s.link u) 0 (suc s.tasks)) refl
    where
      go : (b : Bool) → any_n (s.link u) 0 (suc s.tasks) ≡ b → counted j d gap u ≡ counted j d gap' u
      go true e =
          let f : Found (s.link u) 0 (suc s.tasks) = any_found (s.link u) 0 (suc s.tasks) e in
          ap (λ m. load s u (level_of pol j) * spacings d m) (g u f.at p f.passes).2
      go false e =
          let none : (k : ℕ) → k ≤ s.tasks → s.link u k ≡ false = λ k b. none_any (s.link u) 0 (suc s.tasks) e k (omega arith) (omega arith) in
          idle j d gap u none ∙ sym (idle j d gap' u none)

  sums_same : (j d : ℕ) → sum_n (counted j d gap) 33 s.sources ≡ sum_n (counted j d gap') 33 n
  sums_same j d =
      sum_n-cong _ _ 33 s.sources (λ u p q. counted_same j d u p)
      ∙ sum_n-spare (counted j d gap') 33 s.sources n
      (λ u p. idle j d gap' u (λ k b. false_of (s.link u k) (λ e. omega (arith, (g u k (omega arith) e).0))))
      (λ u p. idle j d gap' u (λ k b. false_of (s.link u k) (λ e. omega (arith, (g u k (omega arith) e).1))))

  round_same : (j d : ℕ) → round_of pol s gap j d ≡ round_of pol (with_sources s n) gap' j d
  unfolding round_of
  round_same j d =
      ap (λ x. start_of pol s j + x) (sums_same j d)
      ∙ (λ i. start_same s n pol j i + sum_n (λ u. as_loaded s n u (level_of pol j) i * spacings d (gap' u)) 33 n)

  source_same : (i j : ℕ) → gap i ≡ gap' i → source_verdict pol s gap i j ≡ source_verdict pol (with_sources s n) gap' i j
  unfolding source_verdict delay_of
  source_same i j h =
      let r : round_of pol s gap j ≡ round_of pol (with_sources s n) gap' j = fun_ext (round_same j) in
      let z : tail_of pol s j ≡ tail_of pol (with_sources s n) j = tail_same s n pol j in
      λ x. settled_verdict (settle (suc (h x - z x)) (r x) (h x - z x) (start_same s n pol j x)) (z x) (h x)

pub verdict_by-spacings : (pol : Policy) → BySpacings (verdict_of pol)
unfolding verdict_of
verdict_by-spacings pol s n gap gap' l g h =
    ap (cond (eqb l.critical 0) Free)
    (cond_same (ltb l.from 33) (ltb l.from 33) _ _ _ _ refl (λ e. order_same s n l.from l.to)
    (λ e. source_same pol s n gap gap' g l.from l.to (g l.from l.to (ltb-false l.from 33 e) h).2))

-- a source that a link leaves is there
linked_source : (s : System) → Shaped s → (u j : ℕ) → 33 ≤ u → s.link u j ≡ true → u < 33 + s.sources
linked_source s S u j p l = cases (S.from_node u j l) (λ x. absurd (omega (arith, x.1, S.few))) (λ x. x.1)

-- two descriptions, the first of them accepted, the second with links from and to nodes that it has
module _ (d e : Description) (s : SameStructure d e) (w : WellFormed d) (w' : Shaped (system e)) where
  structure_system : with_sources (system d) e.source_count ≡ system e
  unfolding system linked
  structure_system =
      let f : Description = record { task_count = d.task_count; runs = d.runs; source_count = e.source_count; sources = d.sources; link_count = d.link_count; links = d.links } in
      system_same f e s.tasks refl s.links (omega (arith, s.tasks, w.some_task)) (λ k p. s.run k (omega (arith, s.tasks))) (λ l p. s.link l (omega (arith, s.links)))

  module _ (t t' : ℕ) (g : SameSpacings d t e t') where
    linked_same : SameLinked (system d) e.source_count (spacing_of d t) (spacing_of e t')
    unfolding system
    linked_same u j p l =
        let x : u < 33 + d.source_count = linked_source (system d) (shaped d w) u j p l in
        let y : u < 33 + e.source_count = linked_source (system e) w' u j p (ap (λ (q : System). q.link u j) (sym structure_system) ∙ l) in
        (x, y, g u p (omega arith) (omega arith))

    -- every rule that goes by spacings tells the same of a link
    pub ruled_same : {A : Type 0} (rule : Rule A) → BySpacings rule → (l : ℕ) → l < d.link_count → ruled rule d t l ≡ ruled rule e t' l
    ruled_same rule b l h =
        b (system d) e.source_count (spacing_of d t) (spacing_of e t') (link_at d l) linked_same (link_at_lem d l h)
        ∙ ap (λ x. rule x (spacing_of e t') (link_at d l)) structure_system
        ∙ ap (rule (system e) (spacing_of e t')) (s.link l h)

    -- the verdict on every link, whether all are held, and the verdict call's slots
    pub verdict_same : (pol : Policy) (l : ℕ) → l < d.link_count → verdict_at pol d t l ≡ verdict_at pol e t' l
    unfolding verdict_at
    verdict_same pol = ruled_same (verdict_of pol) (verdict_by-spacings pol)

    pub held_same : (pol : Policy) → all_held pol d t ≡ all_held pol e t'
    unfolding all_held
    held_same pol =
        all_cong _ _ 0 d.link_count (λ l p q. ap (λ v. not (doubtful v)) (verdict_same pol l (omega arith)))
        ∙ ap (all_n (λ l. not (doubtful (verdict_at pol e t' l))) 0) s.links

    pub slots_same : (pol : Policy) → tab 256 (slot_at pol d t) ≡ tab 256 (slot_at pol e t')
    slots_same pol =
        tab_cong 256 _ _
        (λ l h. cond_same (ltb l d.link_count) (ltb l e.link_count) _ _ free_slot free_slot (ap (ltb l) s.links)
        (λ p. ap (λ (v : Verdict). let x : VerdictSlot = record { verdict = v } in x) (verdict_same pol l (ltb-true l d.link_count p)))
        (λ p. refl))

-- the verdict call on two records that it does not refuse
pub verdicts_same : (pol : Policy) (d e : Description) (t t' : ℕ) → Widths d → Widths e → judge_at d t ≡ Done → judge_at e t' ≡ Done → SameStructure d e → SameSpacings d t e t' → verdicts pol d t ≡ verdicts pol e t'
unfolding verdicts
verdicts_same pol d e t t' w w' j j' s g =
    rw (j, j') (ap (λ (x : List VerdictSlot). let v : Verdicts = record { outcome = Done; slots = x } in v) (slots_same d e s (at_known d t w j).0 (shaped e (at_known e t' w' j').0) t t' g pol))

-- two accepted files
pub file_verdict_same : (pol : Policy) (f f' : List ℕ) (t t' : ℕ) → Bytes f → Bytes f' → (read_file f).outcome ≡ Done → (read_file f').outcome ≡ Done → SameStructure (read_file f).description (read_file f').description → SameSpacings (read_file f).description t (read_file f').description t'
    → (l : ℕ) → l < (read_file f).description.link_count → verdict_at pol (read_file f).description t l ≡ verdict_at pol (read_file f').description t' l
file_verdict_same pol f f' t t' b b' a a' s g = verdict_same (read_file f).description (read_file f').description s (known f b a) (shaped (read_file f').description (known f' b' a')) t t' g pol
  where
    known : (f : List ℕ) → Bytes f → (read_file f).outcome ≡ Done → WellFormed (read_file f).description
    known f b a = judge_well_formed (read_file f).description (read_whence f b a).widths (read_judged f b a)
