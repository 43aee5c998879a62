-- A level is held exactly if its delay is below the narrowest spacing of the sources with a critical link to it. Assumes nothing.
use Prim.Native.Nat.{ℕ, suc, ◌+◌, ◌-◌, ◌≤◌, ◌<◌}
use mathlib.Core.Path.{◌≡◌, refl, sym, ap, ◌∙◌}
use mathlib.Core.Bool.{Bool, true, false, cond, not, ◌&&◌}
use mathlib.Core.List.{List}
use mathlib.Core.Logic.{◌⊎◌, inl, inr}
use native.Mathlib.Omega.{arith}
use lib.ListN.{get_or}
use lib.Dec.{ltb, eqb}
use borrow.Author.Tests.{eq-eqb, eqb-true, lt-ltb, ltb-true}
use Rattle.model.specs.declared.Link.{Link}
use Rattle.model.specs.declared.Description.{Description}
use Rattle.model.specs.declared.Policy.{Policy}
use Rattle.model.specs.declared.Verdict.{Verdict}
use Rattle.model.specs.declared.Verdict.TheVariants.{Held, Doubt}
use Rattle.model.specs.Graph.{System, system, link_at}
use Rattle.model.specs.Delays.{tail_of}
use Rattle.model.specs.Verdicts.{source_verdict, doubtful}
use Rattle.lemmas.proofs.Tests.{both, and_left, and_right, not_both, same_test}
use Rattle.lemmas.proofs.Range.{Found, any_at, any_found}
use Rattle.theory.proofs.WellFormed.{WellFormed, IsTask, IsSource}
use Rattle.theory.proofs.Rounds.{Spaced}
use Rattle.theory.proofs.Levels.{level_reach, level_verdict}
use Rattle.sets.specs.Sets.{member}
use Rattle.sets.proofs.SetLaws.{member_none}
use Rattle.verdicts.specs.declared.Tables.{Tables}
use Rattle.spacings.specs.Gaps.{GapsIn}
use Rattle.rounds.specs.Level.{reach_in}
use Rattle.verdicts.specs.Held.{from_source, held_at, level_held, critical_link, critical_to}
use Rattle.verdicts.specs.Tables.{Level, LevelTables, task_level, LevelOf, NarrowestIn}
use Rattle.verdicts.proofs.LevelLaws.{from_is, is_from, source_is, level_of_lem, level_at}
use Rattle.verdicts.proofs.TableLaws.{level_of-tables}
use Rattle.verdicts.proofs.LevelRounds.{spaced_in, reach_is}

-- a verdict by its delay
held_if : (b : Bool) (x m : ℕ) → not (doubtful (cond b (Held x m) (Doubt m))) ≡ b
held_if true x m = refl
held_if false x m = refl

-- what is below a number with another added
below_with : (x t m : ℕ) → ltb (x + t) m ≡ ltb x (m - t)
below_with x t m = same_test _ _ (λ e. lt-ltb x (m - t) (omega (arith, ltb-true (x + t) m e))) (λ e. lt-ltb (x + t) m (omega (arith, ltb-true x (m - t) e)))

module _ (pol : Policy) (s : System) (gap : ℕ → ℕ) (g : Spaced s gap) (j : ℕ) where
  -- whether a link is held, from where its level comes to below a limit
  held_below : (i limit : ℕ) → gap i - tail_of pol s j ≤ limit → not (doubtful (source_verdict pol s gap i j)) ≡ ltb (level_reach pol s gap j limit) (gap i - tail_of pol s j)
  held_below i limit h =
      ap (λ (v : Verdict). not (doubtful v)) (level_verdict pol s gap g i j limit h)
      ∙ held_if (ltb (level_reach pol s gap j limit + tail_of pol s j) (gap i)) (level_reach pol s gap j limit + tail_of pol s j) (gap i)
      ∙ below_with (level_reach pol s gap j limit) (tail_of pol s j) (gap i)

  -- held from one source, held from every source whose spacing is no narrower
  held_wide : (i i' : ℕ) → gap i ≤ gap i' → not (doubtful (source_verdict pol s gap i j)) ≡ true → not (doubtful (source_verdict pol s gap i' j)) ≡ true
  held_wide i i' h e =
      let limit : ℕ = gap i' - tail_of pol s j in
      let p : level_reach pol s gap j limit < gap i - tail_of pol s j = ltb-true (level_reach pol s gap j limit) (gap i - tail_of pol s j) (sym (held_below i limit (omega arith)) ∙ e) in
      held_below i' limit (omega arith) ∙ lt-ltb (level_reach pol s gap j limit) limit (omega arith)

-- a critical link of a source by its test
critical_is : (i j : ℕ) (k : Link) → k.critical ≡ 1 → k.from ≡ i → k.to ≡ j → critical_link i j k ≡ true
critical_is i j k a b c =
    both (eqb k.critical 1) (eqb k.from i && eqb k.to j) (eq-eqb k.critical 1 a)
    (both (eqb k.from i) (eqb k.to j) (eq-eqb k.from i b) (eq-eqb k.to j c))

is_critical : (i j : ℕ) (k : Link) → critical_link i j k ≡ true → (k.critical ≡ 1) × (k.from ≡ i) × (k.to ≡ j)
is_critical i j k e =
    let r : (eqb k.from i && eqb k.to j) ≡ true = and_right (eqb k.critical 1) (eqb k.from i && eqb k.to j) e in
    (eqb-true k.critical 1 (and_left (eqb k.critical 1) (eqb k.from i && eqb k.to j) e), eqb-true k.from i (and_left (eqb k.from i) (eqb k.to j) r), eqb-true k.to j (and_right (eqb k.from i) (eqb k.to j) r))

module _ (pol : Policy) (d : Description) (good : WellFormed d) (j : ℕ) (task : 1 ≤ j) (v : Level) (own : LevelOf pol d j v) where
  -- a critical link from a source to task j is in the task's set
  in_set : (l : ℕ) → l < d.link_count → from_source j (link_at d l) ≡ true → ((link_at d l).from - 33 < d.source_count) × (member v.critical ((link_at d l).from - 33) ≡ true)
  unfolding critical_to system
  in_set l q e = go (is_from j (link_at d l) e) (good.fields.link_from l q)
    where
      go : ((link_at d l).critical ≡ 1) × (33 ≤ (link_at d l).from) × ((link_at d l).to ≡ j) → IsTask (system d) (link_at d l).from ⊎ IsSource (system d) (link_at d l).from → ((link_at d l).from - 33 < d.source_count) × (member v.critical ((link_at d l).from - 33) ≡ true)
      go k (inl x) = absurd (omega (arith, k.1, x.1, good.fields.few_tasks))
      go k (inr x) =
          let z : (link_at d l).from ≡ 33 + ((link_at d l).from - 33) = omega (arith, k.1) in
          (omega (arith, x.1, k.1), own.critical_is ((link_at d l).from - 33) ∙ any_at _ 0 d.link_count l (omega arith) (omega arith) (critical_is (33 + ((link_at d l).from - 33)) j (link_at d l) k.0 z k.2))

  -- and a source in the set has one
  of_set : (u : ℕ) → member v.critical u ≡ true → Found (λ l. critical_link (33 + u) j (link_at d l)) 0 d.link_count
  unfolding critical_to
  of_set u e = any_found _ 0 d.link_count (sym (own.critical_is u) ∙ e)

  module _ (gap : ℕ → ℕ) where
    -- no source in the set
    pub level_empty : ((u : ℕ) → u < d.source_count → member v.critical u ≡ false) → true ≡ level_held pol d gap j
    level_empty h = sym (level_of_lem pol d gap j (λ l q e. let k = in_set l q e in absurd (not_both k.1 (h ((link_at d l).from - 33) k.0))))

    module _ (gaps : List ℕ) (z : GapsIn gap d.source_count gaps) (r : ℕ) (n : NarrowestIn v.critical gaps d.source_count r) where
      -- the narrowest is beyond the scale where there is none
      pub level_beyond : 1000000000 < r → true ≡ level_held pol d gap j
      level_beyond h = level_empty (λ u q. off u q (member v.critical u) refl)
        where
          off : (u : ℕ) → u < d.source_count → (b : Bool) → member v.critical u ≡ b → b ≡ false
          off u q true e = absurd (omega (arith, n.least u q e, z.fit.most u))
          off u q false e = refl

      -- else the link of the source that has it decides
      pub level_narrow : r ≤ 1000000000 → ltb (reach_in v.start v.loads gaps d.source_count (r - v.tail)) (r - v.tail) ≡ level_held pol d gap j
      unfolding system
      level_narrow h = same_test _ (level_held pol d gap j) forward backward
        where
          least : (u : ℕ) × (u < d.source_count) × (member v.critical u ≡ true) × (get_or gaps u 0 ≡ r)
          least = n.attained (omega arith)

          u : ℕ
          u = least.0

          spacing_is : gap (33 + u) ≡ r
          spacing_is = sym (z.at u least.1) ∙ least.3

          link : Found (λ l. critical_link (33 + u) j (link_at d l)) 0 d.link_count
          link = of_set u least.2

          ends : ((link_at d link.at).critical ≡ 1) × ((link_at d link.at).from ≡ 33 + u) × ((link_at d link.at).to ≡ j)
          ends = is_critical (33 + u) j (link_at d link.at) link.passes

          there : link.at < d.link_count
          there = omega (arith, link.within)

          sp : Spaced (system d) gap
          sp = spaced_in d gap gaps z

          limit : ℕ
          limit = r - v.tail

          reach : reach_in v.start v.loads gaps d.source_count limit ≡ level_reach pol (system d) gap j limit
          reach = reach_is d good pol j task v.start v.loads own.start_is own.load_is gaps gap z limit

          own_limit : gap (33 + u) - tail_of pol (system d) j ≡ limit
          own_limit = omega (arith, spacing_is, own.tail_is)

          decides : not (doubtful (source_verdict pol (system d) gap (33 + u) j)) ≡ ltb (reach_in v.start v.loads gaps d.source_count (r - v.tail)) (r - v.tail)
          decides = held_below pol (system d) gap sp j (33 + u) limit (omega (arith, own_limit)) ∙ ap (λ x. ltb (level_reach pol (system d) gap j limit) x) own_limit ∙ ap (λ x. ltb x limit) (sym reach)

          forward : ltb (reach_in v.start v.loads gaps d.source_count (r - v.tail)) (r - v.tail) ≡ true → level_held pol d gap j ≡ true
          forward e = level_of_lem pol d gap j (λ l q f. each l q f (is_from j (link_at d l) f) (in_set l q f))
            where
              each : (l : ℕ) → l < d.link_count → from_source j (link_at d l) ≡ true → ((link_at d l).critical ≡ 1) × (33 ≤ (link_at d l).from) × ((link_at d l).to ≡ j) → ((link_at d l).from - 33 < d.source_count) × (member v.critical ((link_at d l).from - 33) ≡ true) → held_at pol d gap l ≡ true
              each l q f k i =
                  let w : 33 + ((link_at d l).from - 33) ≡ (link_at d l).from = omega (arith, k.1) in
                  let wide : gap (33 + u) ≤ gap (link_at d l).from = omega (arith, spacing_is, n.least ((link_at d l).from - 33) i.0 i.1, z.at ((link_at d l).from - 33) i.0 ∙ ap gap w) in
                  ap (λ (x : Verdict). not (doubtful x)) (source_is pol d gap l k.0 k.1)
                  ∙ ap (λ x. not (doubtful (source_verdict pol (system d) gap (link_at d l).from x))) k.2
                  ∙ held_wide pol (system d) gap sp j (33 + u) (link_at d l).from wide (decides ∙ e)

          backward : level_held pol d gap j ≡ true → ltb (reach_in v.start v.loads gaps d.source_count (r - v.tail)) (r - v.tail) ≡ true
          backward e =
              let from : 33 ≤ (link_at d link.at).from = omega (arith, ends.1) in
              let source : from_source j (link_at d link.at) ≡ true = from_is j (link_at d link.at) ends.0 from ends.2 in
              sym decides
              ∙ sym (ap (λ (x : Verdict). not (doubtful x)) (source_is pol d gap link.at ends.0 from)
              ∙ ap (λ x. not (doubtful (source_verdict pol (system d) gap x (link_at d link.at).to))) ends.1
              ∙ ap (λ x. not (doubtful (source_verdict pol (system d) gap (33 + u) x))) ends.2)
              ∙ level_at pol d gap j link.at e there source

-- a task that the tables have no critical link from a source to
pub level_unmarked : (pol : Policy) (d : Description) (t : Tables) (j : ℕ) (gap : ℕ → ℕ) → LevelTables pol d t → j < t.tasks → get_or t.critical j 0 ≡ 0 → level_held pol d gap (suc j) ≡ true
level_unmarked pol d t j gap x p e =
    sym (level_empty pol d x.good (suc j) (omega arith) (task_level t j) (level_of-tables pol d t j x p) gap (λ u q. ap (λ s. member s u) e ∙ member_none u))
