-- One level of a description: its numbers are on the scale, and its rounds are those of the definition. Assumes nothing.
use Prim.Native.Nat.{ℕ, suc, ◌+◌, ◌-◌, ◌*◌, ◌≤◌, ◌<◌}
use mathlib.Core.Path.{◌≡◌, ap, fun_ext, ◌∙◌}
use mathlib.Core.List.{List}
use native.Mathlib.Omega.{arith}
use lib.ListN.{get_or}
use Rattle.model.specs.declared.Description.{Description}
use Rattle.model.specs.declared.Policy.{Policy}
use Rattle.model.specs.declared.Policy.TheVariants.{Preemptive, HoldOn}
use Rattle.model.specs.Graph.{system}
use Rattle.model.specs.Loads.{load}
use Rattle.model.specs.Delays.{start_of, level_of, round_of, tail_of, spacings, settle}
use Rattle.lemmas.proofs.Range.{sum_n-cong, top_to-le}
use Rattle.theory.proofs.WellFormed.{WellFormed}
use Rattle.theory.proofs.Fielded.{shaped, run_bound}
use Rattle.theory.proofs.LoadLaws.{loaded}
use Rattle.theory.proofs.LoadBounds.{load_light}
use Rattle.theory.proofs.Rounds.{Spaced}
use Rattle.theory.proofs.Levels.{sum-shift, reach_of, level_reach}
use Rattle.spacings.specs.Gaps.{Fit, GapsIn}
use Rattle.rounds.specs.Level.{LevelOn, round_in, reach_in}

-- the spacings of a table, by source number
pub spaced_in : (d : Description) (gap : ℕ → ℕ) (gaps : List ℕ) → GapsIn gap d.source_count gaps → Spaced (system d) gap
unfolding system
spaced_in d gap gaps z u a b =
    let e : 33 + (u - 33) ≡ u = omega arith in
    rw e at (rw (z.at (u - 33) (omega arith)) at (z.fit.some (u - 33) (omega arith)))

module _ (d : Description) (g : WellFormed d) where
  pub light : (i j : ℕ) → 1 ≤ j → load (system d) i j ≤ 1000000000
  unfolding system
  light = load_light (system d) (shaped d g) g.fields.few_sources (loaded (system d) (shaped d g) g.no_cycle) g.not_heavy

  run_light : (k : ℕ) → 1 ≤ k → (system d).run k ≤ 10000000
  run_light = run_bound d g.fields

  pub start_light : (pol : Policy) (j : ℕ) → 1 ≤ j → start_of pol (system d) j ≤ 1010000000
  unfolding start_of
  start_light Preemptive j o = top_to-le (λ k. load (system d) k j) 1 (j - 1) 1010000000 (λ k p q. omega (arith, light k j o))
  start_light HoldOn j o = top_to-le (λ k. (system d).run k + load (system d) k (suc j)) 1 j 1010000000 (λ k p q. omega (arith, run_light k p, light k (suc j) (omega arith)))

  pub tail_light : (pol : Policy) (j : ℕ) → 1 ≤ j → tail_of pol (system d) j ≤ 10000000
  tail_light Preemptive j o = omega arith
  tail_light HoldOn j o = run_light j o

  level_some : (pol : Policy) (j : ℕ) → 1 ≤ j → 1 ≤ level_of pol j
  level_some Preemptive j o = o
  level_some HoldOn j o = omega arith

  pub level_light : (pol : Policy) (i j : ℕ) → 1 ≤ j → load (system d) i (level_of pol j) ≤ 1000000000
  level_light pol i j o = light i (level_of pol j) (level_some pol j o)

  module _ (pol : Policy) (j : ℕ) (task : 1 ≤ j) (start : ℕ) (loads : List ℕ) (start_is : start ≡ start_of pol (system d) j) (load_is : (u : ℕ) → u < d.source_count → get_or loads u 0 ≡ load (system d) (33 + u) (level_of pol j)) (gaps : List ℕ) where
    -- every level is on the scale that the rounds ask for
    pub level_on : Fit d.source_count gaps → LevelOn start loads gaps d.source_count
    level_on f =
        record {
          few = g.fields.few_sources;
          start_most = rw start_is (start_light pol j task);
          load_most = λ u q. rw (load_is u q) (level_light pol (33 + u) j task);
          gap_some = f.some;
          gap_most = λ u q. f.most u;
        }

    module _ (gap : ℕ → ℕ) (z : GapsIn gap d.source_count gaps) where
      -- a round over the tables is a round
      round_is : (D : ℕ) → round_in start loads gaps d.source_count D ≡ round_of pol (system d) gap j D
      unfolding round_in round_of system
      round_is D =
          rw (start_is, sum-shift (λ u. load (system d) u (level_of pol j) * spacings D (gap u)) 33 d.source_count)
          (ap (λ x. start_of pol (system d) j + x) (sum_n-cong _ _ 0 d.source_count (λ u q r. term u (omega arith))))
        where
          term : (u : ℕ) → u < d.source_count → get_or loads u 0 * spacings D (get_or gaps u 0) ≡ load (system d) (33 + u) (level_of pol j) * spacings D (gap (33 + u))
          term u q = rw (load_is u q, z.at u q)

      -- where the rounds over the tables come to
      pub reach_is : (limit : ℕ) → reach_in start loads gaps d.source_count limit ≡ level_reach pol (system d) gap j limit
      unfolding reach_in level_reach
      reach_is limit =
          ap (λ (f : ℕ → ℕ). reach_of (settle (suc limit) f limit start) limit) (fun_ext round_is)
          ∙ ap (λ (x : ℕ). reach_of (settle (suc limit) (round_of pol (system d) gap j) limit x) limit) start_is
