-- The figures of the knob hold: each row is computed. Assumes nothing.
use Prim.Native.Nat.{ℕ}
use mathlib.Core.Path.{◌≡◌, refl, ap}
use Rattle.model.specs.declared.Machine.{Machine}
use Rattle.model.specs.Machine.{fastest_at}
use Rattle.model.specs.figures.Knob.{up_at, after, comes, KnobFigures}
use Rattle.model.proofs.figures.Marked.{computing}

-- what is asked of one record is computed at once
abbrev asked_turned : Machine → ℕ × ℕ × ℕ × ℕ
asked_turned m = (comes 200 104 m, comes 200 103 m, fastest_at m 0, fastest_at m 1)

turned : asked_turned (after (up_at 1) 3) ≡ (0, 14, 3000, 0)
unfolding computing
turned = refl

abbrev asked_still : Machine → ℕ × ℕ × ℕ × ℕ
asked_still m = (comes 200 1562 m, comes 200 1561 m, comes 3000 104 m, comes 3000 103 m)

still : asked_still (after (λ y. 200) 3) ≡ (0, 14, 0, 14)
unfolding computing
still = refl

pub knob_figures : KnobFigures
unfolding computing
knob_figures = record {
  slow = refl;
  fast = refl;
  up_and_down = ap (λ x. x.0) turned;
  up_and_down_early = ap (λ x. x.1) turned;
  not_turned = ap (λ x. x.0) still;
  not_turned_early = ap (λ x. x.1) still;
  own_tick = refl;
  present_tick = ap (λ x. x.2) still;
  present_tick_early = ap (λ x. x.3) still;
  free_first = refl;
  free_later = refl;
  refused_early = refl;
  refused_not_given = refl;
  off_knob = refl;
  kept_own = refl;
  kept_larger = refl;
  kept_on = ap (λ x. x.2) turned;
  kept_none = ap (λ x. x.3) turned;
  kept_again = refl;
  age_first = refl;
  age_fired = refl;
  age_rises = refl;
  age_most = refl;
  rule_start = refl;
  rule_0_younger = refl;
  rule_199 = refl;
  rule_200 = refl;
  rule_3000 = refl;
  rule_3001 = refl;
  rule_older = refl;
  rule_absent = refl;
}
