-- The rows of the rules of the record hold: each is computed. Assumes nothing.
use mathlib.Core.Path.{refl}
use Rattle.model.specs.figures.Rules.{RuleFigures}
use Rattle.model.proofs.figures.Marked.{computing}

pub rule_figures : RuleFigures
unfolding computing
rule_figures = record {
  used_below = refl;
  used_at-run = refl;
  sleeper = refl;
  waits_awake = refl;
  waits_asleep = refl;
  absent_awake = refl;
  absent_used = refl;
  absent_aged = refl;
  absent_kept = refl;
  absent_waits = refl;
  dropped = refl;
  absent_dropped = refl;
  last_absent_dropped = refl;
}
