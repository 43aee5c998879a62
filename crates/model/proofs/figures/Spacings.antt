-- The figures of verdicts by structure and spacings hold: each row is computed. Assumes nothing.
use mathlib.Core.Path.{refl}
use Rattle.model.specs.figures.Spacings.{SpacingFigures}
use Rattle.model.proofs.figures.Marked.{computing}

pub spacing_figures : SpacingFigures
unfolding computing
spacing_figures = record {
  paced = refl;
  swung = refl;
  fixed = refl;
  paced_swung = refl;
  paced_fixed = refl;
  spare = refl;
}
