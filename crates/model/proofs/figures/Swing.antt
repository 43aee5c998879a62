-- The figures of swing hold: each row is computed. Assumes nothing.
use mathlib.Core.Path.{refl}
use Rattle.model.specs.figures.Swing.{SwingFigures}
use Rattle.model.proofs.figures.Marked.{computing}

pub swing_figures : SwingFigures
unfolding computing
swing_figures = record {
  straight_rule = λ p t. refl;
  straight = refl;
  swing_66 = refl;
  swing_75 = refl;
  least = refl;
  written = refl;
  taken = refl;
  scale_50 = refl;
  scale_51 = refl;
  scale_75 = refl;
  scale_76 = refl;
  length-1 = refl;
  length-2 = refl;
  length-4 = refl;
  length-4_cut = refl;
  length-3_cut = refl;
  box_held = refl;
  box_doubtful = refl;
}
