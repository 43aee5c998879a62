-- The figures of the header hold: each row is computed. Assumes nothing.
use mathlib.Core.Path.{refl}
use Rattle.model.specs.figures.Header.{HeaderFigures}
use Rattle.model.proofs.figures.Marked.{computing}

pub header_figures : HeaderFigures
unfolding computing
header_figures = record {
  whole = refl;
  end = refl;
  cut_header = refl;
  tag_4 = refl;
  tag_7 = refl;
  tag_0 = refl;
  length-5 = refl;
  length-7 = refl;
  cut_body = refl;
  field_6 = refl;
  field_4 = refl;
}
