-- Bit by bit.
use mathlib.Core.Path.{refl}
use Rattle.steps.proofs.MarkLaws.{marks_slept}
use Rattle.steps.proofs.sleep.Goals as goal

pub returns : goal.returns
returns c =
    let A = c.args in
    record {
      slept = λ d m g r p q unused h. marks_slept d A.rows.now A.h A.w _ c.one.result c.one.ensures m g r p q h unused c.without.ensures c.without-2.ensures (refl, refl, refl);
      then = refl;
      knob = (refl, refl);
      runs = refl;
    }
