use mathlib.Core.Path.{refl}
use Rattle.steps.proofs.StepLaws.{passes}
use Rattle.steps.proofs.pass.Goals as goal

pub returns : goal.returns
returns c =
    record {
      passed = λ d used since m g h. passes d c.args.w _ used since m g (record { woken = refl; part = refl; fresh = refl; taken = refl; dropped = refl }) refl h;
      then = refl;
      knob = (refl, refl);
      runs = refl;
    }
