-- The steps one after the other.
use Prim.Native.Nat.{◌+◌}
use mathlib.Core.Path.{refl, sym, ap, subst, ◌∙◌}
use Rattle.words.specs.Words.{Goes}
use Rattle.steps.specs.Steps.{worked}
use Rattle.machine.proofs.call.run_on.Goals as goal

pub returns : goal.returns
returns c =
    let A = c.args in
    record {
      done = refl;
      ran = λ d since m g rows s r H. c.pass.ensures.passed d c.work-worked.new.used since (worked A.p d A.finish m) g (c.work-worked.ensures.worked_on d since m g rows s r H);
      goes = λ z r. subst (λ x. Goes A.p x c.work-worked.new.used) (sym c.pass.ensures.runs) (c.work-worked.ensures.goes z r);
      then = c.pass.ensures.then ∙ ap (λ k. k + 1) c.work-worked.ensures.then;
      knob = (c.pass.ensures.knob.0 ∙ c.work-worked.ensures.knob.0, c.pass.ensures.knob.1 ∙ c.work-worked.ensures.knob.1);
    }
