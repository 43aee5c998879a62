use mathlib.Core.Path.{◌≡◌, ap, ◌∙◌}
use native.Mathlib.Omega.{arith}
use Rattle.std.proofs.lemmas.List.{length-take}
use Rattle.lemmas.proofs.Front.{front_at, front_all}
use Rattle.verdicts.specs.Tables.{narrower_of}
use Rattle.verdicts.proofs.LevelSteps.{narrowest_more}
use Rattle.verdicts.proofs.level.narrowest.Goals as goal

pub loop-u-preserved : goal.loop-u-preserved
loop-u-preserved c =
    let L = c.loop-u in
    let a = c.args in
    narrowest_more a.set a.gaps.now L.u L.best c.narrower-best.result c.has.result c.has.ensures
    (c.narrower-best.ensures ∙ ap (λ x. narrower_of L.best c.has.result x) (c.from.ensures ∙ front_at a.m a.gaps.now L.u 0 c.loop-u-test.true))
    L.invariant

pub returns : goal.returns
returns c =
    let L = c.loop-u in
    let a = c.args in
    let e : L.u ≡ a.m = omega (arith, front_all a.m a.gaps.now L.u (omega (arith, c.requires, c.told-gaps)) c.loop-u-test.false, L.auto.u-end, length-take a.m a.gaps.now) in
    rw e at L.invariant
