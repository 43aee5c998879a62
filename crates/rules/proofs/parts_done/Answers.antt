use Prim.Native.Nat.{◌+◌}
use mathlib.Core.Path.{◌≡◌, sym, ap, ◌∙◌}
use native.Mathlib.Omega.{arith}
use lib.ListN.{get_or}
use borrow.Author.Tests.{lt-ltb, le-ltb}
use Rattle.model.specs.Basics.{given}
use Rattle.rules.proofs.RuleLaws.{counted, counted_none}
use Rattle.rules.proofs.parts_done.Goals as goal
use Rattle.rules.proofs.parts_done.Goals.{then-ticks-gt0, else-ticks-gt0}

pub loop-ticks-init : goal.loop-ticks-init
loop-ticks-init c = (omega arith, counted_none c.args.used.now)

pub loop-ticks-preserved : goal.loop-ticks-preserved
loop-ticks-preserved c =
    let L = c.loop-ticks in
    let us = c.args.used.now in
    let e : L.count ≡ L.count + 0 = omega arith in
    elim c.if-ticks-gt0.branch [
      | then-ticks-gt0 w ↦ (omega (arith, w.count-is, L.invariant.0), w.count-is ∙ counted us L.ticks-index L.count 1 L.invariant.1 (sym (ap (λ b. given b 1) (lt-ltb 0 (get_or us L.ticks-index 0) w.if-ticks-gt0.true))))
      | else-ticks-gt0 w ↦ (omega (arith, w.count-is, L.invariant.0), w.count-is ∙ e ∙ counted us L.ticks-index L.count 0 L.invariant.1 (sym (ap (λ b. given b 1) (le-ltb 0 (get_or us L.ticks-index 0) w.if-ticks-gt0.false))))
    ]
