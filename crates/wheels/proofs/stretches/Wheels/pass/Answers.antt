use Prim.Native.Nat.{◌≤◌, ◌<◌, ◌+◌, ◌*◌, ◌^◌}
use mathlib.Core.Path.{◌≡◌, ap}
use lib.Pow.{pow_pos}
use Rattle.wheels.specs.Wheel.{waste_on}
use Rattle.wheels.proofs.Laws.{stretch_free}
use native.Mathlib.Omega.{arith}
use Rattle.wheels.proofs.stretches.Wheels.pass.Goals as goal

pub loop-preserved : goal.loop-preserved
loop-preserved c =
    let a = c.args in
    let s = a.self.now in
    let L = c.loop in
    let w = c.stretch-width.result in
    let o : 1 ≤ L.d = omega (arith, L.invariant.2, c.requires.1) in
    let e : w ≡ 7 * 2 ^ s.block.shift = L.invariant.0 in
    let v : s.built.slope * (L.d + w) ≡ s.built.slope * (L.d + 7 * 2 ^ s.block.shift) = ap (λ x. s.built.slope * (L.d + x)) e in
    let t : s.built.slope * (L.d + 7 * 2 ^ s.block.shift) < 8589934592 * a.rest + 33554432 * waste_on (2 ^ s.block.shift) s.places.now s.table.now L.turns s.built.count = omega (arith, v, c.if-rest-waste.false, c.waste_passed-waste.ensures.0) in (
      e,
      L.invariant.1,
      omega (arith, L.invariant.2),
      omega (arith, c.if-limit-d.false),
      c.waste_passed-waste.ensures.2 L.d o L.invariant.4,
      λ start loads gaps wheels n g on l r b Z z.
          let free = stretch_free start loads gaps wheels n (2 ^ s.block.shift) s.plan.now.periods s.places.now s.table.now L.turns s.built.count L.d s.built.slope a.rest g on s.placed (pow_pos s.block.shift) o L.invariant.4 l (λ X x. r X (omega (arith, L.invariant.2))) t (L.invariant.5 start loads gaps wheels n g on l r b) Z z in
          omega (arith, e, free),
    )
