use mathlib.Core.Path.{◌≡◌}
use native.Mathlib.Omega.{arith}
use lib.ListN.{get_or}
use Rattle.rounds.proofs.Laws.{Halfway, halfway_none, halfway_more, halfway_done, counted_at, level_any}
use Rattle.rounds.proofs.Level.next_reach.Goals as goal

pub loop-u-init : goal.loop-u-init
loop-u-init c = let a = c.args in (omega (arith, c.requires.1), λ p h q. halfway_none a.self.now.loads.now a.self.now.gaps.now a.self.now.count p a.d a.before a.ends.now q)

pub loop-u-preserved : goal.loop-u-preserved
loop-u-preserved c =
    let L = c.loop-u in
    let a = c.args in
    let y = a.self.now in
    let e = c.count_on-sum.ensures in (
      omega (arith, e.2, L.invariant.0),
      λ p h q. halfway_more y.loads.now y.gaps.now y.count p a.d a.before L.ends _ L.u L.sum _ (level_any y.start y.loads.now y.gaps.now y.count y.on_scale) h (omega arith)
          (counted_at (get_or y.loads.now L.u 0) (get_or y.gaps.now L.u 0) a.d L.ends L.u L.sum c.count_on-sum.new.end c.count_on-sum.result e.0 e.1) (L.invariant.1 p h q),
    )

pub returns : goal.returns
returns c =
    let a = c.args in
    let L = c.loop-u in
    let e : L.u ≡ a.self.now.count = omega arith in
    λ start p h q z.
    let w : Halfway a.self.now.loads.now a.self.now.gaps.now a.self.now.count p a.d a.before L.ends a.self.now.count L.sum = rw e at (L.invariant.1 p h q) in
    (halfway_done a.self.now.loads.now a.self.now.gaps.now a.self.now.count p a.d a.before L.ends L.sum start z w, w.done)
