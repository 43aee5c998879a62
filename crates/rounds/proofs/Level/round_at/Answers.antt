use Prim.Native.Nat.{◌≤◌, ◌<◌, ◌*◌}
use mathlib.Core.Path.{◌≡◌, ap, ◌∙◌}
use native.Mathlib.Omega.{arith}
use lib.ListN.{get_or, length-set}
use Rattle.lemmas.proofs.Table.{stored}
use Rattle.rounds.specs.Level.{end_of}
use Rattle.rounds.proofs.Laws.{round_none, round_more, term_most, spacings_most}
use Rattle.rounds.proofs.Level.round_at.Goals as goal

pub loop-u-init : goal.loop-u-init
loop-u-init c = let a = c.args in (round_none a.self.now.start a.self.now.loads.now a.self.now.gaps.now a.self.now.count a.d, omega (arith, c.args.self.now.on_scale.start_most), record { sized = c.told-ends; at = λ k q y. absurd (omega arith) })

pub end_of-requires : goal.end_of-requires
end_of-requires c =
    let u = c.loop-u.u in
    (rw (c.spacings_in-count.ensures, c.from.ensures) (spacings_most c.args.d (get_or c.args.self.now.gaps.now u 0) (c.args.self.now.on_scale.gap_some u (omega arith)) c.requires), c.args.self.now.on_scale.gap_most u (omega arith))

pub overflow_mul-sum : goal.overflow_mul-sum
overflow_mul-sum c =
    -- the part of one source is at most a thousand million times a thousand million
    let part : get_or c.args.self.now.loads.now c.loop-u.u 0 * c.spacings_in-count.result ≤ 1000000000000000000 = let L = c.loop-u in
    rw (c.spacings_in-count.ensures, c.from.ensures) (term_most c.args.self.now.start c.args.self.now.loads.now c.args.self.now.gaps.now c.args.self.now.count c.args.d c.args.self.now.on_scale c.requires L.u (omega arith)) in
    omega (arith, part)

pub overflow_add-sum : goal.overflow_add-sum
overflow_add-sum c =
    let part : get_or c.args.self.now.loads.now c.loop-u.u 0 * c.spacings_in-count.result ≤ 1000000000000000000 = let L = c.loop-u in
    rw (c.spacings_in-count.ensures, c.from.ensures) (term_most c.args.self.now.start c.args.self.now.loads.now c.args.self.now.gaps.now c.args.self.now.count c.args.d c.args.self.now.on_scale c.requires L.u (omega arith)) in
    omega (arith, part, c.loop-u.invariant.1, c.args.self.now.on_scale.few)

pub loop-u-preserved : goal.loop-u-preserved
loop-u-preserved c =
    let part : get_or c.args.self.now.loads.now c.loop-u.u 0 * c.spacings_in-count.result ≤ 1000000000000000000 = let L = c.loop-u in
    rw (c.spacings_in-count.ensures, c.from.ensures) (term_most c.args.self.now.start c.args.self.now.loads.now c.args.self.now.gaps.now c.args.self.now.count c.args.d c.args.self.now.on_scale c.requires L.u (omega arith)) in
    let L = c.loop-u in
    let a = c.args in
    let e = (rw c.from.ensures at c.spacings_in-count.ensures) in (
      omega (arith, L.invariant.0, round_more a.self.now.start a.self.now.loads.now a.self.now.gaps.now a.self.now.count a.d L.u, ap (λ x. get_or a.self.now.loads.now L.u 0 * x) e),
      omega (arith, part, L.invariant.1),
      record {
        sized = length-set L.ends L.u c.end_of.result ∙ L.invariant.2.sized;
        at = stored (λ k x. 0 < get_or a.self.now.loads.now k 0 → x ≡ end_of a.self.now.gaps.now a.d k) 0 L.ends L.u c.end_of.result (omega (arith, L.invariant.2.sized, c.args.self.now.on_scale.few)) L.invariant.2.at (λ y. c.end_of.ensures y ∙ ap (λ x. x * get_or a.self.now.gaps.now L.u 0) e);
      },
    )
