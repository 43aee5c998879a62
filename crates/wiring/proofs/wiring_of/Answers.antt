use Prim.Native.Nat.{◌<◌}
use mathlib.Core.Path.{refl, ap}
use native.Mathlib.Omega.{arith}
use Rattle.std.proofs.lemmas.List.{length-take, get_or-take}
use Rattle.model.specs.declared.Link.{Link}
use Rattle.model.specs.Refusals.{no_link}
use Rattle.wiring.proofs.RowLaws.{none_wired, from_low, to_low}
use Rattle.wiring.proofs.wiring_of.Goals as goal

pub loop-l-init : goal.loop-l-init
loop-l-init c = (refl, none_wired c.args.d c.none.result c.none-2.result c.none.ensures c.none-2.ensures, λ k h. absurd (omega arith))

pub wire-requires : goal.wire-requires
wire-requires c =
    let d = c.args.d in
    let l = c.loop-l.l in
    let T : l < d.link_count = omega (arith, c.loop-l-test.true, length-take d.link_count d.links) in (
      omega (arith, T, c.requires.fields.few_links),
      omega (arith, c.from.ensures, ap (λ (k : Link). k.from) (get_or-take d.link_count d.links l no_link T), from_low d c.requires l T),
      omega (arith, c.from-in-loop-l.ensures, ap (λ (k : Link). k.to) (get_or-take d.link_count d.links l no_link T), to_low d c.requires l T),
      c.loop-l.invariant.1.long,
    )
