use mathlib.Core.Path.{refl, sym, ap, ◌∙◌}
use Prim.Native.Nat.{max}
use lib.ListN.{get_or}
use Rattle.model.specs.Basics.{top_n}
use Rattle.lemmas.proofs.Range.{top_more}
use Rattle.loads.proofs.levels.largest.Goals as goal

pub loop-load-init : goal.loop-load-init
unfolding top_n
loop-load-init c = refl

pub loop-load-preserved : goal.loop-load-preserved
loop-load-preserved c =
    let L = c.loop-load in
    let x = get_or c.args.loads.now L.load-index 0 in
    c.max-best.ensures ∙ (ap (λ b. max b x) L.invariant ∙ sym (top_more (λ k. get_or c.args.loads.now k 0) L.load-index))
