use mathlib.Core.Path.{refl, sym, ap, ◌∙◌}
use Prim.Native.Nat.{◌+◌, max}
use lib.ListN.{get_or}
use Rattle.model.specs.Basics.{top_n}
use Rattle.lemmas.proofs.Range.{top_more}
use Rattle.loads.specs.Tables.{held}
use Rattle.loads.proofs.levels.longest_hold.Goals as goal

pub loop-k-init : goal.loop-k-init
unfolding top_n
loop-k-init c = refl

pub loop-k-preserved : goal.loop-k-preserved
loop-k-preserved c =
    let L = c.loop-k in
    let f = held c.args.runs.now (λ i. get_or c.args.loads.now i 0) in
    let x = get_or c.args.loads.now L.k 0 in
    c.max-best.ensures ∙ (ap (λ b. max b (c.from.result + x)) L.invariant ∙ (ap (λ r. max (top_n f 0 L.k) (r + x)) c.from.ensures ∙ sym (top_more f L.k)))
