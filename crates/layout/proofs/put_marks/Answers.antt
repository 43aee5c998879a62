use mathlib.Core.Bool.{false}
use mathlib.Core.Path.{◌∙◌}
use lib.ListN.{get_or}
use Rattle.layout.specs.Layout.{bit}
use Rattle.layout.proofs.Laws.{bool_byte_lem, puts_more}
use Rattle.layout.proofs.put_marks.Goals as goal

pub loop-k-preserved : goal.loop-k-preserved
loop-k-preserved c = let L = c.loop-k in let a = c.args in puts_more (λ j. bit (get_or a.marks.now j false)) a.at a.out.now L.out L.k _ L.invariant (c.from.ensures ∙ bool_byte_lem (get_or a.marks.now L.k false))
