use mathlib.Core.Path.{◌≡◌, sym, ap, ◌∙◌}
use native.Mathlib.Omega.{arith}
use native.Mathlib.Numerals.{add-one}
use Rattle.model.specs.Field.{field_count}
use Rattle.model.specs.File.{file_of}
use Rattle.theory.proofs.RecordLaws.{offset, offset_more}
use Rattle.theory.proofs.FieldLaws.{length-field, body_most}
use Rattle.theory.proofs.FileLength.{offset_none, offset_most}
use Rattle.writing.proofs.file_length.Goals as goal

pub loop-k-init : goal.loop-k-init
loop-k-init c = sym (offset_none c.args.d)

pub overflow_add-n : goal.overflow_add-n
overflow_add-n c =
    let f = c.field_of.result in
    omega
    (arith, c.loop-k.invariant, offset_most c.args.d c.loop-k.k, c.field_length-n.ensures, length-field f, body_most f, c.loop-k-test.true, c.requires)

pub loop-k-preserved : goal.loop-k-preserved
loop-k-preserved c =
    let d = c.args.d in
    let k = c.loop-k.k in
    rw (add-one k, offset_more d k, ← c.field_of.ensures) (omega (arith, c.loop-k.invariant, c.field_length-n.ensures))

pub returns : goal.returns
unfolding file_of
returns c =
    let d = c.args.d in
    let e : c.loop-k.k ≡ field_count d = omega (arith, c.loop-k.auto.k-end, c.loop-k-test.false) in
    c.loop-k.invariant ∙ ap (offset d) e
