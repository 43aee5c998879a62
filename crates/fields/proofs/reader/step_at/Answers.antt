use mathlib.Core.Path.{sym, ap, ◌∙◌}
use Rattle.std.specs.Prelude.{Ok}
use Rattle.model.specs.Field.{field_tags}
use Rattle.theory.proofs.HeaderLaws.{header_headed}
use Rattle.fields.proofs.Laws.{header_step}
use Rattle.fields.proofs.reader.step_at.Goals as goal

pub step_past-requires : goal.step_past-requires
step_past-requires c =
    let k = header_headed field_tags c.args.s.now c.args.at _ _ _ (sym c.header_at.ensures ∙ c.in-Ok-Some.is ∙ ap Ok c.in-Ok-Some.field-0-is) in
    (k.known, k.right, k.inside)

pub returns-in-Ok-Some : goal.returns-in-Ok-Some
returns-in-Ok-Some c = c.step_past.ensures ∙ header_step c.args.s.now c.args.at _ (sym c.header_at.ensures ∙ c.in-Ok-Some.is ∙ ap Ok c.in-Ok-Some.field-0-is)

pub returns-in-Ok-None : goal.returns-in-Ok-None
returns-in-Ok-None c = header_step c.args.s.now c.args.at _ (sym c.header_at.ensures ∙ c.in-Ok-None.is ∙ ap Ok c.in-Ok-None.field-0-is)

pub returns-in-Err : goal.returns-in-Err
returns-in-Err c = rw (c.at.ensures) (header_step c.args.s.now c.args.at _ (sym c.header_at.ensures ∙ c.in-Err.is))
