use mathlib.Core.Path.{◌≡◌, ◌∙◌, ap, sym}
use Rattle.model.specs.declared.Source.TheVariants.{Fixed, Paced, Swung}
use Rattle.model.specs.declared.Field.TheVariants.{OfSource}
use Rattle.theory.proofs.FieldLaws.{length-field}
use Rattle.theory.proofs.FileLength.{length-task, length-link}
use Rattle.fields.proofs.field_length.Goals as goal

pub returns-in-OfTask : goal.returns-in-OfTask
returns-in-OfTask c = rw (c.in-OfTask.is) (sym (length-task _))

pub returns-in-OfSource-Fixed : goal.returns-in-OfSource-Fixed
returns-in-OfSource-Fixed c =
    let i = c.in-OfSource-Fixed in
    rw (i.is ∙ ap OfSource (rw (i.is) at i.field-0-is)) (sym (length-field (OfSource (Fixed _))))

pub returns-in-OfSource-Paced : goal.returns-in-OfSource-Paced
returns-in-OfSource-Paced c =
    let i = c.in-OfSource-Paced in
    rw (i.is ∙ ap OfSource (rw (i.is) at i.field-0-is)) (sym (length-field (OfSource (Paced _))))

pub returns-in-OfSource-Swung : goal.returns-in-OfSource-Swung
returns-in-OfSource-Swung c =
    let i = c.in-OfSource-Swung in
    rw (i.is ∙ ap OfSource (rw (i.is) at i.field-0-is)) (sym (length-field (OfSource (Swung _ _))))

pub returns-in-OfLink : goal.returns-in-OfLink
returns-in-OfLink c = rw (c.in-OfLink.is) (sym (length-link _))
