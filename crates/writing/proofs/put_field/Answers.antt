use mathlib.Core.Path.{◌≡◌, ap, ◌∙◌}
use native.Mathlib.Omega.{arith}
use Rattle.model.specs.declared.Source.TheVariants.{Fixed, Paced, Swung}
use Rattle.model.specs.declared.Field.TheVariants.{OfSource}
use Rattle.model.specs.Header.{bytes_of}
use Rattle.model.specs.Field.{body_of, field_bytes}
use Rattle.theory.proofs.FieldLaws.{length-field}
use Rattle.theory.proofs.FileLength.{length-task, length-link}
use Rattle.writing.proofs.put_field.Goals as goal

pub put_wide-requires : goal.put_wide-requires
put_wide-requires c = omega (arith, rw c.in-OfTask.is at c.requires, length-task c.in-OfTask.e)

pub put_wide-requires-in-OfSource-Fixed : goal.put_wide-requires-in-OfSource-Fixed
put_wide-requires-in-OfSource-Fixed c =
    let i = c.in-OfSource-Fixed in
    omega (arith, rw (i.is ∙ ap OfSource (rw (i.is) at i.field-0-is)) at c.requires, length-field (OfSource (Fixed i.m)))

pub put_paced-requires : goal.put_paced-requires
put_paced-requires c =
    let i = c.in-OfSource-Paced in
    omega (arith, rw (i.is ∙ ap OfSource (rw (i.is) at i.field-0-is)) at c.requires, length-field (OfSource (Paced i.n)))

pub put_swung-requires : goal.put_swung-requires
put_swung-requires c =
    let i = c.in-OfSource-Swung in
    omega (arith, rw (i.is ∙ ap OfSource (rw (i.is) at i.field-0-is)) at c.requires, length-field (OfSource (Swung i.n i.swing)))

pub put_link-requires : goal.put_link-requires
put_link-requires c = omega (arith, rw c.in-OfLink.is at c.requires, length-link c.in-OfLink.l)

pub returns-in-OfTask : goal.returns-in-OfTask
unfolding body_of bytes_of field_bytes
returns-in-OfTask c = rw c.in-OfTask.is c.put_wide.ensures

pub returns-in-OfSource-Fixed : goal.returns-in-OfSource-Fixed
unfolding body_of bytes_of field_bytes
returns-in-OfSource-Fixed c =
    let i = c.in-OfSource-Fixed in
    rw (i.is ∙ ap OfSource (rw (i.is) at i.field-0-is)) c.put_wide-in-OfSource-Fixed.ensures

pub returns-in-OfSource-Paced : goal.returns-in-OfSource-Paced
unfolding body_of bytes_of field_bytes
returns-in-OfSource-Paced c =
    let i = c.in-OfSource-Paced in
    rw (i.is ∙ ap OfSource (rw (i.is) at i.field-0-is)) c.put_paced.ensures

pub returns-in-OfSource-Swung : goal.returns-in-OfSource-Swung
unfolding body_of bytes_of field_bytes
returns-in-OfSource-Swung c =
    let i = c.in-OfSource-Swung in
    rw (i.is ∙ ap OfSource (rw (i.is) at i.field-0-is)) c.put_swung.ensures

pub returns-in-OfLink : goal.returns-in-OfLink
unfolding body_of bytes_of field_bytes
returns-in-OfLink c = rw c.in-OfLink.is c.put_link.ensures
