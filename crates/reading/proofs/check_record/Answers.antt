use Rattle.theory.proofs.FieldLaws.{length-field, body_most}
use mathlib.Core.Path.{◌≡◌, refl, sym, ◌∙◌}
use mathlib.Core.Bool.{false}
use native.Mathlib.Omega.{arith}
use native.Mathlib.Numerals.{add-one}
use Rattle.model.specs.Basics.{up_to}
use Rattle.model.specs.Field.{check_field, field_of}
use Rattle.model.specs.File.{overfull}
use Rattle.theory.proofs.RecordLaws.{offset_more, progress_at, progress_more}
use Rattle.theory.proofs.JudgeLaws.{Few, few_counts, fine_passes}
use Rattle.theory.proofs.FileLength.{offset_none, offset_most}
use Rattle.theory.proofs.Typed.{typed_widths}
use Rattle.reading.specs.Steps.{record_checks}
use Rattle.reading.proofs.RecordSteps.{judges_start, judges_more, judges_unfit, judges_end}
use Rattle.reading.proofs.check_record.Goals as goal

pub returns-then-over_full : goal.returns-then-over_full
unfolding overfull record_checks
returns-then-over_full c = rw (← c.over_full.ensures, c.if-over_full.true, c.at.ensures)

pub loop-k-init : goal.loop-k-init
unfolding progress_at up_to
loop-k-init c =
    let d = c.args.d in
    let q = c.default-p.ensures in
    (rw (q.0, q.1.0, q.1.1.0, q.1.1.1.0, q.1.1.1.1) refl, sym (offset_none d), λ r h. judges_start d r h)

pub returns-in-Err : goal.returns-in-Err
unfolding overfull record_checks
returns-in-Err c =
    -- the counts are within their limits
    let not-over : overfull c.args.d ≡ false = sym c.over_full.ensures ∙ c.if-over_full.false in
    -- the check was made of field k of the file, at what is known before it
    let checked : check_field (progress_at c.args.d c.loop-k.k) (field_of c.args.d c.loop-k.k) ≡ c.check_field.result = rw (← c.loop-k.invariant.0, ← c.field_of-field.ensures) (sym c.check_field.ensures) in
    let d = c.args.d in
    let L = c.loop-k in
    rw (not-over, c.at-in-Err.ensures)
    (L.invariant.2 _ (rw (L.invariant.1) (judges_unfit d (typed_widths d _ c.well_formed.0) L.k c.in-Err.why c.loop-k-test.true (checked ∙ c.in-Err.is))))

pub advanced-p-requires : goal.advanced-p-requires
advanced-p-requires c = (fine_passes c.loop-k.p c.field_of-field.result (sym c.check_field.ensures ∙ c.in_default.is)).room

pub overflow_add-at : goal.overflow_add-at
unfolding overfull
overflow_add-at c =
    let not-over : overfull c.args.d ≡ false = sym c.over_full.ensures ∙ c.if-over_full.false in
    let few : Few c.args.d = few_counts c.args.d not-over in
    let d = c.args.d in
    let w = few in
    let f = c.field_of-field.result in
    omega
    (arith, c.loop-k.invariant.1, offset_most d c.loop-k.k, c.field_length-at.ensures, length-field f, body_most f, c.loop-k-test.true, w.tasks, w.sources, w.links)

pub loop-k-preserved : goal.loop-k-preserved
loop-k-preserved c =
    let checked : check_field (progress_at c.args.d c.loop-k.k) (field_of c.args.d c.loop-k.k) ≡ c.check_field.result = rw (← c.loop-k.invariant.0, ← c.field_of-field.ensures) (sym c.check_field.ensures) in
    let d = c.args.d in
    let L = c.loop-k in
    let f = c.field_of-field in (
      rw (add-one L.k, progress_more d L.k, ← L.invariant.0, ← f.ensures) c.advanced-p.ensures,
      rw (add-one L.k, offset_more d L.k, ← f.ensures) (omega (arith, L.invariant.1, c.field_length-at.ensures)),
      λ r h. L.invariant.2 r (judges_more d (typed_widths d _ c.well_formed.0) L.k r c.loop-k-test.true (checked ∙ c.in_default.is) (rw add-one at h)),
    )

pub returns : goal.returns
unfolding overfull record_checks
returns c =
    let not-over : overfull c.args.d ≡ false = sym c.over_full.ensures ∙ c.if-over_full.false in
    let d = c.args.d in
    let L = c.loop-k in
    rw not-over (L.invariant.2 _ (judges_end d L.k (omega (arith, L.auto.k-end, c.loop-k-test.false))))
