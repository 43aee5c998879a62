use Rattle.std.proofs.Common.{rules}
use Prim.Native.Nat.{ℕ, suc, ◌-◌, ◌≤◌, ◌<◌}
use mathlib.Core.Path.{◌≡◌, refl, sym, ap, ◌∙◌}
use mathlib.Core.List.{List}
use lib.ListN.{length}
use native.Mathlib.Omega.{arith}
use Rattle.std.specs.Prelude.{Option, Some, None, Result, Ok, Err}
use Rattle.theory.proofs.FieldLaws.{length-field, take-took, took_length, took_inside}
use Rattle.theory.proofs.ReadLaws.{counts_more, task_turn, source_turn, link_room}
use Rattle.model.specs.declared.Field.{Field}
use Rattle.model.specs.declared.Rejection.{Rejection}
use Rattle.model.specs.Field.{Whole, Fine, take_field, check_field, with_field, no_progress}
use Rattle.model.specs.declared.Progress.{Progress}
use Rattle.theory.proofs.JudgeLaws.{Passes, fine_passes}
use Rattle.reading.specs.Steps.{checked_taken, found_of, as_result}
use Rattle.reading.proofs.Laws.{found_back, fine_taken, reads_more, reads_end, reads_refused}
use Rattle.reading.proofs.parse.Goals as goal
use Rattle.reading.proofs.parse.Goals.{in-OfTask, in-OfSource, in-OfLink}

module _ (p : Progress) (s : List ℕ) (at : ℕ) (f : Field) (next : ℕ) {x : Result (Option (Field × ℕ)) Rejection} {y : Option (Field × ℕ)} (a : x ≡ found_of (checked_taken p (take_field s at)) at) (b : x ≡ Ok y) (q : y ≡ Some (f, next)) where
  -- the field that was taken, and that it may stand where it does
  taken_fine : (take_field s at ≡ Whole f next) × (check_field p f ≡ Fine)
  taken_fine = fine_taken p (take_field s at) f next (found_back (checked_taken p (take_field s at)) at (Ok (Some (f, next))) (sym a ∙ b ∙ ap Ok q))

  passes : Passes p f
  passes = fine_passes p f taken_fine.1

  -- the reading goes on past the field, within the bytes
  goes_on : (at < next) × (next ≤ length s)
  goes_on =
      let k = take-took s at f next taken_fine.0 in
      (omega (arith, took_length k, length-field f), took_inside k)

pub loop-field-init : goal.loop-field-init
loop-field-init c =
    let q = c.default-p.ensures in
    let e : c.default-p.result ≡ no_progress = rw (q.0, q.1.0, q.1.1.0, q.1.1.1.0, q.1.1.1.1) refl in
    rw (e, c.blank-d.ensures) (record { tasks = refl; sources = refl; links = refl }, λ r h. h (suc (length c.args.s.now - c.args.start)) (omega arith) (omega arith))

pub returns-in_err-field : goal.returns-in_err-field
returns-in_err-field c =
    let L = c.loop-field in
    let e = L.invariant.1 _ (reads_refused c.args.s.now L.at L.p L.d c.in_err-field.field-0.0 (sym c.checked_at.ensures ∙ c.in_err-field.was)) in
    let h : c.from_residual.result ≡ Err c.in_err-field.field-0.0 = search rules in
    h ∙ ap as_result e

pub returns-in_default : goal.returns-in_default
returns-in_default c =
    let L = c.loop-field in
    let e = found_back (checked_taken L.p (take_field c.args.s.now L.at)) L.at (Ok None) (sym c.checked_at.ensures ∙ c.in_ok-field.was ∙ ap Ok c.in_default.is) in
    ap as_result (L.invariant.1 _ (reads_end c.args.s.now L.at L.p L.d e))

-- there is room for the field
pub bounds-d-d : goal.bounds-d-d
bounds-d-d c = (task_turn c.loop-field.p c.loop-field.d _ c.loop-field.invariant.0 (rw (c.in-OfTask.is) at (passes c.loop-field.p c.args.s.now c.loop-field.at c.in-Some.field c.in-Some.next c.checked_at.ensures c.in_ok-field.was c.in-Some.is))).2

pub offset_bounds-d-d : goal.offset_bounds-d-d
offset_bounds-d-d c = omega (arith, bounds-d-d c)

pub overflow_add-d : goal.overflow_add-d
overflow_add-d c = omega (arith, bounds-d-d c)

pub bounds-d-d-in-OfSource : goal.bounds-d-d-in-OfSource
bounds-d-d-in-OfSource c = (source_turn c.loop-field.p c.loop-field.d _ c.loop-field.invariant.0 (rw (c.in-OfSource.is) at (passes c.loop-field.p c.args.s.now c.loop-field.at c.in-Some.field c.in-Some.next c.checked_at.ensures c.in_ok-field.was c.in-Some.is))).1

pub offset_bounds-d-d-in-OfSource : goal.offset_bounds-d-d-in-OfSource
offset_bounds-d-d-in-OfSource c = omega (arith, bounds-d-d-in-OfSource c)

pub overflow_add-d-in-OfSource : goal.overflow_add-d-in-OfSource
overflow_add-d-in-OfSource c = omega (arith, bounds-d-d-in-OfSource c)

pub bounds-d-d-in-OfLink : goal.bounds-d-d-in-OfLink
bounds-d-d-in-OfLink c = link_room c.loop-field.p c.loop-field.d _ c.loop-field.invariant.0 (rw (c.in-OfLink.is) at (passes c.loop-field.p c.args.s.now c.loop-field.at c.in-Some.field c.in-Some.next c.checked_at.ensures c.in_ok-field.was c.in-Some.is))

pub offset_bounds-d-d-in-OfLink : goal.offset_bounds-d-d-in-OfLink
offset_bounds-d-d-in-OfLink c = omega (arith, bounds-d-d-in-OfLink c)

pub overflow_add-d-in-OfLink : goal.overflow_add-d-in-OfLink
overflow_add-d-in-OfLink c = omega (arith, bounds-d-d-in-OfLink c)

pub advanced-p-requires : goal.advanced-p-requires
advanced-p-requires c =
    let same : c.match-field.field ≡ c.in-Some.field =
    elim c.match-field.branch [ in-OfTask w ↦ w.field-is ∙ sym w.in-OfTask.is | in-OfSource w ↦ w.field-is ∙ sym w.in-OfSource.is | in-OfLink w ↦ w.field-is ∙ sym w.in-OfLink.is ] in
    rw same (passes c.loop-field.p c.args.s.now c.loop-field.at c.in-Some.field c.in-Some.next c.checked_at.ensures c.in_ok-field.was c.in-Some.is).room

pub loop-field-smaller : goal.loop-field-smaller
loop-field-smaller c =
    let g = goes_on c.loop-field.p c.args.s.now c.loop-field.at c.in-Some.field c.in-Some.next c.checked_at.ensures c.in_ok-field.was c.in-Some.is in
    omega (arith, g)

pub loop-field-preserved : goal.loop-field-preserved
loop-field-preserved c =
    let L = c.loop-field in
    let f = c.in-Some.field in
    -- the description after the match has the field
    let w : (c.match-field.d ≡ with_field L.d f) × (c.match-field.field ≡ f) =
    elim c.match-field.branch [
      | in-OfTask w ↦ (w.d-is ∙ ap (with_field L.d) (sym w.in-OfTask.is), w.field-is ∙ sym w.in-OfTask.is)
      | in-OfSource w ↦ (w.d-is ∙ ap (with_field L.d) (sym w.in-OfSource.is), w.field-is ∙ sym w.in-OfSource.is)
      | in-OfLink w ↦ (w.d-is ∙ ap (with_field L.d) (sym w.in-OfLink.is), w.field-is ∙ sym w.in-OfLink.is)
    ]
    in
    let t = taken_fine L.p c.args.s.now L.at f c.in-Some.next c.checked_at.ensures c.in_ok-field.was c.in-Some.is in (
      rw (c.advanced-p.ensures, w.1, w.0) (counts_more L.p L.d f L.invariant.0),
      λ r h. L.invariant.1 r (reads_more c.args.s.now L.at L.p L.d f c.in-Some.next r t.0 t.1 (rw (c.advanced-p.ensures, w.1, w.0) at h)),
    )
