use borrow.Author.Tests.{lt-ltb, le-ltb}
use Prim.Native.Nat.{suc, ◌≤◌, ◌+◌}
use mathlib.Core.Path.{◌≡◌, refl, sym, ◌∙◌}
use native.Mathlib.Omega.{arith}
use native.Mathlib.Numerals.{add-one}
use lib.ListN.{length}
use Rattle.model.specs.Field.{field_bytes, field_of, field_count}
use Rattle.model.specs.File.{file_of, fill_with, filled_by}
use Rattle.theory.proofs.RecordLaws.{offset_more}
use Rattle.theory.proofs.JudgeLaws.{offset_le}
use Rattle.theory.proofs.FileLength.{offset_none}
use Rattle.writing.proofs.Pages.{page_long, page_none, page_more, page_all}
use Rattle.writing.proofs.put_file.Goals as goal

pub returns-then-out-n : goal.returns-then-out-n
unfolding fill_with filled_by
returns-then-out-n c = rw (← c.file_length-n.ensures, lt-ltb _ _ c.if-out-n.true, c.at.ensures) (refl, refl)

pub loop-k-init : goal.loop-k-init
loop-k-init c = (sym (offset_none c.args.d), page_none c.args.d c.args.out.now)

pub put_field-requires : goal.put_field-requires
unfolding file_of
put_field-requires c =
    -- the page has its length, and room for the next field
    let long : length c.loop-k.out ≡ length c.args.out.now = page_long c.args.d c.args.out.now c.loop-k.k c.loop-k.out c.loop-k.invariant.1 in
    let room : c.loop-k.at + length (field_bytes (field_of c.args.d c.loop-k.k)) ≤ length c.loop-k.out = let d = c.args.d in
    let k = c.loop-k.k in
    omega
    (arith, c.loop-k.invariant.0, offset_more d k, offset_le d (suc k) (field_count d) c.loop-k-test.true, c.file_length-n.ensures, c.if-out-n.false, long) in
    let r = room in
    omega (arith, rw (← c.field_of-f.ensures) at r)

pub overflow_add-at : goal.overflow_add-at
unfolding file_of
overflow_add-at c =
    let d = c.args.d in
    let k = c.loop-k.k in
    let e = rw c.field_of-f.ensures at c.field_length-at.ensures in
    omega (arith, e, c.loop-k.invariant.0, offset_more d k, offset_le d (suc k) (field_count d) c.loop-k-test.true, c.file_length-n.ensures, c.file_length-n.type_inv)

pub loop-k-preserved : goal.loop-k-preserved
loop-k-preserved c =
    let d = c.args.d in
    let L = c.loop-k in
    let f = c.field_of-f in (
      rw (add-one L.k, offset_more d L.k, ← f.ensures) (omega (arith, L.invariant.0, c.field_length-at.ensures)),
      c.put_field.ensures ∙ page_more d c.args.out.now L.k L.out L.at f.result L.invariant.1 L.invariant.0 f.ensures,
    )

pub returns : goal.returns
unfolding fill_with filled_by
returns c =
    let d = c.args.d in
    let L = c.loop-k in
    let out = c.args.out.now in
    let h = c.file_length-n.ensures in
    let e = le-ltb (length out) (length (file_of d)) (omega (arith, h, c.if-out-n.false)) in (
      rw (e, h),
      rw e (page_all d out L.k L.out L.invariant.1 (omega (arith, c.loop-k.auto.k-end, c.loop-k-test.false)) (omega (arith, h, c.if-out-n.false))),
    )
