use borrow.Author.Tests.{lt-ltb, le-ltb}
use Prim.Native.Nat.{◌+◌, ◌-◌}
use mathlib.Core.Path.{◌≡◌}
use native.Mathlib.Omega.{arith}
use Rattle.model.specs.Field.{field_of}
use Rattle.fields.proofs.field_of.Goals as goal

pub returns-then-k-d : goal.returns-then-k-d
unfolding field_of
returns-then-k-d c = rw (lt-ltb _ _ c.if-k-d.true)

pub returns-then-i-d : goal.returns-then-i-d
unfolding field_of
returns-then-i-d c =
    let d = c.args.d in
    let k = c.args.k in
    rw (le-ltb k d.task_count c.if-k-d.false, lt-ltb k (d.task_count + d.source_count) (omega arith))

pub returns : goal.returns
unfolding field_of
returns c =
    let d = c.args.d in
    let k = c.args.k in
    let e : k - d.task_count - d.source_count ≡ k - (d.task_count + d.source_count) = omega arith in
    rw (e, le-ltb k d.task_count c.if-k-d.false, le-ltb k (d.task_count + d.source_count) (omega arith))
