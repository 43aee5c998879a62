-- `headers::header_at` meets its contract. Assumes nothing.
use native.Mathlib.Omega.{arith}
use borrow.Author.Tests.{lt-ltb, le-ltb, le-leb, lt-leb}
use Rattle.model.specs.Header.{header_at}
use Rattle.headers.proofs.header_at.Goals as goal

pub returns-then-s-at : goal.returns-then-s-at
unfolding header_at
returns-then-s-at c = rw (le-leb _ _ c.if-s-at.true)

pub returns-then-left-lt3 : goal.returns-then-left-lt3
unfolding header_at
returns-then-left-lt3 c = rw (lt-leb _ _ c.if-s-at.false, lt-ltb _ 3 c.if-left-lt3.true)

pub returns-then-most-eq0 : goal.returns-then-most-eq0
unfolding header_at
returns-then-most-eq0 c = rw (lt-leb _ _ c.if-s-at.false, le-ltb _ _ c.if-left-lt3.false, ← c.most_length-most.ensures, c.if-most-eq0.true)

pub returns-then-size-least_length : goal.returns-then-size-least_length
unfolding header_at
returns-then-size-least_length c = rw (lt-leb _ _ c.if-s-at.false, le-ltb _ _ c.if-left-lt3.false, ← c.most_length-most.ensures, ← c.half_at-size.ensures, ← c.least_length.ensures, lt-ltb 0 c.most_length-most.result (omega (arith, c.if-most-eq0.false)), lt-leb _ _ c.if-size-least_length.true)

pub returns-then-most-size : goal.returns-then-most-size
unfolding header_at
returns-then-most-size c = rw (lt-leb _ _ c.if-s-at.false, le-ltb _ _ c.if-left-lt3.false, ← c.most_length-most.ensures, ← c.half_at-size.ensures, ← c.least_length.ensures, lt-ltb 0 c.most_length-most.result (omega (arith, c.if-most-eq0.false)), le-leb _ _ c.if-size-least_length.false, lt-leb c.half_at-size.result c.most_length-most.result c.if-most-size.true)

pub returns-then-left-from : goal.returns-then-left-from
unfolding header_at
returns-then-left-from c = rw (lt-leb _ _ c.if-s-at.false, le-ltb _ _ c.if-left-lt3.false, ← c.most_length-most.ensures, ← c.half_at-size.ensures, ← c.least_length.ensures, lt-ltb 0 c.most_length-most.result (omega (arith, c.if-most-eq0.false)), le-leb _ _ c.if-size-least_length.false, le-leb _ _ c.if-most-size.false, lt-ltb _ _ (rw c.from.ensures at c.if-left-from.true))

pub returns : goal.returns
unfolding header_at
returns c = rw (lt-leb _ _ c.if-s-at.false, le-ltb _ _ c.if-left-lt3.false, ← c.most_length-most.ensures, ← c.half_at-size.ensures, ← c.least_length.ensures, lt-ltb 0 c.most_length-most.result (omega (arith, c.if-most-eq0.false)), le-leb _ _ c.if-size-least_length.false, le-leb _ _ c.if-most-size.false, le-ltb _ _ (rw c.from.ensures at c.if-left-from.false))
