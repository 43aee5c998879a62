use native.Mathlib.Omega.{arith}
use borrow.Author.Tests.{ne_eqb}
use Rattle.model.specs.Field.{field_in}
use Rattle.fields.proofs.field_in.Goals as goal

pub returns-in-1 : goal.returns-in-1
unfolding field_in
returns-in-1 c = rw (c.in-1.is, c.word_at.ensures)

pub returns-in-2 : goal.returns-in-2
unfolding field_in
returns-in-2 c = rw (c.in-2.is, c.word_at-in-2.ensures)

pub returns-in-3 : goal.returns-in-3
unfolding field_in
returns-in-3 c = rw (c.in-3.is, c.paced_in.ensures)

pub returns-in_default : goal.returns-in_default
unfolding field_in
returns-in_default c = rw (ne_eqb c.args.header.tag 1 (λ q. omega arith), ne_eqb c.args.header.tag 2 (λ q. omega arith), ne_eqb c.args.header.tag 3 (λ q. omega arith))
