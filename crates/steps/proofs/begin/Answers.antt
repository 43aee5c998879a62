-- Bit by bit.
use mathlib.Core.Path.{◌≡◌, refl, ap, ◌∙◌}
use mathlib.Core.Bool.{◌||◌, cond}
use lib.Bits.{bit_and}
use Rattle.sets.specs.Wide.{inside}
use Rattle.words.specs.Words.{holds_on}
use Rattle.words.proofs.WordLaws.{kept_number}
use Rattle.steps.proofs.MarkLaws.{marks_started}
use Rattle.steps.proofs.begin.Goals as goal

pub returns : goal.returns
returns c =
    let A = c.args in
    let bits : c.kept_bits.result ≡ cond (holds_on A.p) 63 0 = c.kept_bits.ensures in
    record {
      started = λ d m n g r p q unused wakes grows h. marks_started d A.rows.now A.h A.w _ c.one.result c.one.ensures m g r p q h n unused wakes grows c.without.ensures c.with.ensures c.without-2.ensures (λ l. c.union.ensures l ∙ ap (λ b. inside A.w.taken l || b) (c.both.ensures l)) refl;
      then = refl;
      knob = (refl, refl);
      runs = ap (bit_and A.h) bits ∙ kept_number (holds_on A.p) A.h c.requires;
    }
