-- `checks::check_field` meets its contract. Assumes nothing.
use mathlib.Core.Path.{sym, ◌∙◌}
use Rattle.model.specs.Field.{check_field}
use Rattle.checks.proofs.check_field.Goals as goal

pub returns-then-not-in_turn : goal.returns-then-not-in_turn
unfolding check_field
returns-then-not-in_turn c = rw (sym c.in_turn.ensures ∙ c.if-not-in_turn.true)

pub returns-then-not-has_room : goal.returns-then-not-has_room
unfolding check_field
returns-then-not-has_room c = rw (sym c.in_turn.ensures ∙ c.if-not-in_turn.false, sym c.has_room.ensures ∙ c.if-not-has_room.true)

pub returns-then-not-on_scale : goal.returns-then-not-on_scale
unfolding check_field
returns-then-not-on_scale c = rw (sym c.in_turn.ensures ∙ c.if-not-in_turn.false, sym c.has_room.ensures ∙ c.if-not-has_room.false, sym c.on_scale.ensures ∙ c.if-not-on_scale.true)

pub returns-then-not-has_ends : goal.returns-then-not-has_ends
unfolding check_field
returns-then-not-has_ends c = rw (sym c.in_turn.ensures ∙ c.if-not-in_turn.false, sym c.has_room.ensures ∙ c.if-not-has_room.false, sym c.on_scale.ensures ∙ c.if-not-on_scale.false, sym c.has_ends.ensures ∙ c.if-not-has_ends.true)

pub returns : goal.returns
unfolding check_field
returns c = rw (sym c.in_turn.ensures ∙ c.if-not-in_turn.false, sym c.has_room.ensures ∙ c.if-not-has_room.false, sym c.on_scale.ensures ∙ c.if-not-on_scale.false, sym c.has_ends.ensures ∙ c.if-not-has_ends.false)
