-- `bench_clock` meets its contract. Assumes nothing.
use mathlib.Core.Path.{◌≡◌, sym, ap, ◌∙◌}
use mathlib.Core.Bool.{Bool, true, cond}
use mir.Syntax.{w64}
use mir.ValLaws.{to_z-of_z}
use Rattle.model.specs.declared.Refusal.TheVariants.{OffKnob}
use Rattle.model.specs.Refusals.{accepted, refusal}
use Rattle.model.specs.Verdicts.{on_knob}
use Rattle.model.specs.Clock.{clock_spacing}
use Rattle.library.specs.Replies.{reply}
use Rattle.library.proofs.Laws.{reply_done}
use Rattle.library.proofs.bench_clock.Goals as goal

pub returns-then-on_knob : goal.returns-then-on_knob
returns-then-on_knob c =
    -- the tempo is on the knob
    let on : on_knob c.args.tempo ≡ true = sym c.on_knob.ensures ∙ c.if-on_knob.true in
    let t = c.args.tempo in
    let spacing : c.clock_spacing.result ≡ clock_spacing t = c.clock_spacing.ensures in
    to_z-of_z w64 c.from.result (record { sfits = c.from.type_inv }) ∙ c.from.ensures ∙ reply_done c.clock_spacing.result ∙ ap (λ x. reply (accepted x)) spacing
    ∙ ap (λ (b : Bool). reply (cond b (accepted (clock_spacing t)) (refusal OffKnob 0))) (sym on)
