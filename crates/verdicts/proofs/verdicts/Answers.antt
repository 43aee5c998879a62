-- `verdicts` meets its contract: judged, the knob, then the tables. Assumes nothing.
use mathlib.Core.Path.{sym, ◌∙◌}
use Rattle.spacings.proofs.GapLaws.{gaps_of, scaled_of, knob_is}
use Rattle.model.specs.Delays.{spacing_of}
use Rattle.verdicts.proofs.TableLaws.{slot_tables, slots_at_tempo}
use Rattle.verdicts.proofs.CallLaws.{verdicts_refused, verdicts_off, verdicts_done}
use Rattle.verdicts.proofs.verdicts.Goals as goal

pub returns-in-Err : goal.returns-in-Err
returns-in-Err c = let a = c.args in c.refused.ensures ∙ verdicts_refused a.p a.d a.t _ _ (rw c.in-Err.is at c.examine_record.ensures)

pub returns-then-not-on_knob : goal.returns-then-not-on_knob
returns-then-not-on_knob c =
    let a = c.args in
    let x = rw c.in-Ok.is at c.examine_record.ensures in
    c.refused-then-not-on_knob.ensures ∙ rw (c.at.ensures) (verdicts_off a.p a.d a.t x.judged (sym c.on_knob.ensures ∙ c.if-not-on_knob.true))

pub tables_of-tables-requires : goal.tables_of-tables-requires
tables_of-tables-requires c = let x = rw c.in-Ok.is at c.examine_record.ensures in (rw x.same at x.good, rw x.same at x.worked)

pub gaps_by-gaps-requires : goal.gaps_by-gaps-requires
gaps_by-gaps-requires c =
    let t = c.tables_of-tables.ensures.by_levels in
    let k = knob_is c.args.t (sym c.on_knob.ensures ∙ c.if-not-on_knob.false) in
    (scaled_of c.args.d c.tables_of-tables.result.sources t.good t.by_source, k.0, k.1)

pub returns : goal.returns
returns c =
    let a = c.args in
    let x = rw c.in-Ok.is at c.examine_record.ensures in
    let t = c.tables_of-tables.ensures.by_levels in
    let z = gaps_of a.d c.tables_of-tables.result.sources a.t c.gaps_by-gaps.result t.by_source c.gaps_by-gaps.ensures in
    verdicts_done a.p a.d a.t c.slots_at.result x.judged (sym c.on_knob.ensures ∙ c.if-not-on_knob.false)
    (c.slots_at.ensures a.p (slot_tables a.p a.d c.tables_of-tables.result c.tables_of-tables.ensures) (spacing_of a.d a.t) z ∙ slots_at_tempo a.p a.d a.t)
