use native.Mathlib.Omega.{arith}
use Rattle.model.specs.Report.{tempo_line, refused_line, plain_report}
use Rattle.text.proofs.Pages.{put_then, put_same}
use Rattle.report.specs.Listing.{listing}
use Rattle.report.proofs.ReportLength.{refusal_length}
use Rattle.report.proofs.Stages.{stage_refused, stage_good, stage_shown, stage_lines, stage_room}
use Rattle.report.proofs.put_plain.Goals as goal

pub refused_line-requires : goal.refused_line-requires
refused_line-requires c = let x = c.in-Err.rejection in omega (arith, c.requires, refusal_length x.why x.place)

pub returns-in-Err-clause-text : goal.returns-in-Err-clause-text
returns-in-Err-clause-text c =
    let x = c.in-Err.rejection in
    put_same (refused_line x.why x.place) _ (stage_refused c.args.p c.args.file.now x (rw c.in-Err.is at c.examine.ensures)) c.refused_line.ensures.text

pub gaps_by-gaps-requires : goal.gaps_by-gaps-requires
gaps_by-gaps-requires c =
    stage_shown c.args.p c.args.file.now c.in-Ok.judged (rw c.in-Ok.is at c.examine.ensures) c.tables_of-t.result c.tables_of-t.ensures c.quote_by-quote.result c.quote_by-quote.ensures c.shown_tempo.result c.shown_tempo.ensures

pub tempo_line-requires : goal.tempo_line-requires
tempo_line-requires c =
    let parts = stage_lines c.args.p c.args.file.now c.in-Ok.judged (rw c.in-Ok.is at c.examine.ensures) c.tables_of-t.result c.tables_of-t.ensures c.quote_by-quote.result c.quote_by-quote.ensures c.shown_tempo.result c.gaps_by-gaps.result c.slots_at-slots.result c.shown_tempo.ensures c.gaps_by-gaps.ensures c.slots_at-slots.ensures in
    let room = stage_room c.args.p c.args.file.now c.in-Ok.judged (rw c.in-Ok.is at c.examine.ensures) c.tables_of-t.result c.tables_of-t.ensures c.quote_by-quote.result c.quote_by-quote.ensures (λ i. (c.type_inv.file i).fits) c.slots_at-slots.result parts in
    omega (arith, c.requires, room)

pub link_lines-requires : goal.link_lines-requires
link_lines-requires c =
    let good = stage_good c.args.p c.args.file.now c.in-Ok.judged (rw c.in-Ok.is at c.examine.ensures) in
    let parts = stage_lines c.args.p c.args.file.now c.in-Ok.judged (rw c.in-Ok.is at c.examine.ensures) c.tables_of-t.result c.tables_of-t.ensures c.quote_by-quote.result c.quote_by-quote.ensures c.shown_tempo.result c.gaps_by-gaps.result c.slots_at-slots.result c.shown_tempo.ensures c.gaps_by-gaps.ensures c.slots_at-slots.ensures in
    let room = stage_room c.args.p c.args.file.now c.in-Ok.judged (rw c.in-Ok.is at c.examine.ensures) c.tables_of-t.result c.tables_of-t.ensures c.quote_by-quote.result c.quote_by-quote.ensures (λ i. (c.type_inv.file i).fits) c.slots_at-slots.result parts in
    let t = c.tempo_line.ensures.text in
    (good.fields.few_links, omega (arith, c.requires, room, t.put_end, t.put_size))

pub returns-clause-text : goal.returns-clause-text
returns-clause-text c =
    let parts = stage_lines c.args.p c.args.file.now c.in-Ok.judged (rw c.in-Ok.is at c.examine.ensures) c.tables_of-t.result c.tables_of-t.ensures c.quote_by-quote.result c.quote_by-quote.ensures c.shown_tempo.result c.gaps_by-gaps.result c.slots_at-slots.result c.shown_tempo.ensures c.gaps_by-gaps.ensures c.slots_at-slots.ensures in
    let d = c.in-Ok.judged.description in
    put_same _ (plain_report c.args.p c.args.file.now) parts (put_then (tempo_line c.quote_by-quote.result) (listing d c.slots_at-slots.result d.link_count) c.tempo_line.ensures.text c.link_lines.ensures.text)
