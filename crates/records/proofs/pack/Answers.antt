-- Part by part.
use mathlib.Core.Path.{◌≡◌, ap, ◌∙◌}
use mathlib.Core.Bool.{◌||◌, ◌&&◌, not}
use lib.ListN.{length}
use lib.Dec.{ltb}
use Rattle.sets.specs.Sets.{member}
use Rattle.sets.specs.Wide.{inside}
use Rattle.assurance.proofs.Firing.{Sized}
use Rattle.records.specs.Record.{TasksIn, PartIn}
use Rattle.records.proofs.FromFnLaws.{mapped_all}
use Rattle.records.proofs.RecordLaws.{into_is, packed, one_part, tasks_marked, part_marked}
use borrow.Author.Rules.{rules}
use Rattle.records.proofs.pack.Goals as goal

pub returns : goal.returns
returns c =
    let sizes : Sized c.args.m = let m = c.args.m in
    let awakes : length m.awake ≡ 32 = search rules in
    let useds : length m.used ≡ 32 = search rules in
    let waitings : length m.waiting ≡ 256 = search rules in
    let droppeds : length m.dropped ≡ 256 = search rules in
    let old : length m.ages ≡ 16 = search rules in
    let kept : length m.fastest ≡ 16 = search rules in
    let agains : length m.again ≡ 32 = search rules in
    let lates : length m.late ≡ 256 = search rules in
    record { awakes = awakes; useds = useds; waitings = waitings; droppeds = droppeds; ages = old; fastests = kept; agains = agains; lates = lates } in
    let A = c.args in
    let m = A.m in
    let awake : TasksIn m.awake c.marked_from.result = tasks_marked m.awake c.marked_from.result c.marked_from.ensures in
    let again : TasksIn m.again c.marked_from-2.result = tasks_marked m.again c.marked_from-2.result c.marked_from-2.ensures in
    let part : PartIn m.used c.marked_from-part.result = part_marked m.used c.map.result c.marked_from-part.result sizes.useds c.map.ensures.items.long (λ k p. mapped_all _ 32 (λ x y. y ≡ ltb 0 x) _ (λ x y q e. search rules) m.used c.map.result c.map.ensures.items k 0 _ p) (tasks_marked c.map.result c.marked_from-part.result c.marked_from-part.ensures) in
    record {
      holds = λ d g r l. packed d m g l sizes c.since_of.result _ c.marked_from.result c.marked_from-2.result c.links_in-waiting.result c.links_in.result c.links_into.result awake again part (λ k. c.union.ensures k ∙ ap (λ b. b || member c.marked_from-2.result k) (c.without.ensures k)) c.links_in-waiting.ensures c.links_in.ensures (into_is d A.rows.now c.marked_from-part.result c.links_into.result g r c.links_into.ensures) (λ i. c.without-taken.ensures i ∙ ap (λ b. b && not (inside c.links_in.result i)) (c.both.ensures i)) c.without-2.ensures c.links_in-2.ensures c.since_of.ensures c.begin.ensures.first;
      goes = λ a. c.running_in.ensures m.used sizes.useds part (one_part A.p m a);
      first = c.begin.ensures.first;
      knob = c.begin.ensures.knob;
    }
