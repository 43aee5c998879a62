-- Part by part.
use Prim.Native.Nat.{◌+◌}
use mathlib.Core.Path.{ap, ◌∙◌}
use mathlib.Core.Bool.{◌||◌, ◌&&◌}
use Rattle.sets.specs.Wide.{inside}
use Rattle.records.proofs.RecordLaws.{into_is, unpacked}
use Rattle.records.proofs.unpack.Goals as goal

pub returns : goal.returns
returns c =
    let A = c.args in
    λ d m g r q s h k. unpacked d A.gaps.now A.wiring.now.sources A.w A.used A.since.now A.fastest m c.tasks_of.result c.links_of.result c.links_of-2.result c.ages_of.result c.tasks_of-2.result c.links_of-3.result q s h k (record {
      awake = (c.tasks_of.ensures.0, λ j p. c.tasks_of.ensures.1 j p ∙ c.union.ensures (j + 1));
      waiting = (c.links_of.ensures.0, λ l p. c.links_of.ensures.1 l p ∙ c.union-2.ensures l);
      dropped = (c.links_of-2.ensures.0, λ l p. c.links_of-2.ensures.1 l p ∙ c.union-3.ensures l ∙ ap (λ b. inside A.w.dropped l || b) (c.both.ensures l));
      aged = c.ages_of.ensures;
      again = (c.tasks_of-2.ensures.0, λ j p. c.tasks_of-2.ensures.1 j p ∙ c.both-2.ensures (j + 1));
      late = (c.links_of-3.ensures.0, λ l p. c.links_of-3.ensures.1 l p ∙ c.both-3.ensures l ∙ ap (λ b. inside A.w.fresh l && b) (into_is d A.wiring.now.rows A.w.part c.links_into-entered.result g r c.links_into-entered.ensures l));
    })
