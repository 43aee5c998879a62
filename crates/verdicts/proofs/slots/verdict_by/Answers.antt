use mathlib.Core.Path.{◌≡◌}
-- `verdicts::slots::verdict_by` meets its contract. Assumes nothing.
use borrow.Author.Tests.{lt-ltb, le-ltb}
use Rattle.verdicts.proofs.SlotLaws.{by_free, by_order, by_disorder, by_rounds}
use Rattle.verdicts.proofs.slots.verdict_by.Goals as goal

pub returns-then-link-eq0 : goal.returns-then-link-eq0
returns-then-link-eq0 c = by_free c.args.link c.args.order c.args.gap c.args.reach c.if-link-eq0.true

pub returns-then-order : goal.returns-then-order
returns-then-order c = by_order c.args.link c.args.order c.args.gap c.args.reach c.if-link-eq0.false c.if-link-lt33.true c.if-order.true

pub returns-then-link-lt33 : goal.returns-then-link-lt33
returns-then-link-lt33 c = by_disorder c.args.link c.args.order c.args.gap c.args.reach c.if-link-eq0.false c.if-link-lt33.true c.if-order.false

pub returns-then-reach-from : goal.returns-then-reach-from
returns-then-reach-from c =
    let gap : c.from.result ≡ c.args.gap = c.from.ensures in
    rw (lt-ltb _ _ (rw gap at c.if-reach-from.true)) at (by_rounds c.args.link c.args.order c.args.gap c.args.reach c.if-link-eq0.false c.if-link-lt33.false)

pub returns : goal.returns
returns c =
    let gap : c.from.result ≡ c.args.gap = c.from.ensures in
    rw (le-ltb _ _ (rw gap at c.if-reach-from.false)) at (by_rounds c.args.link c.args.order c.args.gap c.args.reach c.if-link-eq0.false c.if-link-lt33.false)
