use mathlib.Core.Path.{sym, ◌∙◌}
use Rattle.loads.proofs.Checks.{ends_empty, ends_loop, ends_heavy, ends_done, self_is, links_ready, loads_of, heavy_is}
use Rattle.loads.proofs.work_out.Goals as goal

pub returns-then-n-eq0 : goal.returns-then-n-eq0
returns-then-n-eq0 c = rw (c.at.ensures) (ends_empty c.args.d c.if-n-eq0.true)

pub returns-then-brings_itself : goal.returns-then-brings_itself
returns-then-brings_itself c =
    let self = self_is c.args.d c.requires c.successors-succ.result c.successors-succ.ensures c.closed-rows.result c.closed-rows.ensures in
    rw (c.at-then-brings_itself.ensures) (ends_loop c.args.d c.if-n-eq0.false (sym self ∙ sym c.brings_itself.ensures ∙ c.if-brings_itself.true))

pub invariant_of-wired : goal.invariant_of-wired
invariant_of-wired c =
    let self = self_is c.args.d c.requires c.successors-succ.result c.successors-succ.ensures c.closed-rows.result c.closed-rows.ensures in
    record { ready = links_ready c.args.d c.requires c.successors-succ.result c.successors-succ.ensures (sym self ∙ sym c.brings_itself.ensures ∙ c.if-brings_itself.false) }

pub returns-then-heavy : goal.returns-then-heavy
returns-then-heavy c =
    let acyclic = sym (self_is c.args.d c.requires c.successors-succ.result c.successors-succ.ensures c.closed-rows.result c.closed-rows.ensures) ∙ sym c.brings_itself.ensures ∙ c.if-brings_itself.false in
    let L = loads_of c.args.d c.requires c.successors-succ.result c.successors-succ.ensures acyclic _ c.works_of-works.result c.works_of-works.ensures in
    rw (c.at-then-heavy.ensures) (ends_heavy c.args.d c.if-n-eq0.false acyclic (sym (heavy_is c.args.d _ c.works_of-works.result L) ∙ sym c.heavy.ensures ∙ c.if-heavy.true))

pub returns : goal.returns
returns c =
    let acyclic = sym (self_is c.args.d c.requires c.successors-succ.result c.successors-succ.ensures c.closed-rows.result c.closed-rows.ensures) ∙ sym c.brings_itself.ensures ∙ c.if-brings_itself.false in
    let L = loads_of c.args.d c.requires c.successors-succ.result c.successors-succ.ensures acyclic _ c.works_of-works.result c.works_of-works.ensures in
    let light = sym (heavy_is c.args.d _ c.works_of-works.result L) ∙ sym c.heavy.ensures ∙ c.if-heavy.false in
    (ends_done c.args.d c.if-n-eq0.false acyclic light, L)
