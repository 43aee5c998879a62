use Prim.Native.Nat.{◌+◌, ◌≤◌}
use mathlib.Core.Path.{◌≡◌, sym, ◌∙◌}
use mathlib.Core.Bool.{true}
use native.Mathlib.Omega.{arith}
use lib.ListN.{get_or}
use borrow.Author.Tests.{ltb-true, ltb-false}
use Rattle.model.specs.Run.{heard}
use Rattle.arrivals.proofs.MaskLaws.{rest_all, rest_under, here, turn, passed}
use Rattle.machine.specs.Calls.{due_by}
use Rattle.machine.proofs.CallLaws.{soon_one, soon_none}
use Rattle.machine.proofs.call.too_soon.Goals as goal

pub loop-rest-init : goal.loop-rest-init
loop-rest-init c = (0, rest_all c.args.mask, λ u h e. absurd (omega arith))

pub returns-then-soon_at : goal.returns-then-soon_at
returns-then-soon_at c =
    -- source u of the mask
    let comes : heard c.args.mask c.first-u.result ≡ true = here c.args.mask c.loop-rest.invariant.0 c.loop-rest.rest c.first-u.result c.loop-rest.invariant.1 c.first-u.ensures in
    let A = c.args in
    λ d t w m g s k l a K q low. soon_one d t A.mask A.peak A.tick A.s.now.paces A.since.now A.fastest.now w m g s k l a K q low c.first-u.result comes (ltb-true _ _ (sym c.soon_at.ensures ∙ c.if-soon_at.true))

pub loop-rest-preserved : goal.loop-rest-preserved
loop-rest-preserved c =
    let A = c.args in
    let L = c.loop-rest in
    let u = c.first-u.result in
    let T = turn A.mask L.invariant.0 L.rest u c.rest-rest.result c.requires.sourced L.invariant.1 c.first-u.ensures c.rest-rest.ensures in
    (u + 1, T.after, passed (λ k. get_or A.since.now k 0 + due_by A.s.now.paces A.fastest.now A.peak k ≤ A.tick) A.mask L.invariant.0 u c.rest-rest.result T L.invariant.2 (ltb-false _ _ (sym c.soon_at.ensures ∙ c.if-soon_at.false)))

pub returns : goal.returns
returns c =
    let A = c.args in
    let L = c.loop-rest in
    λ d t w m g s k l a K q low. soon_none d t A.mask A.peak A.tick A.s.now.paces A.since.now A.fastest.now w m g s k l a K q low (λ u h. L.invariant.2 u (rest_under A.mask L.invariant.0 L.rest L.invariant.1 c.loop-rest-test.false u h) h)
