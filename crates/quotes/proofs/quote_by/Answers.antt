use Prim.Native.Nat.{suc}
use mathlib.Core.Path.{◌≡◌, sym, ap, ◌∙◌}
use native.Mathlib.Omega.{arith}
use lib.ListN.{get_or}
use Rattle.model.specs.declared.Description.{Description}
use Rattle.model.specs.declared.Policy.{Policy}
use Rattle.model.specs.Delays.{spacing_of}
use Rattle.spacings.proofs.GapLaws.{scaled_of}
use Rattle.verdicts.specs.Tables.{Level, LevelTables, seen}
use Rattle.verdicts.proofs.NarrowLaws.{level_unmarked}
use Rattle.tempo_search.specs.Search.{SlowerAt}
use Rattle.tempo_search.proofs.Laws.{from_on}
use Rattle.quotes.proofs.Laws.{level_from, held_is, best_held, best_slower, best_quote, no_level, no_order}
use Rattle.quotes.proofs.quote_by.Goals as goal

pub returns-then-not-t : goal.returns-then-not-t
returns-then-not-t c = λ pol d k o. rw (c.at.ensures) (no_order pol d k.good (sym o ∙ c.if-not-t.true))

pub gaps_by-gaps-requires : goal.gaps_by-gaps-requires
gaps_by-gaps-requires c = let w = c.requires in (scaled_of w.of c.args.t.now.sources w.tables.good w.tables.by_source, omega arith, omega arith)

pub loop-j-preserved-then-level-eq0 : goal.loop-j-preserved-then-level-eq0
loop-j-preserved-then-level-eq0 c =
    let L = c.loop-j in
    let t = c.args.t.now in
    let none : get_or t.critical L.j 0 ≡ 0 = sym (ap (λ (x : Level). x.critical) c.level-level.ensures) ∙ c.if-level-eq0.true in
    (L.invariant.0, L.invariant.1, L.invariant.2, λ pol d k. best_held pol d L.j L.best (level_unmarked pol d t L.j (spacing_of d L.best) k c.loop-j-test.true none) (L.invariant.3 pol d k))

pub level_held-requires : goal.level_held-requires
level_held-requires c =
    let L = c.loop-j in
    let w = c.requires in
    let v = seen c.level-level.result in
    from_on w.model w.of (suc L.j) v c.args.t.now.sources L.best L.gaps (level_from w.model w.of c.args.t.now L.j v w.tables c.loop-j-test.true c.level-level.ensures) L.invariant.2

pub loop-j-preserved-then-level_held : goal.loop-j-preserved-then-level_held
loop-j-preserved-then-level_held c =
    let L = c.loop-j in
    let t = c.args.t.now in
    let v = seen c.level-level.result in
    (L.invariant.0, L.invariant.1, L.invariant.2, λ pol d k. best_held pol d L.j L.best (sym (held_is pol d t L.j v k c.loop-j-test.true c.level-level.ensures L.best L.gaps c.level_held.result L.invariant.2 c.level_held.ensures) ∙ c.if-level_held.true) (L.invariant.3 pol d k))

pub returns-in_default : goal.returns-in_default
returns-in_default c =
    let L = c.loop-j in
    let t = c.args.t.now in
    let v = seen c.level-level.result in
    λ pol d k o.
    let doubtful = sym (held_is pol d t L.j v k c.loop-j-test.true c.level-level.ensures L.best L.gaps c.level_held.result L.invariant.2 c.level_held.ensures) ∙ c.if-level_held.false in
    rw (c.at-in_default.ensures) (no_level pol d k.good (suc L.j) (c.in_default.ensures pol d (suc L.j) (level_from pol d t L.j v k c.loop-j-test.true c.level-level.ensures) doubtful))

pub gaps_by-gaps-requires-in-loop-j : goal.gaps_by-gaps-requires-in-loop-j
gaps_by-gaps-requires-in-loop-j c =
    let L = c.loop-j in
    let t = c.args.t.now in
    let v = seen c.level-level.result in
    let w = c.requires in
    let doubtful = sym (held_is w.model w.of t L.j v w.tables c.loop-j-test.true c.level-level.ensures L.best L.gaps c.level_held.result L.invariant.2 c.level_held.ensures) ∙ c.if-level_held.false in
    let x = c.in-Some.ensures w.model w.of (suc L.j) (level_from w.model w.of t L.j v w.tables c.loop-j-test.true c.level-level.ensures) doubtful in
    (scaled_of w.of t.sources w.tables.good w.tables.by_source, x.0, omega (arith, x.1, L.invariant.1))

pub loop-j-preserved : goal.loop-j-preserved
loop-j-preserved c =
    let L = c.loop-j in
    let t = c.args.t.now in
    let v = seen c.level-level.result in
    -- the tempo found, of every description that the tables are of
    let found : (pol : Policy) (d : Description) → LevelTables pol d t → SlowerAt pol d (suc L.j) L.best c.in-Some.slow =
    λ pol d k. c.in-Some.ensures pol d (suc L.j) (level_from pol d t L.j v k c.loop-j-test.true c.level-level.ensures) (sym (held_is pol d t L.j v k c.loop-j-test.true c.level-level.ensures L.best L.gaps c.level_held.result L.invariant.2 c.level_held.ensures) ∙ c.if-level_held.false) in
    let w = c.requires in
    let x = found w.model w.of w.tables in
    (x.0, omega (arith, x.1, L.invariant.1), c.gaps_by-gaps-in-loop-j.ensures, λ pol d k. best_slower pol d k.good L.j L.best c.in-Some.slow (found pol d k) (L.invariant.3 pol d k))

pub returns : goal.returns
returns c =
    let L = c.loop-j in
    λ pol d k o.
    let e : L.j ≡ d.task_count = omega (arith, L.auto.j-end, c.loop-j-test.false, k.counted) in
    best_quote pol d k.good (sym o ∙ c.if-not-t.false) L.best (rw e at (L.invariant.3 pol d k))
