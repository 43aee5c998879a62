-- `tempo_search::held_at` meets its contract: the spacings of the tempo are those of every description that the sources are of. Assumes nothing.
use native.Mathlib.Omega.{arith}
use Rattle.spacings.proofs.GapLaws.{scaled_of}
use Rattle.verdicts.specs.Tables.{seen}
use Rattle.tempo_search.proofs.Laws.{from_on, held_from}
use Rattle.tempo_search.proofs.held_at.Goals as goal

pub fill_gaps-requires : goal.fill_gaps-requires
fill_gaps-requires c =
    let a = c.args in
    let p = c.requires in
    (scaled_of p.0.of a.sources.now p.0.from.good p.0.from.sources_are, omega (arith, p.1), omega (arith, p.2), p.3)

pub level_held-requires : goal.level_held-requires
level_held-requires c =
    let a = c.args in
    let w = c.requires.0 in
    from_on w.model w.of w.at (seen a.level.now) a.sources.now a.t _ w.from c.fill_gaps.ensures.0

pub returns : goal.returns
returns c =
    let a = c.args in
    (λ pol d j f. held_from pol d j (seen a.level.now) a.sources.now a.t _ c.level_held.result f c.fill_gaps.ensures.0 c.level_held.ensures, c.fill_gaps.ensures.1)
