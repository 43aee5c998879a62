use Rattle.spacings.proofs.GapLaws.{gaps_of, scaled_of}
use Rattle.spacings.proofs.gaps_of.Goals as goal

pub gaps_by-requires : goal.gaps_by-requires
gaps_by-requires c = (scaled_of c.args.d c.sources_of.result c.requires.0 c.sources_of.ensures, c.requires.1, c.requires.2)

pub returns : goal.returns
returns c = gaps_of c.args.d c.sources_of.result c.args.t c.gaps_by.result c.sources_of.ensures c.gaps_by.ensures
