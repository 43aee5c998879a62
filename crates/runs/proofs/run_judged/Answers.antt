-- A run of its wiring and its sources.
use native.Mathlib.Omega.{arith}
use Rattle.spacings.proofs.GapLaws.{gaps_of, scaled_of}
use Rattle.runs.proofs.run_judged.Goals as goal

pub gaps_by-longest-requires : goal.gaps_by-longest-requires
gaps_by-longest-requires c = (scaled_of c.args.d c.sources_of-s.result c.requires.0 c.sources_of-s.ensures, omega arith, omega arith)

pub run_wired-requires : goal.run_wired-requires
run_wired-requires c =
    record {
      description = c.args.d;
      wired = c.wiring_of.ensures;
      same_sources = c.sources_of-s.ensures;
      spaced = gaps_of c.args.d c.sources_of-s.result 200 c.gaps_by-longest.result c.sources_of-s.ensures c.gaps_by-longest.ensures;
      judged = c.requires.1;
    }

pub returns : goal.returns
returns c = c.run_wired.ensures c.args.d c.wiring_of.ensures c.sources_of-s.ensures (gaps_of c.args.d c.sources_of-s.result 200 c.gaps_by-longest.result c.sources_of-s.ensures c.gaps_by-longest.ensures) c.requires.1
