use Rattle.theory.proofs.Typed.{typed_widths}
use Rattle.theory.proofs.FileLaws.{judge_well_formed}
use Rattle.ticks.proofs.run_accepted.Goals as goal

pub run_judged-requires : goal.run_judged-requires
run_judged-requires c = (judge_well_formed c.args.d (typed_widths c.args.d _ c.well_formed.1.0) c.requires, c.requires)
