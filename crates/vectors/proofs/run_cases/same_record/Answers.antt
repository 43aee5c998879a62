-- `run_cases::same_record` is safe and ends. Assumes nothing.
use Rattle.std.proofs.Common.{sym, arith, length-take-le}
use Rattle.vectors.proofs.run_cases.same_record.Goals as goal

pub slice_bounds-begins-end : goal.slice_bounds-begins-end
slice_bounds-begins-end c = sym (length-take-le 672 c.args.recorded.now (omega (arith, c.if-n-eq738.true)))
