-- `flow_end` meets its contract: no length holds more than it, and else the quotient. Assumes nothing.
use native.Mathlib.Omega.{arith}
use Rattle.theory.proofs.Jumps.{flow_bound}
use Rattle.rounds.proofs.flow_end.Goals as goal

pub returns : goal.returns
returns c =
    let a = c.args in
    record { lower = λ L l e. omega (arith, c.min.ensures, flow_bound 8589934592 a.rest a.flow L c.if-flow-ge8589934592.false e); most = omega (arith, c.min.ensures) }
