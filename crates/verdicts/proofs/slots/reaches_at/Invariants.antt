-- `verdicts::slots::reaches_at` meets its contract: the levels below j are worked out. Assumes nothing.
use mathlib.Core.Path.{◌≡◌}
use lib.ListN.{length}
use Rattle.verdicts.proofs.TableLaws.{ReachesTo}
use Rattle.verdicts.proofs.slots.reaches_at.Given as goal

abbrev pub invariant-loop-j : goal.invariant-loop-j
invariant-loop-j l = (length l.reaches ≡ 32) × ReachesTo l.t l.gaps l.limits l.n l.m l.reaches l.j
