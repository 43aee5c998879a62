use Prim.Native.Nat.{◌+◌, ◌*◌, ◌-◌, ◌≤◌, ◌<◌}
use mathlib.Core.Path.{◌≡◌}
use lib.ListN.{length}
use Rattle.passing.specs.Passing.{Head}
use Rattle.runs.proofs.TurnLaws.{Ran}
use Rattle.runs.proofs.run_wired.Given as goal

abbrev pub invariant-loop-i : goal.invariant-loop-i
invariant-loop-i l = record {
  before : l.i ≤ l.n;
  sized : length l.outcomes ≡ length l.initial.outcomes;
  early : l.words.tick ≤ 4294967296 + l.i;
  head : l.i < l.n → Head l.calls (6 * l.i) l.head;
  ran : Ran l.p l.w l.s l.longest l.calls l.initial.outcomes l.i l.words l.used l.since l.fastest l.outcomes;
}

abbrev pub decreases-loop-i : goal.decreases-loop-i
decreases-loop-i l = l.n - l.i
