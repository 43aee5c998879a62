-- A refusal's number is at most 16. Assumes nothing.
use Prim.Native.Nat.{◌≤◌}
use native.Mathlib.Omega.{arith}
use Rattle.model.specs.declared.Refusal.{Refusal}
use Rattle.model.specs.declared.Refusal.TheVariants.{CutShort, StrangeTag, WrongLength, OutOfTurn, TooMany, OffScale, NoSuchEnd, NoTask, Loop, TooHeavy, OffKnob, NoTempo, ShortPage, TooSoon, Stranger, ForeignState}
use Rattle.model.specs.Refusals.{number_of}

-- refusals are numbered up to 16
pub number_most : (r : Refusal) → number_of r ≤ 16
number_most CutShort = omega arith
number_most StrangeTag = omega arith
number_most WrongLength = omega arith
number_most OutOfTurn = omega arith
number_most TooMany = omega arith
number_most OffScale = omega arith
number_most NoSuchEnd = omega arith
number_most NoTask = omega arith
number_most Loop = omega arith
number_most TooHeavy = omega arith
number_most OffKnob = omega arith
number_most NoTempo = omega arith
number_most ShortPage = omega arith
number_most TooSoon = omega arith
number_most Stranger = omega arith
number_most ForeignState = omega arith
