-- `decide_all` meets its contract: the slots below l are filled, the others free. Assumes nothing.
use Rattle.verdicts.proofs.SlotLaws.{SlotsTo}
use Rattle.verdicts.proofs.slots.decide_all.Given as goal

abbrev pub invariant-loop-l : goal.invariant-loop-l
invariant-loop-l l = SlotsTo l.fn.d l.orders l.gaps l.reaches l.slots l.l
