-- The promise of the plain machine's own answers: a list of calls from the start, with nothing asked of it but its tempos. Assumes nothing.
use Rattle.std.specs.Prelude.{Ok}
use Prim.Native.Nat.{ℕ}
use mathlib.Core.Path.{◌≡◌, refl}
use mathlib.Core.List.{List, [], ◌∷◌}
use Rattle.model.specs.declared.Description.{Description}
use Rattle.model.specs.declared.Policy.{Policy}
use Rattle.model.specs.declared.Machine.{Machine}
use Rattle.model.specs.File.{Widths}
use Rattle.model.specs.Verdicts.{quote_of}
use Rattle.model.specs.Machine.{idle}
use Rattle.model.specs.History.{Call, plain_call, answers, left, ticks}
use Rattle.model.specs.Promise.{Calls, none, call, UpTo, Assured}
use Rattle.assurance.proofs.Demand3.{calls_assured}

-- the plain machine's answers are those of a list of calls that meet what the tick call ensures
pub plain_calls : (pol : Policy) (d : Description) (cs : List Call) (m : Machine) → Calls pol d m cs (answers pol d m cs) (left pol d m cs)
unfolding answers left
plain_calls pol d [] m = none
plain_calls pol d (c ∷ cs) m = call (refl, refl) (plain_calls pol d cs (plain_call pol d m c).machine)

-- what is assured of the answers and of the record after any list of calls
abbrev pub AssuredOf : Policy → Description → ℕ → List Call → Type 0
AssuredOf pol d q cs = Assured pol d q cs (answers pol d (idle d) cs) (left pol d (idle d) cs)

pub plain_assured : (pol : Policy) (d : Description) (q : ℕ) → Widths d → quote_of pol d ≡ Ok q → (cs : List Call) → UpTo q (ticks pol d (idle d) cs) → AssuredOf pol d q cs
plain_assured pol d q w e cs up = calls_assured pol d q cs (answers pol d (idle d) cs) (left pol d (idle d) cs) w e up (plain_calls pol d cs (idle d))
