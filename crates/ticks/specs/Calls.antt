-- What the functions of this crate cite beside the definitions of `model`.
use Rattle.std.specs.Prelude.{ℕ}
use Rattle.model.specs.declared.Machine.{Machine}
use Rattle.model.specs.declared.Ticked.{Ticked}
use Rattle.model.specs.declared.Refusal.{Refusal}
use Rattle.model.specs.Refusals.{Refused}

-- a refused tick
abbrev pub untouched : Refusal → ℕ → Machine → Ticked
untouched r place m = record { outcome = Refused r place; machine = m }
