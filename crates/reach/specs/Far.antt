-- Rounds between stretches.
use Rattle.std.specs.Prelude.{ℕ, ◌<◌}
use Rattle.rounds.specs.declared.Reached.{Reached}
use Rattle.rounds.specs.declared.Reached.TheVariants.{Settled, Open}

-- they are given up only where their blocks have more than one tick
abbrev pub OpenOver : ℕ → Reached → Type 0
OpenOver shift (Settled place) = Unit {0}
OpenOver shift (Open place) = 0 < shift
