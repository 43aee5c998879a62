-- Arrivals as a mask.
use Rattle.std.specs.Prelude.{ℕ, ◌/◌, ◌^◌, ◌≤◌, ◌<◌, true, ◌≡◌}
use Rattle.model.specs.declared.Description.{Description}
use Rattle.model.specs.Run.{heard}

-- a mask of nothing but sources, and one of sources that exist
abbrev pub Sourced : ℕ → Type 0
Sourced mask = (u : ℕ) → heard mask u ≡ true → u < 16

abbrev pub Known : Description → ℕ → Type 0
Known d mask = (d.source_count ≤ 16) × (mask / 2 ^ d.source_count ≡ 0)
