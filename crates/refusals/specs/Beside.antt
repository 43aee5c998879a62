-- What stands beside a refusal.
use Rattle.std.specs.Prelude.{ℕ, replicate}
use Rattle.model.specs.declared.LoadSheet.{LoadSheet}
use Rattle.model.specs.Refusals.{Refused}
use Rattle.model.specs.declared.Refusal.{Refusal}
use Rattle.model.specs.Loads.{no_row}

abbrev pub refused_sheet : Refusal → ℕ → LoadSheet
refused_sheet r place = record { outcome = Refused r place; rows = replicate 48 no_row }
