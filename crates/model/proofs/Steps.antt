-- One step from a reading place, in document 01's numbers, and where it leaves the place. Assumes nothing.
use Prim.Native.Nat.{ℕ}
use mathlib.Core.Path.{◌≡◌, refl}
use Rattle.model.specs.declared.Field.{Field}
use Rattle.model.specs.declared.Refusal.{Refusal}
use Rattle.model.specs.Field.{Whole, Broken, End, tag_of, step_of, of_found}
use Rattle.model.specs.Refusals.{accepted, refusal}

-- a whole field is passed
pub whole_passed : (f : Field) (next at : ℕ) → (of_found (step_of (Whole f next) at).found ≡ accepted (tag_of f)) × ((step_of (Whole f next) at).at ≡ next)
whole_passed f next at = (refl, refl)

-- "a refusal carries its number and, for 1 to 7, the offset of the field's tag"; the field is not passed
pub refused_stays : (r : Refusal) (at : ℕ) → (of_found (step_of (Broken r) at).found ≡ refusal r at) × ((step_of (Broken r) at).at ≡ at)
refused_stays r at = (refl, refl)

-- nor is the end
pub end_stays : (at : ℕ) → (of_found (step_of End at).found ≡ accepted 0) × ((step_of End at).at ≡ at)
end_stays at = (refl, refl)
