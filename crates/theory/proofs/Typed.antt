-- What a description is known to be by its type alone: a call that is handed one has its widths and lengths for nothing. Assumes nothing.
use Prim.Native.Nat.{ℕ, zero, suc}
use mathlib.Core.List.{List, [], ◌∷◌}
use native.Mathlib.Omega.{arith}
use lib.ListN.{get_or}
use mir.Val.{Val}
use mir.Syntax.{w32}
use borrow.Author.Rules.{elem_Fits}
use denote.Laws.{Is}
use denote.Shadow.{shadow}
use denote.Array.{each}
use denote.Enum.Declared as Enums
use denote.Struct.Declared as Structs
use Rattle.model.specs.contracts.Source as TheSource
use Rattle.model.specs.contracts.SourceSlot as TheSlot
use Rattle.model.specs.contracts.Field as TheField
use Rattle.model.specs.contracts.Description as TheDescription
use Rattle.model.specs.declared.Source.{Source}
use Rattle.model.specs.declared.Source.TheVariants.{Fixed, Paced, Swung}
use Rattle.model.specs.declared.SourceSlot.{SourceSlot}
use Rattle.model.specs.declared.Field.{Field}
use Rattle.model.specs.declared.Field.TheVariants.{OfTask, OfSource, OfLink}
use Rattle.model.specs.declared.Description.{Description}
use Rattle.model.specs.Refusals.{no_source}
use Rattle.theory.proofs.FieldLaws.{SourceFits, FieldFits}
use Rattle.theory.proofs.RecordLaws.{Widths}
use Rattle.theory.proofs.ReadLaws.{Sized}

source_typed : (s : Source) (vs : List Val) → Is (Enums.row TheSource.the_type) s vs → SourceFits s
source_typed (Fixed m) vs p = p.1.1.1.1.0.1
source_typed (Paced n) vs p = p.1.1.1.1.0.1
source_typed (Swung n swing) vs p = p.1.1.1.1.0.1

-- a field that a call returned has numbers of its widths
pub field_typed : (f : Field) (vs : List Val) → Is (Enums.row TheField.the_type) f vs → FieldFits f
field_typed (OfTask e) vs p = p.1.1.1.1.0.1
field_typed (OfSource s) vs p = source_typed s _ p.1.1.1.1.0
field_typed (OfLink l) vs p = tt

slots_typed : (xs : List SourceSlot) (us : List Val) (i : ℕ) → shadow (each TheSlot.the_row.Denot TheSlot.the_row.own_val xs us) → SourceFits (get_or xs i no_source).source
slots_typed [] us i p = omega arith
slots_typed (x ∷ xs) [] i p = absurd p
slots_typed (x ∷ xs) (u ∷ us) zero p = source_typed x.source _ p.0.1.1.0
slots_typed (x ∷ xs) (u ∷ us) (suc i) p = slots_typed xs us i p.1

-- what a parameter of this type, or a call's result, is known to be
abbrev pub Typed : Description → List Val → Type 0
Typed d vs = Is (Structs.row TheDescription.the_type) d vs

pub typed_widths : (d : Description) (vs : List Val) → Typed d vs → Widths d
typed_widths d vs p = record {
  run_width = λ k h. (elem_Fits w32 w32 d.runs _ k p.1.1.1.0.1.1 tt).fits;
  source_width = λ k h. slots_typed d.sources _ k p.1.1.1.1.1.0.1.1;
}

pub typed_sized : (d : Description) (vs : List Val) → Typed d vs → Sized d
typed_sized d vs p = record {
  runs = p.1.1.1.0.1.0.1;
  sources = p.1.1.1.1.1.0.1.0.1;
  links = p.1.1.1.1.1.1.1.0.1.0.1;
}
