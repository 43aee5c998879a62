-- The steps of a reading and of the judging of a record that the code takes one by one.
use Rattle.std.specs.Prelude.{ℕ, cond, Option, Some, None, Result, Ok, Err}
use Rattle.model.specs.declared.Description.{Description}
use Rattle.model.specs.declared.Field.{Field}
use Rattle.model.specs.declared.Rejection.{Rejection}
use Rattle.model.specs.declared.Refusal.TheVariants.{TooMany}
use Rattle.model.specs.Field.{Taken, Whole, Broken, End, Check, Unfit, check_field}
use Rattle.model.specs.declared.Progress.{Progress}
use Rattle.model.specs.Refusals.{Outcome, Refused, on_done}
use Rattle.model.specs.declared.Reading.{Reading}
use Rattle.model.specs.File.{file_of, parse_file, overfull}

-- a field that was taken, if it may stand where it does
abbrev pub if_fine : Check → Field → ℕ → Taken
if_fine (Ok tt) f next = Whole f next
if_fine (Unfit r) f next = Broken r

abbrev pub checked_taken : Progress → Taken → Taken
checked_taken p (Whole f next) = if_fine (check_field p f) f next
checked_taken p (Broken r) = Broken r
checked_taken p End = End

-- a field and the place behind it, a refusal with the place of the field's tag, or nothing at the end
abbrev pub found_of : Taken → ℕ → Result (Option (Field × ℕ)) Rejection
found_of (Whole f next) at = Ok (Some (f, next))
found_of (Broken r) at = Refused r at
found_of End at = Ok None

-- a reading by its description or its refusal
abbrev pub as_result : Reading → Result Description Rejection
as_result r = on_done r.outcome (Ok r.description) Refused

-- a record's counts and fields: "judged as its file would be, counts above the limits giving 5 first at place 0"
unfoldable pub record_checks : Description → Outcome
record_checks d = cond (overfull d) (Refused TooMany 0) (parse_file (file_of d)).outcome
