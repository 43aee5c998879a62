-- What a reading from a place answers, and what judging answers.
use Rattle.std.specs.Prelude.{ℕ, List, ◌≡◌, Result, Ok, Err}
use Rattle.model.specs.declared.Description.{Description}
use Rattle.model.specs.declared.Rejection.{Rejection}
use Rattle.model.specs.Refusals.{Outcome, Done, Refused}
use Rattle.model.specs.declared.Reading.{Reading}
use Rattle.model.specs.File.{judge}
use Rattle.theory.proofs.WellFormed.{WellFormed}
use Rattle.loads.specs.declared.Worked.{Worked}
use Rattle.loads.specs.Tables.{LoadsOf}
use Rattle.files.specs.declared.Judged.{Judged}

-- a description that is accepted, with sets and works that give its loads
pub record AcceptedAs (end : Outcome) (d d' : Description) (brings works : List ℕ) : Type 0 where
  pub judged : end ≡ Done
  pub same : d' ≡ d
  pub good : WellFormed d'
  pub worked : LoadsOf d' brings works

-- an answer to how a description is judged: so it is accepted, or else its refusal with its place
abbrev pub JudgedAs : Outcome → Description → Result Judged Rejection → Type 0
JudgedAs end d (Ok j) = AcceptedAs end d j.description j.worked.brings j.worked.works
JudgedAs end d (Err x) = end ≡ Refused x.why x.place

-- of a record, and of a file
abbrev pub JudgedOf : Description → Result Worked Rejection → Type 0
JudgedOf d (Ok r) = AcceptedAs (judge d) d d r.brings r.works
JudgedOf d (Err x) = judge d ≡ Refused x.why x.place

abbrev pub RecordAs : Description → Result Judged Rejection → Type 0
RecordAs d r = JudgedAs (judge d) d r

abbrev pub ReadAs : Reading → Result Judged Rejection → Type 0
ReadAs r x = JudgedAs r.outcome r.description x
