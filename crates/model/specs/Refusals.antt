-- "Table of refused work": the number of each refusal, answers in numbers, and what stands beside a refusal.
use Rattle.std.specs.Prelude.{ℕ, Result, Ok, Err, replicate}
use Rattle.model.specs.declared.Source.TheVariants.{Fixed}
use Rattle.model.specs.declared.SourceSlot.{SourceSlot}
use Rattle.model.specs.declared.Link.{Link}
use Rattle.model.specs.declared.Description.{Description}
use Rattle.model.specs.declared.Refusal.{Refusal}
use Rattle.model.specs.declared.Refusal.TheVariants.{CutShort, StrangeTag, WrongLength, OutOfTurn, TooMany, OffScale, NoSuchEnd, NoTask, Loop, TooHeavy, OffKnob, NoTempo, ShortPage, TooSoon, Stranger, ForeignState}
use Rattle.model.specs.declared.Rejection.{Rejection}
use Rattle.model.specs.declared.Reading.{Reading}

-- the number that document 01 gives to each refusal
abbrev pub number_of : Refusal → ℕ
number_of CutShort = 1
number_of StrangeTag = 2
number_of WrongLength = 3
number_of OutOfTurn = 4
number_of TooMany = 5
number_of OffScale = 6
number_of NoSuchEnd = 7
number_of NoTask = 8
number_of Loop = 9
number_of TooHeavy = 10
number_of OffKnob = 11
number_of NoTempo = 12
number_of ShortPage = 13
number_of TooSoon = 14
number_of Stranger = 15
number_of ForeignState = 16

-- how a call ends: the work done, or a refusal with its place; the bytes that a call filled, and the tempo quoted, or a refusal likewise
abbrev pub Outcome : Type 0
Outcome = Result (Unit {0}) Rejection

abbrev pub Filled : Type 0
Filled = Result ℕ Rejection

abbrev pub Quote : Type 0
Quote = Result ℕ Rejection

pattern abbrev pub Done : Outcome
Done = Ok tt

abbrev pub Refused : {A : Type 0} → Refusal → ℕ → Result A Rejection
Refused r place = Err (record { why = r; place = place })

-- an answer in document 01's numbers: 0 and its value where the work is done, or else the refusal's number and its place
pub record Numbered : Type 0 where
  pub number : ℕ
  pub value : ℕ

abbrev pub accepted : ℕ → Numbered
accepted value = record { number = 0; value = value }

abbrev pub refusal : Refusal → ℕ → Numbered
refusal r place = record { number = number_of r; value = place }

-- the end of a call; the bytes that a call filled; the tempo quoted; a reading by its end
abbrev pub of_outcome : Outcome → Numbered
of_outcome (Ok tt) = accepted 0
of_outcome (Err x) = refusal x.why x.place

abbrev pub of_filled : Filled → Numbered
of_filled (Ok n) = accepted n
of_filled (Err x) = refusal x.why x.place

abbrev pub of_quote : Quote → Numbered
of_quote (Ok t) = accepted t
of_quote (Err x) = refusal x.why x.place

abbrev pub of_reading : Reading → Numbered
of_reading r = of_outcome r.outcome

-- what follows work done, or else the refusal handed on
abbrev pub on_done : {A : Type 0} → Outcome → A → (Refusal → ℕ → A) → A
on_done (Ok tt) a f = a
on_done (Err x) a f = f x.why x.place

-- "0 for every count, entry and mark, a source being a fixed one of 0"
abbrev pub no_source : SourceSlot
no_source = record { source = Fixed 0 }

abbrev pub no_link : Link
no_link = record { from = 0; to = 0; critical = 0 }

abbrev pub blank : Description
blank = record {
  task_count = 0;
  runs = replicate 32 0;
  source_count = 0;
  sources = replicate 16 no_source;
  link_count = 0;
  links = replicate 256 no_link;
}
