-- How a transfer follows from what its calls of the system answered. Of the bytes that come or go nothing is said.
use Rattle.std.specs.Prelude.{ℕ, ◌+◌, ◌-◌, ◌≤◌, ◌≡◌, cond, ltb, eqb, Option, Some, None, Result, Ok, Err}
use Rattle.std.specs.declared.io.Error.{Error as IoError}
use Rattle.std.specs.declared.io.ErrorKind.{ErrorKind}
use Rattle.std.specs.declared.io.ErrorKind.TheVariants.{Interrupted as Signalled}
use Rattle.std.specs.IoError.{error_kind}
use Rattle.streams.specs.declared.Answer.{Answer}
use Rattle.streams.specs.declared.Answer.TheVariants.{Bytes, Interrupted, Error}
use Rattle.streams.specs.declared.Progress.{Progress}
use Rattle.streams.specs.declared.Progress.TheVariants.{Going, Ended}

-- A call that failed was interrupted by a signal (errno 4), or it failed for another reason.
abbrev pub cause_of : ErrorKind → Answer
cause_of Signalled = Interrupted
cause_of _ = Error

-- A call that answered a number moved so many bytes; else its error has the cause.
abbrev pub told_by : Result ℕ IoError → Answer
told_by (Ok n) = Bytes n
told_by (Err e) = cause_of (error_kind e)

-- A transfer goes on while a byte of its size is left.
abbrev pub standing_at : ℕ → ℕ → ℕ → Progress
standing_at size done spare = cond (ltb done size) (Going done spare) (Ended (Some done))

-- An interrupted call is made again while interruptions are left.
abbrev pub interrupted_at : ℕ → ℕ → Progress
interrupted_at done spare = cond (ltb 0 spare) (Going done (spare - 1)) (Ended None)

-- An error ends the transfer as failed, whatever was moved before.
abbrev pub after_call : ℕ → ℕ → ℕ → Answer → Option ℕ → Progress
after_call size done spare (Bytes n) end = cond (eqb n 0) (Ended end) (standing_at size (done + n) spare)
after_call size done spare Interrupted end = interrupted_at done spare
after_call size done spare Error end = Ended None

-- A read that moved no byte has met the end of the input.
abbrev pub after_read : ℕ → ℕ → ℕ → Answer → Progress
after_read size done spare answer = after_call size done spare answer (Some done)

-- A write that moved no byte has failed.
abbrev pub after_write : ℕ → ℕ → ℕ → Answer → Progress
after_write size done spare answer = after_call size done spare answer None

-- A call moves no more bytes than it is handed.
abbrev pub Bounded : ℕ → Answer → Type 0
Bounded room (Bytes n) = n ≤ room
Bounded room Interrupted = Unit {0}
Bounded room Error = Unit {0}

-- What the caller is told of a transfer.
abbrev pub ended_by : Option ℕ → IoError → Result ℕ IoError
ended_by (Some n) reason = Ok n
ended_by None reason = Err reason

-- A transfer that is whole has at most, or exactly, the bytes of its buffer.
abbrev pub Moves : ℕ → Option ℕ → Type 0
Moves size (Some n) = n ≤ size
Moves size None = Unit {0}

abbrev pub MovesAll : ℕ → Option ℕ → Type 0
MovesAll size (Some n) = n ≡ size
MovesAll size None = Unit {0}

-- What was read has at most the bytes of its buffer.
abbrev pub Within : ℕ → Result ℕ IoError → Type 0
Within size (Ok n) = n ≤ size
Within size (Err e) = Unit {0}

-- What was written has all the bytes of its buffer.
abbrev pub Entire : ℕ → Result ℕ IoError → Type 0
Entire size (Ok n) = n ≡ size
Entire size (Err e) = Unit {0}
