-- What a call told, and that a transfer stays within its buffer and comes to its end. Assumes nothing.
use Prim.Native.Nat.{ℕ, suc, ◌+◌, ◌-◌, ◌≤◌, ◌<◌}
use mathlib.Core.Path.{◌≡◌, refl}
use mathlib.Core.Bool.{Bool, true, false}
use native.Mathlib.Omega.{arith}
use lib.Dec.{ltb, eqb}
use borrow.Author.Tests.{ltb-true, ltb-false, eqb-false}
use Rattle.std.specs.Prelude.{Option, Result, Ok, Err, IfOk, Some, None}
use Rattle.std.specs.declared.io.Error.{Error as IoError}
use Rattle.std.specs.declared.io.ErrorKind.{ErrorKind}
use Rattle.std.specs.declared.io.ErrorKind.TheVariants.{Interrupted as Signalled}
use Rattle.std.specs.IoError.{error_kind}
use Rattle.streams.specs.declared.Answer.{Answer}
use Rattle.streams.specs.declared.Answer.TheVariants.{Bytes, Interrupted, Error}
use Rattle.streams.specs.declared.Progress.{Progress}
use Rattle.streams.specs.declared.Progress.TheVariants.{Going, Ended}
use Rattle.streams.specs.Transfers.{cause_of, told_by, standing_at, interrupted_at, after_call, ended_by, Bounded, Moves, MovesAll, Within, Entire}

-- What a call told is bounded as its answer is.
cause_bounded : (room : ℕ) (k : ErrorKind) → Bounded room (cause_of k)
cause_bounded room Signalled = tt
cause_bounded room _ = tt

pub told_bounded : (room : ℕ) (got : Result ℕ IoError) → IfOk got (λ n. n ≤ room) → Bounded room (told_by got)
told_bounded room (Ok n) m = m
told_bounded room (Err e) m = cause_bounded room (error_kind e)

-- What a transfer stands for is what its caller is told.
pub ended_within : (size : ℕ) (t : Option ℕ) (reason : IoError) → Moves size t → Within size (ended_by t reason)
ended_within size (Some n) reason h = h
ended_within size None reason h = tt

pub ended_entire : (size : ℕ) (t : Option ℕ) (reason : IoError) → MovesAll size t → Entire size (ended_by t reason)
ended_entire size (Some n) reason h = h
ended_entire size None reason h = tt

-- A transfer within a size: what is moved leaves a byte, or the end is one that is wanted.
abbrev pub Stands : (Option ℕ → Type 0) → ℕ → Progress → Type 0
Stands P size (Going done spare) = done < size
Stands P size (Ended transfer) = P transfer

-- The bytes and interruptions that a transfer has left.
abbrev pub left : ℕ → Progress → ℕ
left size (Going done spare) = suc (size - done + spare)
left size (Ended transfer) = 0

-- Where all bytes and a failure are wanted ends, a transfer stands, and a call leaves it so.
module _ (P : Option ℕ → Type 0) (size : ℕ) (all : P (Some size)) where
  pub standing_stands : (done spare : ℕ) → done ≤ size → Stands P size (standing_at size done spare)
  standing_stands done spare h = go (ltb done size) refl
    where
      go : (b : Bool) → ltb done size ≡ b → Stands P size (standing_at size done spare)
      go true q = rw q (ltb-true done size q)
      go false q = let e : size ≡ done = omega (arith, ltb-false done size q) in rw q (rw e at all)

  pub after_stands : P None → (done spare : ℕ) (answer : Answer) (end : Option ℕ) → P end → done < size → Bounded (size - done) answer → Stands P size (after_call size done spare answer end)
  after_stands f done spare (Bytes n) end p h b = go (eqb n 0) refl
    where
      go : (t : Bool) → eqb n 0 ≡ t → Stands P size (after_call size done spare (Bytes n) end)
      go true q = rw q p
      go false q = rw q (standing_stands (done + n) spare (omega arith))
  after_stands f done spare Interrupted end p h b = go (ltb 0 spare) refl
    where
      go : (t : Bool) → ltb 0 spare ≡ t → Stands P size (interrupted_at done spare)
      go true q = rw q h
      go false q = rw q f
  after_stands f done spare Error end p h b = f

-- A call leaves less to do.
pub after_less : (size done spare : ℕ) (answer : Answer) (end : Option ℕ) → done < size → Bounded (size - done) answer → left size (after_call size done spare answer end) < left size (Going done spare)
after_less size done spare (Bytes n) end h b = go (eqb n 0) refl (ltb (done + n) size) refl
  where
    go : (t : Bool) → eqb n 0 ≡ t → (u : Bool) → ltb (done + n) size ≡ u → left size (after_call size done spare (Bytes n) end) < left size (Going done spare)
    go true q u r = rw q (omega arith)
    go false q true r = let x = eqb-false n 0 q in rw (q, r) (omega (arith, ltb-true (done + n) size r))
    go false q false r = rw (q, r) (omega arith)
after_less size done spare Interrupted end h b = go (ltb 0 spare) refl
  where
    go : (t : Bool) → ltb 0 spare ≡ t → left size (interrupted_at done spare) < left size (Going done spare)
    go true q = rw q (omega (arith, ltb-true 0 spare q))
    go false q = rw q (omega arith)
after_less size done spare Error end h b = omega arith
