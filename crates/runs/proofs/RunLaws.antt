-- A list of calls as a run goes through it: the record before each call, the codes of the answers and the buffer. Assumes nothing.
use Prim.Native.Nat.{ℕ, zero, suc, ◌+◌, ◌/◌, ◌≤◌, ◌<◌}
use mathlib.Core.Path.{◌≡◌, refl, sym, ap, ◌∙◌}
use mathlib.Core.Bool.{true}
use mathlib.Core.List.{List, [], ◌∷◌, ◌++◌}
use native.Mathlib.Omega.{arith}
use native.Mathlib.Numerals.{add-one}
use lib.ListN.{length, get_or, take, drop}
use lib.Seq.{take_all}
use borrow.Author.Tests.{lt-ltb, le-ltb}
use Rattle.model.specs.declared.Description.{Description}
use Rattle.model.specs.declared.Policy.{Policy}
use Rattle.model.specs.declared.Machine.{Machine}
use Rattle.model.specs.declared.Refusal.TheVariants.{ShortPage}
use Rattle.model.specs.Refusals.{Done, Refused, of_outcome}
use Rattle.model.specs.File.{filled_by}
use Rattle.model.specs.Machine.{idle, blank_machine, lawful}
use Rattle.model.specs.History.{Call, plain_call, answers, left}
use Rattle.model.specs.Run.{call_in, calls_in, codes, page, ran_from}
use Rattle.lemmas.proofs.Table.{length-tab, get_d_tab}
use Rattle.theory.proofs.WellFormed.{WellFormed}
use Rattle.assurance.proofs.Replay.{call_at, quiet_call}
use Rattle.assurance.proofs.Lawful.{rules_kept_lem}

-- as many calls as whole sixes, the i-th being that of the i-th six
pub calls_length : (bytes : List ℕ) → length (calls_in bytes) ≡ length bytes / 6
calls_length bytes = length-tab (length bytes / 6) (call_in bytes)

pub calls_at : (bytes : List ℕ) (i : ℕ) → i < length bytes / 6 → call_at (calls_in bytes) i ≡ call_in bytes i
calls_at bytes i h = get_d_tab (length bytes / 6) (call_in bytes) quiet_call i h

-- the record after one call more, and that call's code
pub left_more : (pol : Policy) (d : Description) (cs : List Call) (m : Machine) (i : ℕ) → i < length cs → left pol d m (take (i + 1) cs) ≡ (plain_call pol d (left pol d m (take i cs)) (call_at cs i)).machine
unfolding left
left_more pol d cs m i h = rw add-one (go cs m i h)
  where
    go : (cs : List Call) (m : Machine) (i : ℕ) → i < length cs → left pol d m (take (suc i) cs) ≡ (plain_call pol d (left pol d m (take i cs)) (call_at cs i)).machine
    go [] m i h = absurd (omega arith)
    go (c ∷ cs) m zero h = refl
    go (c ∷ cs) m (suc i) h = go cs (plain_call pol d m c).machine i (omega arith)

pub code_at : (pol : Policy) (d : Description) (cs : List Call) (m : Machine) (i : ℕ) → i < length cs → get_or (codes (answers pol d m cs)) i 0 ≡ (of_outcome (plain_call pol d (left pol d m (take i cs)) (call_at cs i)).outcome).number
unfolding codes answers left
code_at pol d [] m i h = absurd (omega arith)
code_at pol d (c ∷ cs) m zero h = refl
code_at pol d (c ∷ cs) m (suc i) h = code_at pol d cs (plain_call pol d m c).machine i (omega arith)

pub codes_length : (pol : Policy) (d : Description) (cs : List Call) (m : Machine) → length (codes (answers pol d m cs)) ≡ length cs
unfolding codes answers
codes_length pol d [] m = refl
codes_length pol d (c ∷ cs) m = ap suc (codes_length pol d cs (plain_call pol d m c).machine)

-- one turn of a run
pub run_left : (pol : Policy) (d : Description) (cs : List Call) (m : Machine) (i : ℕ) (c : Call) → i < length cs → call_at cs i ≡ c → (plain_call pol d (left pol d m (take i cs)) c).machine ≡ left pol d m (take (i + 1) cs)
run_left pol d cs m i c h q = sym (rw q at (left_more pol d cs m i h))

pub run_code : (pol : Policy) (d : Description) (cs : List Call) (m : Machine) (i : ℕ) (c : Call) → i < length cs → call_at cs i ≡ c → (of_outcome (plain_call pol d (left pol d m (take i cs)) c).outcome).number ≡ get_or (codes (answers pol d m cs)) i 0
run_code pol d cs m i c h q = sym (rw q at (code_at pol d cs m i h))

-- the run's answer and its buffer, where the buffer is too short and where it is not
pub ran_short : (pol : Policy) (d : Description) (cs : List Call) (buffer : List ℕ) → length buffer < length cs → record { outcome = Refused ShortPage 0; machine = blank_machine } ≡ ran_from pol d cs buffer
ran_short pol d cs buffer h = rw (lt-ltb (length buffer) (length cs) h) refl

pub ran_whole : (pol : Policy) (d : Description) (cs : List Call) (buffer : List ℕ) (m : Machine) → length cs ≤ length buffer → m ≡ left pol d (idle d) cs → record { outcome = Done; machine = m } ≡ ran_from pol d cs buffer
ran_whole pol d cs buffer m h e = rw (le-ltb (length buffer) (length cs) h, e) refl

pub filled_short : (pol : Policy) (d : Description) (cs : List Call) (buffer : List ℕ) → length buffer < length cs → buffer ≡ filled_by (page pol d cs) buffer
unfolding filled_by
filled_short pol d cs buffer h = rw (codes_length pol d cs (idle d), lt-ltb (length buffer) (length cs) h) refl

pub filled_whole : (pol : Policy) (d : Description) (cs : List Call) (buffer : List ℕ) → length cs ≤ length buffer → take (length cs) (page pol d cs) ++ drop (length cs) buffer ≡ filled_by (page pol d cs) buffer
unfolding filled_by
filled_whole pol d cs buffer h =
    let e : length (page pol d cs) ≡ length cs = codes_length pol d cs (idle d) in
    rw (take_all (length cs) (page pol d cs) (omega (arith, e)), e, le-ltb (length buffer) (length cs) h) refl

-- the record before each call keeps the rules
pub kept : (pol : Policy) (d : Description) (cs : List Call) (m : Machine) → WellFormed d → m ≡ left pol d (idle d) cs → lawful pol d m ≡ true
kept pol d cs m g e = ap (lawful pol d) e ∙ rules_kept_lem pol d g cs
