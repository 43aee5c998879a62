-- The promise of the code's own calls, on either model: of the record that `start` answers and any list of calls of `tick`, and of a run's answer and
-- buffer. -- Assumes nothing.
use Rattle.std.specs.Prelude.{Ok}
use Prim.Native.Nat.{ℕ, ◌≤◌}
use mathlib.Core.Path.{◌≡◌, refl, sym, ap, subst, ◌∙◌}
use mathlib.Core.Bool.{Bool, true, false}
use mathlib.Core.List.{List, ◌++◌}
use lib.ListN.{length, take, drop}
use lib.Seq.{take_at}
use lib.Dec.{ltb}
use seplogic.Ra.Ura.{Ura}
use base.Logic.{SProp, ent, id⊢}
use prog.Memory.{Memory}
use prog.Routine.{Routine}
use types.Logic.{Logic}
use contract.Monad.{Fun, fact}
use contract.Lifetimes.{Lfts}
use denote.Triple.Entry.{Args}
use denote.Triple.Clauses.{AtExit}
use Rattle.model.specs.declared.Description.{Description}
use Rattle.model.specs.declared.Policy.{Policy}
use Rattle.model.specs.declared.Machine.{Machine}
use Rattle.model.specs.declared.Ticked.{Ticked}
use Rattle.model.specs.Refusals.{Outcome, Done}
use Rattle.model.specs.File.{Widths, read_file, filled_by}
use Rattle.model.specs.Verdicts.{quote_of, quoted_file}
use Rattle.model.specs.Machine.{idle}
use Rattle.model.specs.History.{Call, answers, left, ticks}
use Rattle.model.specs.Promise.{StartMeets, TickMeets, Calls, UpTo, Assured, at_tempo}
use Rattle.model.specs.Run.{calls_in, page, RunAssured, RunMeets}
use Rattle.lemmas.proofs.Outcomes.{refused_not}
use Rattle.theory.proofs.NumberBytes.{Bytes as AllBytes}
use Rattle.theory.proofs.QuotedFile.{QuotedFile, quoted_file_lem}
use Rattle.assurance.proofs.Demand3.{start_idle, promise, demand3}
use Rattle.assurance.proofs.PlainCalls.{plain_calls, plain_assured}
use Rattle.runs.specs.Run.{RunOf}
use Rattle.ticks.specs.contracts.start as start
use Rattle.ticks.specs.contracts.tick as tick
use Rattle.ticks.specs.contracts.run as run
use Rattle.runs.proofs.RunLaws.{codes_length}

-- the record of a run that is done is the plain machine's last, and the front of its buffer has the codes of that machine's answers
ran_done : (pol : Policy) (d : Description) (cs : List Call) (b b' : List ℕ) (r : Ticked) → RunOf pol d cs b b' r → r.outcome ≡ Done
    → (r.machine ≡ left pol d (idle d) cs) × (take (length cs) b' ≡ page pol d cs)
unfolding filled_by
ran_done pol d cs b b' r g o = go (ltb (length b) (length cs)) refl
  where
    n : length (page pol d cs) ≡ length cs
    n = codes_length pol d cs (idle d)

    go : (x : Bool) → ltb (length b) (length cs) ≡ x → (r.machine ≡ left pol d (idle d) cs) × (take (length cs) b' ≡ page pol d cs)
    go true e = refused_not (sym (ap (λ (y : Ticked). y.outcome) (rw e at g.0)) ∙ o)
    go false e =
        let f : b' ≡ page pol d cs ++ drop (length cs) b = rw (n, e) at g.1 in
        (ap (λ (y : Ticked). y.machine) (rw e at g.0), ap (take (length cs)) f ∙ take_at (page pol d cs) (drop (length cs) b) (length cs) n)

pub run_assured : (pol : Policy) (d : Description) (q : ℕ) → Widths d → quote_of pol d ≡ Ok q → (cs : List Call) → UpTo q (ticks pol d (idle d) cs) → (b b' : List ℕ) (r : Ticked) → RunOf pol d cs b b' r → r.outcome ≡ Done → RunAssured pol d q cs b' r
run_assured pol d q w e cs up b b' r g o =
    let k = ran_done pol d cs b b' r g o in
    record {
      answered = answers pol d (idle d) cs;
      called = subst (λ (m : Machine). Calls pol d (idle d) cs (answers pol d (idle d) cs) m) (sym k.0) (plain_calls pol d cs (idle d));
      told = k.1;
      assured = subst (λ (m : Machine). Assured pol d q cs (answers pol d (idle d) cs) m) (sym k.0) (plain_assured pol d q w e cs up);
    }

-- the file and its quote; the record that `start` answers; any list of calls of `tick`, each on the record as the one before left it, no tick of
-- which is above the quote: the start is not refused, and all is assured
pub file_assured : (pol : Policy) (file : List ℕ) (q : ℕ) (s : Ticked) (cs : List Call) (rs : List Ticked) (m : Machine)
    → AllBytes file → quoted_file pol file ≡ Ok q → StartMeets (read_file file).description s → Calls pol (read_file file).description s.machine cs rs m
    → UpTo q (ticks pol (read_file file).description (idle (read_file file).description) cs)
    → (s.outcome ≡ Done) × Assured pol (read_file file).description q cs rs m
file_assured pol file q s cs rs m b e started calls up =
    let k : QuotedFile pol file q = quoted_file_lem pol file q b e in
    (ap (λ (x : Ticked). x.outcome) (start_idle pol (read_file file).description q s k.quoted started), promise pol (read_file file).description q s cs rs m k.widths k.quoted started calls up)

-- and demand 3: the calls at one tempo up to it
pub file_demand3 : (pol : Policy) (file : List ℕ) (q t : ℕ) (s : Ticked) (cs : List Call) (rs : List Ticked) (m : Machine)
    → AllBytes file → quoted_file pol file ≡ Ok q → t ≤ q → at_tempo t cs ≡ true → StartMeets (read_file file).description s → Calls pol (read_file file).description s.machine cs rs m
    → Assured pol (read_file file).description q cs rs m
file_demand3 pol file q t s cs rs m b e high one started calls =
    let k : QuotedFile pol file q = quoted_file_lem pol file q b e in
    demand3 pol (read_file file).description q t s cs rs m k.widths k.quoted high one started calls

-- What the checker has as the `ensures` of `start`, `tick` and `run` is what the promise asks of them: with a weaker one these fail.
module _ {M : Type 1} {𝓤 : Ura M} (𝓛 : Logic 𝓤) (mem : Memory → SProp 𝓤) (does : Routine → Fun 𝓤) where
  pub start_meets : (κs : Lfts 0) (x : Args start.signature κs) (r : Ticked) (e : AtExit start.ended κs)
      → ent 𝓤 ((start.clauses 𝓛 mem does κs x).ensures tt r e) (fact 𝓤 (StartMeets x.0 r))
  start_meets κs x r e = id⊢ 𝓤 _

  pub tick_meets : (κs : Lfts 1) (x : Args tick.signature κs) (o : Outcome) (e : AtExit tick.ended κs)
      → ent 𝓤 ((tick.clauses 𝓛 mem does κs x).ensures tt o e) (fact 𝓤 (TickMeets x.0 x.1.0 x.1.1.0 x.1.1.1.0.now x.1.1.1.1.0 x.1.1.1.1.1.0 o e.1.1.1.0.now))
  tick_meets κs x o e = id⊢ 𝓤 _

  pub run_meets : (κs : Lfts 2) (x : Args run.signature κs) (r : Ticked) (e : AtExit run.ended κs)
      → ent 𝓤 ((run.clauses 𝓛 mem does κs x).ensures tt r e) (fact 𝓤 (RunMeets x.0 x.1.0 (calls_in x.1.1.0.now) x.1.1.1.0.now e.1.1.1.0.now r))
  run_meets κs x r e = id⊢ 𝓤 _
