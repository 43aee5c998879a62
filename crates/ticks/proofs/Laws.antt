-- The public calls by their tests: judged, the knob, then the plain machine. Assumes nothing.
use Prim.Native.Nat.{ℕ}
use mathlib.Core.Path.{◌≡◌, sym, ap, ◌∙◌}
use mathlib.Core.Bool.{Bool, true, false}
use mathlib.Core.List.{List}
use Rattle.model.specs.declared.Description.{Description}
use Rattle.model.specs.declared.Policy.{Policy}
use Rattle.model.specs.declared.Machine.{Machine}
use Rattle.model.specs.declared.Arrivals.{Arrivals}
use Rattle.model.specs.declared.Ticked.{Ticked}
use Rattle.model.specs.declared.Refusal.{Refusal}
use Rattle.model.specs.declared.Refusal.TheVariants.{OffKnob}
use Rattle.model.specs.Refusals.{Done, Refused}
use Rattle.model.specs.File.{Widths, judge}
use Rattle.model.specs.Verdicts.{judge_at, on_knob}
use Rattle.model.specs.Machine.{idle, started, judge_tick, plain_tick}
use Rattle.model.specs.History.{Call}
use Rattle.model.specs.Run.{ran, page_ran, RunMeets}
pub use Rattle.theory.proofs.FileLaws.{at_known}
use Rattle.runs.specs.Run.{RunOf}
use Rattle.model.specs.Machine.{unstarted}
use Rattle.ticks.specs.Calls.{untouched}
use Rattle.ticks.proofs.Assured.{run_assured}
use Rattle.lemmas.proofs.Outcomes.{refused_not}

module _ (d : Description) (t : ℕ) where
  pub at_refused : (r : Refusal) (p : ℕ) → judge d ≡ Refused r p → Refused r p ≡ judge_at d t
  unfolding judge_at
  at_refused r p e = rw e

  pub at_off : judge d ≡ Done → on_knob t ≡ false → Refused OffKnob 0 ≡ judge_at d t
  unfolding judge_at
  at_off e h = rw (e, h)

  pub at_done : judge d ≡ Done → on_knob t ≡ true → Done ≡ judge_at d t
  unfolding judge_at
  at_done e h = rw (e, h)

  pub tick_refused : (pol : Policy) (m : Machine) (a : Arrivals) (f : Bool) (r : Refusal) (p : ℕ) → judge_at d t ≡ Refused r p → untouched r p m ≡ plain_tick pol d t m a f
  unfolding plain_tick judge_tick
  tick_refused pol m a f r p e = rw e

module _ (d : Description) where
  pub start_refused : (r : Refusal) (p : ℕ) → judge d ≡ Refused r p → unstarted r p ≡ started d
  unfolding started
  start_refused r p e = rw e

  pub start_done : (m : Machine) → judge d ≡ Done → m ≡ idle d → ◌≡◌ {A = Ticked} (record { outcome = Done; machine = m }) (started d)
  unfolding started
  start_done m e q = rw e (ap (λ (x : Machine). let r : Ticked = record { outcome = Done; machine = x } in r) q)

  pub run_refused : (pol : Policy) (cs : List Call) (b : List ℕ) (r : Refusal) (p : ℕ) (x : Ticked) → judge d ≡ Refused r p → x ≡ unstarted r p → RunMeets pol d cs b b x
  unfolding ran page_ran
  run_refused pol cs b r p x e q = record {
    answer = q ∙ rw e;
    filled = rw e;
    assured = λ _ _ _ h. refused_not (sym (ap (λ (y : Ticked). y.outcome) q) ∙ h);
  }

  pub run_done : (pol : Policy) (cs : List Call) (b b' : List ℕ) (x : Ticked) → Widths d → judge d ≡ Done → RunOf pol d cs b b' x → RunMeets pol d cs b b' x
  unfolding ran page_ran
  run_done pol cs b b' x w e g = record {
    answer = g.0 ∙ rw e;
    filled = g.1 ∙ rw e;
    assured = λ q f up o. run_assured pol d q w f cs up b b' x g o;
  }
