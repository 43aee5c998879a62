-- The verdict call by its tests: judged, then the knob. Assumes nothing.
use Prim.Native.Nat.{ℕ}
use mathlib.Core.Path.{◌≡◌, ap}
use mathlib.Core.Bool.{true, false}
use mathlib.Core.List.{List}
use Rattle.model.specs.declared.Description.{Description}
use Rattle.model.specs.declared.Policy.{Policy}
use Rattle.model.specs.Refusals.{Done, Refused}
use Rattle.model.specs.declared.Refusal.{Refusal}
use Rattle.model.specs.declared.Refusal.TheVariants.{OffKnob}
use Rattle.model.specs.declared.VerdictSlot.{VerdictSlot}
use Rattle.model.specs.declared.Verdicts.{Verdicts}
use Rattle.model.specs.Basics.{tab}
use Rattle.model.specs.File.{judge}
use Rattle.model.specs.Verdicts.{judge_at, verdicts, on_knob, slot_at}
use Rattle.verdicts.specs.Slots.{refused_verdicts}

module _ (pol : Policy) (d : Description) (t : ℕ) where
  pub verdicts_refused : (r : Refusal) (p : ℕ) → judge d ≡ Refused r p → refused_verdicts r p ≡ verdicts pol d t
  unfolding verdicts judge_at
  verdicts_refused r p e = rw e

  pub verdicts_off : judge d ≡ Done → on_knob t ≡ false → refused_verdicts OffKnob 0 ≡ verdicts pol d t
  unfolding verdicts judge_at
  verdicts_off e h = rw (e, h)

  pub verdicts_done : (slots : List VerdictSlot) → judge d ≡ Done → on_knob t ≡ true → slots ≡ tab 256 (slot_at pol d t) → ◌≡◌ {A = Verdicts} (record { outcome = Done; slots = slots }) (verdicts pol d t)
  unfolding verdicts judge_at
  verdicts_done slots e h q = rw (e, h) (ap (λ (x : List VerdictSlot). let v : Verdicts = record { outcome = Done; slots = x } in v) q)
