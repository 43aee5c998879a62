-- The verdict call's answers by structure and spacings (C-12): two records that it does not refuse, each at its own tempo, get the same answer if they have the same
-- tasks and links, and their sources the same spacings there. `Widths` is what the types of a record give (`theory/Typed.typed_widths`). Assumes nothing.
use Rattle.std.specs.Prelude.{Ok, Err}
use Prim.Native.Nat.{ℕ}
use mathlib.Core.Path.{◌≡◌, sym, ap, ◌∙◌}
use mathlib.Core.List.{List}
use lib.ListN.{replicate}
use seplogic.Ra.Ura.{Ura}
use base.Logic.{SProp, ent, id⊢}
use prog.Memory.{Memory}
use prog.Routine.{Routine}
use types.Logic.{Logic}
use contract.Monad.{Fun, fact}
use contract.Lifetimes.{Lfts}
use denote.Triple.Entry.{Args}
use denote.Triple.Clauses.{AtExit}
use Rattle.model.specs.declared.Description.{Description}
use Rattle.model.specs.declared.Policy.{Policy}
use Rattle.model.specs.Refusals.{Outcome, Done, Refused, on_done}
use Rattle.model.specs.declared.VerdictSlot.{VerdictSlot}
use Rattle.model.specs.declared.Verdicts.{Verdicts}
use Rattle.model.specs.Basics.{tab}
use Rattle.model.specs.File.{Widths}
use Rattle.model.specs.Verdicts.{judge_at, slot_at, free_slot, verdicts}
use Rattle.lemmas.proofs.Outcomes.{refused_not}
use Rattle.theory.specs.Structure.{SameStructure, SameSpacings}
use Rattle.theory.proofs.BySpacings.{verdicts_same}
use Rattle.verdicts.specs.contracts.verdicts as call

abbrev answer : Outcome → List VerdictSlot → Verdicts
answer outcome slots = record { outcome = outcome; slots = slots }

-- an answer that is no refusal says that record and tempo are judged good
answered : (pol : Policy) (d : Description) (t : ℕ) (r : Verdicts) → r ≡ verdicts pol d t → r.outcome ≡ Done → judge_at d t ≡ Done
unfolding verdicts
answered pol d t r e o = go (judge_at d t) (sym (ap (λ (x : Verdicts). x.outcome) e) ∙ o)
  where
    go : (k : Outcome) → (on_done k (answer Done (tab 256 (slot_at pol d t))) (λ w p. answer (Refused w p) (replicate 256 free_slot))).outcome ≡ Done → k ≡ Done
    go (Ok tt) f = f
    go (Err x) f = refused_not f

pub same_answers : (pol : Policy) (d e : Description) (t t' : ℕ) (r r' : Verdicts) → Widths d → Widths e → r ≡ verdicts pol d t → r' ≡ verdicts pol e t' → r.outcome ≡ Done → r'.outcome ≡ Done → SameStructure d e → SameSpacings d t e t' → r ≡ r'
same_answers pol d e t t' r r' w w' a b o o' s g = a ∙ verdicts_same pol d e t t' w w' (answered pol d t r a o) (answered pol e t' r' b o') s g ∙ sym b

-- What the checker has as the `ensures` of `verdicts` is what is asked of an answer there: with a weaker one this fails.
module _ {M : Type 1} {𝓤 : Ura M} (𝓛 : Logic 𝓤) (mem : Memory → SProp 𝓤) (does : Routine → Fun 𝓤) where
  pub verdicts_meets : (κs : Lfts 0) (x : Args call.signature κs) (r : Verdicts) (e : AtExit call.ended κs)
      → ent 𝓤 ((call.clauses 𝓛 mem does κs x).ensures tt r e) (fact 𝓤 (r ≡ verdicts x.0 x.1.0 x.1.1.0))
  verdicts_meets κs x r e = id⊢ 𝓤 _
