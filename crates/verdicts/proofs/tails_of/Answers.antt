-- `tails_of` meets its contract. Assumes nothing.
use mathlib.Core.Path.{sym, subst}
use lib.ListN.{replicate}
use Rattle.model.specs.declared.Policy.{Policy}
use Rattle.verdicts.specs.Tables.{TailsOf}
use Rattle.verdicts.proofs.TableLaws.{no_tails, run_tails}
use Rattle.verdicts.proofs.tails_of.Goals as goal

pub returns-in-Preemptive : goal.returns-in-Preemptive
returns-in-Preemptive c = λ d few e. subst (λ (p : Policy). TailsOf p d (replicate 32 0)) (sym c.in-Preemptive.is) (no_tails d few)

pub returns-in-HoldOn : goal.returns-in-HoldOn
returns-in-HoldOn c = λ d few e. rw e (subst (λ (p : Policy). TailsOf p d d.runs) (sym c.in-HoldOn.is) (run_tails d))
