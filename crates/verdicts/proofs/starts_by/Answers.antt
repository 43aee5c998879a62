-- `starts_by` meets its contract. Assumes nothing.
use mathlib.Core.Path.{sym, subst}
use native.Mathlib.Omega.{arith}
use Rattle.model.specs.declared.Policy.{Policy}
use Rattle.verdicts.specs.Tables.{StartsOf}
use Rattle.verdicts.proofs.TableLaws.{starts_of, hold_starts_of}
use Rattle.verdicts.proofs.starts_by.Goals as goal

pub returns-in-Preemptive : goal.returns-in-Preemptive
returns-in-Preemptive c = λ d h e n. subst (λ (p : Policy). StartsOf p d c.starts_of.result) (sym c.in-Preemptive.is) (starts_of d c.args.s.now.brings.now c.args.s.now.works.now h c.starts_of.result (omega (arith, c.args.s.now.few)) (rw n at c.starts_of.ensures))

pub returns-in-HoldOn : goal.returns-in-HoldOn
returns-in-HoldOn c = λ d h e n. subst (λ (p : Policy). StartsOf p d c.hold_starts_of.result) (sym c.in-HoldOn.is) (hold_starts_of d c.args.s.now.brings.now c.args.s.now.works.now h c.hold_starts_of.result (omega (arith, c.args.s.now.few)) (rw (e, n) at c.hold_starts_of.ensures))
