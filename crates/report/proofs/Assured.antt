-- What the checker has as the `ensures` of `report` is what the page's promise asks of it (`Page.CallPaper`): with a weaker one this fails. Assumes nothing.
use seplogic.Ra.Ura.{Ura}
use base.Logic.{SProp, ent, id⊢}
use prog.Memory.{Memory}
use prog.Routine.{Routine}
use types.Logic.{Logic}
use contract.Monad.{Fun, fact}
use contract.Lifetimes.{Lfts}
use denote.Triple.Entry.{Args}
use denote.Triple.Clauses.{AtExit}
use Rattle.model.specs.Refusals.{Filled}
use Rattle.model.specs.Report.{ReportMeets}
use Rattle.report.specs.contracts.report as report

module _ {M : Type 1} {𝓤 : Ura M} (𝓛 : Logic 𝓤) (mem : Memory → SProp 𝓤) (does : Routine → Fun 𝓤) where
  pub report_meets : (κs : Lfts 2) (x : Args report.signature κs) (r : Filled) (e : AtExit report.ended κs)
      → ent 𝓤 ((report.clauses 𝓛 mem does κs x).ensures tt r e) (fact 𝓤 (ReportMeets x.0 x.1.0.now x.1.1.0.now r e.1.1.0.now))
  report_meets κs x r e = id⊢ 𝓤 _
