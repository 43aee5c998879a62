-- `quote_file` meets its contract. Assumes nothing.
use borrow.Author.Rules.{rules}
use Rattle.library.proofs.Laws.{quoted_place, reply_done}
use mathlib.Core.Path.{sym, ap, ◌∙◌}
use mir.Syntax.{w64}
use mir.ValLaws.{to_z-of_z}
use Rattle.model.specs.Refusals.{Quote, of_quote}
use Rattle.library.specs.Replies.{reply}
use Rattle.library.proofs.quote_file.Goals as goal

pub refusal_code-requires : goal.refusal_code-requires
refusal_code-requires c = quoted_place c.args.p c.args.file.now c.quote_file.result c.in-Err.rejection.why c.in-Err.rejection.place (λ i. search rules) c.quote_file.ensures c.in-Err.is

pub returns-in-Ok : goal.returns-in-Ok
returns-in-Ok c = to_z-of_z w64 c.from.result (record { sfits = c.from.type_inv }) ∙ c.from.ensures ∙ reply_done c.in-Ok.t ∙ ap (λ (q : Quote). reply (of_quote q)) (sym c.in-Ok.is ∙ c.quote_file.ensures)
