-- `refusal_code` meets its contract: the number is at most 16 and the place at most 2,128. Assumes nothing.
use Rattle.library.proofs.Laws.{reply_refused}
use mathlib.Core.Path.{ap, ◌∙◌}
use Prim.Native.Nat.{ℕ, ◌+◌, ◌*◌}
use lib.IntN.{pos, neg_ℤ}
use mir.Syntax.{w64}
use mir.ValLaws.{to_z-of_z}
use Rattle.library.proofs.refusal_code.Goals as goal

pub returns : goal.returns
returns c = to_z-of_z w64 c.negative.result (record { sfits = c.negative.type_inv }) ∙ c.negative.ensures ∙ ap (λ (n : ℕ). neg_ℤ (pos (10000 * n + c.args.rejection.place))) c.number_of-number.ensures ∙ reply_refused c.args.rejection.why c.args.rejection.place
