use mathlib.Core.Path.{ap, ◌∙◌}
use mathlib.Core.List.{List}
use Prim.Native.Nat.{ℕ}
use denote.Ref.{Bor}
use Rattle.model.specs.File.{read_from}
use Rattle.files.proofs.Laws.{read_start}
use Rattle.files.proofs.read.Goals as goal

pub returns : goal.returns
returns c =
    let r = c.new.result in
    let e = c.new.ensures in
    c.read_from.ensures ∙ (ap (λ (x : Bor (List ℕ)). read_from x.now r.at) e.0 ∙ ap (read_from c.args.s.now) e.1 ∙ read_start c.args.s.now)
