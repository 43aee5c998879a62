use native.Mathlib.Omega.{arith}
use Prim.Native.Nat.{ℕ, suc, ◌-◌}
use mathlib.Core.Path.{sym, ◌∙◌}
use lib.ListN.{get_or}
use lib.Dec.{ltb}
use borrow.Author.Rules.{rules}
use borrow.Author.Tests.{tests}
use Rattle.std.proofs.lemmas.Iterator.{YieldsList-from_slice}
use Rattle.std.proofs.lemmas.Iterator.Search.{any_from_yields_List}
use Rattle.lemmas.proofs.Chains.{any_list}
use Rattle.works.specs.Works.{load_by}
use Rattle.loads.specs.Tables.{heavy_by}
use Rattle.loads.proofs.Sums.{works_front, sum-most}
use Rattle.loads.proofs.Columns.{load_under, heavy_none}
use Rattle.loads.proofs.rows.heavy.Goals as goal

pub sum_of-requires : goal.sum_of-requires
sum_of-requires c =
    let n = c.args.s.now.count in
    omega (arith, works_front c.args.s.now.works.now n (omega (arith, c.args.s.now.few, c.args.s.now.tasks_all)), sum-most (λ k. get_or c.args.s.now.works.now (k - 1) 0) 1 (suc n - 1) 42949672960000000 (λ k. c.args.s.now.scaled (k - 1)))

pub returns-then-sum_of-le1000000000 : goal.returns-then-sum_of-le1000000000
returns-then-sum_of-le1000000000 c =
    let works = c.args.s.now.works.now in
    let n = c.args.s.now.count in
    let e = works_front works n (omega (arith, c.args.s.now.few, c.args.s.now.tasks_all)) in
    sym (heavy_none c.args.s.now.brings.now works n (λ r p. omega (arith, load_under (get_or c.args.s.now.brings.now r 0) works n, c.if-sum_of-le1000000000.true, c.sum_of.ensures, e)))

pub returns : goal.returns
unfolding heavy_by
returns c =
    let heavy = λ (row : ℕ). ltb 1000000000 (load_by row c.args.s.now.works.now c.args.s.now.count 1) in
    any_from_yields_List heavy _ _ _ c.any.ensures.ran (YieldsList-from_slice c.args.s.now.brings.now cc) (λ x b q k. search (rules, tests))
    ∙ rw c.args.s.now.nodes_all at (any_list heavy c.args.s.now.brings.now 0)
