-- `quotes::quote_by` meets its contract: the best tempo for the levels below j. Assumes nothing.
use Prim.Native.Nat.{◌≤◌}
use Rattle.model.specs.declared.Description.{Description}
use Rattle.model.specs.declared.Policy.{Policy}
use Rattle.spacings.specs.Gaps.{GapsBy}
use Rattle.verdicts.specs.Tables.{LevelTables}
use Rattle.quotes.specs.Best.{Best}
use Rattle.quotes.proofs.quote_by.Given as goal

abbrev pub invariant-loop-j : goal.invariant-loop-j
invariant-loop-j l = (200 ≤ l.best) × (l.best ≤ 3000) × GapsBy l.t.sources l.best l.gaps × ((pol : Policy) (d : Description) → LevelTables pol d l.t → Best pol d l.j l.best)
