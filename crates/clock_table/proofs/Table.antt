-- "Show over the whole table that every entry is the rule's and that none is above the one before" (C-16). The table is read out of the code, and each test is computed once over all of it. Assumes nothing.
use mathlib.Core.Path.{◌≡◌, refl}
use mathlib.Core.Bool.{true}
use mathlib.Core.List.{List}
use Prim.Native.Nat.{ℕ, suc, ◌-◌, ◌≤◌, ◌<◌}
use native.Mathlib.Omega.{arith}
use lib.ListN.{get_or, length}
use Rattle.model.specs.declared.Source.TheVariants.{Paced}
use Rattle.model.specs.Delays.{spacing}
use Rattle.model.specs.Verdicts.{tempos}
use Rattle.model.specs.Clock.{clock_spacing}
use Rattle.clock_table.specs.declared.TheConstants.{SPACINGS}
use Rattle.clock_table.proofs.Tests.{agrees, agrees_at, falls, falls_at}

-- the numbers that stand in the code
abbrev pub table : List ℕ
table = SPACINGS

pub counted : length table ≡ tempos
counted = refl

pub first : get_or table 0 0 ≡ 125000
first = refl

pub last : get_or table 2800 0 ≡ 8333
last = refl

pub ruled : agrees clock_spacing 200 table ≡ true
unfolding agrees
ruled = refl

pub falling : falls 125000 table ≡ true
unfolding falls
falling = refl

-- every entry is the rule's
pub entry : (t : ℕ) → 200 ≤ t → t ≤ 3000 → get_or table (t - 200) 0 ≡ clock_spacing t
entry t l k = agrees_at clock_spacing 200 table t ruled l (omega (arith, counted, k))

-- none is above the one before
pub entry_falls : (i : ℕ) → suc i < length table → get_or table (suc i) 0 ≤ get_or table i 0
entry_falls i l = falls_at 125000 table i falling l

-- the rule is that of a source of 24 pulses
pub source_rule_lem : (t : ℕ) → spacing (Paced 24) t ≡ clock_spacing t
unfolding spacing
source_rule_lem t = refl
