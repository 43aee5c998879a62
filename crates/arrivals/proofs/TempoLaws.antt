-- Kept tempos, and what words say of tempos. Assumes nothing.
use Prim.Native.Nat.{ℕ, zero, suc, ◌≤◌, ◌<◌, max}
use mathlib.Core.Path.{◌≡◌, refl, sym, subst}
use mathlib.Core.List.{List}
use mathlib.Core.Logic.{◌⊎◌, inl, inr}
use native.Mathlib.Omega.{arith}
use lib.ListN.{get_or}
use borrow.Author.Tests.{ne_eqb}
use Rattle.model.specs.declared.Description.{Description}
use Rattle.model.specs.declared.Machine.{Machine}
use Rattle.words.specs.declared.Words.{Words}
use Rattle.words.specs.Words.{Holds, Above, raised_to}
use Rattle.arrivals.specs.Arrivals.{at_tempos}
use Rattle.words.proofs.WordLaws.{marks_same}

-- kept tempos none of which is below the fastest given need not be raised
pub not_below : (peak low : ℕ) (fastest : List ℕ) → peak ≤ low → Above low fastest → (u : ℕ) → u < 16 → get_or fastest u 0 ≡ raised_to peak (get_or fastest u 0)
not_below peak low fastest h a u p = go (get_or fastest u 0) (a u p)
  where
    go : (f : ℕ) → (f ≡ 0) ⊎ (low ≤ f) → f ≡ raised_to peak f
    go zero k = refl
    go (suc n) (inl e) = absurd (omega arith)
    go (suc n) (inr e) = rw (ne_eqb (suc n) 0 (λ z. omega arith)) (let q : suc n ≡ max (suc n) peak = omega arith in q)

-- words that say of tempos something else hold the same record
pub tempos_hold : (d : Description) (low peak : ℕ) (w w' : Words) (used since : List ℕ) (m : Machine) → w' ≡ at_tempos low peak w → Holds d w used since m → Holds d w' used since m
tempos_hold d low peak w w' used since m e h = subst (λ (k : Words). Holds d k used since m) (sym e) (record {
  marks = marks_same d w (at_tempos low peak w) m (record { woken = refl; part = refl; fresh = refl; taken = refl; dropped = refl }) h.marks;
  same_used = h.same_used;
  below = h.below;
  ages = h.ages;
})
