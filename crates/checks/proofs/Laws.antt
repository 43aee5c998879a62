-- Where a source stands among the sources. Assumes nothing.
use Prim.Native.Nat.{ℕ, ◌+◌, ◌-◌, ◌≤◌}
use mathlib.Core.Path.{◌≡◌}
use native.Mathlib.Omega.{arith}
use lib.Dec.{leb}
use borrow.Author.Tests.{leb-true, le-leb}
use Rattle.lemmas.proofs.Tests.{same_test}

-- a source's place among the sources
pub place_source : (i n : ℕ) → 33 ≤ i → leb (i - 32) n ≡ leb i (32 + n)
place_source i n h =
    same_test (leb (i - 32) n) (leb i (32 + n))
    (λ e. le-leb i (32 + n) (omega (arith, leb-true (i - 32) n e)))
    (λ e. le-leb (i - 32) n (omega (arith, leb-true i (32 + n) e)))
