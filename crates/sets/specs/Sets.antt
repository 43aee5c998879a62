-- Sets of numbers as the bits of a word.
use Rattle.std.specs.Prelude.{ℕ, ◌/◌, ◌%◌, ◌^◌, ◌<◌, ◌≡◌, Bool, true, false, ◌&&◌, eqb, ltb}

-- whether k is in the set: bit k of the word
unfoldable pub member : ℕ → ℕ → Bool
member set k = eqb (set / 2 ^ k % 2) 1

-- the least member
pub record FirstIn (set r : ℕ) : Type 0 where
  pub below : r < 64
  pub in_set : member set r ≡ true
  pub none_before : (k : ℕ) → k < r → member set k ≡ false

-- the greatest member
pub record LastIn (set r : ℕ) : Type 0 where
  pub below : r < 64
  pub in_set : member set r ≡ true
  pub none_after : (k : ℕ) → r < k → member set k ≡ false

-- the members but the least
pub record RestOf (set r : ℕ) : Type 0 where
  pub fewer : r < set
  pub later : (k : ℕ) → FirstIn set k → (j : ℕ) → member r j ≡ (member set j && ltb k j)
