-- Paths through the higher tasks: what a node brings in.
use Rattle.std.specs.Prelude.{ℕ, ◌<◌, ◌≡◌, Bool, true}

-- a path of links from i to j whose tasks between are all above v
pub data Through (link : ℕ → ℕ → Bool) (v : ℕ) : ℕ → ℕ → Type 0 where
  one : {i j : ℕ} → link i j ≡ true → Through link v i j
  more : {i k j : ℕ} → link i k ≡ true → v < k → Through link v k j → Through link v i j
