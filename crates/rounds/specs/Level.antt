-- One level of the rounds as the code has it: a start, and for each source its load and its spacing, in two lists counted from 0.
use Rattle.std.specs.Prelude.{ℕ, suc, ◌+◌, ◌-◌, ◌*◌, ◌/◌, ◌≤◌, ◌<◌, ◌≡◌, List, get_or, length}
use Rattle.model.specs.Basics.{sum_n}
use Rattle.model.specs.Delays.{spacings, settle}
use Rattle.theory.proofs.Levels.{reach_of}
use Rattle.rounds.specs.declared.Reached.{Reached}
use Rattle.rounds.specs.declared.Reached.TheVariants.{Settled, Open}

-- n sources, with loads and spacings from the scale
pub record LevelOn (start : ℕ) (loads gaps : List ℕ) (n : ℕ) : Type 0 where
  pub few : n ≤ 16
  pub start_most : start ≤ 1010000000
  pub load_most : (u : ℕ) → u < n → get_or loads u 0 ≤ 1000000000
  pub gap_some : (u : ℕ) → u < n → 1 ≤ get_or gaps u 0
  pub gap_most : (u : ℕ) → u < n → get_or gaps u 0 ≤ 1000000000

-- a round of the level
unfoldable pub round_in : ℕ → List ℕ → List ℕ → ℕ → ℕ → ℕ
round_in start loads gaps n d = start + sum_n (λ u. get_or loads u 0 * spacings d (get_or gaps u 0)) 0 n

-- how far the firings of a source within d reach
abbrev pub end_of : List ℕ → ℕ → ℕ → ℕ
end_of gaps d u = spacings d (get_or gaps u 0) * get_or gaps u 0

-- the ends of n sources are those within d, where a source has a load
pub record Counted (loads gaps : List ℕ) (n d : ℕ) (ends : List ℕ) : Type 0 where
  pub sized : length ends ≡ 16
  pub at : (u : ℕ) → u < n → 0 < get_or loads u 0 → get_or ends u 0 ≡ end_of gaps d u

-- the firings that d needs beyond those that reach to an end
unfoldable pub more_by : ℕ → ℕ → ℕ → ℕ
more_by d end gap = (d - end + (gap - 1)) / gap

-- source u is counted on to d: its end moves, and its load is added to the sum
pub record CountsOn (load gap d : ℕ) (ends : List ℕ) (u sum : ℕ) (after : List ℕ) (r : ℕ) : Type 0 where
  pub total : r ≡ sum + load * more_by d (get_or ends u 0) gap
  pub sized : length after ≡ length ends
  pub here : u < length ends → get_or after u 0 ≡ get_or ends u 0 + more_by d (get_or ends u 0) gap * gap
  pub others : (k : ℕ) → (k ≡ u → ⊥) → get_or after k 0 ≡ get_or ends k 0

-- a round at d after one that gave sum at p: it is worked out by the firings that d has beyond those counted for p
abbrev pub NextRound : List ℕ → List ℕ → ℕ → ℕ → ℕ → List ℕ → List ℕ → ℕ → Type 0
NextRound loads gaps n d sum ends after r =
    (start p : ℕ) → p ≤ d → Counted loads gaps n p ends → sum ≡ round_in start loads gaps n p
    → (r ≡ round_in start loads gaps n d) × Counted loads gaps n d after

-- no fixed point of the level, which a round leaves unchanged, is below d
abbrev pub LowerBound : ℕ → List ℕ → List ℕ → ℕ → ℕ → Type 0
LowerBound start loads gaps n d = (L : ℕ) → round_in start loads gaps n L ≡ L → d ≤ L

-- a place that no fixed point is below, with the firings of every source counted, whose round is on the scale
pub record RoundAt (start : ℕ) (loads gaps : List ℕ) (n : ℕ) (ends : List ℕ) : Type 0 where
  pub place : ℕ
  pub counted : Counted loads gaps n place ends
  pub some : 1 ≤ round_in start loads gaps n place
  pub most : round_in start loads gaps n place ≤ 1000000000
  pub lower : LowerBound start loads gaps n place

-- a share of a tick in parts of 2 ^ 33: at most load / gap
pub record ShareOf (load gap share : ℕ) : Type 0 where
  pub part : share * gap ≤ load * 8589934592
  pub most : share ≤ 8589934593

-- the shares of n sources
pub record Shares (loads gaps : List ℕ) (n : ℕ) (shares : List ℕ) : Type 0 where
  pub sized : length shares ≡ 16
  pub at : (u : ℕ) → u < n → ShareOf (get_or loads u 0) (get_or gaps u 0) (get_or shares u 0)

-- a lower bound of every length L ≥ 1 that holds a rest and a flow, in parts of 2 ^ 33 for each tick; at most the limit
pub record FlowEnd (rest flow limit r : ℕ) : Type 0 where
  pub lower : (L : ℕ) → 1 ≤ L → 8589934592 * rest + flow * L ≤ 8589934592 * L → r ≤ L
  pub most : r ≤ limit

-- a lower bound of the fixed points, at most the limit
pub record Jump (start : ℕ) (loads gaps : List ℕ) (n limit r : ℕ) : Type 0 where
  pub lower : LowerBound start loads gaps n r
  pub most : r ≤ limit

-- where its rounds come to
unfoldable pub reach_in : ℕ → List ℕ → List ℕ → ℕ → ℕ → ℕ
reach_in start loads gaps n limit = reach_of (settle (suc limit) (round_in start loads gaps n) limit start) limit

-- a place below the limit that no fixed point is below
pub record OpenAt (start : ℕ) (loads gaps : List ℕ) (n limit place : ℕ) : Type 0 where
  pub lower : LowerBound start loads gaps n place
  pub least : start ≤ place
  pub most : place < limit

-- settled where the rounds come to, or open at a place on the way
abbrev pub ReachedBy : ℕ → List ℕ → List ℕ → ℕ → ℕ → Reached → Type 0
ReachedBy start loads gaps n limit (Settled place) = place ≡ reach_in start loads gaps n limit
ReachedBy start loads gaps n limit (Open place) = OpenAt start loads gaps n limit place
