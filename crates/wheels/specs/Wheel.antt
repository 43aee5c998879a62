-- Sources on wheels. A wheel has sources whose spacings divide one period, and a table of the least that they waste in a stretch: what
-- they bring beyond their steady flow. Flows are in parts of 2 ^ 42 for each tick, wastes in parts of 2 ^ 8 of a tick.
use Rattle.std.specs.Prelude.{ℕ, ◌+◌, ◌-◌, ◌*◌, ◌/◌, ◌%◌, ◌≤◌, ◌<◌, ◌≡◌, cond, List, eqb, ltb, get_or, length}
use Rattle.model.specs.Basics.{sum_n}
use Rattle.model.specs.Delays.{spacings}
use Rattle.rounds.specs.Level.{LevelOn, LowerBound, round_in}
use Rattle.wheels.specs.declared.tables.Built.{Built}

-- the load of source u, if it is on wheel k
unfoldable pub part_at : List ℕ → List ℕ → ℕ → ℕ → ℕ
part_at loads wheels k u = cond (eqb (get_or wheels u 0) k) (get_or loads u 0) 0

-- what the sources of wheel k bring in a stretch of z
unfoldable pub part_in : List ℕ → List ℕ → List ℕ → ℕ → ℕ → ℕ → ℕ
part_in loads gaps wheels n k z = sum_n (λ u. part_at loads wheels k u * spacings z (get_or gaps u 0)) 0 n

-- their steady flow
unfoldable pub part_flow : List ℕ → List ℕ → List ℕ → ℕ → ℕ → ℕ
part_flow loads gaps wheels n k = sum_n (λ u. part_at loads wheels k u * 4398046511104 / get_or gaps u 0) 0 n

-- what the start and the sources that are on none of the first k wheels bring in a stretch of z
unfoldable pub left_in : ℕ → List ℕ → List ℕ → List ℕ → ℕ → ℕ → ℕ → ℕ
left_in start loads gaps wheels n k z = start + sum_n (λ u. cond (ltb (get_or wheels u 0) k) 0 (get_or loads u 0) * spacings z (get_or gaps u 0)) 0 n

-- a source that may be on a wheel of a period
pub record Kept (load gap period : ℕ) : Type 0 where
  pub whole : period % gap ≡ 0
  pub light : load ≤ gap
  pub small : load ≤ 2097151

-- every source on one of the first few wheels may be there
abbrev pub Sifted : List ℕ → List ℕ → List ℕ → List ℕ → ℕ → ℕ → Type 0
Sifted loads gaps wheels periods n count =
    (u : ℕ) → u < n → get_or wheels u 0 < count → Kept (get_or loads u 0) (get_or gaps u 0) (get_or periods (get_or wheels u 0) 0)

-- the masked loads of wheel k, in a list
pub record PartOf (loads wheels : List ℕ) (n k : ℕ) (part : List ℕ) : Type 0 where
  pub sized : length part ≡ 16
  pub at : (u : ℕ) → u < n → get_or part u 0 ≡ part_at loads wheels k u

-- loads that may be on a wheel
abbrev pub Light : List ℕ → List ℕ → ℕ → Type 0
Light part gaps n = (u : ℕ) → u < n → (get_or part u 0 ≤ 2097151) × (get_or part u 0 ≤ get_or gaps u 0)

-- the sources of wheel k waste at least low in a stretch of z
abbrev pub Wastes : List ℕ → List ℕ → List ℕ → ℕ → ℕ → ℕ → ℕ → Type 0
Wastes loads gaps wheels n k low z = 17179869184 * low + part_flow loads gaps wheels n k * z ≤ 4398046511104 * part_in loads gaps wheels n k z

-- each entry of the table of wheel k, from a place on, is good for that many blocks
abbrev pub Covers : List ℕ → List ℕ → List ℕ → ℕ → ℕ → ℕ → ℕ → ℕ → ℕ → List ℕ → Type 0
Covers loads gaps wheels n k block many place entries table =
    (i z : ℕ) → i + many ≤ entries → i * block < z → z ≤ (i + many) * block → Wastes loads gaps wheels n k (get_or table (place + i) 0) z

-- the first few wheels and the places of their tables
pub record Placed (periods places : List ℕ) (block count : ℕ) : Type 0 where
  pub few : count ≤ 16
  pub some : (k : ℕ) → k < count → 1 ≤ get_or periods k 0
  pub inside : (k : ℕ) → k < count → get_or places k 0 + (get_or periods k 0 / block + 8) ≤ 65536

-- the first few wheels with their tables, of which each entry is good for eight blocks
pub record WheelsOn (loads gaps wheels : List ℕ) (n block : ℕ) (periods places table : List ℕ) (count : ℕ) : Type 0 where
  pub sifted : Sifted loads gaps wheels periods n count
  pub covers : (k : ℕ) → k < count → Covers loads gaps wheels n k block 8 (get_or places k 0) (get_or periods k 0 / block + 8) table

-- the flow of the first few wheels
abbrev pub flow_on : List ℕ → List ℕ → List ℕ → ℕ → ℕ → ℕ
flow_on loads gaps wheels n count = sum_n (part_flow loads gaps wheels n) 0 count

-- where a stretch that begins at d stands on each wheel
pub record Turned (periods : List ℕ) (count d : ℕ) (turns : List ℕ) : Type 0 where
  pub sized : length turns ≡ 16
  pub at : (k : ℕ) → k < count → get_or turns k 0 ≡ (d - 1) % get_or periods k 0

-- the least waste of the first few wheels together, in the stretch that begins where they stand
unfoldable pub waste_on : ℕ → List ℕ → List ℕ → List ℕ → ℕ → ℕ
waste_on block places table turns count = sum_n (λ k. get_or table (get_or places k 0 + get_or turns k 0 / block) 0) 0 count

-- a waste that loads and a flow leave at a place, or 0
pub record WasteOf (brought flow place r : ℕ) : Type 0 where
  pub left : 0 < r → 17179869184 * r + flow * place ≤ 4398046511104 * brought
  pub most : r ≤ 65535

-- the table from a place on: each entry is 0, or a waste of the sources of a part wherever its block is
pub record Filled (part gaps : List ℕ) (n flow block entries place : ℕ) (table after : List ℕ) : Type 0 where
  pub sized : length after ≡ 65536
  pub at : (i z : ℕ) → i < entries → i * block < z → z ≤ (i + 1) * block → 0 < get_or after (place + i) 0 → 17179869184 * get_or after (place + i) 0 + flow * z ≤ 4398046511104 * round_in 0 part gaps n z
  pub before : (x : ℕ) → x < place → get_or after x 0 ≡ get_or table x 0

-- each entry from a place on is lowered to the one that many places on
pub record Lowered (place entries many : ℕ) (table after : List ℕ) : Type 0 where
  pub sized : length after ≡ 65536
  pub own : (i : ℕ) → get_or after (place + i) 0 ≤ get_or table (place + i) 0
  pub next : (i : ℕ) → i + many < entries → get_or after (place + i) 0 ≤ get_or table (place + i + many) 0
  pub before : (x : ℕ) → x < place → get_or after x 0 ≡ get_or table x 0

-- one wheel's table at a place: filled for one block, then lowered for two, for four, for eight
pub record PutWheel (part gaps : List ℕ) (n flow block entries place : ℕ) (table after : List ℕ) : Type 0 where
  pub one : List ℕ
  pub two : List ℕ
  pub four : List ℕ
  pub filled : Filled part gaps n flow block entries place table one
  pub to_two : Lowered place entries 1 one two
  pub to_four : Lowered place entries 2 two four
  pub to_eight : Lowered place entries 4 four after

-- the tables of as many wheels as there is room for, and what their flow leaves of each tick
pub record BuiltOn (loads gaps wheels : List ℕ) (n : ℕ) (periods : List ℕ) (block : ℕ) (places table : List ℕ) (r : Built) : Type 0 where
  pub placed : Placed periods places block r.count
  pub on : WheelsOn loads gaps wheels n block periods places table r.count
  pub leaves : 4398046511104 ≤ flow_on loads gaps wheels n r.count + 512 * r.slope
  pub most : r.slope ≤ 8589934592

-- what no sources of the first few wheels bring from a place on is at least a rest
abbrev pub RestFrom : ℕ → List ℕ → List ℕ → List ℕ → ℕ → ℕ → ℕ → ℕ → Type 0
RestFrom start loads gaps wheels n count from rest = (L : ℕ) → from ≤ L → rest ≤ left_in start loads gaps wheels n count L

-- a level whose wheels are on has no fixed point between two places, if none is below the first
abbrev pub Passes : List ℕ → List ℕ → List ℕ → ℕ → ℕ → ℕ → ℕ → ℕ → ℕ → Type 0
Passes periods places table block count slope rest from r =
    (start : ℕ) (loads gaps wheels : List ℕ) (n : ℕ) → LevelOn start loads gaps n → WheelsOn loads gaps wheels n block periods places table count
    → 4398046511104 ≤ flow_on loads gaps wheels n count + 512 * slope → RestFrom start loads gaps wheels n count from rest
    → LowerBound start loads gaps n from → LowerBound start loads gaps n r
