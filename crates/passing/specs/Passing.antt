-- A call at a place of some bytes, and calls that are passed.
use Rattle.std.specs.Prelude.{ℕ, ◌+◌, ◌*◌, ◌/◌, ◌%◌, ◌≤◌, ◌<◌, Bool, true, List, ◌++◌, ◌≡◌, length, get_or, take, drop}
use Rattle.model.specs.Header.{number_in}
use Rattle.words.specs.declared.Words.{Words}

-- the mask and the tempo of the call at a place, as one number
pub record Head (calls : List ℕ) (at head : ℕ) : Type 0 where
  pub mask : head / 65536 ≡ number_in calls at 2
  pub tempo : head % 65536 ≡ number_in calls (at + 2) 2

-- calls that are passed: nothing comes, the tempo is one of the knob up to the fastest given, in a run nothing ends, and their codes are 0
pub record Skips (runs : Bool) (calls : List ℕ) (from n peak : ℕ) (outcomes : List ℕ) (r : ℕ) (outcomes' : List ℕ) : Type 0 where
  pub on : from ≤ r
  pub most : r ≤ n
  pub sized : length outcomes' ≡ length outcomes
  pub quiet : (k : ℕ) → from ≤ k → k < r → (number_in calls (6 * k) 2 ≡ 0) × (200 ≤ number_in calls (6 * k + 2) 2) × (number_in calls (6 * k + 2) 2 ≤ peak)
  pub unfinished : runs ≡ true → (k : ℕ) → from ≤ k → k < r → get_or calls (6 * k + 4) 0 ≡ 0
  pub stored : (text out₀ : List ℕ) → r ≤ length text → r ≤ length out₀ → ((k : ℕ) → from ≤ k → k < r → get_or text k 0 ≡ 0)
      → outcomes ≡ take from text ++ drop from out₀ → outcomes' ≡ take r text ++ drop r out₀

-- words so many ticks later
abbrev pub later_by : ℕ → Words → Words
later_by k w = record { woken = w.woken; part = w.part; running = w.running; fresh = w.fresh; taken = w.taken; dropped = w.dropped; tick = w.tick + k; low = w.low; peak = w.peak }
