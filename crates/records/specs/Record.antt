-- The machine's record from words of bits, and words from a record.
use Rattle.std.specs.Prelude.{ℕ, ◌+◌, ◌-◌, ◌≤◌, ◌<◌, min, Bool, true, false, ◌&&◌, List, ◌≡◌, get_or, length, ltb}
use Rattle.model.specs.declared.Description.{Description}
use Rattle.model.specs.declared.Policy.{Policy}
use Rattle.model.specs.declared.Machine.{Machine}
use Rattle.model.specs.Basics.{any_n}
use Rattle.model.specs.Machine.{alone_rule, rules_kept}
use Rattle.theory.proofs.WellFormed.{WellFormed}
use Rattle.sets.specs.declared.wide.Wide.{Wide}
use Rattle.sets.specs.Sets.{member}
use Rattle.sets.specs.Wide.{inside}
use Rattle.wiring.specs.declared.Row.{Row}
use Rattle.wiring.specs.Rows.{row_at, RowsOf}
use Rattle.words.specs.declared.Words.{Words}
use Rattle.spacings.specs.Gaps.{GapsOf}
use Rattle.words.specs.Words.{Holds, Goes}

-- lists of marks, of the bits of words
abbrev pub TasksOf : ℕ → List Bool → Type 0
TasksOf set r = (length r ≡ 32) × ((k : ℕ) → k < 32 → get_or r k false ≡ member set (k + 1))

abbrev pub TasksIn : List Bool → ℕ → Type 0
TasksIn marks r = (member r 0 ≡ false) × ((k : ℕ) → 1 ≤ k → member r k ≡ get_or marks (k - 1) false)

-- the tasks that are part done, of what tasks have used
abbrev pub PartIn : List ℕ → ℕ → Type 0
PartIn used r = (member r 0 ≡ false) × ((k : ℕ) → 1 ≤ k → member r k ≡ ltb 0 (get_or used (k - 1) 0))

-- the links into some tasks
abbrev pub Into : List Row → ℕ → Wide → Type 0
Into rows tasks r = (l : ℕ) → inside r l ≡ any_n (λ k. member tasks k && inside (row_at rows k).into l) 0 33

abbrev pub LinksOf : Wide → List Bool → Type 0
LinksOf set r = (length r ≡ 256) × ((l : ℕ) → l < 256 → get_or r l false ≡ inside set l)

-- ages, of the ticks at which they were 0
pub record AgesOf (gaps : List ℕ) (sources : ℕ) (since : List ℕ) (now : ℕ) (r : List ℕ) : Type 0 where
  pub many : length r ≡ 16
  pub here : (u : ℕ) → u < sources → get_or r u 0 ≡ min (get_or gaps u 0) (now - get_or since u 0)
  pub past : (u : ℕ) → sources ≤ u → get_or r u 0 ≡ 0

-- and those ticks, of ages at the first tick
pub record SinceOf (ages r : List ℕ) : Type 0 where
  pub many : length r ≡ 16
  pub here : (u : ℕ) → u < 16 → get_or r u 0 ≡ 4294967296 - get_or ages u 0

-- the words of the start
pub record Begins (w : Words) : Type 0 where
  pub asleep : w.woken ≡ 0
  pub none : w.part ≡ 0
  pub idle : w.running ≡ 0
  pub fresh : (l : ℕ) → inside w.fresh l ≡ false
  pub taken : (l : ℕ) → inside w.taken l ≡ false
  pub dropped : (l : ℕ) → inside w.dropped l ≡ false
  pub first : w.tick ≡ 4294967296
  pub knob : (w.low ≡ 0) × (w.peak ≡ 200)

-- the record that words hold, the spacings being those for 20.0
abbrev pub Unpacks : List Row → List ℕ → ℕ → Words → List ℕ → List ℕ → List ℕ → Machine → Type 0
Unpacks rows gaps sources w used since fastest r =
    (d : Description) (m : Machine) → WellFormed d → RowsOf d d.link_count rows → d.source_count ≡ sources → GapsOf d 200 gaps → Holds d w used since m → fastest ≡ m.fastest → r ≡ m

-- what tasks have used, if one of them at most is part done
abbrev pub OnePart : List ℕ → Type 0
OnePart used = (j k : ℕ) → j < 32 → k < 32 → 0 < get_or used j 0 → 0 < get_or used k 0 → j ≡ k

-- words that hold a record which keeps the rules
pub record Packs (p : Policy) (rows : List Row) (m : Machine) (w : Words) (since : List ℕ) : Type 0 where
  pub holds : (d : Description) → WellFormed d → RowsOf d d.link_count rows → rules_kept d m ≡ true → Holds d w m.used since m
  pub goes : alone_rule p m ≡ true → Goes p w.running m.used
  pub first : w.tick ≡ 4294967296
  pub knob : (w.low ≡ 0) × (w.peak ≡ 200)
