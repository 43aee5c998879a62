-- Request C-13, "The knob turned while playing": the file its figures speak of, and the figures as the rows of one statement.
use Rattle.std.specs.Prelude.{ℕ, Bool, true, false, cond, [], ◌∷◌, ◌≡◌, eqb, leb}
use Rattle.model.specs.declared.Source.TheVariants.{Fixed, Swung}
use Rattle.model.specs.declared.Policy.TheVariants.{Preemptive}
use Rattle.model.specs.declared.Description.{Description}
use Rattle.model.specs.declared.Machine.{Machine}
use Rattle.model.specs.Refusals.{of_outcome}
use Rattle.model.specs.Delays.{spacing}
use Rattle.model.specs.Machine.{age_at, fastest_at, idle, lawful, set_age, set_fastest, judge_tick}
use Rattle.model.specs.History.{left}
use Rattle.model.specs.Run.{page}
use Rattle.model.specs.figures.Marked.{describe, free, calls_turned, calls_where, arriving}

-- a task of run 1 and the swiftest paced source there is, then one that is fixed
abbrev pub swift : Description
swift = describe (1 ∷ []) (Swung 960 75 ∷ Fixed 3 ∷ []) (free 33 1 ∷ [])

-- the knob stands at 20.0 but for one call, in which it is at 300.0
abbrev pub up_at : ℕ → ℕ → ℕ
up_at x y = cond (eqb x y) 3000 200

-- the record after n calls, source 33 coming in those that pass a test
abbrev pub after_where : (ℕ → Bool) → (ℕ → ℕ) → ℕ → Machine
after_where test knob n = left Preemptive swift (idle swift) (calls_turned knob n test)

abbrev pub after : (ℕ → ℕ) → ℕ → Machine
after = after_where (λ y. eqb y 0)

-- source 33 comes at tempo t, being x ticks old: 0 or the refusal's number
abbrev pub comes : ℕ → ℕ → Machine → ℕ
comes t x m = (of_outcome (judge_tick Preemptive swift t (set_age 0 x m) (arriving 1))).number

pub record KnobFigures : Type 0 where
  pub slow : spacing (Swung 960 75) 200 ≡ 1562
  pub fast : spacing (Swung 960 75) 3000 ≡ 104
  -- why the fastest tempo is kept: the source fires, the knob is turned up and down again, and the source may come 104 ticks after its firing, though
  -- at 20.0, where the knob stands when it fires and when it comes, its spacing is 1,562
  pub up_and_down : comes 200 104 (after (up_at 1) 3) ≡ 0
  pub up_and_down_early : comes 200 103 (after (up_at 1) 3) ≡ 14
  pub not_turned : comes 200 1562 (after (λ y. 200) 3) ≡ 0
  pub not_turned_early : comes 200 1561 (after (λ y. 200) 3) ≡ 14
  -- "the tick of that firing and its present tick included"
  pub own_tick : comes 200 104 (after (up_at 0) 3) ≡ 0
  pub present_tick : comes 3000 104 (after (λ y. 200) 3) ≡ 0
  pub present_tick_early : comes 3000 103 (after (λ y. 200) 3) ≡ 14
  -- "before its first firing it is free"
  pub free_first : page Preemptive swift (calls_where 1 (λ y. true)) ≡ 0 ∷ []
  pub free_later : page Preemptive swift (calls_turned (up_at 1) 3 (eqb 2)) ≡ 0 ∷ 0 ∷ 0 ∷ []
  -- a refused call's tempo is not given: call 1 is too soon at 300.0, and 1,561 ticks after the firing the source is too soon still
  pub refused_early : page Preemptive swift (calls_turned (up_at 1) 3 (λ y. leb y 1)) ≡ 0 ∷ 14 ∷ 0 ∷ []
  pub refused_not_given : comes 200 1561 (after_where (λ y. leb y 1) (up_at 1) 3) ≡ 14
  -- one off the knob is refused
  pub off_knob : page Preemptive swift (calls_turned (λ y. cond (eqb y 0) 199 (cond (eqb y 1) 3001 3000)) 3 (λ y. false)) ≡ 11 ∷ 11 ∷ 0 ∷ []
  -- what is kept: this tick's tempo at a firing, then the larger, and nothing for a source that never fired
  pub kept_own : fastest_at (after (up_at 0) 1) 0 ≡ 3000
  pub kept_larger : fastest_at (after (up_at 1) 2) 0 ≡ 3000
  pub kept_on : fastest_at (after (up_at 1) 3) 0 ≡ 3000
  pub kept_none : fastest_at (after (up_at 1) 3) 1 ≡ 0
  -- a source that fires again keeps the tempo of that tick, though a faster one was kept before
  pub kept_again : fastest_at (left Preemptive swift (set_age 0 104 (after (up_at 0) 1)) (calls_turned (λ y. 200) 1 (λ y. true))) 0 ≡ 200
  -- "ages start at the spacing for 20.0 and rise up to it": at 300.0 too
  pub age_first : age_at (idle swift) 0 ≡ 1562
  pub age_fired : age_at (after (λ y. 3000) 1) 0 ≡ 1
  pub age_rises : age_at (left Preemptive swift (set_age 0 104 (after (λ y. 3000) 1)) (calls_turned (λ y. 3000) 1 (λ y. false))) 0 ≡ 105
  pub age_most : age_at (after (λ y. 3000) 3) 1 ≡ 3
  -- "a kept tempo is 0, with the age as at the start, or 200 to 3,000"
  pub rule_start : lawful Preemptive swift (idle swift) ≡ true
  pub rule_0_younger : lawful Preemptive swift (set_age 0 1561 (idle swift)) ≡ false
  pub rule_199 : lawful Preemptive swift (set_fastest 0 199 (idle swift)) ≡ false
  pub rule_200 : lawful Preemptive swift (set_fastest 0 200 (set_age 0 1561 (idle swift))) ≡ true
  pub rule_3000 : lawful Preemptive swift (set_fastest 0 3000 (set_age 0 1562 (idle swift))) ≡ true
  pub rule_3001 : lawful Preemptive swift (set_fastest 0 3001 (idle swift)) ≡ false
  pub rule_older : lawful Preemptive swift (set_fastest 0 3000 (set_age 0 1563 (idle swift))) ≡ false
  pub rule_absent : lawful Preemptive swift (set_fastest 2 200 (idle swift)) ≡ false
