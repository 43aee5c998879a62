-- None is awake, a run of one tick, one that ends, or one that goes on.
use Prim.Native.Nat.{ℕ, ◌-◌, ◌+◌, ◌≤◌}
use mathlib.Core.Path.{◌≡◌, refl, sym, ap, subst, ◌∙◌}
use mathlib.Core.Bool.{false}
use native.Mathlib.Omega.{arith}
use lib.ListN.{get_or, length}
use Rattle.sets.specs.Sets.{member}
use Rattle.sets.proofs.SetLaws.{member_none}
use Rattle.words.specs.Words.{awake_in, Goes}
use Rattle.steps.proofs.ChoiceLaws.{goes_over, goes_more, chosen_awake, ended_running, going_running}
use Rattle.steps.proofs.StepLaws.{work_none, spent_is, awake_is, single_spent, single_ends, work_on, work_over, set_same}
use Rattle.steps.proofs.work.Goals as goal

pub returns-then-awake-eq0 : goal.returns-then-awake-eq0
returns-then-awake-eq0 c =
    let A = c.args in
    let none : (k : ℕ) → awake_in A.w k ≡ false = λ k. sym (c.union-awake.ensures k) ∙ ap (λ s. member s k) c.if-awake-eq0.true ∙ member_none k in
    record {
      worked_on = λ d since m g r s e h. work_none A.p d A.w A.used.now since A.finish m g c.requires.going none e h;
      goes = λ z e. e;
      then = refl;
      knob = (refl, refl);
    }

pub returns-then-run-eq1 : goal.returns-then-run-eq1
returns-then-run-eq1 c =
    -- the task that runs is awake
    let low : (1 ≤ c.chosen-h.result) × (c.chosen-h.result ≤ 32) = let A = c.args in
    c.requires.low c.chosen-h.result (sym (c.union-awake.ensures c.chosen-h.result) ∙ chosen_awake A.w.running c.union-awake.result c.chosen-h.result (λ o. c.union-awake.ensures A.w.running ∙ c.requires.going o) c.chosen-h.ensures) in
    let A = c.args in
    let h = c.chosen-h.result in
    let b = low in
    let single : get_or A.wiring.now.runs (h - 1) 0 ≡ 1 = c.if-run-eq1.true in
    record {
      worked_on = λ d since m g r s e H.
          let spent = single_spent A.p d A.w A.used.now since A.wiring.now.runs A.finish m g s c.requires.going e H c.union-awake.result c.union-awake.ensures h c.chosen-h.ensures b.0 b.1 single in
          work_over A.p d A.w A.used.now since A.wiring.now.runs A.finish m g s c.requires.going e H c.union-awake.result c.union-awake.ensures h c.chosen-h.ensures b.0 b.1 c.sleep.result c.fire.result A.used.now (set_same A.used.now (h - 1) 0 (omega (arith, ap length H.same_used, H.marks.sized.useds, b)) spent) (single_ends A.p d A.w A.used.now since A.wiring.now.runs A.finish m g s c.requires.going e H c.union-awake.result c.union-awake.ensures h c.chosen-h.ensures b.0 b.1 single) (c.sleep.ensures.slept d m g r b.0 b.1 (spent_is A.p d A.w A.used.now since A.wiring.now.runs A.finish m g s c.requires.going e H c.union-awake.result c.union-awake.ensures h c.chosen-h.ensures b.0 b.1 ∙ spent) H.marks) (λ k. c.fire.ensures.fired d k g r) (c.fire.ensures.then ∙ c.sleep.ensures.then);
      goes = λ z e. subst (λ n. Goes A.p n A.used.now) (sym (c.fire.ensures.runs ∙ c.sleep.ensures.runs)) e;
      then = c.fire.ensures.then ∙ c.sleep.ensures.then;
      knob = (c.fire.ensures.knob.0 ∙ c.sleep.ensures.knob.0, c.fire.ensures.knob.1 ∙ c.sleep.ensures.knob.1);
    }

pub returns-then-ends : goal.returns-then-ends
returns-then-ends c =
    let low : (1 ≤ c.chosen-h.result) × (c.chosen-h.result ≤ 32) = let A = c.args in
    c.requires.low c.chosen-h.result (sym (c.union-awake.ensures c.chosen-h.result) ∙ chosen_awake A.w.running c.union-awake.result c.chosen-h.result (λ o. c.union-awake.ensures A.w.running ∙ c.requires.going o) c.chosen-h.ensures) in
    let A = c.args in
    let h = c.chosen-h.result in
    let b = low in
    record {
      worked_on = λ d since m g r s e H. work_over A.p d A.w A.used.now since A.wiring.now.runs A.finish m g s c.requires.going e H c.union-awake.result c.union-awake.ensures h c.chosen-h.ensures b.0 b.1 c.end.result c.fire-then-ends.result _ refl (sym c.ends.ensures ∙ c.if-ends.true) (c.end.ensures.over d m g r b.0 b.1 (spent_is A.p d A.w A.used.now since A.wiring.now.runs A.finish m g s c.requires.going e H c.union-awake.result c.union-awake.ensures h c.chosen-h.ensures b.0 b.1) H.marks) (λ k. c.fire-then-ends.ensures.fired d k g r) (c.fire-then-ends.ensures.then ∙ c.end.ensures.then);
      goes = λ z e. goes_over A.p A.w.running A.used.now h b.0 b.1 z c.chosen-h.ensures.goes e c.fire-then-ends.result.running (c.fire-then-ends.ensures.runs ∙ c.end.ensures.runs ∙ ended_running A.p A.w.running A.used.now h b.0 b.1 z c.chosen-h.ensures.goes e);
      then = c.fire-then-ends.ensures.then ∙ c.end.ensures.then;
      knob = (c.fire-then-ends.ensures.knob.0 ∙ c.end.ensures.knob.0, c.fire-then-ends.ensures.knob.1 ∙ c.end.ensures.knob.1);
    }

pub returns : goal.returns
returns c =
    let low : (1 ≤ c.chosen-h.result) × (c.chosen-h.result ≤ 32) = let A = c.args in
    c.requires.low c.chosen-h.result (sym (c.union-awake.ensures c.chosen-h.result) ∙ chosen_awake A.w.running c.union-awake.result c.chosen-h.result (λ o. c.union-awake.ensures A.w.running ∙ c.requires.going o) c.chosen-h.ensures) in
    let A = c.args in
    let h = c.chosen-h.result in
    let b = low in
    record {
      worked_on = λ d since m g r s e H. work_on A.p d A.w A.used.now since A.wiring.now.runs A.finish m g s c.requires.going e H c.union-awake.result c.union-awake.ensures h c.chosen-h.ensures b.0 b.1 c.go_on.result (c.go_on.ensures.gone d m (get_or A.used.now (h - 1) 0 + 1) g r b.0 b.1 (spent_is A.p d A.w A.used.now since A.wiring.now.runs A.finish m g s c.requires.going e H c.union-awake.result c.union-awake.ensures h c.chosen-h.ensures b.0 b.1) (awake_is A.p d A.w A.used.now since A.wiring.now.runs A.finish m g s c.requires.going e H c.union-awake.result c.union-awake.ensures h c.chosen-h.ensures b.0 b.1) (omega arith) H.marks) c.go_on.ensures.then (sym c.ends.ensures ∙ c.if-ends.false);
      goes = λ z e. goes_more A.p A.w.running A.used.now h b.0 b.1 z c.chosen-h.ensures.goes e c.go_on.result.running (get_or A.used.now (h - 1) 0 + 1) (omega arith) (c.go_on.ensures.runs ∙ going_running A.p A.w.running A.used.now h b.0 b.1 z c.chosen-h.ensures.goes e);
      then = c.go_on.ensures.then;
      knob = c.go_on.ensures.knob;
    }
