-- The figures of the hold-on model hold: each row is computed. Assumes nothing.
use Prim.Native.Nat.{ℕ}
use mathlib.Core.List.{List, [], ◌∷◌}
use mathlib.Core.Path.{◌≡◌, refl, ap}
use Rattle.model.specs.declared.Policy.TheVariants.{Preemptive, HoldOn}
use Rattle.model.specs.History.{Tick, wait_of, history}
use Rattle.model.specs.Machine.{choose}
use Rattle.model.specs.figures.Hold.{pair, pair_calls, ran_in, threes, one_done, HoldFigures}
use Rattle.model.proofs.figures.Marked.{computing}

-- asked before any list of ticks, so that a refusal tells the task
lower : choose HoldOn threes one_done ≡ 1
unfolding computing
lower = refl

-- what is asked of one list of ticks is computed at once
abbrev asked : List Tick → List ℕ × ℕ
asked h = (ran_in h, wait_of h 2 1)

held : asked (history HoldOn pair (pair_calls 1)) ≡ (1 ∷ 1 ∷ 1 ∷ 2 ∷ [], 3)
unfolding computing
held = refl

interrupted : asked (history Preemptive pair (pair_calls 1)) ≡ (1 ∷ 2 ∷ 1 ∷ 1 ∷ [], 1)
unfolding computing
interrupted = refl

pub hold_figures : HoldFigures
unfolding computing
hold_figures = record {
  box_first = refl;
  box_next = refl;
  box_delay = refl;
  box_held = refl;
  box_doubtful = refl;
  box_quote = refl;
  box_highest = refl;
  box_second = refl;
  box_order = refl;
  twin_first = refl;
  twin_second = refl;
  twin_doubtful = refl;
  twin_quote = refl;
  page_box = refl;
  page_box_lines = refl;
  page_box_tempo = refl;
  page_box_link_3 = refl;
  page_refused = refl;
  goes_on = lower;
  interrupted = refl;
  none_runs = refl;
  holds = ap (λ x. x.0) held;
  preempts = ap (λ x. x.0) interrupted;
  holds_wait = ap (λ x. x.1) held;
  preempts_wait = ap (λ x. x.1) interrupted;
  seen = refl;
  not_alone = refl;
  one_part = refl;
  two_parts = refl;
  two_parts_preemptive = refl;
}
