-- The two kinds of link in History's words: not dropped, and no wait above the bound. Assumes nothing.
use Prim.Native.Nat.{ℕ, suc, ◌+◌, ◌-◌, ◌≤◌, ◌<◌}
use mathlib.Core.Path.{◌≡◌, sym, ap, ◌∙◌}
use mathlib.Core.Bool.{Bool, true, false, cond}
use mathlib.Core.List.{List}
use mathlib.Core.Logic.{◌⊎◌, inl, inr}
use native.Mathlib.Omega.{arith}
use lib.ListN.{length, get_or}
use borrow.Author.Tests.{lt-ltb}
use Rattle.model.specs.declared.Policy.{Policy}
use Rattle.model.specs.declared.Policy.TheVariants.{Preemptive, HoldOn}
use Rattle.model.specs.Graph.{System}
use Rattle.model.specs.Loads.{load}
use Rattle.model.specs.Delays.{start_of, round_of, tail_of}
use Rattle.model.specs.Order.{InOrder}
use Rattle.model.specs.History.{Tick, fires, ends, tick_at, Dropped, wait_of}
use Rattle.lemmas.proofs.Range.{All, le_top_to}
use Rattle.theory.proofs.WellFormed.{Loaded, Shaped, IsTask}
use Rattle.assurance.proofs.Schedule.{Schedule, ends_at, Obeys}
use Rattle.assurance.proofs.Events.{Waits, waits_fresh, Takes, SourceWaits, TaskWaits, task_live}
use Rattle.assurance.proofs.Response.{kept_apart, delay_some, wait_bound}
use Rattle.assurance.proofs.Token.{Link, Quiet, token_kept, preempts_quiet}
use Rattle.assurance.proofs.Holding.{served_within, holds_quiet}
use Rattle.assurance.proofs.Serving.{Shows, unserved_waits, wait_le}

-- the event before the one that finds it unserved waits in the schedule
pub dropped_waits : (h : List Tick) {s : System} {gap : ℕ → ℕ} (S : Schedule s gap) (T : Takes S) (W : Shows h S T) (i j : ℕ) {ev : ℕ → Bool} → ((x : ℕ) → x < length h → fires (tick_at h x) i ≡ ev x) → (k : Dropped h i j) → Waits S j ev (T.taken j) k.second k.before × (ev k.second ≡ true)
dropped_waits h S T W i j {ev} f k =
    let p : k.before < length h = omega (arith, k.earlier, k.in_list) in
    (unserved_waits h S T W j {ev = ev} k.before p (sym (f k.before p) ∙ k.fired_before) k.second k.earlier (omega (arith, k.in_list)) k.not_served, sym (f k.second k.in_list) ∙ k.fired_second)

module _ {s : System} (L : Loaded s) (G : Shaped s) {gap : ℕ → ℕ} (S : Schedule s gap) (T : Takes S) (h : List Tick) (W : Shows h S T) (i j : ℕ) (linked : s.link i j ≡ true) where
  -- a link from a source: a bound B on every wait
  module _ (spaced : (u : ℕ) → 33 ≤ u → u < 33 + s.sources → 1 ≤ gap u) (is_source : 33 ≤ i) (isSource' : i < 33 + s.sources) where
    module _ (B : ℕ) (most : (y x : ℕ) → SourceWaits G S T i j linked y x → y < x + B) where
      pub bound_not_dropped : B ≤ gap i → Dropped h i j → ⊥
      bound_not_dropped q k =
          let w = dropped_waits h S T W i j {ev = λ x. S.arr x i} (λ x r. W.arrives_is i x is_source r) k in
          kept_apart L G S T spaced i j is_source isSource' linked k.second k.before w.0 (omega (arith, most k.second k.before w.0)) w.1

      pub bound_waits : 1 ≤ B → (x : ℕ) → x < length h → fires (tick_at h x) i ≡ true → wait_of h j x ≤ B
      bound_waits o x r e =
          wait_le h S T W j {ev = λ z. S.arr z i} x r (sym (W.arrives_is i x is_source r) ∙ e) B o (λ y w. most y x w)

    -- a settled delay is such a bound, on a machine of its policy
    module _ (pol : Policy) (P : Obeys S pol) (D : ℕ) (fixed : round_of pol s gap j D ≡ D) where
      settled_bound : (pol : Policy) → Obeys S pol → round_of pol s gap j D ≡ D → (1 ≤ D + tail_of pol s j) × ((y x : ℕ) → SourceWaits G S T i j linked y x → y < x + (D + tail_of pol s j))
      unfolding round_of start_of
      settled_bound Preemptive P fixed = (
        omega (arith, delay_some L G S T spaced i j is_source isSource' linked D fixed),
        λ y x w. omega (arith, wait_bound L G S T spaced i j is_source isSource' linked D fixed P y x w),
      )
      settled_bound HoldOn O fixed =
          let t = G.to_task i j linked in
          let most : All (λ k. s.run k + load s k (suc j) ≤ start_of HoldOn s j) 1 j = λ k p q. le_top_to (λ k. s.run k + load s k (suc j)) 1 j k p q in (
            omega (arith, G.runs j t.0 t.1),
            λ y x w. omega (arith, served_within L G S O j t.0 t.1 (start_of HoldOn s j) most T spaced i is_source isSource' linked D fixed y x w, G.runs j t.0 t.1),
          )

      pub source_not_dropped : D + tail_of pol s j < gap i → Dropped h i j → ⊥
      source_not_dropped q =
          bound_not_dropped (D + tail_of pol s j) (settled_bound pol P fixed).1 (omega arith)

      pub source_waits : (x : ℕ) → x < length h → fires (tick_at h x) i ≡ true → wait_of h j x ≤ D + tail_of pol s j
      source_waits =
          bound_waits (D + tail_of pol s j) (settled_bound pol P fixed).1 (settled_bound pol P fixed).0

  -- a link from a task that is in order, where the frontier is quiet
  module _ (own : IsTask s i) (o : InOrder s i j) where
    link : Link G S i o.F o.N o.hood (TaskWaits G S T i j linked)
    link = record { none = λ x w. omega (arith, w.before); fresh = λ y x w. fresh y x (waits_fresh S j y x w) }
      where
        fresh : (y x : ℕ) → TaskWaits G S T i j linked y x ⊎ ((x ≡ y) × (ends_at S i y ≡ true)) → TaskWaits G S T i j linked y x ⊎ (ends_at S i y ≡ true)
        fresh y x (inl w) = inl w
        fresh y x (inr w) = inr w.1

    pub quiet_not_dropped : Quiet G S i o.F o.N o.hood (TaskWaits G S T i j linked) → Dropped h i j → ⊥
    quiet_not_dropped q k =
        let w = dropped_waits h S T W i j {ev = ends_at S i} fires_is k in
        token_kept G S i o.F o.N o.hood (TaskWaits G S T i j linked) link q k.second k.before w.0 w.1
      where
        fires_is : (x : ℕ) → x < length h → fires (tick_at h x) i ≡ ends_at S i x
        fires_is x r =
            ap (λ (b : Bool). cond b (ends (tick_at h x) i) (get_or (tick_at h x).arrived (i - 33) false)) (lt-ltb i 33 (omega (arith, own.1, G.few))) ∙ W.ends_is i x r

    -- it is, on a machine of either policy
    pub task_not_dropped : (pol : Policy) → Obeys S pol → Dropped h i j → ⊥
    task_not_dropped Preemptive P =
        quiet_not_dropped (preempts_quiet G S i o.F o.N o.hood (TaskWaits G S T i j linked) P j (G.to_task i j linked).1 o.below (task_live G S T i j linked))
    task_not_dropped HoldOn O =
        quiet_not_dropped (holds_quiet L G S O i o.F o.N o.hood (TaskWaits G S T i j linked) link j (G.to_task i j linked).1 o.below (task_live G S T i j linked))
