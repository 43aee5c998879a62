-- The task that a tick runs, on the words and in the record that they hold; and the tasks that go on. Assumes nothing.
use Prim.Native.Nat.{ℕ, ◌-◌, ◌≤◌, ◌<◌}
use mathlib.Core.Path.{◌≡◌, refl, sym, ap, ◌∙◌}
use mathlib.Core.Bool.{Bool, true, false, ◌&&◌, cond}
use mathlib.Core.List.{List}
use mathlib.Core.Logic.{◌⊎◌, inl, inr}
use native.Mathlib.Omega.{arith}
use lib.ListN.{get_or, set, length}
use lib.Dec.{eqb, ltb}
use borrow.Author.Tests.{lt-ltb, eqb-true, eqb-false, eq-eqb, ne_eqb}
use Rattle.model.specs.declared.Description.{Description}
use Rattle.model.specs.declared.Machine.{Machine}
use Rattle.model.specs.declared.Policy.{Policy}
use Rattle.model.specs.declared.Policy.TheVariants.{Preemptive, HoldOn}
use Rattle.model.specs.Basics.{tab}
use Rattle.model.specs.Machine.{used_at, highest_in, running, choose}
use Rattle.lemmas.proofs.Tests.{Cmp, less, same, more, cmp, not_both}
use Rattle.lemmas.proofs.Bools.{and_on, and_off}
use Rattle.lemmas.proofs.Table.{get_d_tab}
use Rattle.theory.proofs.WellFormed.{WellFormed}
use Rattle.assurance.proofs.Firing.{get_d_task}
use Rattle.assurance.proofs.Ending.{highest_le, highest_above, highest_awake}
use Rattle.assurance.proofs.Choosing.{Anew, Kept, chosen, running_le, running_part}
use Rattle.sets.specs.Sets.{member}
use Rattle.words.specs.declared.Words.{Words}
use Rattle.words.specs.Words.{awake_in, Holds, holds_on, Goes}
use Rattle.steps.specs.Steps.{Chosen}
use Rattle.steps.proofs.MarkLaws.{highest_is, highest_none}

-- the highest of a list's marks, by what it is
highest_of : (l : List Bool) (n k : ℕ) → 1 ≤ k → k ≤ n → get_or l (k - 1) false ≡ true → ((j : ℕ) → k < j → j ≤ n → get_or l (j - 1) false ≡ false) → highest_in l n ≡ k
highest_of l n k o p e none = go (cmp (highest_in l n) k)
  where
    top : highest_in l n ≤ n
    top = highest_le l n

    go : Cmp (highest_in l n) k → highest_in l n ≡ k
    go (less r) = absurd (not_both e (highest_above l n k r p))
    go (same r) = r
    go (more r) = absurd (not_both (highest_awake l n (omega arith)) (none (highest_in l n) r top))

module _ (p : Policy) (d : Description) (w : Words) (used since : List ℕ) (m : Machine) (g : WellFormed d) (r : Goes p w.running used) (H : Holds d w used since m) where
  -- who goes on, by the record
  goes_in : (k : ℕ) → 1 ≤ k → k ≤ 32 → eqb k w.running ≡ (holds_on p && ltb 0 (used_at m k))
  goes_in k o b = r.here k o b ∙ ap (λ (us : List ℕ). holds_on p && ltb 0 (get_or us (k - 1) 0)) H.same_used

  running_none : w.running ≡ 0 → running p d m ≡ 0
  running_none z = go (cmp 0 (running p d m))
    where
      some : (q : Policy) → p ≡ q → 0 < running p d m → ⊥
      some Preemptive e s = omega (arith, ap (λ (q : Policy). running q d m) e)
      some HoldOn e s =
          let k : ℕ = running p d m in
          let on : holds_on p ≡ true = ap holds_on e in
          let u : ltb 0 (used_at m k) ≡ true = lt-ltb 0 (used_at m k) (running_part d g.fields.few_tasks m p s) in
          omega (arith, eqb-true k w.running (goes_in k s (omega (arith, running_le p d m, g.fields.few_tasks)) ∙ rw (on, u) refl))

      go : Cmp 0 (running p d m) → running p d m ≡ 0
      go (less s) = absurd (some p refl s)
      go (same s) = sym s
      go (more s) = absurd (omega arith)

  running_is : 0 < w.running → w.running ≤ d.task_count → running p d m ≡ w.running
  running_is o t = by p refl
    where
      h : ℕ
      h = w.running

      by : (q : Policy) → p ≡ q → running p d m ≡ h
      by Preemptive e = absurd (not_both (eq-eqb h h refl) (r.here h o r.low ∙ ap (λ (b : Bool). b && ltb 0 (get_or used (h - 1) 0)) (ap holds_on e)))
      by HoldOn e = ap (λ (q : Policy). running q d m) e ∙ highest_of (tab 32 (λ i. ltb 0 (get_or m.used i 0))) d.task_count h o t (at h o r.low ∙ eq-eqb h h refl) (λ j a b. at j (omega (arith, o)) (omega (arith, g.fields.few_tasks)) ∙ ne_eqb j h (λ z. omega arith))
        where
          at : (k : ℕ) → 1 ≤ k → k ≤ 32 → get_or (tab 32 (λ i. ltb 0 (get_or m.used i 0))) (k - 1) false ≡ eqb k h
          at k o b = get_d_tab 32 (λ i. ltb 0 (get_or m.used i 0)) false (k - 1) (omega arith) ∙ sym (goes_in k o b ∙ ap (λ (c : Bool). c && ltb 0 (used_at m k)) (ap holds_on e))

  -- the one that goes on, or else the highest awake, is the task that runs
  module _ (going : 0 < w.running → awake_in w w.running ≡ true) where
    pub choose_is : (awake h : ℕ) → ((k : ℕ) → member awake k ≡ awake_in w k) → Chosen w.running awake h → choose p d m ≡ h
    choose_is awake h set l = go (cmp 0 w.running) (chosen p d m)
      where
        go : Cmp 0 w.running → Anew p d m ⊎ Kept p d m → choose p d m ≡ h
        go (less o) (inl c) = absurd (omega (arith, c.none, running_is o (H.marks.present w.running (going o))))
        go (less o) (inr c) = c.is ∙ running_is o (H.marks.present w.running (going o)) ∙ sym (l.goes o)
        go (same e) (inl c) = c.is ∙ highest_is d w m awake h H.marks set (l.highest (sym e))
        go (same e) (inr c) = absurd (omega (arith, c.some, running_none (sym e)))
        go (more e) c = absurd (omega arith)

    pub choose_none : ((k : ℕ) → awake_in w k ≡ false) → choose p d m ≡ 0
    choose_none none = go (chosen p d m)
      where
        idle : Cmp 0 w.running → w.running ≡ 0
        idle (less o) = absurd (not_both (going o) (none w.running))
        idle (same z) = sym z
        idle (more z) = absurd (omega arith)

        go : Anew p d m ⊎ Kept p d m → choose p d m ≡ 0
        go (inl c) = c.is ∙ highest_none d w m H.marks none
        go (inr c) = absurd (omega (arith, c.some, running_none (idle (cmp 0 w.running))))

-- the task that runs is awake
pub chosen_awake : (running awake h : ℕ) → (0 < running → member awake running ≡ true) → Chosen running awake h → member awake h ≡ true
chosen_awake running awake h going l = go (cmp 0 running)
  where
    go : Cmp 0 running → member awake h ≡ true
    go (less o) = rw (l.goes o) (going o)
    go (same e) = (l.highest (sym e)).in_set
    go (more e) = absurd (omega arith)

-- who goes on once the run of h has ended, and once it has gone on for a tick: no other task was part done
module _ (p : Policy) (running : ℕ) (used : List ℕ) (h : ℕ) (low : 1 ≤ h) (high : h ≤ 32) (many : length used ≡ 32) (own : 0 < running → h ≡ running) (r : Goes p running used) where
  other : (k : ℕ) → 1 ≤ k → k ≤ 32 → (k ≡ h → ⊥) → (holds_on p && ltb 0 (get_or used (k - 1) 0)) ≡ false
  other k o b ne = sym (r.here k o b) ∙ ne_eqb k running (λ z. ne (omega (arith, own (omega arith))))

  after : (spent k : ℕ) → 1 ≤ k → k ≤ 32 → get_or (set used (h - 1) spent) (k - 1) 0 ≡ cond (eqb k h) spent (get_or used (k - 1) 0)
  after spent k o b = get_d_task used h spent 0 k o low (omega arith)

  pub goes_over : (running' : ℕ) → running' ≡ 0 → Goes p running' (set used (h - 1) 0)
  goes_over running' e = record { low = omega arith; here = λ k o b. at k o b (cmp k h) }
    where
      none : (k : ℕ) → 1 ≤ k → eqb k running' ≡ false
      none k o = ne_eqb k running' (λ z. omega arith)

      rest : (k : ℕ) → 1 ≤ k → k ≤ 32 → (k ≡ h → ⊥) → eqb k running' ≡ (holds_on p && ltb 0 (get_or (set used (h - 1) 0) (k - 1) 0))
      rest k o b ne = none k o ∙ sym (rw (after 0 k o b, ne_eqb k h ne) (other k o b ne))

      at : (k : ℕ) → 1 ≤ k → k ≤ 32 → Cmp k h → eqb k running' ≡ (holds_on p && ltb 0 (get_or (set used (h - 1) 0) (k - 1) 0))
      at k o b (less q) = rest k o b (λ z. omega arith)
      at k o b (same q) = none k o ∙ sym (rw (after 0 k o b, eq-eqb k h q) (and_off (holds_on p)))
      at k o b (more q) = rest k o b (λ z. omega arith)

  pub goes_more : (running' spent : ℕ) → 1 ≤ spent → running' ≡ cond (holds_on p) h 0 → Goes p running' (set used (h - 1) spent)
  goes_more running' spent s e = record { low = small (holds_on p) e; here = λ k o b. at k o b (cmp k h) }
    where
      small : (c : Bool) → running' ≡ cond c h 0 → running' ≤ 32
      small true q = omega arith
      small false q = omega arith

      rest : (k : ℕ) → 1 ≤ k → k ≤ 32 → (k ≡ h → ⊥) → eqb k running' ≡ (holds_on p && ltb 0 (get_or (set used (h - 1) spent) (k - 1) 0))
      rest k o b ne = go (holds_on p) e ∙ sym (rw (after spent k o b, ne_eqb k h ne) (other k o b ne))
        where
          go : (c : Bool) → running' ≡ cond c h 0 → eqb k running' ≡ false
          go true q = ne_eqb k running' (λ z. ne (omega arith))
          go false q = ne_eqb k running' (λ z. omega arith)

      own_one : (k : ℕ) → 1 ≤ k → k ≤ 32 → k ≡ h → eqb k running' ≡ (holds_on p && ltb 0 (get_or (set used (h - 1) spent) (k - 1) 0))
      own_one k o b q = rw (after spent k o b, eq-eqb k h q, lt-ltb 0 spent s) (go (holds_on p) e)
        where
          go : (c : Bool) → running' ≡ cond c h 0 → eqb k running' ≡ (c && true)
          go true z = eq-eqb k running' (omega arith)
          go false z = ne_eqb k running' (λ y. omega arith)

      at : (k : ℕ) → 1 ≤ k → k ≤ 32 → Cmp k h → eqb k running' ≡ (holds_on p && ltb 0 (get_or (set used (h - 1) spent) (k - 1) 0))
      at k o b (less q) = rest k o b (λ z. omega arith)
      at k o b (same q) = own_one k o b q
      at k o b (more q) = rest k o b (λ z. omega arith)

  -- by what the task has used: nobody else goes on where it has used nothing, and it goes on already where it has
  pub goes_none : get_or used (h - 1) 0 ≡ 0 → running ≡ 0
  goes_none z = go (cmp 0 running)
    where
      go : Cmp 0 running → running ≡ 0
      go (less o) =
          let e : h ≡ running = own o in
          absurd (not_both (eq-eqb h running e) (r.here h low high ∙ ap (λ n. holds_on p && ltb 0 n) z ∙ and_off (holds_on p)))
      go (same e) = sym e
      go (more e) = absurd (omega arith)

  pub goes_same : 0 < get_or used (h - 1) 0 → running ≡ cond (holds_on p) h 0
  goes_same s = go (holds_on p) refl
    where
      is : eqb h running ≡ holds_on p
      is = r.here h low high ∙ ap (λ b. holds_on p && b) (lt-ltb 0 (get_or used (h - 1) 0) s) ∙ and_on (holds_on p) true refl

      go : (b : Bool) → holds_on p ≡ b → running ≡ cond (holds_on p) h 0
      go true e = rw e (sym (eqb-true h running (is ∙ e)))
      go false e = rw e (idle (cmp 0 running))
        where
          idle : Cmp 0 running → running ≡ 0
          idle (less o) = absurd (not_both (eq-eqb h running (own o)) (is ∙ e))
          idle (same z) = sym z
          idle (more z) = absurd (omega arith)

  -- once its run has ended nobody goes on, and once it has not it does
  pub ended_running : cond (eqb (get_or used (h - 1) 0) 0) running 0 ≡ 0
  ended_running = go (eqb (get_or used (h - 1) 0) 0) refl
    where
      go : (b : Bool) → eqb (get_or used (h - 1) 0) 0 ≡ b → cond (eqb (get_or used (h - 1) 0) 0) running 0 ≡ 0
      go true e = rw e (goes_none (eqb-true (get_or used (h - 1) 0) 0 e))
      go false e = rw e refl

  pub going_running : cond (eqb (get_or used (h - 1) 0) 0) (cond (holds_on p) h 0) running ≡ cond (holds_on p) h 0
  going_running = go (eqb (get_or used (h - 1) 0) 0) refl
    where
      go : (b : Bool) → eqb (get_or used (h - 1) 0) 0 ≡ b → cond (eqb (get_or used (h - 1) 0) 0) (cond (holds_on p) h 0) running ≡ cond (holds_on p) h 0
      go true e = rw e refl
      go false e =
          let ne : get_or used (h - 1) 0 ≡ 0 → ⊥ = eqb-false (get_or used (h - 1) 0) 0 e in
          rw e (goes_same (omega arith))
