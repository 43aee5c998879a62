-- Work still owed: the potential of a state of any of the machines, and how a firing, a tick of a run and its end move it. Assumes nothing.
use Prim.Native.Nat.{ℕ, zero, suc, ◌+◌, ◌-◌, ◌≤◌, ◌<◌, max}
use mathlib.Core.Path.{◌≡◌, refl}
use mathlib.Core.Bool.{Bool, true, false, ◌||◌}
use native.Mathlib.Omega.{arith}
use lib.Dec.{ltb}
use borrow.Author.Tests.{lt-ltb, ltb-true, ltb-false}
use Rattle.model.specs.Basics.{sum_to, top_to, given}
use Rattle.model.specs.Graph.{System}
use Rattle.model.specs.Loads.{work, added, load}
use Rattle.lemmas.proofs.Tests.{at_or_not, not_both, false_of, or_left, or_right, or_new, or_cases, or_false_left, or_false_right}
use Rattle.lemmas.proofs.Range.{All, top_to-le, le_top_to, given_le, le_given, sum_to-le, sum_to-add, sum_to-zero, le_sum_to, sum_to-parts}
use Rattle.theory.proofs.WellFormed.{Loaded}
use Rattle.theory.proofs.LoadLaws.{added_le, back, along}

-- A state is, for each task, the ticks that its run has used and whether a run not yet begun is pending. It is live if either is so.
abbrev pub live : (ℕ → ℕ) → (ℕ → Bool) → ℕ → Bool
live us ps k = ltb 0 (us k) || ps k

-- what is left of a run in progress and of what it brings
unfoldable pub cur : ℕ → ℕ → ℕ
cur w zero = 0
cur w (suc u) = w - suc u

-- what a pending run takes, or else the most that a live task above may still bring
unfoldable pub next : Bool → ℕ → ℕ → ℕ
next true w o = w
next false w o = o

unfoldable pub over : System → (ℕ → ℕ) → (ℕ → Bool) → ℕ → ℕ
over s us ps k = top_to (λ m. given (live us ps m) (added s m k)) (suc k) s.tasks

unfoldable pub owed : System → (ℕ → ℕ) → (ℕ → Bool) → ℕ → ℕ
owed s us ps k = cur (work s k) (us k) + next (ps k) (work s k) (over s us ps k)

-- the potential at priority j
unfoldable pub Owed : System → (ℕ → ℕ) → (ℕ → Bool) → ℕ → ℕ
Owed s us ps j = sum_to (owed s us ps) j s.tasks

pub live_used : (us : ℕ → ℕ) (ps : ℕ → Bool) (k : ℕ) → 0 < us k → live us ps k ≡ true
live_used us ps k p = or_left (ltb 0 (us k)) (ps k) (lt-ltb 0 (us k) p)

pub live_pending : (us : ℕ → ℕ) (ps : ℕ → Bool) (k : ℕ) → ps k ≡ true → live us ps k ≡ true
live_pending us ps k e = or_right (ltb 0 (us k)) (ps k) e

le_next : (b : Bool) (w o : ℕ) → o ≤ w → o ≤ next b w o
unfolding next
le_next true w o p = p
le_next false w o p = omega arith

-- a run may become pending, and more may come from above
next_more : (p q : Bool) (w o o' x : ℕ) → o ≤ w → (p ≡ false → q ≡ true → w ≤ o + x) → o' ≤ o + x → next q w o' ≤ next p w o + x
unfolding next
next_more true true w o o' x h f g = omega arith
next_more true false w o o' x h f g = omega arith
next_more false true w o o' x h f g = f refl refl
next_more false false w o o' x h f g = g

cur_rest : (w u e : ℕ) → 0 < u → u ≤ e → w - e ≤ cur w u
unfolding cur
cur_rest w zero e p q = absurd (omega arith)
cur_rest w (suc u) e p q = omega arith

cur_pos : (w u : ℕ) → 0 < u → u < w → 0 < cur w u
unfolding cur
cur_pos w zero p q = absurd (omega arith)
cur_pos w (suc u) p q = omega arith

cur_off : (w u : ℕ) → (0 < u → ⊥) → cur w u ≡ 0
unfolding cur
cur_off w zero p = refl
cur_off w (suc u) p = absurd (p (omega arith))

-- one tick more of a run in progress
cur_tick : (w u : ℕ) → 0 < u → u < w → cur w (suc u) + 1 ≤ cur w u
unfolding cur
cur_tick w zero p q = absurd (omega arith)
cur_tick w (suc u) p q = omega arith

-- the first tick of a pending run
first_tick : (w o o' : ℕ) → o' ≤ 0 → 0 < w → cur w 1 + next false w o' + 1 ≤ cur w 0 + next true w o
unfolding cur next
first_tick w o o' p q = omega arith

module _ (s : System) (L : Loaded s) where
  pub over_le : (us : ℕ → ℕ) (ps : ℕ → Bool) (k b : ℕ) → ((m : ℕ) → k < m → m ≤ s.tasks → live us ps m ≡ true → added s m k ≤ b) → over s us ps k ≤ b
  unfolding over
  over_le us ps k b h =
      top_to-le _ (suc k) s.tasks b (λ m p q. given_le (live us ps m) (added s m k) b (h m p q))

  pub le_over : (us : ℕ → ℕ) (ps : ℕ → Bool) (k m : ℕ) → k < m → m ≤ s.tasks → live us ps m ≡ true → added s m k ≤ over s us ps k
  unfolding over
  le_over us ps k m p q l =
      omega
      (arith, le_top_to (λ x. given (live us ps x) (added s x k)) (suc k) s.tasks m p q, le_given (live us ps m) (added s m k) l)

  over_whole : (us : ℕ → ℕ) (ps : ℕ → Bool) (k : ℕ) → over s us ps k ≤ work s k
  over_whole us ps k = over_le us ps k (work s k) (λ m p q l. added_le s L m k)

  -- what becomes pending brings at most b to each task
  pub record Brings (ps qs : ℕ → Bool) (b : ℕ → ℕ) : Type 0 where
    pub itself : (k : ℕ) → 1 ≤ k → k ≤ s.tasks → ps k ≡ false → qs k ≡ true → work s k ≤ b k
    pub above : (k m : ℕ) → 1 ≤ k → k < m → m ≤ s.tasks → ps m ≡ false → qs m ≡ true → added s m k ≤ b k

  -- what becomes pending has a link from u
  abbrev pub Wakes : ℕ → (ℕ → Bool) → (ℕ → Bool) → Type 0
  Wakes u ps qs = (k : ℕ) → 1 ≤ k → k ≤ s.tasks → ps k ≡ false → qs k ≡ true → s.link u k ≡ true

  pub brings_one : (u : ℕ) (ps qs : ℕ → Bool) → Wakes u ps qs → Brings ps qs (added s u)
  brings_one u ps qs w = record {
    itself = λ k p q e f. omega (arith, L.direct u k (w k p q e f));
    above = λ k m o p q e f. along s L u m k (w m (omega arith) q e f) p q;
  }

  -- no run of another task begins: used is above 0 only where it was
  abbrev pub Fewer : (ℕ → ℕ) → (ℕ → ℕ) → Type 0
  Fewer us vs = (k : ℕ) → 1 ≤ k → 0 < vs k → 0 < us k

  over_more : (us vs : ℕ → ℕ) (ps qs : ℕ → Bool) (b : ℕ → ℕ) → Fewer us vs → Brings ps qs b → (k : ℕ) → 1 ≤ k → over s vs qs k ≤ max (over s us ps k) (b k)
  over_more us vs ps qs b f g k o =
      over_le vs qs k _ (λ m p q e. or_cases (ltb 0 (vs m)) (qs m) e (λ x. old m p q (live_used us ps m (f m (omega arith) (ltb-true 0 (vs m) x)))) (λ x. go m p q x (ps m) refl))
    where
      old : (m : ℕ) → k < m → m ≤ s.tasks → live us ps m ≡ true → added s m k ≤ max (over s us ps k) (b k)
      old m p q e = omega (arith, le_over us ps k m p q e)

      go : (m : ℕ) → k < m → m ≤ s.tasks → qs m ≡ true → (c : Bool) → ps m ≡ c → added s m k ≤ max (over s us ps k) (b k)
      go m p q x true y = old m p q (live_pending us ps m y)
      go m p q x false y = omega (arith, g.above k m o p q y x)

  next_brings : (us vs : ℕ → ℕ) (ps qs : ℕ → Bool) (b : ℕ → ℕ) → Fewer us vs → Brings ps qs b → (k : ℕ) → 1 ≤ k → k ≤ s.tasks → next (qs k) (work s k) (over s vs qs k) ≤ next (ps k) (work s k) (over s us ps k) + b k
  next_brings us vs ps qs b f g k o h =
      next_more (ps k) (qs k) (work s k) (over s us ps k) (over s vs qs k) (b k) (over_whole us ps k)
      (λ x y. omega (arith, g.itself k o h x y))
      (omega (arith, over_more us vs ps qs b f g k o))

  -- F, a firing: no used changes, and the potential rises by what is brought
  pub firing : (us : ℕ → ℕ) (ps qs : ℕ → Bool) (b : ℕ → ℕ) → Brings ps qs b → (j : ℕ) → 1 ≤ j → Owed s us qs j ≤ Owed s us ps j + sum_to b j s.tasks
  unfolding Owed owed
  firing us ps qs b g j o =
      rw (← sum_to-add (owed s us ps) b j s.tasks)
      (sum_to-le (owed s us qs) (λ k. owed s us ps k + b k) j s.tasks
      (λ k p q. omega (arith, next_brings us us ps qs b (λ m x y. y) g k (omega arith) q)))

  -- Z, nothing is live
  pub none_owed : (us : ℕ → ℕ) (ps : ℕ → Bool) (j : ℕ) → All (λ k. live us ps k ≡ false) j s.tasks → Owed s us ps j ≡ 0
  unfolding Owed owed next
  none_owed us ps j h = sum_to-zero (owed s us ps) j s.tasks each
    where
      each : (k : ℕ) → j ≤ k → k ≤ s.tasks → owed s us ps k ≡ 0
      each k p q =
          let f : ps k ≡ false = or_false_right (ltb 0 (us k)) (ps k) (h k p q) in
          let z : us k ≤ 0 = ltb-false 0 (us k) (or_false_left (ltb 0 (us k)) (ps k) (h k p q)) in
          rw f
          (omega
          (arith, cur_off (work s k) (us k) (λ x. omega arith), over_le us ps k 0 (λ m x y e. absurd (not_both e (h m (omega arith) y)))))

  live_owed : (us : ℕ → ℕ) (ps : ℕ → Bool) (k : ℕ) → us k < work s k → live us ps k ≡ true → 0 < owed s us ps k
  unfolding owed next
  live_owed us ps k p e =
      or_cases (ltb 0 (us k)) (ps k) e (λ x. omega (arith, cur_pos (work s k) (us k) (ltb-true 0 (us k) x) p)) (λ x. rw x (omega arith))

  -- what is owed nothing is not live, where no run has used all of its ticks
  pub owed_none : (us : ℕ → ℕ) (ps : ℕ → Bool) (j : ℕ) → All (λ k. us k < work s k) j s.tasks → Owed s us ps j ≡ 0 → All (λ k. live us ps k ≡ false) j s.tasks
  unfolding Owed
  owed_none us ps j h z k p q =
      false_of (live us ps k)
      (λ e. omega (arith, live_owed us ps k (h k p q) e, le_sum_to (owed s us ps) j s.tasks k p q))

  -- R, a tick of h: a run in progress, or one that begins with nothing live above it; nothing becomes pending
  pub record Ticks (h : ℕ) (us vs : ℕ → ℕ) (ps qs : ℕ → Bool) : Type 0 where
    pub task : (1 ≤ h) × (h ≤ s.tasks)
    pub runs : live us ps h ≡ true
    pub room : us h < work s h
    pub one_more : vs h ≡ suc (us h)
    pub others : (k : ℕ) → 1 ≤ k → (k ≡ h → ⊥) → vs k ≡ us k
    pub fewer : (k : ℕ) → 1 ≤ k → qs k ≡ true → ps k ≡ true
    pub begins : us h ≡ 0 → qs h ≡ false
    pub alone : us h ≡ 0 → All (λ k. live us ps k ≡ false) (suc h) s.tasks

  module _ (h : ℕ) (us vs : ℕ → ℕ) (ps qs : ℕ → Bool) (t : Ticks h us vs ps qs) where
    -- nothing but h changes, and h is live before
    tick_live : (m : ℕ) → 1 ≤ m → live vs qs m ≡ true → live us ps m ≡ true
    tick_live m o e =
        or_cases (ltb 0 (vs m)) (qs m) e (λ x. at_or_not (λ y. y ≡ m → live us ps y ≡ true) h m (λ y. t.runs) (λ ne y. live_used us ps m (rw (t.others m o ne) at (ltb-true 0 (vs m) x))) refl) (λ x. live_pending us ps m (t.fewer m o x))

    tick_over : (k : ℕ) → 1 ≤ k → over s vs qs k ≤ over s us ps k
    tick_over k o = over_le vs qs k (over s us ps k) (λ m p q e. le_over us ps k m p q (tick_live m (omega arith) e))

    tick_next : (k : ℕ) → 1 ≤ k → next (qs k) (work s k) (over s vs qs k) ≤ next (ps k) (work s k) (over s us ps k)
    tick_next k o =
        omega
        (arith, next_more (ps k) (qs k) (work s k) (over s us ps k) (over s vs qs k) 0 (over_whole us ps k) (λ x y. absurd (not_both (t.fewer k o y) x)) (omega (arith, tick_over k o)))

    tick_else : (k : ℕ) → 1 ≤ k → (k ≡ h → ⊥) → owed s vs qs k ≤ owed s us ps k
    unfolding owed
    tick_else k o ne = rw (t.others k o ne) (omega (arith, tick_next k o))

    tick_self : owed s vs qs h + 1 ≤ owed s us ps h
    unfolding owed
    tick_self = go (us h) refl
      where
        high : 1 ≤ h
        high = t.task.0

        go : (u : ℕ) → us h ≡ u → owed s vs qs h + 1 ≤ owed s us ps h
        go zero e =
            let pend : ps h ≡ true = or_new (ltb 0 (us h)) (ps h) (rw e refl) t.runs in
            let none : over s vs qs h ≤ 0 = over_le vs qs h 0 (λ m p q l. absurd (not_both (tick_live m (omega arith) l) (t.alone e m p q))) in
            rw (t.one_more, t.begins e, pend, e) (first_tick (work s h) (over s us ps h) (over s vs qs h) none (omega (arith, t.room)))
        go (suc u) e = rw t.one_more (omega (arith, cur_tick (work s h) (us h) (omega arith) t.room, tick_next h high))

    -- up to h the potential falls, above h it does not rise
    pub ticking_above : (j : ℕ) → h < j → Owed s vs qs j ≤ Owed s us ps j
    unfolding Owed
    ticking_above j p =
        sum_to-le (owed s vs qs) (owed s us ps) j s.tasks (λ k q r. tick_else k (omega arith) (λ e. omega arith))

    pub ticking : (j : ℕ) → 1 ≤ j → j ≤ h → Owed s vs qs j + 1 ≤ Owed s us ps j
    unfolding Owed
    ticking j o p =
        omega
        (arith, sum_to-parts (owed s vs qs) (owed s us ps) j h s.tasks 1 0 0 p t.task.1 (λ k q r. tick_else k (omega arith) (λ e. omega arith)) (omega (arith, tick_self)) (omega (arith, ticking_above (suc h) (omega arith))))

  -- E, the end of h's run and its firing
  pub record Ends (h : ℕ) (us vs : ℕ → ℕ) (ps qs : ℕ → Bool) : Type 0 where
    pub task : (1 ≤ h) × (h ≤ s.tasks)
    pub some : 0 < us h
    pub whole : us h ≤ s.run h
    pub zeroed : vs h ≡ 0
    pub rest : (k : ℕ) → 1 ≤ k → (k ≡ h → ⊥) → vs k ≡ us k
    pub wakes : Wakes h ps qs

  module _ (h : ℕ) (us vs : ℕ → ℕ) (ps qs : ℕ → Bool) (t : Ends h us vs ps qs) where
    fewer : Fewer us vs
    fewer k o p =
        at_or_not (λ x. x ≡ k → 0 < us x) h k (λ e. t.some) (λ ne e. rw (t.rest k o ne) at p) refl

    brings : Brings ps qs (added s h)
    brings = brings_one h ps qs t.wakes

    -- at another task
    end_else : (k : ℕ) → 1 ≤ k → k ≤ s.tasks → (k ≡ h → ⊥) → owed s vs qs k ≤ owed s us ps k + added s h k
    unfolding owed
    end_else k o p ne = rw (t.rest k o ne) (omega (arith, next_brings us vs ps qs (added s h) fewer brings k o p))

    -- below h it has been counted already
    end_low : (k : ℕ) → 1 ≤ k → k < h → owed s vs qs k ≤ owed s us ps k
    unfolding owed
    end_low k o p =
        let n : h ≤ s.tasks = t.task.1 in
        let has : added s h k ≤ over s us ps k = le_over us ps k h p n (live_used us ps h t.some) in
        rw (t.rest k o (λ e. omega arith))
        (omega
        (arith, next_more (ps k) (qs k) (work s k) (over s us ps k) (over s vs qs k) 0 (over_whole us ps k) (λ x y. omega (arith, L.direct h k (t.wakes k o (omega arith) x y))) (omega (arith, over_more us vs ps qs (added s h) fewer brings k o))))

    end_self : owed s vs qs h + sum_to (added s h) (suc h) s.tasks ≤ owed s us ps h
    unfolding owed
    end_self =
        let o : 1 ≤ h = t.task.0 in
        rw t.zeroed
        (omega
        (arith, cur_off (work s h) 0 (λ e. omega arith), cur_rest (work s h) (us h) (s.run h) t.some t.whole, L.whole h, back s L h h (omega arith), next_brings us vs ps qs (added s h) fewer brings h o t.task.1))

    pub ending_above : (j : ℕ) → h < j → Owed s vs qs j ≤ Owed s us ps j + load s h j
    unfolding Owed load
    ending_above j p =
        rw (← sum_to-add (owed s us ps) (added s h) j s.tasks)
        (sum_to-le (owed s vs qs) (λ k. owed s us ps k + added s h k) j s.tasks (λ k q r. end_else k (omega arith) r (λ e. omega arith)))

    pub ending : (j : ℕ) → 1 ≤ j → j ≤ h → Owed s vs qs j ≤ Owed s us ps j
    unfolding Owed load
    ending j o p =
        omega
        (arith, sum_to-parts (owed s vs qs) (owed s us ps) j h s.tasks (sum_to (added s h) (suc h) s.tasks) 0 (sum_to (added s h) (suc h) s.tasks) p t.task.1 (λ k q r. end_low k (omega arith) r) (omega (arith, end_self)) (ending_above (suc h) (omega arith)))
