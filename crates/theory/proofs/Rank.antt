-- The test for a cycle is exact, and links without a cycle have a rank that falls along each of them. Assumes nothing.
use Prim.Native.Nat.{ℕ, zero, suc, ◌+◌, ◌-◌, ◌≤◌, ◌<◌}
use mathlib.Core.Path.{◌≡◌, refl}
use mathlib.Core.Bool.{Bool, true, false, ◌&&◌}
use native.Mathlib.Omega.{arith}
use native.Mathlib.Nat.{zero-add}
use Rattle.model.specs.Basics.{sum_n, given}
use Rattle.model.specs.Graph.{System, Reaches, Cycle, walks, cyclic}
use Rattle.model.specs.Graph.Reaches.{one, more}
use Rattle.lemmas.proofs.Tests.{not_both, true_of, and_left, and_right, both}
use Rattle.lemmas.proofs.Range.{Found, any_at, any_found, none_any, sum_n-le, sum_n-first, given_le}
use Rattle.lemmas.proofs.Pigeonhole.{Twice, pigeonhole}
use Rattle.theory.proofs.WellFormed.{Shaped, IsTask}

-- links that end at tasks: all that a rank asks of a system
abbrev pub Ends : System → Type 0
Ends s = (i j : ℕ) → s.link i j ≡ true → IsTask s j

-- a link in front of a walk
pub walk_more : (s : System) → Ends s → (i k n : ℕ) → s.link i k ≡ true → walks s n k ≡ true → walks s (suc n) i ≡ true
unfolding walks
walk_more s ends i k n e w =
    let t : IsTask s k = ends i k e in
    any_at (λ m. s.link i m && walks s n m) 1 s.tasks k t.0 (omega (arith, t.1)) (both _ _ e w)

-- the rank of a node: how many lengths of walks, up to the number of tasks, begin at it
unfoldable pub rank_of : System → ℕ → ℕ
rank_of s i = sum_n (λ n. given (walks s (suc n) i) 1) 0 s.tasks

sum_ones : (f : ℕ → ℕ) (n : ℕ) → ((k : ℕ) → f k ≤ 1) → sum_n f 0 n ≤ n
unfolding sum_n
sum_ones f zero h = omega arith
sum_ones f (suc n) h = omega (arith, h (0 + n), sum_ones f n h)

pub rank_most : (s : System) (i : ℕ) → rank_of s i ≤ s.tasks
unfolding rank_of
rank_most s i = sum_ones _ s.tasks (λ n. given_le (walks s (suc n) i) 1 1 (λ e. omega arith))

given_up : (b c : Bool) → (b ≡ true → c ≡ true) → given b 1 ≤ given c 1
given_up true true h = omega arith
given_up true false h = absurd (not_both (h refl) refl)
given_up false c h = omega arith

sum-shift : (f : ℕ → ℕ) (a n : ℕ) → sum_n (λ k. f (suc k)) a n ≡ sum_n f (suc a) n
unfolding sum_n
sum-shift f a zero = refl
sum-shift f a (suc n) = let e : suc (a + n) ≡ suc a + n = omega arith in rw (← e) (omega (arith, sum-shift f a n))

-- the counts of lengths 1 .. n and 0 .. n - 1 differ by what the length 0 adds and the length n lacks
count_step : (f : ℕ → ℕ) (n : ℕ) → f 0 ≡ 1 → f n ≡ 0 → sum_n (λ k. f (suc k)) 0 n < sum_n f 0 n
unfolding sum_n
count_step f n first last =
    let end : f (0 + n) ≡ 0 = rw zero-add last in
    omega (arith, sum-shift f 0 n, sum_n-first f 0 n)

no_walk : (s : System) → cyclic s ≡ false → (k : ℕ) → IsTask s k → walks s s.tasks k ≡ false
unfolding cyclic
no_walk s acyclic k t = none_any (walks s s.tasks) 1 s.tasks acyclic k t.0 (omega (arith, t.1))

pub ends_fall : (s : System) → Ends s → cyclic s ≡ false → (i k : ℕ) → s.link i k ≡ true → rank_of s k < rank_of s i
unfolding rank_of walks
ends_fall s ends acyclic i k e =
    let f : ℕ → ℕ = λ n. given (walks s n k) 1 in
    let g : ℕ → ℕ = λ n. given (walks s (suc n) i) 1 in
    let last : f s.tasks ≡ 0 = rw (no_walk s acyclic k (ends i k e)) in
    omega (
      arith,
      count_step f s.tasks refl last,
      sum_n-le f g 0 s.tasks (λ n p q. given_up (walks s n k) (walks s (suc n) i) (walk_more s ends i k n e)),
    )

pub rank_falls : (s : System) → Shaped s → cyclic s ≡ false → (i k : ℕ) → s.link i k ≡ true → rank_of s k < rank_of s i
rank_falls s S = ends_fall s S.to_task

-- along a rank there is no way back
pub reach_falls : (s : System) (rank : ℕ → ℕ) → ((i k : ℕ) → s.link i k ≡ true → rank k < rank i) → {i k : ℕ} → Reaches s i k → rank k < rank i
reach_falls s rank f (one {i} {j} e) = f i j e
reach_falls s rank f (more {i} {k} {j} e p) = omega (arith, f i k e, reach_falls s rank f p)

-- a cycle is found
pub cycle_found : (s : System) → Shaped s → Cycle s → cyclic s ≡ true
cycle_found s S c =
    true_of (cyclic s) (λ acyclic. omega (arith, reach_falls s (rank_of s) (rank_falls s S acyclic) c.1))

-- what is found is a cycle: the task that a walk is at after t links
walk_step : (s : System) (n i : ℕ) → walks s (suc n) i ≡ true → Found (λ k. s.link i k && walks s n k) 1 s.tasks
unfolding walks
walk_step s n i w = any_found _ 1 s.tasks w

rest : (s : System) (n i : ℕ) (w : walks s (suc n) i ≡ true) → walks s n (walk_step s n i w).at ≡ true
rest s n i w = and_right (s.link i (walk_step s n i w).at) _ (walk_step s n i w).passes

place : (s : System) (n i : ℕ) → walks s n i ≡ true → ℕ → ℕ
place s zero i w t = i
place s (suc n) i w zero = i
place s (suc n) i w (suc t) = place s n (walk_step s n i w).at (rest s n i w) t

place_zero : (s : System) (n i : ℕ) (w : walks s n i ≡ true) → place s n i w zero ≡ i
unfolding place
place_zero s zero i w = refl
place_zero s (suc n) i w = refl

link_first : (s : System) (n i k : ℕ) (w : walks s n k ≡ true) → s.link i k ≡ true → s.link i (place s n k w zero) ≡ true
link_first s n i k w e = rw place_zero e

place_link : (s : System) (n i : ℕ) (w : walks s n i ≡ true) (t : ℕ) → t < n → s.link (place s n i w t) (place s n i w (suc t)) ≡ true
unfolding place
place_link s zero i w t p = absurd (omega arith)
place_link s (suc n) i w zero p =
    link_first s n i (walk_step s n i w).at _ (and_left _ (walks s n (walk_step s n i w).at) (walk_step s n i w).passes)
place_link s (suc n) i w (suc t) p = place_link s n _ _ t (omega arith)

place_task : (s : System) (n i : ℕ) (w : walks s n i ≡ true) → IsTask s i → (t : ℕ) → t ≤ n → IsTask s (place s n i w t)
unfolding place
place_task s zero i w h t p = h
place_task s (suc n) i w h zero p = h
place_task s (suc n) i w h (suc t) p =
    let f = walk_step s n i w in
    place_task s n f.at (rest s n i w) (f.from, omega (arith, f.within)) t (omega arith)

place_reach : (s : System) (n i : ℕ) (w : walks s n i ≡ true) (d a b : ℕ) → a + suc d ≡ b → b ≤ n → Reaches s (place s n i w a) (place s n i w b)
place_reach s n i w zero a b e p =
    let q : b ≡ suc a = omega arith in
    rw q (one (place_link s n i w a (omega arith)))
place_reach s n i w (suc d) a b e p =
    more (place_link s n i w a (omega arith)) (place_reach s n i w d (suc a) b (omega arith) p)

walk_cycle : (s : System) (i : ℕ) → IsTask s i → walks s s.tasks i ≡ true → Cycle s
walk_cycle s i h w =
    (at tw.later, rw eq at (place_reach s s.tasks i w (tw.later - suc tw.earlier) tw.earlier tw.later (omega (arith, tw.order)) tw.last))
  where
    at : ℕ → ℕ
    at t = place s s.tasks i w t

    tw : Twice (λ t. at t - 1) s.tasks
    tw = pigeonhole s.tasks (λ t. at t - 1) (λ t p. omega (arith, place_task s s.tasks i w h t p))

    eq : at tw.earlier ≡ at tw.later
    eq =
        omega (
          arith,
          tw.equal,
          place_task s s.tasks i w h tw.earlier (omega (arith, tw.order, tw.last)),
          place_task s s.tasks i w h tw.later tw.last,
        )

pub cycle_is : (s : System) → cyclic s ≡ true → Cycle s
unfolding cyclic
cycle_is s e =
    let f : Found (walks s s.tasks) 1 s.tasks = any_found _ 1 s.tasks e in
    walk_cycle s f.at (f.from, omega (arith, f.within)) f.passes
