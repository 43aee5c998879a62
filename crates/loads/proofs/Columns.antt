-- Columns of loads, filled from the highest task down, and totals. Assumes nothing.
use Prim.Native.Nat.{ℕ, zero, suc, ◌+◌, ◌-◌, ◌≤◌, ◌<◌}
use mathlib.Core.Path.{◌≡◌, refl, sym, ap, ◌∙◌}
use mathlib.Core.Bool.{false}
use mathlib.Core.List.{List, []}
use native.Mathlib.Omega.{arith}
use lib.ListN.{length, get_or, set, take, length-set, replicate, get_or-replicate}
use Rattle.std.proofs.lemmas.List.{get_or-take, length-take-le}
use lib.Seq.{get_or-set_same, get_or-set_other}
use lib.Dec.{ltb}
use borrow.Author.Tests.{le-ltb}
use Rattle.model.specs.Basics.{sum_to, top_n, given}
use Rattle.lemmas.proofs.Tests.{Cmp, less, same, more, cmp}
use Rattle.lemmas.proofs.Range.{sum_to-le, given_le, any_none}
use Rattle.sets.specs.Sets.{member}
use Rattle.works.specs.Works.{load_by}
use Rattle.loads.specs.Tables.{Column, held, heavy_by}
use Rattle.loads.proofs.Sums.{load_by-step, load_by-none}

-- one more entry of a column is worked out
pub column_none : (base : ℕ) (brings : List ℕ) (j w : ℕ) (l : List ℕ) → Column base brings j w 0 l l
column_none base brings j w l = (refl, λ k p. absurd (omega arith), λ k p. refl)

pub column_more : (base : ℕ) (brings : List ℕ) (j w u : ℕ) (l₀ l : List ℕ) (x : ℕ) → u < length l₀ → x ≡ get_or l u 0 + given (member (get_or brings (base + u) 0) j) w → Column base brings j w u l₀ l → Column base brings j w (u + 1) l₀ (set l u x)
column_more base brings j w u l₀ l x p e C =
    (simp length-set C.0, λ k q. low k q (cmp k u), λ k q. get_or-set_other l u k x 0 (λ z. omega arith) ∙ C.2 k (omega arith))
  where
    here : get_or (set l u x) u 0 ≡ get_or l₀ u 0 + given (member (get_or brings (base + u) 0) j) w
    here = get_or-set_same l u x 0 (omega (arith, C.0)) ∙ e ∙ ap (λ y. y + given (member (get_or brings (base + u) 0) j) w) (C.2 u (omega arith))

    low : (k : ℕ) → k < u + 1 → Cmp k u → get_or (set l u x) k 0 ≡ get_or l₀ k 0 + given (member (get_or brings (base + k) 0) j) w
    low k q (less r) = get_or-set_other l u k x 0 (λ z. omega arith) ∙ C.1 k r
    low k q (same r) = rw r here
    low k q (more r) = absurd (omega arith)

-- a column is one further down
pub column_load : (base : ℕ) (brings works : List ℕ) (n c m : ℕ) (l l' : List ℕ) → c < n → Column base brings c (get_or works c 0) m l l' → (k : ℕ) → k < m → get_or l k 0 ≡ load_by (get_or brings (base + k) 0) works n (suc (suc c)) → get_or l' k 0 ≡ load_by (get_or brings (base + k) 0) works n (suc c)
column_load base brings works n c m l l' p C k q e =
    omega (arith, C.1 k q, load_by-step (get_or brings (base + k) 0) works n c p)

pub column_tasks : (brings works : List ℕ) (n c m : ℕ) (l l' : List ℕ) → c < n → Column 0 brings c (get_or works c 0) m l l' → (k : ℕ) → k < m → get_or l k 0 ≡ load_by (get_or brings k 0) works n (suc (suc c)) → get_or l' k 0 ≡ load_by (get_or brings k 0) works n (suc c)
column_tasks brings works n c m l l' p C k q e =
    let z : 0 + k ≡ k = omega arith in
    rw z at (column_load 0 brings works n c m l l' p C k q (rw z e))

pub top_cong : (f g : ℕ → ℕ) (n : ℕ) → ((k : ℕ) → k < n → f k ≡ g k) → top_n f 0 n ≡ top_n g 0 n
unfolding top_n
top_cong f g zero h = refl
top_cong f g (suc n) h = let e : 0 + n ≡ n = omega arith in rw (top_cong f g n (λ k p. h k (omega arith)), e, h n (omega arith)) refl

pub top_front : (l : List ℕ) (n : ℕ) → n ≤ length l → top_n (λ k. get_or (take n l) k 0) 0 (length (take n l)) ≡ top_n (λ k. get_or l k 0) 0 n
top_front l n h = ap (top_n (λ k. get_or (take n l) k 0) 0) (length-take-le n l h) ∙ top_cong _ _ n (λ k p. get_or-take n l k 0 p)

-- all works together are no less than a node's load
pub load_under : (row : ℕ) (works : List ℕ) (n : ℕ) → load_by row works n 1 ≤ sum_to (λ k. get_or works (k - 1) 0) 1 n
unfolding load_by
load_under row works n =
    sum_to-le (λ k. given (member row (k - 1)) (get_or works (k - 1) 0)) (λ k. get_or works (k - 1) 0) 1 n
    (λ k p q. given_le (member row (k - 1)) (get_or works (k - 1) 0) (get_or works (k - 1) 0) (λ e. omega arith))

pub heavy_none : (brings works : List ℕ) (n : ℕ) → ((r : ℕ) → r < 48 → load_by (get_or brings r 0) works n 1 ≤ 1000000000) → heavy_by brings works n ≡ false
unfolding heavy_by
heavy_none brings works n h = any_none (λ r. ltb 1000000000 (load_by (get_or brings r 0) works n 1)) 0 48 (λ k p q. le-ltb _ _ (h k (omega arith)))

pub zero_entry : (n k : ℕ) → k < n → get_or {A = ℕ} (replicate n 0) k 0 ≡ 0
zero_entry n k p = get_or-replicate n k 0 0 p

-- levels and starts from task j + 1 on, filled from the highest down; the row of a task is `below` rows down
abbrev pub LevelsFrom : List ℕ → List ℕ → ℕ → ℕ → ℕ → ℕ → List (List ℕ) → Type 0
LevelsFrom brings works n m below j levels = (length levels ≡ 32) × ((k u : ℕ) → j ≤ below + k → k < 32 → u < m → get_or (get_or levels k []) u 0 ≡ load_by (get_or brings (32 + u) 0) works n (suc (below + k)))

pub levels_none : (brings works : List ℕ) (n m below : ℕ) → m ≤ 16 → LevelsFrom brings works n m below n (replicate 32 (replicate 16 0))
levels_none brings works n m below few = (
  refl,
  λ k u p q r.
      ap (λ l. get_or l u 0) (get_or-replicate 32 k (replicate 16 0) [] q)
      ∙ (zero_entry 16 u (omega arith) ∙ sym (load_by-none (get_or brings (32 + u) 0) works n (suc (below + k)) (omega arith))),
)

-- the running loads of sources at task j + 1 are put into its row
pub levels_put : (brings works : List ℕ) (n m below row j : ℕ) (levels : List (List ℕ)) (loads : List ℕ) → j ≡ below + row → row < 32 → ((u : ℕ) → u < m → get_or loads u 0 ≡ load_by (get_or brings (32 + u) 0) works n (suc j)) → LevelsFrom brings works n m below (suc j) levels → LevelsFrom brings works n m below j (set levels row loads)
levels_put brings works n m below row j levels loads at p now F = (simp length-set F.0, λ k u q r t. go k u r t q (cmp row k))
  where
    go : (k u : ℕ) → k < 32 → u < m → j ≤ below + k → Cmp row k → get_or (get_or (set levels row loads) k []) u 0 ≡ load_by (get_or brings (32 + u) 0) works n (suc (below + k))
    go k u r t q (less x) = ap (λ l. get_or l u 0) (get_or-set_other levels row k loads [] (λ z. omega arith)) ∙ F.1 k u (omega arith) r t
    go k u r t q (same x) = rw (← x, ← at) (ap (λ l. get_or l u 0) (get_or-set_same levels row loads [] (omega (arith, F.0))) ∙ now u t)
    go k u r t q (more x) = absurd (omega arith)

abbrev pub StartsFrom : List ℕ → List ℕ → ℕ → ℕ → List ℕ → Type 0
StartsFrom brings works n j starts = (length starts ≡ 32) × ((c : ℕ) → j ≤ c → c < 32 → get_or starts c 0 ≡ top_n (λ k. load_by (get_or brings k 0) works n (suc c)) 0 c)

top_zero : (f : ℕ → ℕ) (n : ℕ) → ((k : ℕ) → f k ≡ 0) → top_n f 0 n ≡ 0
unfolding top_n
top_zero f zero h = refl
top_zero f (suc n) h = rw (top_zero f n h, h (0 + n)) refl

pub starts_none : (brings works : List ℕ) (n : ℕ) → StartsFrom brings works n n (replicate 32 0)
starts_none brings works n = (
  refl,
  λ c p q.
      zero_entry 32 c q
      ∙ sym (top_zero (λ k. load_by (get_or brings k 0) works n (suc c)) c (λ k. load_by-none (get_or brings k 0) works n (suc c) (omega arith))),
)

pub starts_put : (brings works : List ℕ) (n j : ℕ) (starts : List ℕ) (x : ℕ) → j < 32 → x ≡ top_n (λ k. load_by (get_or brings k 0) works n (suc j)) 0 j → StartsFrom brings works n (suc j) starts → StartsFrom brings works n j (set starts j x)
starts_put brings works n j starts x p e F = (simp length-set F.0, λ c q r. go c r q (cmp j c))
  where
    go : (c : ℕ) → c < 32 → j ≤ c → Cmp j c → get_or (set starts j x) c 0 ≡ top_n (λ k. load_by (get_or brings k 0) works n (suc c)) 0 c
    go c r q (less y) = get_or-set_other starts j c x 0 (λ z. omega arith) ∙ F.1 c y r
    go c r q (same y) = rw (← y) (get_or-set_same starts j x 0 (omega (arith, F.0)) ∙ e)
    go c r q (more y) = absurd (omega arith)

pub starts_step : (brings works : List ℕ) (n b : ℕ) (starts : List ℕ) (l l' : List ℕ) (x : ℕ) → b < n → n ≤ 32 → length l ≡ 32 → ((k : ℕ) → k < suc b → get_or l k 0 ≡ load_by (get_or brings k 0) works n (suc (suc b))) → Column 0 brings b (get_or works b 0) b l l' → x ≡ top_n (λ k. get_or l' k 0) 0 b → StartsFrom brings works n (suc b) starts → (length l' ≡ 32) × ((k : ℕ) → k < b → get_or l' k 0 ≡ load_by (get_or brings k 0) works n (suc b)) × StartsFrom brings works n b (set starts b x)
starts_step brings works n b starts l l' x p few long h C e F = (C.0 ∙ long, now, starts_put brings works n b starts x (omega arith) (e ∙ top_cong _ _ b now) F)
  where
    now : (k : ℕ) → k < b → get_or l' k 0 ≡ load_by (get_or brings k 0) works n (suc b)
    now k q = column_tasks brings works n b b l l' p C k q (h k (omega arith))

-- the starts of the hold-on model
abbrev pub HoldFrom : List ℕ → List ℕ → List ℕ → ℕ → ℕ → List ℕ → Type 0
HoldFrom brings works runs n j starts = (length starts ≡ 32) × ((c : ℕ) → j ≤ c → c < n → get_or starts c 0 ≡ top_n (held runs (λ k. load_by (get_or brings k 0) works n (suc (suc c)))) 0 (suc c))

pub hold_step : (brings works runs : List ℕ) (n b : ℕ) (starts : List ℕ) (l l' : List ℕ) (x : ℕ) → b < n → n ≤ 32 → length l ≡ 32 → ((k : ℕ) → k < 32 → k ≤ b → get_or l k 0 ≡ load_by (get_or brings k 0) works n (suc (suc b))) → Column 0 brings b (get_or works b 0) (suc b) l l' → x ≡ top_n (held runs (λ k. get_or l k 0)) 0 (suc b) → HoldFrom brings works runs n (suc b) starts → (length l' ≡ 32) × ((k : ℕ) → k < 32 → k < b → get_or l' k 0 ≡ load_by (get_or brings k 0) works n (suc b)) × HoldFrom brings works runs n b (set starts b x)
hold_step brings works runs n b starts l l' x p few long h C e F = (C.0 ∙ long, (λ k q r. column_tasks brings works n b (suc b) l l' p C k (omega arith) (h k q (omega arith))), (simp length-set F.0, λ c q r. go c r q (cmp b c)))
  where
    own : x ≡ top_n (held runs (λ k. load_by (get_or brings k 0) works n (suc (suc b)))) 0 (suc b)
    own = e ∙ top_cong _ _ (suc b) (λ k q. ap (λ y. get_or runs k 0 + y) (h k (omega arith) (omega arith)))

    go : (c : ℕ) → c < n → b ≤ c → Cmp b c → get_or (set starts b x) c 0 ≡ top_n (held runs (λ k. load_by (get_or brings k 0) works n (suc (suc c)))) 0 (suc c)
    go c r q (less y) = get_or-set_other starts b c x 0 (λ z. omega arith) ∙ F.1 c y r
    go c r q (same y) = rw (← y) (get_or-set_same starts b x 0 (omega (arith, F.0)) ∙ own)
    go c r q (more y) = absurd (omega arith)
