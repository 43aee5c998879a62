-- Laws of sources on wheels: parts of a round, flows, wastes and their tables, and stretches without a fixed point. Assumes nothing.
use Prim.Native.Nat.{ℕ, zero, suc, ◌+◌, ◌-◌, ◌*◌, ◌/◌, ◌%◌, ◌≤◌, ◌<◌, max}
use mathlib.Core.Path.{◌≡◌, sym, ap, ◌∙◌}
use mathlib.Core.List.{List}
use mathlib.Core.Bool.{cond}
use native.Mathlib.Omega.{arith}
use native.Mathlib.Nat.{zero-add, add_assoc, zero-mul, zero-div, mul-le-mul_left, mul-le-mul_right, div-mul-le_self, div-add-mod', lt-div-mul-add, add-mul-div_right, le-div_iff_mul-le, mod-lt}
use lib.ListN.{get_or}
use lib.Dec.{eqb, ltb}
use borrow.Author.Tests.{eq-eqb, ne_eqb, lt-ltb, le-ltb}
use Rattle.model.specs.Basics.{sum_n}
use Rattle.model.specs.Delays.{spacings}
use Rattle.lemmas.proofs.Tests.{Cmp, less, same, more, cmp}
use Rattle.lemmas.proofs.Range.{Each, sum_n-le, sum_n-add, sum_n-mul, sum_n-cong}
use Rattle.theory.proofs.Rounds.{spacings_mono}
use Rattle.theory.proofs.Levels.{spacings_cover}
use Rattle.rounds.specs.Level.{LevelOn, LowerBound, round_in}
use Rattle.wheels.specs.Wheel.{part_at, part_in, part_flow, left_in, Sifted, PartOf, Wastes, Covers, Placed, WheelsOn, flow_on, Turned, waste_on, Filled, Lowered, RestFrom}

-- a source on a wheel has the load that it has, and any other none
pub part_on : (loads wheels : List ℕ) (k u : ℕ) → get_or wheels u 0 ≡ k → part_at loads wheels k u ≡ get_or loads u 0
unfolding part_at
part_on loads wheels k u e = rw (eq-eqb (get_or wheels u 0) k e)

pub part_off : (loads wheels : List ℕ) (k u : ℕ) → (get_or wheels u 0 ≡ k → ⊥) → part_at loads wheels k u ≡ 0
unfolding part_at
part_off loads wheels k u e = rw (ne_eqb (get_or wheels u 0) k e)

-- a load on a wheel is small, and no more than its spacing
pub part_small : (loads gaps wheels periods : List ℕ) (n count k u : ℕ) → Sifted loads gaps wheels periods n count → k < count → u < n → (part_at loads wheels k u ≤ 2097151) × (part_at loads wheels k u ≤ get_or gaps u 0)
part_small loads gaps wheels periods n count k u s h p = go (cmp (get_or wheels u 0) k)
  where
    go : Cmp (get_or wheels u 0) k → (part_at loads wheels k u ≤ 2097151) × (part_at loads wheels k u ≤ get_or gaps u 0)
    go (less r) = omega (arith, part_off loads wheels k u (λ e. omega arith))
    go (same r) =
        let kept = s u p (omega arith) in
        omega (arith, part_on loads wheels k u r, kept.small, kept.light)
    go (more r) = omega (arith, part_off loads wheels k u (λ e. omega arith))

-- a source whose load is at most its spacing brings at most one load more than the stretch is long
pub part_light : (load gap p : ℕ) → 1 ≤ gap → load ≤ gap → load * spacings p gap ≤ load + p
unfolding spacings
part_light load gap p o h = go ((p + (gap - 1)) / gap) (div-mul-le_self (p + (gap - 1)) gap)
  where
    go : (q : ℕ) → q * gap ≤ p + (gap - 1) → load * max 1 q ≤ load + p
    go zero r = omega arith
    go (suc q) r =
        let e : max 1 (suc q) ≡ suc q = omega arith in
        omega (arith, ap (λ x. load * x) e, mul-le-mul_right q h)

-- a sum is at most as many times what no term is above
sum-most : (f : ℕ → ℕ) (c n : ℕ) → ((k : ℕ) → k < n → f k ≤ c) → sum_n f 0 n ≤ n * c
unfolding sum_n
sum-most f c zero h = omega arith
sum-most f c (suc n) h = rw zero-add (omega (arith, h n (omega arith), sum-most f c n (λ k p. h k (omega arith))))

-- a round of small loads over a short stretch is on the scale
pub round_light : (part gaps : List ℕ) (n p : ℕ) → LevelOn 0 part gaps n → ((u : ℕ) → u < n → (get_or part u 0 ≤ 2097151) × (get_or part u 0 ≤ get_or gaps u 0)) → p ≤ 8388608 → round_in 0 part gaps n p ≤ 1000000000
unfolding round_in
round_light part gaps n p g s h =
    omega
    (arith, g.few, sum-most (λ u. get_or part u 0 * spacings p (get_or gaps u 0)) 10485759 n (λ u q. omega (arith, (s u q).0, part_light (get_or part u 0) (get_or gaps u 0) p (g.gap_some u q) (s u q).1)))

-- what sources on no wheel bring never falls
pub left_mono : (start : ℕ) (loads gaps wheels : List ℕ) (n count p z : ℕ) → LevelOn start loads gaps n → p ≤ z → left_in start loads gaps wheels n count p ≤ left_in start loads gaps wheels n count z
unfolding left_in
left_mono start loads gaps wheels n count p z g h =
    let w : ℕ → ℕ = λ u. cond (ltb (get_or wheels u 0) count) 0 (get_or loads u 0) in
    omega
    (arith, sum_n-le (λ u. w u * spacings p (get_or gaps u 0)) (λ u. w u * spacings z (get_or gaps u 0)) 0 n (λ u a b. mul-le-mul_left (w u) (spacings_mono p z (get_or gaps u 0) (g.gap_some u (omega arith)) h)))

-- a steady flow is never above what its source brings
flow_source : (w gap z : ℕ) → 1 ≤ gap → z * (w * 4398046511104 / gap) ≤ 4398046511104 * (w * spacings z gap)
flow_source w gap z o =
    let c : ℕ = spacings z gap in
    let f : ℕ = w * 4398046511104 / gap in
    omega (arith, mul-le-mul_right f (spacings_cover z gap o), mul-le-mul_left c (div-mul-le_self (w * 4398046511104) gap))

-- the sources of a wheel waste at least 0
pub flow_any : (start : ℕ) (loads gaps wheels : List ℕ) (n k z : ℕ) → LevelOn start loads gaps n → Wastes loads gaps wheels n k 0 z
unfolding part_flow part_in
flow_any start loads gaps wheels n k z g =
    let f : ℕ → ℕ = λ u. part_at loads wheels k u * 4398046511104 / get_or gaps u 0 in
    let x : ℕ → ℕ = λ u. part_at loads wheels k u * spacings z (get_or gaps u 0) in
    omega (
      arith,
      sum_n-le (λ u. z * f u) (λ u. 4398046511104 * x u) 0 n (λ u p q. flow_source (part_at loads wheels k u) (get_or gaps u 0) z (g.gap_some u (omega arith))),
      sum_n-mul z f 0 n,
      sum_n-mul 4398046511104 x 0 n,
    )

-- a source that is on no wheel below k is on wheel k, or on none below the next
part_or_left : (w k a c : ℕ) → cond (ltb w k) 0 a * c ≡ cond (eqb w k) a 0 * c + cond (ltb w (suc k)) 0 a * c
part_or_left w k a c = go (cmp w k)
  where
    go : Cmp w k → cond (ltb w k) 0 a * c ≡ cond (eqb w k) a 0 * c + cond (ltb w (suc k)) 0 a * c
    go (less r) = rw (lt-ltb w k r, ne_eqb w k (λ e. omega arith), lt-ltb w (suc k) (omega arith)) (omega arith)
    go (same r) = rw (le-ltb w k (omega arith), eq-eqb w k r, lt-ltb w (suc k) (omega arith)) (omega arith)
    go (more r) = rw (le-ltb w k (omega arith), ne_eqb w k (λ e. omega arith), le-ltb w (suc k) r) (omega arith)

-- what is left by k wheels is the next wheel's part and what it leaves
left_more : (start : ℕ) (loads gaps wheels : List ℕ) (n k z : ℕ) → left_in start loads gaps wheels n k z ≡ part_in loads gaps wheels n k z + left_in start loads gaps wheels n (suc k) z
unfolding left_in part_in part_at
left_more start loads gaps wheels n k z =
    let w : ℕ → ℕ = λ u. get_or wheels u 0 in
    let c : ℕ → ℕ = λ u. spacings z (get_or gaps u 0) in
    let a : ℕ → ℕ = λ u. cond (ltb (w u) k) 0 (get_or loads u 0) * c u in
    let b : ℕ → ℕ = λ u. cond (eqb (w u) k) (get_or loads u 0) 0 * c u in
    let l : ℕ → ℕ = λ u. cond (ltb (w u) (suc k)) 0 (get_or loads u 0) * c u in
    omega (arith, sum_n-cong a (λ u. b u + l u) 0 n (λ u p q. part_or_left (w u) k (get_or loads u 0) (c u)), sum_n-add b l 0 n)

-- what no wheels leave is the round
left_all : (start : ℕ) (loads gaps wheels : List ℕ) (n z : ℕ) → left_in start loads gaps wheels n 0 z ≡ round_in start loads gaps n z
unfolding left_in round_in
left_all start loads gaps wheels n z =
    ap (λ x. start + x) (sum_n-cong (λ u. cond (ltb (get_or wheels u 0) 0) 0 (get_or loads u 0) * spacings z (get_or gaps u 0)) (λ u. get_or loads u 0 * spacings z (get_or gaps u 0)) 0 n (λ u p q. rw (le-ltb (get_or wheels u 0) 0 (omega arith))))

-- the parts of the first few wheels and what is left are the round
pub parts_left : (start : ℕ) (loads gaps wheels : List ℕ) (n count z : ℕ) → sum_n (λ k. part_in loads gaps wheels n k z) 0 count + left_in start loads gaps wheels n count z ≡ round_in start loads gaps n z
unfolding sum_n
parts_left start loads gaps wheels n zero z = omega (arith, left_all start loads gaps wheels n z)
parts_left start loads gaps wheels n (suc count) z =
    rw (zero-add count) (omega (arith, left_more start loads gaps wheels n count z, parts_left start loads gaps wheels n count z))

-- the round of a part is what the wheel brings
part_whole : (loads gaps wheels part : List ℕ) (n k z : ℕ) → PartOf loads wheels n k part → round_in 0 part gaps n z ≡ part_in loads gaps wheels n k z
unfolding round_in part_in
part_whole loads gaps wheels part n k z o =
    omega
    (arith, sum_n-cong (λ u. get_or part u 0 * spacings z (get_or gaps u 0)) (λ u. part_at loads wheels k u * spacings z (get_or gaps u 0)) 0 n (λ u a b. ap (λ x. x * spacings z (get_or gaps u 0)) (o.at u (omega arith))))

-- a table that is filled for the part of a wheel covers it block by block
pub covers_one : (start : ℕ) (loads gaps wheels part : List ℕ) (n k block entries place : ℕ) (table after : List ℕ) → LevelOn start loads gaps n → PartOf loads wheels n k part → Filled part gaps n (part_flow loads gaps wheels n k) block entries place table after → Covers loads gaps wheels n k block 1 place entries after
covers_one start loads gaps wheels part n k block entries place table after g o f i z h p q =
    go (get_or after (place + i) 0) (f.at i z (omega arith) p q)
  where
    go : (low : ℕ) → (0 < low → 17179869184 * low + part_flow loads gaps wheels n k * z ≤ 4398046511104 * round_in 0 part gaps n z) → Wastes loads gaps wheels n k low z
    go zero y = flow_any start loads gaps wheels n k z g
    go (suc low) y = omega (arith, y (omega arith), part_whole loads gaps wheels part n k z o)

-- a table each of whose entries is lowered to one that far on covers twice as far
pub covers_more : (loads gaps wheels : List ℕ) (n k block many place entries : ℕ) (table after : List ℕ) → Covers loads gaps wheels n k block many place entries table → Lowered place entries many table after → 1 ≤ many → Covers loads gaps wheels n k block (many + many) place entries after
covers_more loads gaps wheels n k block many place entries table after c l o i z h p q = go (cmp ((i + many) * block) z)
  where
    near : z ≤ (i + many) * block → Wastes loads gaps wheels n k (get_or after (place + i) 0) z
    near r = omega (arith, c i z (omega arith) p r, l.own i)

    far : (i + many) * block < z → Wastes loads gaps wheels n k (get_or after (place + i) 0) z
    far r =
        let e : get_or table (place + i + many) 0 ≡ get_or table (place + (i + many)) 0 = ap (λ x. get_or table x 0) (add_assoc place i many) in
        omega (arith, c (i + many) z (omega arith) r (omega arith), l.next i (omega arith), e)

    go : Cmp ((i + many) * block) z → Wastes loads gaps wheels n k (get_or after (place + i) 0) z
    go (less r) = far r
    go (same r) = near (omega arith)
    go (more r) = near (omega arith)

-- a table with the same entries covers the same
pub covers_kept : (loads gaps wheels : List ℕ) (n k block many place entries : ℕ) (table after : List ℕ) → Covers loads gaps wheels n k block many place entries table → 1 ≤ many → ((x : ℕ) → x < place + entries → get_or after x 0 ≡ get_or table x 0) → Covers loads gaps wheels n k block many place entries after
covers_kept loads gaps wheels n k block many place entries table after c o e i z h p q =
    omega (arith, c i z h p q, e (place + i) (omega arith))

-- a stretch that is longer by whole turns holds as many spacings more
spacings_turn : (z m t : ℕ) → 1 ≤ m → 1 ≤ z → spacings (z + t * m) m ≡ spacings z m + t
unfolding spacings
spacings_turn z m t o h =
    let e : z + t * m + (m - 1) ≡ z + (m - 1) + t * m = omega arith in
    omega
    (arith, ap (λ x. x / m) e ∙ add-mul-div_right (z + (m - 1)) t {z = m} o, (le-div_iff_mul-le {k = m} {x = 1} {y = z + (m - 1)} o).1 (omega arith))

-- in whole turns a source brings at least its flow
turn_source : (w m P q z : ℕ) → 1 ≤ m → 1 ≤ z → (0 < w → P % m ≡ 0) → q * P * (w * 4398046511104 / m) + 4398046511104 * (w * spacings z m) ≤ 4398046511104 * (w * spacings (z + q * P) m)
turn_source zero m P q z o h e =
    let f : zero * 4398046511104 / m ≡ 0 = ap (λ x. x / m) (zero-mul 4398046511104) ∙ zero-div m in
    rw f (omega (arith, zero-mul (spacings z m)))
turn_source (suc w) m P q z o h e =
    let t : ℕ = P / m in
    let f : ℕ = suc w * 4398046511104 / m in
    let r : P ≡ t * m = omega (arith, div-add-mod' P m, e (omega arith)) in
    let x : z + q * P ≡ z + q * t * m = omega (arith, ap (λ x. q * x) r) in
    let y : spacings (z + q * P) m ≡ spacings z m + q * t = ap (λ x. spacings x m) x ∙ spacings_turn z m (q * t) o h in
    let a : q * P * f ≡ q * t * (f * m) = omega (arith, ap (λ x. q * x * f) r) in
    let b : q * t * (f * m) ≤ q * t * (suc w * 4398046511104) = mul-le-mul_left (q * t) (div-mul-le_self (suc w * 4398046511104) m) in
    let c : suc w * spacings (z + q * P) m ≡ suc w * (spacings z m + q * t) = ap (λ x. suc w * x) y in
    rw c (omega arith)

-- a source with a load on a wheel has a spacing that divides the period
on_whole : (loads gaps wheels periods : List ℕ) (n count k u : ℕ) → Sifted loads gaps wheels periods n count → k < count → u < n → 0 < part_at loads wheels k u → get_or periods k 0 % get_or gaps u 0 ≡ 0
on_whole loads gaps wheels periods n count k u s h p l = go (cmp (get_or wheels u 0) k)
  where
    go : Cmp (get_or wheels u 0) k → get_or periods k 0 % get_or gaps u 0 ≡ 0
    go (less r) = absurd (omega (arith, part_off loads wheels k u (λ e. omega arith)))
    go (same r) = ap (λ x. get_or periods x 0 % get_or gaps u 0) (sym r) ∙ (s u p (omega arith)).whole
    go (more r) = absurd (omega (arith, part_off loads wheels k u (λ e. omega arith)))

-- a stretch that is longer by whole turns of a wheel wastes no less
pub wastes_period : (start : ℕ) (loads gaps wheels periods : List ℕ) (n count k : ℕ) → LevelOn start loads gaps n → Sifted loads gaps wheels periods n count → k < count → (low z q : ℕ) → 1 ≤ z → Wastes loads gaps wheels n k low z → Wastes loads gaps wheels n k low (z + q * get_or periods k 0)
unfolding part_flow part_in
wastes_period start loads gaps wheels periods n count k g s h low z q o w =
    let P : ℕ = get_or periods k 0 in
    let f : ℕ → ℕ = λ u. part_at loads wheels k u * 4398046511104 / get_or gaps u 0 in
    let x : ℕ → ℕ = λ u. part_at loads wheels k u * spacings z (get_or gaps u 0) in
    let y : ℕ → ℕ = λ u. part_at loads wheels k u * spacings (z + q * P) (get_or gaps u 0) in
    omega (
      arith,
      sum_n-le (λ u. q * P * f u + 4398046511104 * x u) (λ u. 4398046511104 * y u) 0 n (λ u a b. turn_source (part_at loads wheels k u) (get_or gaps u 0) P q z (g.gap_some u (omega arith)) o (on_whole loads gaps wheels periods n count k u s h (omega arith))),
      sum_n-add (λ u. q * P * f u) (λ u. 4398046511104 * x u) 0 n,
      sum_n-mul (q * P) f 0 n,
      sum_n-mul 4398046511104 x 0 n,
      sum_n-mul 4398046511104 y 0 n,
    )

-- a quotient does not fall
quotient_mono : (x y m : ℕ) → 1 ≤ m → x ≤ y → x / m ≤ y / m
quotient_mono x y m o h = (le-div_iff_mul-le o).1 (omega (arith, div-mul-le_self x m))

-- what the entry says where a stretch begins is wasted in every stretch that ends within seven blocks
pub wastes_seen : (start : ℕ) (loads gaps wheels : List ℕ) (n block : ℕ) (periods places table : List ℕ) (count k : ℕ) → LevelOn start loads gaps n → WheelsOn loads gaps wheels n block periods places table count → Placed periods places block count → k < count → 1 ≤ block → (D L : ℕ) → 1 ≤ D → D ≤ L → L ≤ D + 7 * block → Wastes loads gaps wheels n k (get_or table (get_or places k 0 + (D - 1) % get_or periods k 0 / block) 0) L
wastes_seen start loads gaps wheels n block periods places table count k g w l h o D L d a b =
    let P : ℕ = get_or periods k 0 in
    let y : ℕ = (D - 1) % P in
    let q : ℕ = (D - 1) / P in
    let i : ℕ = y / block in
    let z : ℕ = y + 1 + (L - D) in
    let low : ℕ = get_or table (get_or places k 0 + i) 0 in
    let some : 1 ≤ P = l.some k h in
    let below : y < P = mod-lt (D - 1) some in
    let room : i + 8 ≤ P / block + 8 = omega (arith, quotient_mono y P block o (omega arith)) in
    let from : i * block < z = omega (arith, div-mul-le_self y block) in
    let upto : z ≤ (i + 8) * block = omega (arith, lt-div-mul-add {a = y} {b = block} o) in
    let e : z + q * P ≡ L = omega (arith, div-add-mod' (D - 1) P) in
    let v : Wastes loads gaps wheels n k low (z + q * P) = wastes_period start loads gaps wheels periods n count k g w.sifted h low z q (omega arith) (w.covers k h i z room from upto) in
    rw e at v

-- in a stretch that ends within seven blocks the first few wheels waste together what their entries say
wastes_all : (start : ℕ) (loads gaps wheels : List ℕ) (n block : ℕ) (periods places table turns : List ℕ) (count D L : ℕ) → LevelOn start loads gaps n → WheelsOn loads gaps wheels n block periods places table count → Placed periods places block count → 1 ≤ block → 1 ≤ D → Turned periods count D turns → D ≤ L → L ≤ D + 7 * block → 17179869184 * waste_on block places table turns count + flow_on loads gaps wheels n count * L ≤ 4398046511104 * sum_n (λ k. part_in loads gaps wheels n k L) 0 count
unfolding waste_on
wastes_all start loads gaps wheels n block periods places table turns count D L g w l o d t a b =
    let low : ℕ → ℕ = λ k. get_or table (get_or places k 0 + get_or turns k 0 / block) 0 in
    let f : ℕ → ℕ = part_flow loads gaps wheels n in
    let x : ℕ → ℕ = λ k. part_in loads gaps wheels n k L in
    omega (
      arith,
      sum_n-le (λ k. 17179869184 * low k + L * f k) (λ k. 4398046511104 * x k) 0 count each,
      sum_n-add (λ k. 17179869184 * low k) (λ k. L * f k) 0 count,
      sum_n-mul 17179869184 low 0 count,
      sum_n-mul L f 0 count,
      sum_n-mul 4398046511104 x 0 count,
    )
  where
    each : Each (λ k. 17179869184 * get_or table (get_or places k 0 + get_or turns k 0 / block) 0 + L * part_flow loads gaps wheels n k ≤ 4398046511104 * part_in loads gaps wheels n k L) 0 count
    each k p q =
        let h : k < count = omega arith in
        rw (t.at k h) (omega (arith, wastes_seen start loads gaps wheels n block periods places table count k g w l h o D L d a b))

-- the wastes and the rest leave no fixed point within seven blocks
pub stretch_free : (start : ℕ) (loads gaps wheels : List ℕ) (n block : ℕ) (periods places table turns : List ℕ) (count D slope rest : ℕ) → LevelOn start loads gaps n → WheelsOn loads gaps wheels n block periods places table count → Placed periods places block count → 1 ≤ block → 1 ≤ D → Turned periods count D turns → 4398046511104 ≤ flow_on loads gaps wheels n count + 512 * slope → RestFrom start loads gaps wheels n count D rest → slope * (D + 7 * block) < 8589934592 * rest + 33554432 * waste_on block places table turns count → LowerBound start loads gaps n D → LowerBound start loads gaps n (D + 7 * block)
stretch_free start loads gaps wheels n block periods places table turns count D slope rest g w l o d t s r h b L e = go (cmp L (D + 7 * block))
  where
    go : Cmp L (D + 7 * block) → D + 7 * block ≤ L
    go (less p) =
        let q : D ≤ L = b L e in
        let end : L ≤ D + 7 * block = omega arith in
        absurd (omega (
          arith,
          wastes_all start loads gaps wheels n block periods places table turns count D L g w l o d t q end,
          parts_left start loads gaps wheels n count L,
          r L q,
          mul-le-mul_right L s,
          mul-le-mul_left slope end,
        ))
    go (same p) = omega arith
    go (more p) = omega arith

-- what is left is no more than the round
pub left_most : (start : ℕ) (loads gaps wheels : List ℕ) (n count z : ℕ) → left_in start loads gaps wheels n count z ≤ round_in start loads gaps n z
left_most start loads gaps wheels n count z = omega (arith, parts_left start loads gaps wheels n count z)
