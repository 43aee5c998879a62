-- How long a report can be: `longest_plain` bytes, and five more with its line `hold`. A link's line has at most 41 bytes beside its place; the places 1 to 256 have one, two or three digits; the
-- tempo line has 12. Sixteen fixed sources of the largest spacing, each with a held link to the same sixteen tasks above the ninth, reach it. Assumes nothing.
use Prim.Native.Nat.{ℕ, zero, suc, ◌+◌, ◌*◌, ◌/◌, ◌<◌, ◌≤◌, min}
use mathlib.Core.Path.{◌≡◌, refl}
use mathlib.Core.Bool.{Bool, true, false, cond}
use mathlib.Core.List.{List}
use native.Mathlib.Omega.{arith}
use borrow.Author.Tests.{ltb-false}
use lib.Dec.{ltb, eqb}
use lib.ListN.{length, length-append}
use Rattle.model.specs.declared.Description.{Description}
use Rattle.model.specs.declared.Policy.{Policy}
use Rattle.model.specs.declared.Refusal.{Refusal}
use Rattle.model.specs.declared.Verdict.TheVariants.{Free, HeldOrder, DoubtOrder}
use Rattle.model.specs.Basics.{joined}
use Rattle.model.specs.Refusals.{number_of}
use Rattle.model.specs.Graph.{system, link_at}
use Rattle.model.specs.Delays.{Settled, unchanged, reached, tail_of, delay_of, spacing_of}
use Rattle.model.specs.Order.{in_order}
use Rattle.model.specs.Verdicts.{verdict_at, verdict_of, source_verdict, settled_verdict, order_verdict, tempos, largest_below}
use Rattle.model.specs.Report.{decimal, verdict_text, link_line, link_lines, tempo_line, refused_line, report_for, shown_tempo}
use Rattle.lemmas.proofs.Tests.{Cmp, less, same, more, cmp}
use Rattle.theory.proofs.WellFormed.{WellFormed}
use Rattle.theory.proofs.Rounds.{held_fixed}
use Rattle.theory.proofs.Quotes.{largest_hit, largest_miss}
use Rattle.theory.proofs.Links.{from_most, to_most, link_gap_most}
use Rattle.text.proofs.Digits.{decimal_most, decimal_bound}
use Rattle.lines.proofs.LineLaws.{held_length, doubt_length, link_length, tempo_length, refused_length}
use Rattle.report.specs.Longest.{longest_plain}

-- a verdict whose delay is below a spacing of at most 10^9
settled_length : (r : Settled) (tail m : ℕ) → m ≤ 1000000000 → ((D : ℕ) → r ≡ unchanged D → D + tail < m) → length (verdict_text (settled_verdict r tail m)) ≤ 29
settled_length (unchanged D) tail m h b =
    omega (arith, held_length (D + tail) m, decimal_most 8 (D + tail) (omega (arith, b D refl)), decimal_most 9 m (omega arith))
settled_length reached tail m h b = omega (arith, doubt_length m, decimal_most 9 m (omega arith))

order_length : (b : Bool) → length (verdict_text (cond b HeldOrder DoubtOrder)) ≤ 29
unfolding verdict_text
order_length true = omega arith
order_length false = omega arith

module _ (pol : Policy) (d : Description) (good : WellFormed d) (t : ℕ) where
  verdict_length : (l : ℕ) → l < d.link_count → length (verdict_text (verdict_at pol d t l)) ≤ 29
  unfolding verdict_at verdict_of source_verdict order_verdict verdict_text
  verdict_length l h = go (eqb (link_at d l).critical 0) (ltb (link_at d l).from 33) refl
    where
      go : (b c : Bool) → ltb (link_at d l).from 33 ≡ c → length (verdict_text (cond b Free (cond c (order_verdict (system d) (link_at d l).from (link_at d l).to) (source_verdict pol (system d) (spacing_of d t) (link_at d l).from (link_at d l).to)))) ≤ 29
      go true c e = omega arith
      go false true e = order_length (in_order (system d) (link_at d l).from (link_at d l).to)
      go false false e = settled_length (delay_of pol (system d) (spacing_of d t) (link_at d l).from (link_at d l).to) (tail_of pol (system d) (link_at d l).to) (spacing_of d t (link_at d l).from) (link_gap_most d good.fields t l h (ltb-false (link_at d l).from 33 e)) (λ D q. (held_fixed pol (system d) (spacing_of d t) (link_at d l).from (link_at d l).to D q).1)

  line_length : (l : ℕ) → l < d.link_count → length (link_line l (link_at d l) (verdict_at pol d t l)) ≤ 41 + length (decimal (l + 1))
  line_length l h =
      omega
      (arith, link_length l (link_at d l) (verdict_at pol d t l), verdict_length l h, decimal_most 1 (link_at d l).from (omega (arith, from_most d good.fields l h)), decimal_most 1 (link_at d l).to (omega (arith, to_most d good.fields l h)))

-- how many of the first n numbers are below k
below : ℕ → ℕ → ℕ
below k n = min k n

below_rises : (k n : ℕ) → n < k → below k (suc n) ≡ below k n + 1
unfolding below
below_rises k n h = omega arith

below_rests : (k n : ℕ) → k ≤ n → below k (suc n) ≡ below k n
unfolding below
below_rests k n h = omega arith

below_none : (k : ℕ) → below k 0 ≡ 0
unfolding below
below_none k = omega arith

-- lines of 41 bytes beside their places, which have three digits but for the first 99 and the first 9
places_length : (n : ℕ) (f : ℕ → List ℕ) → n ≤ 256 → ((l : ℕ) → l < n → length (f l) ≤ 41 + length (decimal (l + 1))) → length (joined n f) + below 99 n + below 9 n ≤ 44 * n
unfolding joined
places_length zero f h b = omega (arith, below_none 99, below_none 9)
places_length (suc n) f h b =
    rw (length-append (joined n f) (f n))
    (go (cmp n 9) (cmp n 99) (places_length n f (omega arith) (λ l p. b l (omega arith))) (b n (omega arith)))
  where
    go : Cmp n 9 → Cmp n 99 → length (joined n f) + below 99 n + below 9 n ≤ 44 * n → length (f n) ≤ 41 + length (decimal (n + 1)) → length (joined n f) + length (f n) + below 99 (suc n) + below 9 (suc n) ≤ 44 * suc n
    go (less p) q ih last = omega (arith, below_rises 9 n p, below_rises 99 n (omega arith), decimal_most 0 (n + 1) (omega arith))
    go (same p) q ih last = omega (arith, below_rests 9 n (omega arith), below_rises 99 n (omega arith), decimal_most 1 (n + 1) (omega arith))
    go (more p) (less q) ih last = omega (arith, below_rests 9 n (omega arith), below_rises 99 n q, decimal_most 1 (n + 1) (omega arith))
    go (more p) (same q) ih last = omega (arith, below_rests 9 n (omega arith), below_rests 99 n (omega arith), decimal_most 2 (n + 1) (omega arith))
    go (more p) (more q) ih last = omega (arith, below_rests 9 n (omega arith), below_rests 99 n (omega arith), decimal_most 2 (n + 1) (omega arith))

-- the tempo line
tempo_most : (good : ℕ → Bool) (n : ℕ) → n ≤ tempos → length (tempo_line (largest_below good n)) ≤ 12
unfolding largest_below tempo_line
tempo_most good zero h = omega arith
tempo_most good (suc n) h = go (good (200 + n)) refl (tempo_most good n (omega arith))
  where
    go : (b : Bool) → good (200 + n) ≡ b → length (tempo_line (largest_below good n)) ≤ 12 → length (tempo_line (largest_below good (suc n))) ≤ 12
    go true e ih =
        rw (largest_hit good n e) (omega (arith, tempo_length (200 + n), decimal_most 2 ((200 + n) / 10) (omega arith)))
    go false e ih = rw (largest_miss good n e) ih

-- all lines
all_length : (n x : ℕ) → n ≤ 256 → x + below 99 n + below 9 n ≤ 44 * n → x ≤ 11156
unfolding below
all_length n x h b = omega arith

-- a report with verdicts
pub verdicts_length : (pol : Policy) (d : Description) → WellFormed d → (good : ℕ → Bool) → length (report_for pol d (largest_below good tempos)) ≤ longest_plain
unfolding report_for link_lines
verdicts_length pol d w good =
    let q = largest_below good tempos in
    let lines : ℕ → List ℕ = λ l. link_line l (link_at d l) (verdict_at pol d (shown_tempo q) l) in
    rw (length-append (tempo_line q) (joined d.link_count lines))
    (omega (arith, tempo_most good tempos (omega arith), all_length d.link_count (length (joined d.link_count lines)) w.fields.few_links (places_length d.link_count lines w.fields.few_links (line_length pol d w (shown_tempo q)))))

-- a report of a refusal
pub refusal_length : (r : Refusal) (place : ℕ) → length (refused_line r place) ≤ 53
refusal_length r place =
    omega (arith, refused_length r (number_of r) place refl, decimal_bound (number_of r), decimal_bound place)
