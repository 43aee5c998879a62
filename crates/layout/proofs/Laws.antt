-- The bytes of a record, part by part, and bytes put one by one. Assumes nothing.
use Prim.Native.Nat.{ℕ, ◌+◌, ◌-◌, ◌*◌, ◌/◌, ◌%◌, ◌≤◌, ◌<◌}
use mathlib.Core.Path.{◌≡◌, refl, sym, ap, ◌∙◌}
use mathlib.Core.Bool.{Bool, true, false}
use mathlib.Core.List.{List, ◌++◌}
use native.Mathlib.Omega.{arith}
use native.Mathlib.Nat.{zero-add, add-zero}
use lib.ListN.{length, get_or, set, take, drop, length-set}
use lib.Seq.{take_all}
use mir.Val.{bool_byte}
use borrow.Author.Tests.{lt-ltb, le-ltb}
use Rattle.model.specs.declared.Machine.{Machine}
use Rattle.lemmas.proofs.Table.{length-tab, get_d_tab, store_more}
use Rattle.layout.specs.Layout.{record_length, bit, byte_in, record_byte, record_bytes, Puts}

-- a mark as a byte
pub bool_byte_lem : (b : Bool) → bool_byte b ≡ bit b
bool_byte_lem true = refl
bool_byte_lem false = refl

-- the bytes of a record, part by part
module _ (m : Machine) (i : ℕ) where
  pub byte_awake : i < 32 → bit (get_or m.awake i false) ≡ record_byte m i
  unfolding record_byte
  byte_awake h = rw (lt-ltb i 32 h) refl

  pub byte_used : 32 ≤ i → i < 160 → byte_in (get_or m.used ((i - 32) / 4) 0) ((i - 32) % 4) ≡ record_byte m i
  unfolding record_byte
  byte_used a h = rw (le-ltb i 32 a, lt-ltb i 160 h) refl

  pub byte_waiting : 160 ≤ i → i < 416 → bit (get_or m.waiting (i - 160) false) ≡ record_byte m i
  unfolding record_byte
  byte_waiting a h = rw (le-ltb i 32 (omega arith), le-ltb i 160 a, lt-ltb i 416 h) refl

  pub byte_dropped : 416 ≤ i → i < 672 → bit (get_or m.dropped (i - 416) false) ≡ record_byte m i
  unfolding record_byte
  byte_dropped a h = rw (le-ltb i 32 (omega arith), le-ltb i 160 (omega arith), le-ltb i 416 a, lt-ltb i 672 h) refl

  pub byte_ages : 672 ≤ i → i < 736 → byte_in (get_or m.ages ((i - 672) / 4) 0) ((i - 672) % 4) ≡ record_byte m i
  unfolding record_byte
  byte_ages a h = rw (le-ltb i 32 (omega arith), le-ltb i 160 (omega arith), le-ltb i 416 (omega arith), le-ltb i 672 a, lt-ltb i 736 h) refl

  pub byte_fastest : 736 ≤ i → i < 768 → byte_in (get_or m.fastest ((i - 736) / 2) 0) ((i - 736) % 2 + 2) ≡ record_byte m i
  unfolding record_byte
  byte_fastest a h = rw (le-ltb i 32 (omega arith), le-ltb i 160 (omega arith), le-ltb i 416 (omega arith), le-ltb i 672 (omega arith), le-ltb i 736 a, lt-ltb i 768 h) refl

  pub byte_again : 768 ≤ i → i < 800 → bit (get_or m.again (i - 768) false) ≡ record_byte m i
  unfolding record_byte
  byte_again a h = rw (le-ltb i 32 (omega arith), le-ltb i 160 (omega arith), le-ltb i 416 (omega arith), le-ltb i 672 (omega arith), le-ltb i 736 (omega arith), le-ltb i 768 a, lt-ltb i 800 h) refl

  pub byte_late : 800 ≤ i → bit (get_or m.late (i - 800) false) ≡ record_byte m i
  unfolding record_byte
  byte_late a = rw (le-ltb i 32 (omega arith), le-ltb i 160 (omega arith), le-ltb i 416 (omega arith), le-ltb i 672 (omega arith), le-ltb i 736 (omega arith), le-ltb i 768 (omega arith), le-ltb i 800 a) refl

record_length_lem : (m : Machine) → length (record_bytes m) ≡ record_length
unfolding record_bytes
record_length_lem m = length-tab record_length (record_byte m)

-- bytes put one by one
pub puts_none : (byte : ℕ → ℕ) (at : ℕ) (out : List ℕ) → Puts 0 byte at out out
puts_none byte at out = record { sized = refl; bytes = λ text out₀ a b f e. let q : at ≡ at + 0 = omega arith in e ∙ ap (λ i. take i text ++ drop i out₀) q }

pub puts_more : (byte : ℕ → ℕ) (at : ℕ) (out out₁ : List ℕ) (k b : ℕ) → Puts k byte at out out₁ → b ≡ byte k → Puts (k + 1) byte at out (set out₁ (at + k) b)
puts_more byte at out out₁ k b p e =
    record {
      sized = length-set out₁ (at + k) b ∙ p.sized;
      bytes = λ text out₀ h₁ h₂ f g.
          let q : at + k + 1 ≡ at + (k + 1) = omega arith in
          let s : set out₁ (at + k) b ≡ take (at + k + 1) text ++ drop (at + k + 1) out₀ = rw (p.bytes text out₀ (omega arith) (omega arith) (λ j h. f j (omega arith)) g, e ∙ sym (f k (omega arith))) (store_more out₀ text (at + k) (omega arith) (omega arith)) in
          s ∙ ap (λ i. take i text ++ drop i out₀) q;
    }

-- a record is put part by part
module _ (m : Machine) where
  at_byte : (i : ℕ) → i < record_length → get_or (record_bytes m) i 0 ≡ record_byte m i
  unfolding record_bytes
  at_byte i h = get_d_tab record_length (record_byte m) 0 i h

  marks : (at k : ℕ) → at + k - at ≡ k
  marks at k = omega arith

  module _ (out a₁ a₂ a₃ a₄ a₅ a₆ a₇ a₈ : List ℕ) (h : record_length ≤ length out) (n₁ n₂ n₃ n₄ n₅ n₆ n₇ n₈ : ℕ) (e₁ : n₁ ≡ 32) (e₂ : n₂ ≡ 32) (e₃ : n₃ ≡ 256) (e₄ : n₄ ≡ 256) (e₅ : n₅ ≡ 16) (e₆ : n₆ ≡ 16) (e₇ : n₇ ≡ 32) (e₈ : n₈ ≡ 256) where
    pub record_put : Puts n₁ (λ k. bit (get_or m.awake k false)) 0 out a₁ → Puts (4 * n₂) (λ k. byte_in (get_or m.used (k / 4) 0) (k % 4 + 0)) 32 a₁ a₂ → Puts n₃ (λ k. bit (get_or m.waiting k false)) 160 a₂ a₃ → Puts n₄ (λ k. bit (get_or m.dropped k false)) 416 a₃ a₄ → Puts (4 * n₅) (λ k. byte_in (get_or m.ages (k / 4) 0) (k % 4 + 0)) 672 a₄ a₅ → Puts (2 * n₆) (λ k. byte_in (get_or m.fastest (k / 2) 0) (k % 2 + 2)) 736 a₅ a₆ → Puts n₇ (λ k. bit (get_or m.again k false)) 768 a₆ a₇ → Puts n₈ (λ k. bit (get_or m.late k false)) 800 a₇ a₈ → a₈ ≡ record_bytes m ++ drop record_length out
    record_put p₁ p₂ p₃ p₄ p₅ p₆ p₇ p₈ =
        let l = record_length_lem m in
        let q₁ : 0 + n₁ ≡ 32 = omega arith in
        let q₂ : 32 + 4 * n₂ ≡ 160 = omega arith in
        let q₃ : 160 + n₃ ≡ 416 = omega arith in
        let q₄ : 416 + n₄ ≡ 672 = omega arith in
        let q₅ : 672 + 4 * n₅ ≡ 736 = omega arith in
        let q₆ : 736 + 2 * n₆ ≡ 768 = omega arith in
        let q₇ : 768 + n₇ ≡ 800 = omega arith in
        let q₈ : 800 + n₈ ≡ record_length = omega arith in
        let b₁ : a₁ ≡ take 32 (record_bytes m) ++ drop 32 out = p₁.bytes (record_bytes m) out (omega arith) (omega arith) (λ k j. at_byte (0 + k) (omega arith) ∙ sym (byte_awake m (0 + k) (omega arith)) ∙ ap (λ i. bit (get_or m.awake i false)) (zero-add k)) refl ∙ ap up q₁ in
        let b₂ : a₂ ≡ take 160 (record_bytes m) ++ drop 160 out = p₂.bytes (record_bytes m) out (omega arith) (omega arith) (λ k j. at_byte (32 + k) (omega arith) ∙ sym (byte_used m (32 + k) (omega arith) (omega arith)) ∙ ap (λ i. byte_in (get_or m.used (i / 4) 0) (i % 4)) (marks 32 k) ∙ ap (byte_in (get_or m.used (k / 4) 0)) (sym (add-zero (k % 4)))) b₁ ∙ ap up q₂ in
        let b₃ : a₃ ≡ take 416 (record_bytes m) ++ drop 416 out = p₃.bytes (record_bytes m) out (omega arith) (omega arith) (λ k j. at_byte (160 + k) (omega arith) ∙ sym (byte_waiting m (160 + k) (omega arith) (omega arith)) ∙ ap (λ i. bit (get_or m.waiting i false)) (marks 160 k)) b₂ ∙ ap up q₃ in
        let b₄ : a₄ ≡ take 672 (record_bytes m) ++ drop 672 out = p₄.bytes (record_bytes m) out (omega arith) (omega arith) (λ k j. at_byte (416 + k) (omega arith) ∙ sym (byte_dropped m (416 + k) (omega arith) (omega arith)) ∙ ap (λ i. bit (get_or m.dropped i false)) (marks 416 k)) b₃ ∙ ap up q₄ in
        let b₅ : a₅ ≡ take 736 (record_bytes m) ++ drop 736 out = p₅.bytes (record_bytes m) out (omega arith) (omega arith) (λ k j. at_byte (672 + k) (omega arith) ∙ sym (byte_ages m (672 + k) (omega arith) (omega arith)) ∙ ap (λ i. byte_in (get_or m.ages (i / 4) 0) (i % 4)) (marks 672 k) ∙ ap (byte_in (get_or m.ages (k / 4) 0)) (sym (add-zero (k % 4)))) b₄ ∙ ap up q₅ in
        let b₆ : a₆ ≡ take 768 (record_bytes m) ++ drop 768 out = p₆.bytes (record_bytes m) out (omega arith) (omega arith) (λ k j. at_byte (736 + k) (omega arith) ∙ sym (byte_fastest m (736 + k) (omega arith) (omega arith)) ∙ ap (λ i. byte_in (get_or m.fastest (i / 2) 0) (i % 2 + 2)) (marks 736 k)) b₅ ∙ ap up q₆ in
        let b₇ : a₇ ≡ take 800 (record_bytes m) ++ drop 800 out = p₇.bytes (record_bytes m) out (omega arith) (omega arith) (λ k j. at_byte (768 + k) (omega arith) ∙ sym (byte_again m (768 + k) (omega arith) (omega arith)) ∙ ap (λ i. bit (get_or m.again i false)) (marks 768 k)) b₆ ∙ ap up q₇ in
        let b₈ : a₈ ≡ take record_length (record_bytes m) ++ drop record_length out = p₈.bytes (record_bytes m) out (omega arith) (omega arith) (λ k j. at_byte (800 + k) (omega arith) ∙ sym (byte_late m (800 + k) (omega arith)) ∙ ap (λ i. bit (get_or m.late i false)) (marks 800 k)) b₇ ∙ ap up q₈ in
        b₈ ∙ ap (λ (x : List ℕ). x ++ drop record_length out) (take_all record_length (record_bytes m) (omega arith))
      where
        up : ℕ → List ℕ
        up i = take i (record_bytes m) ++ drop i out
