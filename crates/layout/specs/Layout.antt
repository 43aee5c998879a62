-- A machine's record as bytes.
use Rattle.std.specs.Prelude.{ℕ, ◌+◌, ◌-◌, ◌/◌, ◌%◌, ◌≤◌, ◌<◌, ◌≡◌, Bool, false, cond, List, ◌++◌, length, get_or, take, drop, ltb, eqb}
use Rattle.model.specs.declared.Machine.{Machine}
use Rattle.model.specs.Basics.{tab}

-- how many bytes a machine's record has: 32 awake, 32 times 4 used, 256 waiting, 256 dropped, 16 times 4 ages, 16 times 2 fastest tempos, 32 again and
-- 256 late, numbers high byte first
abbrev pub record_length : ℕ
record_length = 1056

abbrev pub bit : Bool → ℕ
bit b = cond b 1 0

-- byte k of a number's four
abbrev pub byte_in : ℕ → ℕ → ℕ
byte_in n k = cond (eqb k 0) (n / 16777216 % 256) (cond (eqb k 1) (n / 65536 % 256) (cond (eqb k 2) (n / 256 % 256) (n % 256)))

unfoldable pub record_byte : Machine → ℕ → ℕ
record_byte m i =
    cond (ltb i 32) (bit (get_or m.awake i false))
    (cond (ltb i 160) (byte_in (get_or m.used ((i - 32) / 4) 0) ((i - 32) % 4))
    (cond (ltb i 416) (bit (get_or m.waiting (i - 160) false))
    (cond (ltb i 672) (bit (get_or m.dropped (i - 416) false))
    (cond (ltb i 736) (byte_in (get_or m.ages ((i - 672) / 4) 0) ((i - 672) % 4))
    (cond (ltb i 768) (byte_in (get_or m.fastest ((i - 736) / 2) 0) ((i - 736) % 2 + 2))
    (cond (ltb i 800) (bit (get_or m.again (i - 768) false))
    (bit (get_or m.late (i - 800) false))))))))

unfoldable pub record_bytes : Machine → List ℕ
record_bytes m = tab record_length (record_byte m)

-- n bytes are put from a place on: a buffer that has a text's bytes up to there has them up to the end of the n
pub record Puts (n : ℕ) (byte : ℕ → ℕ) (at : ℕ) (out out' : List ℕ) : Type 0 where
  pub sized : length out' ≡ length out
  pub bytes : (text out₀ : List ℕ) → at + n ≤ length text → at + n ≤ length out₀ → ((k : ℕ) → k < n → get_or text (at + k) 0 ≡ byte k) → out ≡ take at text ++ drop at out₀ → out' ≡ take (at + n) text ++ drop (at + n) out₀
