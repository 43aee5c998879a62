-- Numbers as bytes, high byte first: what is written reads back, and what is read writes back. Assumes nothing.
use Prim.Native.Nat.{ℕ, zero, suc, ◌+◌, ◌*◌, ◌/◌, ◌%◌, ◌^◌, ◌≤◌, ◌<◌}
use mathlib.Core.Path.{◌≡◌, refl, ap, ◌∙◌}
use mathlib.Core.List.{List, [], ◌∷◌, ◌++◌, append_assoc}
use native.Mathlib.Omega.{arith}
use native.Mathlib.Nat.{pow-suc, pow-zero}
use lib.ListN.{length, get_or, take, drop, length-append, length-drop}
use lib.Seq.{take-suc, get_or-drop, get_or-append-add, get_or_at}
use Rattle.model.specs.Header.{bytes_of, number_in}

-- a list of bytes
abbrev pub Bytes : List ℕ → Type 0
Bytes s = (i : ℕ) → get_or s i 0 < 256

pub length-bytes_of : (n x : ℕ) → length (bytes_of n x) ≡ n
unfolding bytes_of
length-bytes_of zero x = refl
length-bytes_of (suc n) x = rw (length-append, length-bytes_of n (x / 256)) (omega arith)

-- a number that fits n bytes reads back from them
pub number_bytes : (n x : ℕ) (pre rest : List ℕ) → x < 256 ^ n → number_in (pre ++ (bytes_of n x ++ rest)) (length pre) n ≡ x
unfolding bytes_of number_in
number_bytes zero x pre rest h = let e = pow-zero 256 in omega arith
number_bytes (suc n) x pre rest h =
    let e : (bytes_of n (x / 256) ++ (x % 256 ∷ [])) ++ rest ≡ bytes_of n (x / 256) ++ (x % 256 ∷ rest) = append_assoc (bytes_of n (x / 256)) (x % 256 ∷ []) rest in
    let h2 : x / 256 < 256 ^ n = omega (arith, pow-suc 256 n) in
    let g : get_or (pre ++ (bytes_of n (x / 256) ++ (x % 256 ∷ rest))) (length pre + n) 0 ≡ x % 256 = get_or-append-add pre (bytes_of n (x / 256) ++ (x % 256 ∷ rest)) n 0 ∙ get_or_at (bytes_of n (x / 256)) (x % 256) rest 0 n (length-bytes_of n (x / 256)) in
    let whole : pre ++ (bytes_of (suc n) x ++ rest) ≡ pre ++ (bytes_of n (x / 256) ++ (x % 256 ∷ rest)) = ap (λ l. pre ++ l) e in
    let back : number_in (pre ++ (bytes_of n (x / 256) ++ (x % 256 ∷ rest))) (length pre) (suc n) ≡ x = rw (number_bytes n (x / 256) pre (x % 256 ∷ rest) h2, g) (omega arith) in
    ap (λ l. number_in l (length pre) (suc n)) whole ∙ back

-- a number read from n bytes fits them
pub number_fits : (s : List ℕ) (at n : ℕ) → Bytes s → number_in s at n < 256 ^ n
unfolding number_in
number_fits s at zero h = omega (arith, pow-zero 256)
number_fits s at (suc n) h = omega (arith, pow-suc 256 n, number_fits s at n h, h (at + n))

-- the bytes of the number in n bytes are those bytes
pub bytes_number : (s : List ℕ) (at n : ℕ) → Bytes s → at + n ≤ length s → bytes_of n (number_in s at n) ≡ take n (drop at s)
unfolding bytes_of number_in
bytes_number s at zero h l = refl
bytes_number s at (suc n) h l =
    let q : (number_in s at n * 256 + get_or s (at + n) 0) / 256 ≡ number_in s at n = omega (arith, h (at + n)) in
    let r : (number_in s at n * 256 + get_or s (at + n) 0) % 256 ≡ get_or s (at + n) 0 = omega (arith, h (at + n)) in
    let m : n < length (drop at s) = omega (arith, length-drop at s) in
    rw (q, r, bytes_number s at n h (omega arith), take-suc (drop at s) n 0 m, get_or-drop at s n 0)

-- what a number in bytes depends on
pub number_same : (s t : List ℕ) (at at' n : ℕ) → ((i : ℕ) → i < n → get_or s (at + i) 0 ≡ get_or t (at' + i) 0) → number_in s at n ≡ number_in t at' n
unfolding number_in
number_same s t at at' zero h = refl
number_same s t at at' (suc n) h = rw (number_same s t at at' n (λ i p. h i (omega arith)), h n (omega arith))

-- a number from a place on is one in the bytes that are left there
pub number_left : (s : List ℕ) (a b n : ℕ) → number_in s (a + b) n ≡ number_in (drop a s) b n
unfolding number_in
number_left s a b zero = refl
number_left s a b (suc n) =
    let e : a + b + n ≡ a + (b + n) = omega arith in
    rw (e, number_left s a b n, get_or-drop a s (b + n) 0)
