-- The header of a field: numbers in bytes, a table of tags, and what stands at a reading place by that table.
use Rattle.std.specs.Prelude.{ℕ, Option, Some, None, Result, Ok, Err, zero, suc, ◌+◌, ◌-◌, ◌*◌, ◌/◌, ◌%◌, Bool, cond, ◌&&◌, not, List, [], ◌∷◌, ◌++◌, length, get_or, leb, ltb}
use Rattle.model.specs.declared.Refusal.TheVariants.{CutShort, StrangeTag, WrongLength}
use Rattle.model.specs.declared.Refusal.{Refusal}
use Rattle.model.specs.declared.Header.{Header}

-- "Numbers have their high byte first": x in n bytes, and the number in the n bytes from `at` on
unfoldable pub bytes_of : ℕ → ℕ → List ℕ
bytes_of zero x = []
bytes_of (suc n) x = bytes_of n (x / 256) ++ (x % 256 ∷ [])

unfoldable pub number_in : List ℕ → ℕ → ℕ → ℕ
number_in s at zero = 0
number_in s at (suc n) = number_in s at n * 256 + get_or s (at + n) 0

-- a table of tags: at places 2 t and 2 t + 1 stand the least and the greatest length of a body of tag t, and 0 or nothing where there is no such tag
abbrev pub is_tag : List ℕ → ℕ → Bool
is_tag tags tag = ltb 0 (get_or tags (2 * tag + 1) 0)

abbrev pub length_fits : List ℕ → ℕ → ℕ → Bool
length_fits tags tag n = leb (get_or tags (2 * tag) 0) n && leb n (get_or tags (2 * tag + 1) 0)

-- what stands at a reading place: the header of a whole body, a refusal, or nothing where the bytes end
abbrev pub HeaderAt : Type 0
HeaderAt = Result (Option Header) Refusal

abbrev pub Body : ℕ → ℕ → ℕ → HeaderAt
Body tag at size = Ok (Some (record { tag = tag; at = at; size = size }))

pattern abbrev pub Faulty : Refusal → HeaderAt
Faulty r = Err r

pattern abbrev pub Ended : HeaderAt
Ended = Ok None

-- the header at a reading place, checked for a "whole header (1), tag (2), length (3), whole body (1)": tag, offset and length of a whole body
unfoldable pub header_at : List ℕ → List ℕ → ℕ → HeaderAt
header_at tags s at =
    cond (leb (length s) at) Ended
    (cond (ltb (length s - at) 3) (Faulty CutShort)
    (cond (not (is_tag tags (get_or s at 0))) (Faulty StrangeTag)
    (cond (not (length_fits tags (get_or s at 0) (number_in s (at + 1) 2))) (Faulty WrongLength)
    (cond (ltb (length s - at - 3) (number_in s (at + 1) 2)) (Faulty CutShort)
    (Body (get_or s at 0) (at + 3) (number_in s (at + 1) 2))))))
