-- The list of the clock's spacings: its lines as parts that are written one after the other, and its length. Assumes nothing.
use Prim.Native.Nat.{ℕ, ◌+◌}
use mathlib.Core.Path.{◌≡◌, refl, ◌∙◌}
use mathlib.Core.List.{List, [], ◌∷◌, ◌++◌, append_assoc}
use native.Mathlib.Omega.{arith}
use lib.ListN.{length, length-append}
use Rattle.model.specs.Basics.{sum_n, joined}
use Rattle.model.specs.Report.{digits, decimal, tempo_text}
use Rattle.model.specs.Verdicts.{tempos}
use Rattle.model.specs.Clock.{clock_spacing, clock_line, clock_list, clock_length}
use Rattle.lemmas.proofs.Table.{joined_length}

-- a line feed, and a spacing with the blank before it
abbrev pub feed : List ℕ
feed = 10 ∷ []

abbrev pub spacing_text : ℕ → List ℕ
spacing_text x = (32 ∷ []) ++ decimal x

pub line_parts : (t : ℕ) → clock_line t ≡ tempo_text t ++ (spacing_text (clock_spacing t) ++ feed)
unfolding clock_line
line_parts t = simp append_assoc

pub line_length : (t : ℕ) → length (clock_line t) ≡ 2 + length (tempo_text t) + length (decimal (clock_spacing t))
line_length t = rw (line_parts t) (simp length-append (omega arith))

-- its first k lines
abbrev pub lines_to : ℕ → List ℕ
lines_to k = joined k (λ i. clock_line (200 + i))

-- "from 125,000 at 20.0 to 8,333 at 300.0": `20.0 125000` and `300.0 8333`
pub first_line : clock_line 200 ≡ 50 ∷ 48 ∷ 46 ∷ 48 ∷ 32 ∷ 49 ∷ 50 ∷ 53 ∷ 48 ∷ 48 ∷ 48 ∷ 10 ∷ []
unfolding clock_line tempo_text decimal digits
first_line = refl

pub last_line : clock_line 3000 ≡ 51 ∷ 48 ∷ 48 ∷ 46 ∷ 48 ∷ 32 ∷ 56 ∷ 51 ∷ 51 ∷ 51 ∷ 10 ∷ []
unfolding clock_line tempo_text decimal digits
last_line = refl

-- its length, a sum that is computed once
summed : sum_n (λ k. length (clock_line (200 + k))) 0 tempos ≡ clock_length
unfolding sum_n clock_line tempo_text decimal digits
summed = refl

pub list_length : length clock_list ≡ clock_length
unfolding clock_list
list_length = joined_length tempos (λ k. clock_line (200 + k)) ∙ summed
