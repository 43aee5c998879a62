-- Sets of numbers below 256 as the bits of four words.
use Rattle.std.specs.Prelude.{ℕ, zero, suc, ◌/◌, ◌%◌, Bool, get_or}
use Rattle.sets.specs.declared.wide.Wide.{Wide}
use Rattle.sets.specs.Sets.{member}

-- the words of a set, and 0 past them
unfoldable pub word_in : Wide → ℕ → ℕ
word_in s zero = get_or s.words 0 0
word_in s (suc zero) = get_or s.words 1 0
word_in s (suc (suc zero)) = get_or s.words 2 0
word_in s (suc (suc (suc zero))) = get_or s.words 3 0
word_in s (suc (suc (suc (suc v)))) = 0

-- whether l is in the set
unfoldable pub inside : Wide → ℕ → Bool
inside s l = member (word_in s (l / 64)) (l % 64)
