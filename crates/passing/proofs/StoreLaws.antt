-- One more byte of a text that is copied over the front of a buffer. Assumes nothing.
use Prim.Native.Nat.{ℕ, ◌+◌, ◌<◌}
use mathlib.Core.Path.{◌≡◌}
use mathlib.Core.List.{List, ◌++◌}
use lib.ListN.{length, get_or, set, take, drop}
use Rattle.lemmas.proofs.Table.{store_more}

pub store_turn : (out out₁ text : List ℕ) (i code : ℕ) → i < length out → i < length text → out₁ ≡ take i text ++ drop i out → code ≡ get_or text i 0 → set out₁ i code ≡ take (i + 1) text ++ drop (i + 1) out
store_turn out out₁ text i code a b e f = rw (e, f) (store_more out text i a b)
