-- The bits of a task's number, and words with the same marks. Assumes nothing.
use Prim.Native.Nat.{ℕ, ◌%◌, ◌<◌}
use mathlib.Core.Path.{◌≡◌, ◌∙◌}
use mathlib.Core.Bool.{Bool, true, false, cond}
use native.Mathlib.Omega.{arith}
use Rattle.model.specs.declared.Description.{Description}
use Rattle.model.specs.declared.Machine.{Machine}
use Rattle.words.specs.declared.Words.{Words}
use Rattle.words.specs.Words.{Marks}
use lib.Bits.{bit_and, and_mask}
use native.Mathlib.Nat.{mod-eq_of_lt}

-- all bits of a task's number, or none
pub kept_number : (b : Bool) (h : ℕ) → h < 64 → bit_and h (cond b 63 0) ≡ cond b h 0
kept_number true h p = and_mask h 6 ∙ mod-eq_of_lt p
kept_number false h p = and_mask h 0 ∙ (let z : h % 1 ≡ 0 = omega arith in z)

-- the same marks in words that differ otherwise
pub record SameMarks (w w' : Words) : Type 0 where
  pub woken : w'.woken ≡ w.woken
  pub part : w'.part ≡ w.part
  pub fresh : w'.fresh ≡ w.fresh
  pub taken : w'.taken ≡ w.taken
  pub dropped : w'.dropped ≡ w.dropped

pub marks_same : (d : Description) (w w' : Words) (m : Machine) → SameMarks w w' → Marks d w m → Marks d w' m
marks_same d w w' m s h = record {
  sized = h.sized;
  no_zero = rw (s.woken, s.part) h.no_zero;
  present = λ k p. h.present k (rw (s.woken, s.part) at p);
  part = λ k p. rw s.part (h.part k p);
  awake = λ k p. rw (s.woken, s.part) (h.awake k p);
  again = λ k p. rw (s.woken, s.part) (h.again k p);
  waiting = λ l. rw (s.fresh, s.taken) (h.waiting l);
  late = λ l. rw (s.fresh, s.part) (h.late l);
  dropped = λ l. rw (s.fresh, s.taken, s.dropped) (h.dropped l);
  held = λ l p. rw s.part (h.held l (rw s.taken at p));
}
