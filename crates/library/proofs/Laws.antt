-- Signed replies, and the place of a refusal. Assumes nothing.
use Rattle.std.specs.Prelude.{Ok, Err}
use Prim.Native.Nat.{ℕ, zero, suc, ◌+◌, ◌*◌, ◌^◌, ◌≤◌, ◌<◌}
use mathlib.Core.Path.{◌≡◌, refl, sym, ap, subst, ◌∙◌}
use mathlib.Core.Bool.{Bool, true, false}
use mathlib.Core.List.{List}
use native.Mathlib.Omega.{arith}
use lib.ListN.{length}
use lib.Dec.{ltb}
use lib.IntN.{ℤ, pos, neg_ℤ, ◌-ℤ◌, +ℤ_idl}
use mir.Syntax.{w64}
use mir.Val.{SFits, to_z, of_z}
use mir.ValLaws.{to_z-of_z}
use borrow.Author.Tests.{ne_eqb}
use Rattle.model.specs.declared.Policy.{Policy}
use Rattle.model.specs.Refusals.{Filled, Refused, Quote, Outcome, Done, number_of, accepted, refusal, on_done}
use Rattle.model.specs.declared.Refusal.{Refusal}
use Rattle.model.specs.declared.Refusal.TheVariants.{CutShort, StrangeTag, WrongLength, OutOfTurn, TooMany, OffScale, NoSuchEnd, NoTask, Loop, TooHeavy, OffKnob, NoTempo, ShortPage, TooSoon, Stranger, ForeignState}
use Rattle.model.specs.File.{read_file, fill_with, judge}
use Rattle.model.specs.Report.{report_of, reported}
use Rattle.model.specs.Verdicts.{quote_of, quoted_file, tempos, largest_below, all_held}
use Rattle.theory.proofs.NumberBytes.{Bytes as AllBytes}
use Rattle.theory.proofs.FileLength.{read_place}
use Rattle.theory.proofs.ReadBack.{read_judged}
use Rattle.report.specs.Longest.{longest_report}
use Rattle.library.specs.Replies.{reply}

-- a number below 2 ^ 32 and its negative, as 64 bits with a sign
pub pos_fits : (x : ℕ) → x < 2 ^ 32 → SFits w64 (pos x)
pos_fits x h = record { sfits = omega arith }

neg_fits : (x : ℕ) → x < 2 ^ 32 → SFits w64 (neg_ℤ (pos x))
neg_fits zero h = record { sfits = omega arith }
neg_fits (suc n) h = record { sfits = omega arith }

back_pos : (r : ℤ) (x : ℕ) → r ≡ pos x → x < 2 ^ 32 → to_z w64 (of_z w64 r) ≡ pos x
back_pos r x e h = ap (λ (z : ℤ). to_z w64 (of_z w64 z)) e ∙ to_z-of_z w64 (pos x) (pos_fits x h)

pub below_is : (r : ℤ) (x : ℕ) → r ≡ pos x → x < 2 ^ 32 → pos 0 -ℤ to_z w64 (of_z w64 r) ≡ neg_ℤ (pos x)
below_is r x e h = ap (λ (z : ℤ). pos 0 -ℤ z) (back_pos r x e h) ∙ +ℤ_idl (neg_ℤ (pos x))

pub below_fits : (r : ℤ) (x : ℕ) → r ≡ pos x → x < 2 ^ 32 → SFits w64 (pos 0 -ℤ to_z w64 (of_z w64 r))
below_fits r x e h = subst (SFits w64) (sym (below_is r x e h)) (neg_fits x h)

pub below : (r : ℤ) (x : ℕ) → r ≡ pos x → x < 2 ^ 32 → to_z w64 (of_z w64 (pos 0 -ℤ to_z w64 (of_z w64 r))) ≡ neg_ℤ (pos x)
below r x e h = to_z-of_z w64 (pos 0 -ℤ to_z w64 (of_z w64 r)) (below_fits r x e h) ∙ below_is r x e h

-- the reply to a refusal is its number and place, below 0
pub numbered : (r : Refusal) → 1 ≤ number_of r
numbered CutShort = omega arith
numbered StrangeTag = omega arith
numbered WrongLength = omega arith
numbered OutOfTurn = omega arith
numbered TooMany = omega arith
numbered OffScale = omega arith
numbered NoSuchEnd = omega arith
numbered NoTask = omega arith
numbered Loop = omega arith
numbered TooHeavy = omega arith
numbered OffKnob = omega arith
numbered NoTempo = omega arith
numbered ShortPage = omega arith
numbered TooSoon = omega arith
numbered Stranger = omega arith
numbered ForeignState = omega arith

pub reply_refused : (r : Refusal) (p : ℕ) → neg_ℤ (pos (10000 * number_of r + p)) ≡ reply (refusal r p)
unfolding reply
reply_refused r p = rw (ne_eqb (number_of r) 0 (λ e. omega (arith, numbered r, e))) refl

-- the reply to work done is its value
pub reply_done : (n : ℕ) → pos n ≡ reply (accepted n)
unfolding reply
reply_done n = refl

-- the place of a file's refusal
abbrev quote_place : Quote → ℕ
quote_place (Ok t) = 0
quote_place (Err x) = x.place

lowest_place : (good : ℕ → Bool) (n : ℕ) → quote_place (largest_below good n) ≡ 0
unfolding largest_below
lowest_place good zero = refl
lowest_place good (suc n) = go (good (200 + n)) (lowest_place good n)
  where
    go : (b : Bool) → quote_place (largest_below good n) ≡ 0 → quote_place (elim b [ true ↦ Ok (200 + n) | false ↦ largest_below good n ]) ≡ 0
    go true h = refl
    go false h = h

quoted_most : (pol : Policy) (s : List ℕ) → AllBytes s → quote_place (quoted_file pol s) ≤ 2128
unfolding quoted_file quote_of
quoted_most pol s b = go (read_file s).outcome refl
  where
    go : (o : Outcome) → (read_file s).outcome ≡ o → quote_place (on_done (read_file s).outcome (on_done (judge (read_file s).description) (largest_below (all_held pol (read_file s).description) tempos) Refused) Refused) ≤ 2128
    go (Ok tt) e = rw (e, read_judged s b e) (omega (arith, lowest_place (all_held pol (read_file s).description) tempos))
    go (Err x) e = rw e (rw e at (read_place s))

pub quoted_place : (pol : Policy) (s : List ℕ) (q : Quote) (r : Refusal) (p : ℕ) → AllBytes s → q ≡ quoted_file pol s → q ≡ Refused r p → p ≤ 2128
quoted_place pol s q r p b e f =
    let k : quote_place (quoted_file pol s) ≡ p = sym (ap quote_place e) ∙ ap quote_place f in
    omega (arith, quoted_most pol s b)

-- a report's length fits
pub filled_most : (pol : Policy) (s out : List ℕ) (f : Filled) (n : ℕ) → length (report_of pol s) ≤ longest_report → f ≡ reported pol s out → f ≡ Ok n → n ≤ longest_report
unfolding reported fill_with
filled_most pol s out f n h e g = go (ltb (length out) (length (report_of pol s))) refl
  where
    count : Filled → ℕ
    count (Ok k) = k
    count (Err x) = 0

    go : (b : Bool) → ltb (length out) (length (report_of pol s)) ≡ b → n ≤ longest_report
    go true q = let e' : f ≡ Refused ShortPage 0 = e ∙ rw q refl in let k : 0 ≡ n = sym (ap count e') ∙ ap count g in omega arith
    go false q = let e' : f ≡ Ok (length (report_of pol s)) = e ∙ rw q refl in let k : length (report_of pol s) ≡ n = sym (ap count e') ∙ ap count g in omega arith

-- a report is refused at place 0
pub filled_place : (pol : Policy) (s out : List ℕ) (f : Filled) (r : Refusal) (p : ℕ) → f ≡ reported pol s out → f ≡ Refused r p → p ≤ 2128
unfolding reported fill_with
filled_place pol s out f r p e g = go (ltb (length out) (length (report_of pol s))) refl
  where
    place : Filled → ℕ
    place (Ok k) = 0
    place (Err x) = x.place

    go : (b : Bool) → ltb (length out) (length (report_of pol s)) ≡ b → p ≤ 2128
    go true q = let e' : f ≡ Refused ShortPage 0 = e ∙ rw q refl in let k : 0 ≡ p = sym (ap place e') ∙ ap place g in omega arith
    go false q = let e' : f ≡ Ok (length (report_of pol s)) = e ∙ rw q refl in let k : 0 ≡ p = sym (ap place e') ∙ ap place g in omega arith
