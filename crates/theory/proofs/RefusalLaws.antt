-- Which refusals a reading and a judging give: those numbered 1 to 10. Assumes nothing.
use Rattle.std.specs.Prelude.{Ok, Err}
use Prim.Native.Nat.{ℕ, zero, suc, ◌+◌, ◌-◌, ◌≤◌}
use mathlib.Core.Path.{◌≡◌, refl}
use mathlib.Core.Bool.{Bool, true, false, cond, not}
use mathlib.Core.List.{List}
use native.Mathlib.Omega.{arith}
use lib.Dec.{leb, ltb, eqb}
use lib.ListN.{length, get_or}
use Rattle.model.specs.declared.Description.{Description}
use Rattle.model.specs.declared.Field.{Field}
use Rattle.model.specs.declared.Progress.{Progress}
use Rattle.model.specs.declared.Refusal.TheVariants.{CutShort, StrangeTag, WrongLength, OutOfTurn, TooMany, OffScale, NoSuchEnd, NoTask, Loop, TooHeavy}
use Rattle.model.specs.Header.{HeaderAt, Body, Faulty, Ended, number_in, is_tag, length_fits, header_at}
use Rattle.model.specs.Field.{Taken, Whole, Broken, End, Check, Fine, Unfit, field_tags, taken_by, take_field, check_field, in_turn, has_room, on_scale, has_ends, with_field, passed}
use Rattle.model.specs.Refusals.{Outcome, Done, Refused, number_of, on_done}
use Rattle.model.specs.Graph.{system, cyclic}
use Rattle.model.specs.Loads.{too_heavy}
use Rattle.model.specs.File.{file_of, parse_from, parse_file, last_checks, finished, refused_reading, read_file, overfull, judge}
use Rattle.theory.proofs.RecordLaws.{parse_fine, parse_unfit, parse_broken, parse_end}

-- the number of a refusal, 0 for none
abbrev pub refusal_number : Outcome → ℕ
refusal_number (Ok tt) = 0
refusal_number (Err x) = number_of x.why

abbrev taken_number : Taken → ℕ
taken_number (Whole f next) = 0
taken_number (Broken r) = number_of r
taken_number End = 0

abbrev check_number : Check → ℕ
check_number (Ok tt) = 0
check_number (Unfit r) = number_of r

-- a field that does not come out whole: 1, 2 or 3
taken_number_lem : (s : List ℕ) (at : ℕ) → taken_number (take_field s at) ≤ 7
unfolding take_field header_at
taken_number_lem s at =
    go (leb (length s) at) (ltb (length s - at) 3) (not (is_tag field_tags (get_or s at 0)))
    (not (length_fits field_tags (get_or s at 0) (number_in s (at + 1) 2))) (ltb (length s - at - 3) (number_in s (at + 1) 2))
    (Body (get_or s at 0) (at + 3) (number_in s (at + 1) 2))
    (omega arith)
  where
    go : (a b c d e : Bool) (w : HeaderAt) → taken_number (taken_by s w) ≤ 7 → taken_number (taken_by s (cond a Ended (cond b (Faulty CutShort) (cond c (Faulty StrangeTag) (cond d (Faulty WrongLength) (cond e (Faulty CutShort) w)))))) ≤ 7
    go true b c d e w h = omega arith
    go false true c d e w h = omega arith
    go false false true d e w h = omega arith
    go false false false true e w h = omega arith
    go false false false false true w h = omega arith
    go false false false false false w h = h

-- a field that may not stand where it does: 4 to 7
check_number_lem : (p : Progress) (f : Field) → check_number (check_field p f) ≤ 7
unfolding check_field
check_number_lem p f = go (in_turn p f) (has_room p f) (on_scale f) (has_ends p f)
  where
    go : (a b c d : Bool) → check_number (cond (not a) (Unfit OutOfTurn) (cond (not b) (Unfit TooMany) (cond (not c) (Unfit OffScale) (cond (not d) (Unfit NoSuchEnd) Fine)))) ≤ 7
    go false b c d = omega arith
    go true false c d = omega arith
    go true true false d = omega arith
    go true true true false = omega arith
    go true true true true = omega arith

pub parse_number : (n : ℕ) (s : List ℕ) (at : ℕ) (p : Progress) (d : Description) → refusal_number (parse_from n s at p d).outcome ≤ 7
unfolding parse_from
parse_number zero s at p d = omega arith
parse_number (suc n) s at p d = taken (take_field s at) refl (parse_number n s)
  where
    checked : (f : Field) (next : ℕ) → take_field s at ≡ Whole f next → (c : Check) → check_field p f ≡ c → ((a : ℕ) (q : Progress) (x : Description) → refusal_number (parse_from n s a q x).outcome ≤ 7) → refusal_number (parse_from (suc n) s at p d).outcome ≤ 7
    checked f next t (Ok tt) q ih = rw (parse_fine n s at p d f next t q) (ih next (passed p f) (with_field d f))
    checked f next t (Unfit r) q ih = rw (parse_unfit n s at p d f next r t q) (rw q at (check_number_lem p f))

    taken : (t : Taken) → take_field s at ≡ t → ((a : ℕ) (q : Progress) (x : Description) → refusal_number (parse_from n s a q x).outcome ≤ 7) → refusal_number (parse_from (suc n) s at p d).outcome ≤ 7
    taken (Whole f next) t ih = checked f next t (check_field p f) refl ih
    taken (Broken r) t ih = rw (parse_broken n s at p d r t) (rw t at (taken_number_lem s at))
    taken End t ih = rw (parse_end n s at p d t) (omega arith)

-- "after the last field come 8, 9, 10"
last_number : (d : Description) → refusal_number (last_checks d) ≤ 10
unfolding last_checks
last_number d = go (eqb d.task_count 0) (cyclic (system d)) (too_heavy (system d))
  where
    go : (a b c : Bool) → refusal_number (cond a (Refused NoTask 0) (cond b (Refused Loop 0) (cond c (Refused TooHeavy 0) Done))) ≤ 10
    go true b c = omega arith
    go false true c = omega arith
    go false false true = omega arith
    go false false false = omega arith

pub read_number : (s : List ℕ) → refusal_number (read_file s).outcome ≤ 10
unfolding read_file parse_file
read_number s = go (parse_file s).outcome refl
  where
    last : (o : Outcome) (d : Description) → refusal_number o ≤ 10 → refusal_number (on_done o (record { outcome = Done; description = d }) refused_reading).outcome ≤ 10
    last (Ok tt) d h = h
    last (Err x) d h = h

    go : (o : Outcome) → (parse_file s).outcome ≡ o → refusal_number (on_done (parse_file s).outcome (finished (parse_file s).description) refused_reading).outcome ≤ 10
    go (Ok tt) e = rw e (last (last_checks (parse_file s).description) (parse_file s).description (last_number (parse_file s).description))
    go (Err x) e =
        let b : refusal_number (parse_file s).outcome ≤ 7 = parse_number (suc (length s)) s 0 _ _ in
        rw e (omega (arith, rw e at b))

pub judge_number : (d : Description) → refusal_number (judge d) ≤ 10
unfolding judge
judge_number d = go (overfull d)
  where
    go : (b : Bool) → refusal_number (cond b (Refused TooMany 0) (read_file (file_of d)).outcome) ≤ 10
    go true = omega arith
    go false = read_number (file_of d)
