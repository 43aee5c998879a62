-- A description that is judged as done is well formed. Assumes nothing.
use Rattle.std.specs.Prelude.{Ok, Err}
use Prim.Native.Nat.{ℕ, zero, suc, ◌+◌, ◌-◌, ◌≤◌, ◌<◌}
use mathlib.Core.Path.{◌≡◌, refl, ◌∙◌, fun_ext}
use mathlib.Core.Bool.{Bool, true, false, cond, ◌||◌, ◌&&◌}
use mathlib.Core.List.{List}
use native.Mathlib.Omega.{arith}
use lib.Dec.{leb, ltb, eqb}
use lib.ListN.{length, get_or}
use borrow.Author.Tests.{ltb-false, leb-true, eqb-false}
use Rattle.model.specs.declared.Description.{Description}
use Rattle.model.specs.declared.Field.{Field}
use Rattle.model.specs.declared.Progress.{Progress}
use Rattle.model.specs.declared.Refusal.{Refusal}
use Rattle.model.specs.Field.{Check, Fine, Unfit, check_field, in_turn, has_room, on_scale, has_ends, field_of, field_count}
use Rattle.model.specs.Refusals.{Outcome, Done, Refused, no_link, no_source}
use Rattle.model.specs.Graph.{system, linked, link_at, run_of, cyclic}
use Rattle.model.specs.Loads.{too_heavy}
use Rattle.model.specs.File.{file_of, parse_file, last_checks, finished, read_file, overfull, judge}
use Rattle.lemmas.proofs.Tests.{Cmp, less, same, more, cmp, at_or_not, or_false_left, or_false_right}
use Rattle.lemmas.proofs.Range.{any_cong}
use Rattle.theory.proofs.FieldLaws.{length-field}
use Rattle.theory.proofs.RecordLaws.{Widths, offset, offset_more, progress_at, copy_at, read_at, read_fine, read_unfit, read_end}
use Rattle.theory.proofs.RecordState.{filled, get_d_filled, copy_links}
use Rattle.lemmas.proofs.Outcomes.{refused_not}

-- a field that may stand where it does passed each check
pub record Passes (p : Progress) (f : Field) : Type 0 where
  pub turn : in_turn p f ≡ true
  pub room : has_room p f ≡ true
  pub scale : on_scale f ≡ true
  pub ends : has_ends p f ≡ true

unfit_not : {A : Type 0} {r : Refusal} → Unfit r ≡ Fine → A
unfit_not q = let z : ◌≡◌ {A = ℕ} 0 1 = cc in absurd (omega arith)

pub fine_passes : (p : Progress) (f : Field) → check_field p f ≡ Fine → Passes p f
unfolding check_field
fine_passes p f e = go (in_turn p f) refl (has_room p f) refl (on_scale f) refl (has_ends p f) refl
  where
    go : (a : Bool) → in_turn p f ≡ a → (b : Bool) → has_room p f ≡ b → (c : Bool) → on_scale f ≡ c → (d : Bool) → has_ends p f ≡ d → Passes p f
    go true q true r true s true t = record { turn = q; room = r; scale = s; ends = t }
    go false q b r c s d t = unfit_not (rw q at e)
    go true q false r c s d t = unfit_not (rw (q, r) at e)
    go true q true r false s d t = unfit_not (rw (q, r, s) at e)
    go true q true r true s false t = unfit_not (rw (q, r, s, t) at e)

pub offset_le : (d : Description) (k m : ℕ) → k ≤ m → offset d k ≤ offset d m
offset_le d k zero h = let e : k ≡ 0 = omega arith in rw e (omega arith)
offset_le d k (suc m) h = go (cmp k (suc m)) (offset_le d k m)
  where
    go : Cmp k (suc m) → (k ≤ m → offset d k ≤ offset d m) → offset d k ≤ offset d (suc m)
    go (less r) ih = omega (arith, ih (omega arith), offset_more d m)
    go (same r) ih = rw r (omega arith)
    go (more r) ih = absurd (omega arith)

-- a reading of a description's own file that is done has checked each field, and gives their copy
pub record Checked (d : Description) (n k : ℕ) : Type 0 where
  pub fine : (j : ℕ) → k ≤ j → j < field_count d → check_field (progress_at d j) (field_of d j) ≡ Fine
  pub reads : read_at d n k ≡ record { outcome = Done; description = copy_at d (field_count d) }

pub all_checked : (d : Description) → Widths d → (n k : ℕ) → k ≤ field_count d → length (file_of d) < offset d k + n → (read_at d n k).outcome ≡ Done → Checked d n k
unfolding file_of
all_checked d w zero k h l e = absurd (omega (arith, offset_le d k (field_count d) h))
all_checked d w (suc n) k h l e = go (cmp k (field_count d)) (all_checked d w n (suc k))
  where
    step : k < field_count d → (c : Check) → check_field (progress_at d k) (field_of d k) ≡ c → (suc k ≤ field_count d → length (file_of d) < offset d (suc k) + n → (read_at d n (suc k)).outcome ≡ Done → Checked d n (suc k)) → Checked d (suc n) k
    step r Fine q ih =
        let x : Checked d n (suc k) = ih r (omega (arith, offset_more d k, length-field (field_of d k))) (rw (read_fine d w n k r q) at e) in
        record {
          fine = λ j a b. at_or_not (λ i. check_field (progress_at d i) (field_of d i) ≡ Fine) k j q (λ z. x.fine j (omega arith) b);
          reads = read_fine d w n k r q ∙ x.reads;
        }
    step r (Unfit y) q ih = refused_not (rw (read_unfit d w n k y r q) at e)

    go : Cmp k (field_count d) → (suc k ≤ field_count d → length (file_of d) < offset d (suc k) + n → (read_at d n (suc k)).outcome ≡ Done → Checked d n (suc k)) → Checked d (suc n) k
    go (less r) ih = step r (check_field (progress_at d k) (field_of d k)) refl ih
    go (same r) ih = record {
      fine = λ j a b. absurd (omega arith);
      reads = rw r (read_end d n);
    }
    go (more r) ih = absurd (omega arith)

-- the checks after the last field
pub record LastPasses (d : Description) : Type 0 where
  pub some : 1 ≤ d.task_count
  pub no_loop : cyclic (system d) ≡ false
  pub light : too_heavy (system d) ≡ false

pub last_passes : (d : Description) → last_checks d ≡ Done → LastPasses d
unfolding last_checks
last_passes d e = go (eqb d.task_count 0) refl (cyclic (system d)) refl (too_heavy (system d)) refl
  where
    go : (a : Bool) → eqb d.task_count 0 ≡ a → (b : Bool) → cyclic (system d) ≡ b → (c : Bool) → too_heavy (system d) ≡ c → LastPasses d
    go false q false r false s =
        record { some = omega (arith, eqb-false d.task_count 0 q); no_loop = r; light = s }
    go true q b r c s = refused_not (rw q at e)
    go false q true r c s = refused_not (rw (q, r) at e)
    go false q false r true s = refused_not (rw (q, r, s) at e)

-- a reading that is done: its fields came out whole, and the last checks passed
pub read_parsed : (s : List ℕ) → (read_file s).outcome ≡ Done → (parse_file s).outcome ≡ Done
unfolding read_file
read_parsed s e = go (parse_file s).outcome refl
  where
    go : (o : Outcome) → (parse_file s).outcome ≡ o → (parse_file s).outcome ≡ Done
    go (Ok tt) q = q
    go (Err x) q = refused_not (rw q at e)

finished_last : (d : Description) → (finished d).outcome ≡ Done → last_checks d ≡ Done
finished_last d e = go (last_checks d) refl
  where
    go : (o : Outcome) → last_checks d ≡ o → last_checks d ≡ Done
    go (Ok tt) q = q
    go (Err x) q = refused_not (rw q at e)

pub read_last : (s : List ℕ) → (read_file s).outcome ≡ Done → last_checks (parse_file s).description ≡ Done
unfolding read_file
read_last s e = finished_last (parse_file s).description (rw (read_parsed s e) at e)

-- counts within their limits
pub record Few (d : Description) : Type 0 where
  pub tasks : d.task_count ≤ 32
  pub sources : d.source_count ≤ 16
  pub links : d.link_count ≤ 256

pub few_counts : (d : Description) → overfull d ≡ false → Few d
unfolding overfull
few_counts d e =
    let r = or_false_right (ltb 32 d.task_count) (ltb 16 d.source_count || ltb 256 d.link_count) e in
    record {
      tasks = ltb-false 32 d.task_count (or_false_left (ltb 32 d.task_count) _ e);
      sources = ltb-false 16 d.source_count (or_false_left (ltb 16 d.source_count) _ r);
      links = ltb-false 256 d.link_count (or_false_right (ltb 16 d.source_count) _ r);
    }

pub judge_few : (d : Description) → judge d ≡ Done → overfull d ≡ false
unfolding judge
judge_few d e = go (overfull d) refl
  where
    go : (b : Bool) → overfull d ≡ b → overfull d ≡ false
    go true q = refused_not (rw q at e)
    go false q = q

pub judge_read : (d : Description) → judge d ≡ Done → (read_file (file_of d)).outcome ≡ Done
unfolding judge
judge_read d e = rw (judge_few d e) at e

-- the graph looks at no entry past a count
pub system_same : (a b : Description) → a.task_count ≡ b.task_count → a.source_count ≡ b.source_count → a.link_count ≡ b.link_count → 1 ≤ b.task_count → ((k : ℕ) → k < b.task_count → get_or a.runs k 0 ≡ get_or b.runs k 0) → ((l : ℕ) → l < b.link_count → link_at a l ≡ link_at b l) → system a ≡ system b
unfolding system linked
system_same a b p q r some f g =
    λ i.
    record {
      tasks = p i;
      sources = q i;
      run = fun_ext {f = λ j. cond (leb j a.task_count) (run_of a j) 0} {g = λ j. cond (leb j b.task_count) (run_of b j) 0} same_run i;
      link = fun_ext {f = linked a} {g = linked b} (λ x. fun_ext {f = linked a x} {g = linked b x} (same_link x)) i;
    }
  where
    at_most : (j : ℕ) (t : Bool) → leb j b.task_count ≡ t → cond t (run_of a j) 0 ≡ cond t (run_of b j) 0
    at_most j true e = f (j - 1) (omega (arith, leb-true j b.task_count e))
    at_most j false e = refl

    same_run : (j : ℕ) → cond (leb j a.task_count) (run_of a j) 0 ≡ cond (leb j b.task_count) (run_of b j) 0
    same_run j = rw p (at_most j (leb j b.task_count) refl)

    same_link : (x y : ℕ) → linked a x y ≡ linked b x y
    same_link x y =
        rw r
        (any_cong
        (λ l. eqb (link_at a l).from x && eqb (link_at a l).to y)
        (λ l. eqb (link_at b l).from x && eqb (link_at b l).to y)
        0
        b.link_count
        (λ l m n. rw (g l (omega arith))))

pub copy_system : (d : Description) → Few d → 1 ≤ d.task_count → system (copy_at d (field_count d)) ≡ system d
copy_system d few some = rw (copy_links d d.link_count)
    (system_same (record {
      task_count = d.task_count;
      runs = filled 32 d.runs d.task_count 0;
      source_count = d.source_count;
      sources = filled 16 d.sources d.source_count no_source;
      link_count = d.link_count;
      links = filled 256 d.links d.link_count no_link;
    }) d refl refl refl some
    (λ k h. get_d_filled 32 d.runs d.task_count 0 k h few.tasks)
    (λ l h. get_d_filled 256 d.links d.link_count no_link l h few.links))
