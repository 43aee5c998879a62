-- A description is judged as done exactly if it is well formed. Assumes nothing.
use Prim.Native.Nat.{ℕ, zero, suc, ◌+◌, ◌-◌, ◌≤◌, ◌<◌}
use mathlib.Core.Path.{◌≡◌, refl, subst, ◌∙◌}
use mathlib.Core.Bool.{true, ◌||◌}
use mathlib.Core.Logic.{◌⊎◌, inl, inr, ◌↔◌}
use native.Mathlib.Omega.{arith}
use lib.Dec.{leb, eqb}
use lib.ListN.{length, get_or}
use borrow.Author.Tests.{le-leb, lt-ltb, ne_eqb}
use Rattle.model.specs.declared.Description.{Description}
use Rattle.model.specs.declared.Field.{Field}
use Rattle.model.specs.declared.Field.TheVariants.{OfTask, OfSource, OfLink}
use Rattle.model.specs.declared.Progress.{Progress}
use Rattle.model.specs.Field.{Fine, in_turn, on_scale, is_task, is_source, check_field, field_of, field_count}
use Rattle.model.specs.Refusals.{Done, no_source}
use Rattle.model.specs.Graph.{system, link_at}
use Rattle.model.specs.File.{file_of, parse_file, last_checks, judge}
use Rattle.lemmas.proofs.Tests.{Cmp, less, same, more, cmp, or_left, or_right, both}
use Rattle.theory.proofs.WellFormed.{WellFormed, Fielded, IsTask, IsSource, rises}
use Rattle.theory.proofs.FieldLaws.{length-field}
use Rattle.theory.proofs.RecordLaws.{Widths, offset, offset_more, progress_at, copy_at, read_at, read_start, read_fine, read_end, by_place, field_task, field_source, field_link}
use Rattle.theory.proofs.RecordState.{last_from, last_to, progress_tasks, progress_sources, progress_links}
use Rattle.theory.proofs.JudgeLaws.{Passes, offset_le}
use Rattle.theory.proofs.FileLaws.{judge_steps, judge_well_formed}
use Rattle.theory.proofs.ReadBack.{few_not_over}

passes_fine : (p : Progress) (f : Field) → Passes p f → check_field p f ≡ Fine
unfolding check_field
passes_fine p f w = rw (w.turn, w.room, w.scale, w.ends)

-- a reading of a description's own file whose fields may all stand where they do takes them all
all_fine : (d : Description) → Widths d → ((k : ℕ) → k < field_count d → check_field (progress_at d k) (field_of d k) ≡ Fine) → (n k : ℕ) → k ≤ field_count d → length (file_of d) < offset d k + n → read_at d n k ≡ record { outcome = Done; description = copy_at d (field_count d) }
unfolding file_of
all_fine d w f zero k h l = absurd (omega (arith, offset_le d k (field_count d) h))
all_fine d w f (suc n) k h l = go (cmp k (field_count d)) (all_fine d w f n (suc k))
  where
    go : Cmp k (field_count d) → (suc k ≤ field_count d → length (file_of d) < offset d (suc k) + n → read_at d n (suc k) ≡ record { outcome = Done; description = copy_at d (field_count d) }) → read_at d (suc n) k ≡ record { outcome = Done; description = copy_at d (field_count d) }
    go (less r) ih = read_fine d w n k r (f k r) ∙ ih r (omega (arith, offset_more d k, length-field (field_of d k)))
    go (same r) ih = rw r (read_end d n)
    go (more r) ih = absurd (omega arith)

task_is : (n i : ℕ) → 1 ≤ i → i ≤ n → is_task n i ≡ true
task_is n i a b = both (leb 1 i) (leb i n) (le-leb 1 i a) (le-leb i n b)

source_is : (n i : ℕ) → 33 ≤ i → i < 33 + n → is_source n i ≡ true
source_is n i a b = both (leb 33 i) (leb i (32 + n)) (le-leb 33 i a) (le-leb i (32 + n) (omega arith))

module _ (d : Description) (w : Fielded d) where
  task_passes : (k : ℕ) → k < d.task_count → Passes (record { tasks = k; sources = 0; links = 0; from = 0; to = 0 }) (OfTask (get_or d.runs k 0))
  task_passes k h =
      let i : suc k - 1 ≡ k = omega arith in
      record {
        turn = refl;
        room = lt-ltb k 32 (omega (arith, w.few_tasks));
        scale = both (leb 1 (get_or d.runs k 0)) _ (le-leb 1 (get_or d.runs k 0) (rw i at (w.run_some (suc k) (omega arith) h))) (le-leb (get_or d.runs k 0) 10000000 (rw i at (w.run_most (suc k) (omega arith) h)));
        ends = refl;
      }

  source_passes : (i : ℕ) → i < d.source_count → Passes (record { tasks = d.task_count; sources = i; links = 0; from = 0; to = 0 }) (OfSource (get_or d.sources i no_source).source)
  source_passes i h =
      let e : 33 + i - 33 ≡ i = omega arith in
      record {
        turn = refl;
        room = lt-ltb i 16 (omega (arith, w.few_sources));
        scale = subst (λ (k : ℕ). on_scale (OfSource (get_or d.sources k no_source).source) ≡ true) e (w.source_scale (33 + i) (omega arith) (omega arith));
        ends = refl;
      }

  link_passes : (l : ℕ) → l < d.link_count → Passes (record { tasks = d.task_count; sources = d.source_count; links = l; from = last_from d l; to = last_to d l }) (OfLink (link_at d l))
  unfolding system
  link_passes l h = record {
    turn = turn l h;
    room = lt-ltb l 256 (omega (arith, w.few_links));
    scale = le-leb (link_at d l).critical 1 (w.link_critical l h);
    ends = both (is_task d.task_count (link_at d l).from || is_source d.source_count (link_at d l).from) _ (node (w.link_from l h)) (task_is d.task_count (link_at d l).to (w.link_to l h).0 (w.link_to l h).1);
  }
    where
      turn : (l : ℕ) → l < d.link_count → in_turn (record { tasks = d.task_count; sources = d.source_count; links = l; from = last_from d l; to = last_to d l }) (OfLink (link_at d l)) ≡ true
      turn zero p = refl
      turn (suc k) p = or_right (eqb (suc k) 0) (rises (link_at d k) (link_at d (suc k))) (w.link_rises k p)

      node : IsTask (system d) (link_at d l).from ⊎ IsSource (system d) (link_at d l).from → (is_task d.task_count (link_at d l).from || is_source d.source_count (link_at d l).from) ≡ true
      node (inl x) = or_left (is_task d.task_count (link_at d l).from) _ (task_is d.task_count (link_at d l).from x.0 x.1)
      node (inr x) = or_right (is_task d.task_count (link_at d l).from) _ (source_is d.source_count (link_at d l).from x.0 x.1)

  fields_fine : (k : ℕ) → k < field_count d → check_field (progress_at d k) (field_of d k) ≡ Fine
  fields_fine = by_place d (λ k. check_field (progress_at d k) (field_of d k) ≡ Fine)
      (λ k h. rw (progress_tasks d k (omega arith), field_task d k h) (passes_fine _ _ (task_passes k h)))
      (λ i h. rw (progress_sources d i (omega arith), field_source d i h) (passes_fine _ _ (source_passes i h)))
      (λ l h. rw (progress_links d l, field_link d l) (passes_fine _ _ (link_passes l h)))

  pub fielded_parsed : Widths d → parse_file (file_of d) ≡ record { outcome = Done; description = copy_at d (field_count d) }
  fielded_parsed b = read_start d ∙ all_fine d b fields_fine (suc (length (file_of d))) 0 (omega arith) (omega arith)

last_done : (d : Description) → WellFormed d → last_checks d ≡ Done
unfolding last_checks
last_done d w = rw (ne_eqb d.task_count 0 (λ e. omega (arith, w.some_task)), w.no_cycle, w.not_heavy)

pub well_formed_judge : (d : Description) → Widths d → WellFormed d → judge d ≡ Done
well_formed_judge d b w =
    judge_steps d b
    ∙ rw (few_not_over d (record { tasks = w.fields.few_tasks; sources = w.fields.few_sources; links = w.fields.few_links }), fielded_parsed d w.fields b)
    (last_done d w)

pub judge_exactly : (d : Description) → Widths d → (judge d ≡ Done) ↔ WellFormed d
judge_exactly d b = (judge_well_formed d b, well_formed_judge d b)
