-- The description file: judging, reading and writing are one. The main theorems about the definitions of Field and File. Assumes nothing.
use Rattle.std.specs.Prelude.{Ok, Err}
use Prim.Native.Nat.{ℕ, suc, ◌+◌, ◌-◌, ◌≤◌, ◌<◌}
use mathlib.Core.Path.{◌≡◌, refl, sym, ap, ◌∙◌}
use mathlib.Core.Bool.{Bool, true, false, cond, ◌||◌}
use mathlib.Core.Logic.{inl, inr}
use native.Mathlib.Omega.{arith}
use lib.Dec.{eqb, eqb-suc-zero}
use lib.ListN.{length, get_or}
use borrow.Author.Tests.{leb-true, eqb-false}
use Rattle.model.specs.declared.Description.{Description}
use Rattle.model.specs.declared.Field.TheVariants.{OfTask, OfSource, OfLink}
use Rattle.model.specs.declared.Refusal.TheVariants.{TooMany, NoTask, Loop, TooHeavy, OffKnob}
use Rattle.model.specs.Refusals.{Outcome, Done, Refused, no_source, on_done}
use Rattle.model.specs.declared.Reading.{Reading}
use Rattle.model.specs.Graph.{System, system, link_at, run_of, cyclic}
use Rattle.model.specs.Loads.{too_heavy}
use Rattle.model.specs.Field.{field_of, field_count, is_task, is_source}
use Rattle.model.specs.File.{file_of, parse_file, last_checks, finished, read_file, overfull, judge}
use Rattle.model.specs.Verdicts.{judge_at, on_knob}
use Rattle.lemmas.proofs.Outcomes.{refused_not}
use Rattle.lemmas.proofs.Tests.{or_new, or_cases, and_left, and_right, within}
use Rattle.theory.proofs.WellFormed.{WellFormed, rises}
use Rattle.theory.proofs.WellFormed.{Fielded}
use Rattle.theory.proofs.RecordLaws.{Widths, copy_at, progress_at, read_start, field_task, field_source, field_link}
use Rattle.theory.proofs.RecordState.{last_from, last_to, progress_tasks, progress_sources, progress_links, copy_links}
use Rattle.theory.proofs.JudgeLaws.{Passes, fine_passes, Checked, all_checked, LastPasses, last_passes, read_parsed, read_last, Few, few_counts, judge_few, judge_read, copy_system}

-- what is known of the fields of a description that is judged as done
pub record Judged (d : Description) : Type 0 where
  pub few : Few d
  pub passes : (k : ℕ) → k < field_count d → Passes (progress_at d k) (field_of d k)
  pub parsed : parse_file (file_of d) ≡ record { outcome = Done; description = copy_at d (field_count d) }
  pub last : LastPasses (copy_at d (field_count d))

pub judge_judged : (d : Description) → Widths d → judge d ≡ Done → Judged d
judge_judged d w e =
    let r = judge_read d e in
    let c : Checked d (suc (length (file_of d))) 0 = all_checked d w (suc (length (file_of d))) 0 (omega arith) (omega arith) (rw (read_start d) at (read_parsed (file_of d) r)) in
    let p : parse_file (file_of d) ≡ record { outcome = Done; description = copy_at d (field_count d) } = read_start d ∙ c.reads in
    record {
      few = few_counts d (judge_few d e);
      passes = λ k h. fine_passes (progress_at d k) (field_of d k) (c.fine k (omega arith) h);
      parsed = p;
      last = last_passes (copy_at d (field_count d)) (rw p at (read_last (file_of d) r));
    }

judged_some : (d : Description) → Judged d → 1 ≤ d.task_count
judged_some d j = rw (copy_links d d.link_count) at j.last.some

is_task_lem : (n i : ℕ) → is_task n i ≡ true → (1 ≤ i) × (i ≤ n)
is_task_lem n i e = within 1 i n e

is_source_lem : (n i : ℕ) → is_source n i ≡ true → (33 ≤ i) × (i < 33 + n)
is_source_lem n i e =
    let w = within 33 i (32 + n) e in
    (w.0, omega (arith, w.1))

-- the counts are within their limits, and every field passes its check
pub record FieldsPass (d : Description) : Type 0 where
  pub few : Few d
  pub passes : (k : ℕ) → k < field_count d → Passes (progress_at d k) (field_of d k)

module _ (d : Description) (j : FieldsPass d) where
  task_passes : (k : ℕ) → k < d.task_count → Passes (record { tasks = k; sources = 0; links = 0; from = 0; to = 0 }) (OfTask (get_or d.runs k 0))
  task_passes k h = rw (progress_tasks d k (omega arith), field_task d k h) at (j.passes k (omega arith))

  source_passes : (i : ℕ) → i < d.source_count → Passes (record { tasks = d.task_count; sources = i; links = 0; from = 0; to = 0 }) (OfSource (get_or d.sources i no_source).source)
  source_passes i h = rw (progress_sources d i (omega arith), field_source d i h) at (j.passes (d.task_count + i) (omega arith))

  link_passes : (l : ℕ) → l < d.link_count → Passes (record { tasks = d.task_count; sources = d.source_count; links = l; from = last_from d l; to = last_to d l }) (OfLink (link_at d l))
  link_passes l h = rw (progress_links d l, field_link d l) at (j.passes (d.task_count + d.source_count + l) (omega arith))

  pub pass_fielded : Fielded d
  unfolding system
  pass_fielded = record {
    few_tasks = j.few.tasks;
    few_sources = j.few.sources;
    few_links = j.few.links;
    run_some = λ k p q. (within 1 (run_of d k) 10000000 (task_passes (k - 1) (omega arith)).scale).0;
    run_most = λ k p q. (within 1 (run_of d k) 10000000 (task_passes (k - 1) (omega arith)).scale).1;
    source_scale = λ u p q. (source_passes (u - 33) (omega arith)).scale;
    link_from = λ l h.
        let t = (link_at d l).from in
        or_cases (is_task d.task_count t) (is_source d.source_count t) (and_left _ _ (link_passes l h).ends)
        (λ e. inl (is_task_lem d.task_count t e)) (λ e. inr (is_source_lem d.source_count t e));
    link_to = λ l h. is_task_lem d.task_count (link_at d l).to (and_right (is_task d.task_count (link_at d l).from || is_source d.source_count (link_at d l).from) _ (link_passes l h).ends);
    link_critical = λ l h. leb-true (link_at d l).critical 1 (link_passes l h).scale;
    link_rises = λ l h. or_new (eqb (suc l) 0) (rises (link_at d l) (link_at d (suc l))) (eqb-suc-zero l) (link_passes (suc l) h).turn;
  }

judged_well_formed : (d : Description) → Judged d → WellFormed d
judged_well_formed d j =
    record {
      fields = pass_fielded d (record { few = j.few; passes = j.passes });
      some_task = judged_some d j;
      no_cycle = rw (copy_system d j.few (judged_some d j)) at j.last.no_loop;
      not_heavy = rw (copy_system d j.few (judged_some d j)) at j.last.light;
    }

-- a record whose counts and fields are accepted has good fields
pub record_fielded : (d : Description) → Widths d → overfull d ≡ false → (parse_file (file_of d)).outcome ≡ Done → Fielded d
record_fielded d w o e =
    let c : Checked d (suc (length (file_of d))) 0 = all_checked d w (suc (length (file_of d))) 0 (omega arith) (omega arith) (rw (read_start d) at e) in
    pass_fielded d (record { few = few_counts d o; passes = λ k h. fine_passes (progress_at d k) (field_of d k) (c.fine k (omega arith) h) })

-- a description that is judged as done is well formed
pub judge_well_formed : (d : Description) → Widths d → judge d ≡ Done → WellFormed d
judge_well_formed d w e = judged_well_formed d (judge_judged d w e)

-- the last checks look at no entry past a count
abbrev last_of : ℕ → System → Outcome
last_of n s =
    cond (eqb n 0) (Refused NoTask 0) (cond (cyclic s) (Refused Loop 0) (cond (too_heavy s) (Refused TooHeavy 0) Done))

last_is : (d : Description) → last_checks d ≡ last_of d.task_count (system d)
unfolding last_checks
last_is d = refl

last_none : (n : ℕ) (s t : System) → eqb n 0 ≡ true → last_of n s ≡ last_of n t
last_none n s t e = rw e

pub last_copy : (d : Description) → Few d → last_checks (copy_at d (field_count d)) ≡ last_checks d
last_copy d few = last_is (copy_at d (field_count d)) ∙ ap (λ (n : ℕ). last_of n (system (copy_at d (field_count d)))) count ∙ go (eqb d.task_count 0) refl ∙ sym (last_is d)
  where
    count : (copy_at d (field_count d)).task_count ≡ d.task_count
    count = ap (λ (x : Description). x.task_count) (copy_links d d.link_count)

    go : (b : Bool) → eqb d.task_count 0 ≡ b → last_of d.task_count (system (copy_at d (field_count d))) ≡ last_of d.task_count (system d)
    go true q = last_none d.task_count (system (copy_at d (field_count d))) (system d) q
    go false q =
        ap (λ (s : System). last_of d.task_count s) (copy_system d few (omega (arith, eqb-false d.task_count 0 q)))

finished_outcome : (d : Description) → (finished d).outcome ≡ last_checks d
finished_outcome d = go (last_checks d) refl
  where
    go : (o : Outcome) → last_checks d ≡ o → (finished d).outcome ≡ last_checks d
    go (Ok tt) q = rw q
    go (Err x) q = rw q

-- a file of a description whose fields are all taken and checked gives their copy
pub parsed_copy : (d : Description) → Widths d → (parse_file (file_of d)).outcome ≡ Done → parse_file (file_of d) ≡ record { outcome = Done; description = copy_at d (field_count d) }
parsed_copy d w e =
    read_start d ∙ (all_checked d w (suc (length (file_of d))) 0 (omega arith) (omega arith) (rw (read_start d) at e)).reads

-- the judging of a record in two steps: its counts and fields, then the checks after the last field, on the record itself
pub judge_steps : (d : Description) → Widths d → judge d ≡ on_done (cond (overfull d) (Refused TooMany 0) (parse_file (file_of d)).outcome) (last_checks d) Refused
unfolding judge read_file
judge_steps d w = go (overfull d) refl (parse_file (file_of d)).outcome refl
  where
    go : (b : Bool) → overfull d ≡ b → (o : Outcome) → (parse_file (file_of d)).outcome ≡ o → judge d ≡ on_done (cond (overfull d) (Refused TooMany 0) (parse_file (file_of d)).outcome) (last_checks d) Refused
    go true q o r = rw q
    go false q (Err y) r = rw (q, r)
    go false q Done r =
        rw (q, r)
        (finished_outcome (parse_file (file_of d)).description
        ∙ ap (λ (x : Reading). last_checks x.description) (parsed_copy d w r)
        ∙ last_copy d (few_counts d q))

-- what is judged as done at a tempo is accepted, and the tempo is on the knob
pub knob_known : (d : Description) (t : ℕ) → judge_at d t ≡ Done → (judge d ≡ Done) × (200 ≤ t) × (t ≤ 3000)
unfolding judge_at
knob_known d t = go (judge d) refl (on_knob t) refl
  where
    go : (o : Outcome) → judge d ≡ o → (b : Bool) → on_knob t ≡ b → on_done o (cond b (let x : Outcome = Done in x) (Refused OffKnob 0)) Refused ≡ Done → (judge d ≡ Done) × (200 ≤ t) × (t ≤ 3000)
    go (Ok tt) e true k f = let z = within 200 t 3000 k in (e, z.0, z.1)
    go (Ok tt) e false k f = refused_not f
    go (Err x) e b k f = refused_not f

pub at_known : (d : Description) (t : ℕ) → Widths d → judge_at d t ≡ Done → WellFormed d × (200 ≤ t) × (t ≤ 3000)
at_known d t w f = let k = knob_known d t f in (judge_well_formed d w k.0, k.1, k.2)
