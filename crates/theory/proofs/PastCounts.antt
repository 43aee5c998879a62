-- "Entries past a count are not looked at": two records that agree below their counts get the same answers. Assumes nothing.
use Rattle.std.specs.Prelude.{Ok, Err}
use Prim.Native.Nat.{ℕ, ◌+◌, ◌-◌, ◌<◌}
use mathlib.Core.Path.{◌≡◌, refl, sym, ap, subst, ◌∙◌, fun_ext}
use mathlib.Core.Bool.{◌||◌}
use mathlib.Core.List.{List}
use native.Mathlib.Omega.{arith}
use lib.Dec.{ltb}
use Rattle.model.specs.declared.SourceSlot.{SourceSlot}
use Rattle.model.specs.declared.Description.{Description}
use Rattle.model.specs.declared.Field.TheVariants.{OfTask, OfSource, OfLink}
use Rattle.model.specs.declared.Refusal.{Refusal}
use Rattle.model.specs.declared.Policy.{Policy}
use Rattle.model.specs.Refusals.{Outcome, Done, Refused, no_link, no_source, on_done}
use Rattle.model.specs.Basics.{joined}
use Rattle.model.specs.Graph.{system, run_of}
use Rattle.model.specs.Loads.{sheet}
use Rattle.model.specs.Field.{field_bytes, field_of, field_count}
use Rattle.model.specs.File.{SameTo, trimmed, file_of, overfull, judge, written, page_after, load_sheet}
use Rattle.model.specs.Delays.{spacing, spacing_of}
use Rattle.model.specs.Verdicts.{judge_at, verdicts, tempos, largest_below, quote_of}
use Rattle.lemmas.proofs.Table.{joined_cong}
use Rattle.theory.specs.Structure.{SameStructure, SameSpacings}
use Rattle.theory.proofs.WellFormed.{WellFormed, Shaped}
use Rattle.theory.proofs.Fielded.{shaped}
use Rattle.theory.proofs.JudgeLaws.{system_same}
use Rattle.theory.proofs.RecordLaws.{Widths, field_task, field_source, field_link, by_place}
use Rattle.theory.proofs.RecordState.{get_d_filled, copy_links}
use Rattle.theory.proofs.FileLaws.{judge_well_formed, at_known}
use Rattle.theory.proofs.ReadBack.{copy_trimmed}
use Rattle.theory.proofs.BySpacings.{held_same, slots_same}

-- two answers after the same outcome
pub done_same : {A : Type 0} (o p : Outcome) (x y : A) (f : Refusal → ℕ → A) → o ≡ p → (o ≡ Done → x ≡ y) → on_done o x f ≡ on_done p y f
done_same (Ok tt) p x y f e g = rw (← e) (g refl)
done_same (Err z) p x y f e g = rw (← e) refl

module _ (d e : Description) (s : SameTo d e) where
  -- the file
  same_field : (k : ℕ) → k < field_count d → field_of d k ≡ field_of e k
  same_field = by_place d (λ k. field_of d k ≡ field_of e k) task source link
    where
      task : (k : ℕ) → k < d.task_count → field_of d k ≡ field_of e k
      task k h = field_task d k h ∙ ap OfTask (s.run k h) ∙ sym (field_task e k (omega (arith, s.tasks)))

      source : (i : ℕ) → i < d.source_count → field_of d (d.task_count + i) ≡ field_of e (d.task_count + i)
      source i h =
          field_source d i h
          ∙ ap (λ (x : SourceSlot). OfSource x.source) (s.source i h)
          ∙ sym (ap (λ n. field_of e (n + i)) s.tasks ∙ field_source e i (omega (arith, s.sources)))

      link : (l : ℕ) → l < d.link_count → field_of d (d.task_count + d.source_count + l) ≡ field_of e (d.task_count + d.source_count + l)
      link l h =
          let n : d.task_count + d.source_count + l ≡ e.task_count + e.source_count + l = omega (arith, s.tasks, s.sources) in
          field_link d l ∙ ap OfLink (s.link l h) ∙ sym (ap (field_of e) n ∙ field_link e l)

  pub same_file : file_of d ≡ file_of e
  unfolding file_of
  same_file =
      let n : field_count d ≡ field_count e = omega (arith, s.tasks, s.sources, s.links) in
      joined_cong (field_count d) _ _ (λ k h. ap field_bytes (same_field k h)) ∙ ap (λ m. joined m (λ k. field_bytes (field_of e k))) n

  -- its judging
  same_overfull : overfull d ≡ overfull e
  unfolding overfull
  same_overfull = λ i. ltb 32 (s.tasks i) || (ltb 16 (s.sources i) || ltb 256 (s.links i))

  pub same_judge : judge d ≡ judge e
  unfolding judge
  same_judge = rw (same_overfull, same_file)

  pub same_written : (buffer : List ℕ) → written d buffer ≡ written e buffer
  unfolding written
  same_written buffer = rw (same_judge, same_file)

  pub same_page : (buffer : List ℕ) → page_after d buffer ≡ page_after e buffer
  unfolding page_after
  same_page buffer = rw (same_judge, same_file)

  pub same_knob : (t : ℕ) → judge_at d t ≡ judge_at e t
  unfolding judge_at
  same_knob t = rw same_judge

  -- what an accepted record means: its structure and its spacings
  pub same_structure : SameStructure d e
  same_structure = record { tasks = s.tasks; links = s.links; run = s.run; link = s.link }

  pub same_run : (k : ℕ) → k - 1 < d.task_count → run_of d k ≡ run_of e k
  same_run k h = s.run (k - 1) h

  pub same_spacing : (t u : ℕ) → u - 33 < d.source_count → spacing_of d t u ≡ spacing_of e t u
  unfolding spacing_of
  same_spacing t u h = ap (λ (x : SourceSlot). spacing x.source t) (s.source (u - 33) h)

  same_spacings : (t : ℕ) → SameSpacings d t e t
  same_spacings t u p q r = same_spacing t u (omega arith)

  -- the answers of the calls
  module _ (w : Widths d) where
    known : judge d ≡ Done → WellFormed d
    known = judge_well_formed d w

    same_system : WellFormed d → system d ≡ system e
    same_system k = system_same d e s.tasks s.sources s.links (omega (arith, s.tasks, k.some_task)) (λ i p. s.run i (omega (arith, s.tasks))) (λ l p. s.link l (omega (arith, s.links)))

    same_shape : WellFormed d → Shaped (system e)
    same_shape k = subst Shaped (same_system k) (shaped d k)

    pub same_sheet : load_sheet d ≡ load_sheet e
    unfolding load_sheet
    same_sheet = done_same (judge d) (judge e) _ _ _ same_judge (λ j. ap (λ x. record { outcome = Done; rows = sheet x }) (same_system (known j)))

    pub same_quote : (pol : Policy) → quote_of pol d ≡ quote_of pol e
    unfolding quote_of
    same_quote pol = done_same (judge d) (judge e) _ _ _ same_judge (λ j. ap (λ f. largest_below f tempos) (fun_ext (λ t. held_same d e same_structure (known j) (same_shape (known j)) t t (same_spacings t) pol)))

    pub same_verdicts : (pol : Policy) (t : ℕ) → verdicts pol d t ≡ verdicts pol e t
    unfolding verdicts
    same_verdicts pol t =
        done_same (judge_at d t) (judge_at e t) _ _ _ (same_knob t)
        (λ j. ap (λ x. record { outcome = Done; slots = x }) (slots_same d e same_structure (at_known d t w j).0 (same_shape (at_known d t w j).0) t t (same_spacings t) pol))

-- the record that is read back from a description's file agrees with it below its counts, and so gets the same answers
pub trimmed_same : (d : Description) → WellFormed d → SameTo d (trimmed d)
trimmed_same d w = subst (SameTo d) (sym (copy_links d d.link_count) ∙ copy_trimmed d w) (record {
  tasks = refl;
  sources = refl;
  links = refl;
  run = λ k h. sym (get_d_filled 32 d.runs d.task_count 0 k h w.fields.few_tasks);
  source = λ k h. sym (get_d_filled 16 d.sources d.source_count no_source k h w.fields.few_sources);
  link = λ l h. sym (get_d_filled 256 d.links d.link_count no_link l h w.fields.few_links);
})
