-- What a reading has taken so far is the file of what it holds, whatever the bytes were. Assumes nothing.
use Prim.Native.Nat.{ℕ, zero, suc, ◌+◌, ◌^◌, ◌≤◌, ◌<◌}
use mathlib.Core.Path.{◌≡◌, refl, sym, ap, ◌∙◌}
use mathlib.Core.List.{List, ◌++◌}
use native.Mathlib.Omega.{arith}
use lib.Dec.{eqb}
use lib.ListN.{length, get_or, take, set, length-set}
use lib.Seq.{get_or-set_same, get_or-set_other, take_all}
use borrow.Author.Tests.{ltb-true, eqb-true}
use Rattle.model.specs.declared.Source.{Source}
use Rattle.model.specs.declared.Link.{Link}
use Rattle.model.specs.declared.Description.{Description}
use Rattle.model.specs.declared.Field.{Field}
use Rattle.model.specs.declared.Field.TheVariants.{OfTask, OfSource, OfLink}
use Rattle.model.specs.declared.Progress.{Progress}
use Rattle.model.specs.Field.{Taken, Whole, Broken, End, Check, Fine, Unfit, field_bytes, take_field, check_field, with_field, passed, no_progress, field_of, field_count}
use Rattle.model.specs.Refusals.{Done, no_link, no_source, blank}
use Rattle.model.specs.Basics.{joined}
use Rattle.model.specs.File.{file_of, parse_from}
use Rattle.lemmas.proofs.Tests.{at_or_not, and_left, and_right}
use Rattle.theory.proofs.NumberBytes.{Bytes}
use Rattle.theory.proofs.FieldLaws.{SourceFits, FieldFits, Took, take-took, take-end, took_fits, took_bytes, took_inside}
use Rattle.theory.proofs.RecordLaws.{Widths, parse_fine, parse_unfit, parse_broken, parse_end, field_task, field_source, field_link, by_place}
use Rattle.theory.proofs.JudgeLaws.{Passes, fine_passes, Few}
use Rattle.lemmas.proofs.Outcomes.{refused_not}

pub joined_cong : {A : Type 0} (n : ℕ) (f g : ℕ → List A) → ((k : ℕ) → k < n → f k ≡ g k) → joined n f ≡ joined n g
unfolding joined
joined_cong zero f g h = refl
joined_cong (suc n) f g h = rw (joined_cong n f g (λ k p. h k (omega arith)), h n (omega arith))

-- a description with one field more has that field's bytes more
file_more : (d e : Description) (f : Field) → field_count e ≡ suc (field_count d) → ((k : ℕ) → k < field_count d → field_of e k ≡ field_of d k) → field_of e (field_count d) ≡ f → file_of e ≡ file_of d ++ field_bytes f
unfolding file_of joined
file_more d e f n h x =
    rw (n, joined, joined_cong (field_count d) (λ k. field_bytes (field_of e k)) (λ k. field_bytes (field_of d k)) (λ k p. ap field_bytes (h k p)), x)

-- a record whose arrays have their lengths
pub record Sized (d : Description) : Type 0 where
  pub runs : length d.runs ≡ 32
  pub sources : length d.sources ≡ 16
  pub links : length d.links ≡ 256

pub sized_more : (d : Description) (f : Field) → Sized d → Sized (with_field d f)
sized_more d (OfTask e) z = record { runs = length-set d.runs d.task_count e ∙ z.runs; sources = z.sources; links = z.links }
sized_more d (OfSource s) z = record { runs = z.runs; sources = length-set d.sources d.source_count (record { source = s }) ∙ z.sources; links = z.links }
sized_more d (OfLink l) z = record { runs = z.runs; sources = z.sources; links = length-set d.links d.link_count l ∙ z.links }

-- the progress of a description's counts
pub record Counts (p : Progress) (d : Description) : Type 0 where
  pub tasks : p.tasks ≡ d.task_count
  pub sources : p.sources ≡ d.source_count
  pub links : p.links ≡ d.link_count

pub counts_more : (p : Progress) (d : Description) (f : Field) → Counts p d → Counts (passed p f) (with_field d f)
counts_more p d (OfTask e) c = record { tasks = ap (λ x. x + 1) c.tasks; sources = c.sources; links = c.links }
counts_more p d (OfSource s) c = record { tasks = c.tasks; sources = ap (λ x. x + 1) c.sources; links = c.links }
counts_more p d (OfLink l) c = record { tasks = c.tasks; sources = c.sources; links = ap (λ x. x + 1) c.links }

pub task_turn : (p : Progress) (d : Description) (e : ℕ) → Counts p d → Passes p (OfTask e) → (d.source_count ≡ 0) × (d.link_count ≡ 0) × (d.task_count < 32)
task_turn p d e c q =
    let a = eqb-true p.sources 0 (and_left (eqb p.sources 0) (eqb p.links 0) q.turn) in
    let b = eqb-true p.links 0 (and_right (eqb p.sources 0) (eqb p.links 0) q.turn) in
    let r = ltb-true p.tasks 32 q.room in
    (omega (arith, c.sources), omega (arith, c.links), omega (arith, c.tasks))

pub source_turn : (p : Progress) (d : Description) (s : Source) → Counts p d → Passes p (OfSource s) → (d.link_count ≡ 0) × (d.source_count < 16)
source_turn p d s c q =
    let b = eqb-true p.links 0 q.turn in
    let r = ltb-true p.sources 16 q.room in
    (omega (arith, c.links), omega (arith, c.sources))

pub link_room : (p : Progress) (d : Description) (l : Link) → Counts p d → Passes p (OfLink l) → d.link_count < 256
link_room p d l c q = let r = ltb-true p.links 256 q.room in omega (arith, c.links)

pub few_more : (p : Progress) (d : Description) (f : Field) → Counts p d → Passes p f → Few d → Few (with_field d f)
few_more p d (OfTask e) c q w =
    let t = task_turn p d e c q in
    record { tasks = omega arith; sources = w.sources; links = w.links }
few_more p d (OfSource s) c q w =
    let t = source_turn p d s c q in
    record { tasks = w.tasks; sources = omega arith; links = w.links }
few_more p d (OfLink l) c q w =
    let t = link_room p d l c q in
    record { tasks = w.tasks; sources = w.sources; links = omega arith }

pub file_with : (p : Progress) (d : Description) (f : Field) → Counts p d → Sized d → Passes p f → file_of (with_field d f) ≡ file_of d ++ field_bytes f
file_with p d (OfTask e) c z q =
    let t = task_turn p d e c q in
    let n : field_count d ≡ d.task_count = omega arith in
    file_more d (with_field d (OfTask e)) (OfTask e) (omega arith)
    (λ k h. let b : k < d.task_count = omega arith in
    rw (field_task d k b, field_task (with_field d (OfTask e)) k (omega arith), get_or-set_other d.runs d.task_count k e 0 (λ x. omega arith)))
    (rw (n, field_task (with_field d (OfTask e)) d.task_count (omega arith), get_or-set_same d.runs d.task_count e 0 (omega (arith, z.runs))))
file_with p d (OfSource s) c z q =
    let t = source_turn p d s c q in
    let n : field_count d ≡ d.task_count + d.source_count = omega arith in
    file_more d (with_field d (OfSource s)) (OfSource s) (omega arith)
    (by_place d (λ k. field_of (with_field d (OfSource s)) k ≡ field_of d k)
    (λ k h. field_task (with_field d (OfSource s)) k h ∙ sym (field_task d k h))
    (λ i h. rw (field_source d i h, field_source (with_field d (OfSource s)) i (omega arith), get_or-set_other d.sources d.source_count i (record { source = s }) no_source (λ x. omega arith)))
    (λ l h. absurd (omega arith)))
    (rw (n, field_source (with_field d (OfSource s)) d.source_count (omega arith), get_or-set_same d.sources d.source_count (record { source = s }) no_source (omega (arith, z.sources))))
file_with p d (OfLink l) c z q =
    let t = link_room p d l c q in
    file_more d (with_field d (OfLink l)) (OfLink l) (omega arith)
    (by_place d (λ k. field_of (with_field d (OfLink l)) k ≡ field_of d k)
    (λ k h. field_task (with_field d (OfLink l)) k h ∙ sym (field_task d k h))
    (λ i h. field_source (with_field d (OfLink l)) i h ∙ sym (field_source d i h))
    (λ m h. rw (field_link d m, field_link (with_field d (OfLink l)) m, get_or-set_other d.links d.link_count m l no_link (λ x. omega arith))))
    (rw (field_link (with_field d (OfLink l)) d.link_count, get_or-set_same d.links d.link_count l no_link (omega (arith, z.links))))

pub widths_more : (p : Progress) (d : Description) (f : Field) → Counts p d → Sized d → Passes p f → FieldFits f → Widths d → Widths (with_field d f)
widths_more p d (OfTask e) c z q h w =
    let t = task_turn p d e c q in
    record {
      run_width = λ k b. at_or_not (λ i. i < d.task_count + 1 → get_or (set d.runs d.task_count e) i 0 < 2 ^ 32) d.task_count k
          (λ a. rw (get_or-set_same d.runs d.task_count e 0 (omega (arith, z.runs))) h)
          (λ n a. rw (get_or-set_other d.runs d.task_count k e 0 n) (w.run_width k (omega arith))) b;
      source_width = w.source_width;
    }
widths_more p d (OfSource s) c z q h w =
    let t = source_turn p d s c q in
    record {
      run_width = w.run_width;
      source_width = λ k b. at_or_not (λ i. i < d.source_count + 1 → SourceFits (get_or (set d.sources d.source_count (record { source = s })) i no_source).source) d.source_count k
          (λ a. rw (get_or-set_same d.sources d.source_count (record { source = s }) no_source (omega (arith, z.sources))) h)
          (λ n a. rw (get_or-set_other d.sources d.source_count k (record { source = s }) no_source n) (w.source_width k (omega arith))) b;
    }
widths_more p d (OfLink l) c z q h w = record { run_width = w.run_width; source_width = w.source_width }

-- a reading that has come to `at` holds the description whose file is the bytes before
pub record SoFar (s : List ℕ) (at : ℕ) (p : Progress) (d : Description) : Type 0 where
  pub inside : at ≤ length s
  pub taken : file_of d ≡ take at s
  pub counts : Counts p d
  pub sized : Sized d
  pub few : Few d
  pub widths : Widths d

pub so_far_start : (s : List ℕ) → SoFar s 0 no_progress blank
unfolding file_of joined
so_far_start s =
    record {
      inside = omega arith;
      taken = refl;
      counts = record { tasks = refl; sources = refl; links = refl };
      sized = record { runs = refl; sources = refl; links = refl };
      few = record { tasks = omega arith; sources = omega arith; links = omega arith };
      widths = record { run_width = λ k h. absurd (omega arith); source_width = λ k h. absurd (omega arith) };
    }

pub so_far_more : (s : List ℕ) (at : ℕ) (p : Progress) (d : Description) (f : Field) (next : ℕ) → Bytes s → SoFar s at p d → take_field s at ≡ Whole f next → check_field p f ≡ Fine → SoFar s next (passed p f) (with_field d f)
so_far_more s at p d f next b y e q =
    let t : Took s at f next = take-took s at f next e in
    let ok : Passes p f = fine_passes p f q in
    record {
      inside = took_inside t;
      taken = file_with p d f y.counts y.sized ok ∙ ap (λ x. x ++ field_bytes f) y.taken ∙ sym (took_bytes b t);
      counts = counts_more p d f y.counts;
      sized = sized_more d f y.sized;
      few = few_more p d f y.counts ok y.few;
      widths = widths_more p d f y.counts y.sized ok (took_fits b t) y.widths;
    }

-- a reading that is done holds the description whose file is all the bytes
pub record Whence (s : List ℕ) (d : Description) : Type 0 where
  pub file : file_of d ≡ s
  pub sized : Sized d
  pub few : Few d
  pub widths : Widths d

pub parse_whence : (n : ℕ) (s : List ℕ) (at : ℕ) (p : Progress) (d : Description) → Bytes s → SoFar s at p d → (parse_from n s at p d).outcome ≡ Done → Whence s (parse_from n s at p d).description
unfolding parse_from
parse_whence zero s at p d b y e = refused_not e
parse_whence (suc n) s at p d b y e = taken (take_field s at) refl (parse_whence n s)
  where
    checked : (f : Field) (next : ℕ) → take_field s at ≡ Whole f next → (c : Check) → check_field p f ≡ c → ((a : ℕ) (q : Progress) (x : Description) → Bytes s → SoFar s a q x → (parse_from n s a q x).outcome ≡ Done → Whence s (parse_from n s a q x).description) → Whence s (parse_from (suc n) s at p d).description
    checked f next t Fine q ih =
        rw (parse_fine n s at p d f next t q) (ih next (passed p f) (with_field d f) b (so_far_more s at p d f next b y t q) (rw (parse_fine n s at p d f next t q) at e))
    checked f next t (Unfit r) q ih = refused_not (rw (parse_unfit n s at p d f next r t q) at e)

    taken : (t : Taken) → take_field s at ≡ t → ((a : ℕ) (q : Progress) (x : Description) → Bytes s → SoFar s a q x → (parse_from n s a q x).outcome ≡ Done → Whence s (parse_from n s a q x).description) → Whence s (parse_from (suc n) s at p d).description
    taken (Whole f next) t ih = checked f next t (check_field p f) refl ih
    taken (Broken r) t ih = refused_not (rw (parse_broken n s at p d r t) at e)
    taken End t ih = rw (parse_end n s at p d t) (record {
      file = y.taken ∙ take_all at s (take-end s at t);
      sized = y.sized;
      few = y.few;
      widths = y.widths;
    })
