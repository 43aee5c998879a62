-- What a reading knows and holds before each field of a description's own file. Assumes nothing.
use Prim.Native.Nat.{ℕ, zero, suc, ◌+◌, ◌-◌, ◌≤◌, ◌<◌}
use mathlib.Core.Path.{◌≡◌, refl, ◌∙◌}
use mathlib.Core.List.{List, ◌++◌, append_assoc}
use native.Mathlib.Omega.{arith}
use native.Mathlib.Nat.{add-zero, add-suc}
use native.Mathlib.Numerals.{add-one}
use lib.ListN.{length, get_or, take, set, replicate, length-set, length-replicate}
use lib.Seq.{get_or-set_same, get_or-set_other, set_at, take-suc, length-take-le}
use Rattle.model.specs.declared.Description.{Description}
use Rattle.model.specs.Basics.{up_to}
use Rattle.model.specs.Graph.{link_at}
use Rattle.model.specs.Refusals.{blank, no_link, no_source}
use Rattle.model.specs.Field.{no_progress}
use Rattle.lemmas.proofs.Tests.{Cmp, less, same, more, cmp}
use Rattle.theory.proofs.RecordLaws.{progress_at, copy_at, progress_more, copy_more, field_task, field_source, field_link}

-- the ends of the last of the first l links
abbrev pub last_from : Description → ℕ → ℕ
last_from d zero = 0
last_from d (suc l) = (link_at d l).from

abbrev pub last_to : Description → ℕ → ℕ
last_to d zero = 0
last_to d (suc l) = (link_at d l).to

-- the first k entries of a list, and n - k blank ones
unfoldable pub filled : {A : Type 0} → ℕ → List A → ℕ → A → List A
filled n l k z = up_to k (λ i acc. set acc i (get_or l i z)) (replicate n z)

pub length-filled : {A : Type 0} (n : ℕ) (l : List A) (k : ℕ) (z : A) → length (filled n l k z) ≡ n
unfolding filled up_to
length-filled n l zero z = length-replicate n z
length-filled n l (suc k) z = length-set (filled n l k z) k (get_or l k z) ∙ length-filled n l k z

pub filled_none : {A : Type 0} (n : ℕ) (l : List A) (z : A) → filled n l 0 z ≡ replicate n z
unfolding filled up_to
filled_none n l z = refl

pub filled_more : {A : Type 0} (n : ℕ) (l : List A) (k : ℕ) (z : A) → filled n l (suc k) z ≡ set (filled n l k z) k (get_or l k z)
unfolding filled up_to
filled_more n l k z = refl

pub get_d_filled : {A : Type 0} (n : ℕ) (l : List A) (k : ℕ) (z : A) (i : ℕ) → i < k → k ≤ n → get_or (filled n l k z) i z ≡ get_or l i z
get_d_filled n l zero z i h m = absurd (omega arith)
get_d_filled n l (suc k) z i h m = go (cmp i k) (get_d_filled n l k z i)
  where
    go : Cmp i k → (i < k → k ≤ n → get_or (filled n l k z) i z ≡ get_or l i z) → get_or (filled n l (suc k) z) i z ≡ get_or l i z
    go (less r) ih =
        rw (filled_more n l k z, get_or-set_other (filled n l k z) k i (get_or l k z) z (λ q. omega arith)) (ih r (omega arith))
    go (same r) ih =
        rw (r, filled_more n l k z, get_or-set_same (filled n l k z) k (get_or l k z) z (omega (arith, length-filled n l k z)))
    go (more r) ih = absurd (omega arith)

pub filled_is : {A : Type 0} (n : ℕ) (l : List A) (k : ℕ) (z : A) → k ≤ length l → k ≤ n → filled n l k z ≡ take k l ++ replicate (n - k) z
filled_is n l zero z h m =
    let e : n - 0 ≡ n = omega arith in
    rw (e, filled_none n l z)
filled_is n l (suc k) z h m =
    let e : n - k ≡ suc (n - suc k) = omega arith in
    rw
    (filled_more n l k z, filled_is n l k z (omega arith) (omega arith), e, set_at (take k l) z (replicate (n - suc k) z) (get_or l k z) k (length-take-le k l (omega arith)), take-suc l k z h, append_assoc)

module _ (d : Description) where
  progress_none : progress_at d 0 ≡ no_progress
  unfolding progress_at up_to
  progress_none = refl

  pub progress_tasks : (k : ℕ) → k ≤ d.task_count → progress_at d k ≡ record { tasks = k; sources = 0; links = 0; from = 0; to = 0 }
  progress_tasks zero h = progress_none
  progress_tasks (suc k) h = rw (progress_more d k, progress_tasks k (omega arith), field_task d k h, add-one)

  pub progress_sources : (i : ℕ) → i ≤ d.source_count → progress_at d (d.task_count + i) ≡ record { tasks = d.task_count; sources = i; links = 0; from = 0; to = 0 }
  progress_sources zero h = rw add-zero (progress_tasks d.task_count (omega arith))
  progress_sources (suc i) h =
      rw
      (add-suc d.task_count i, progress_more d (d.task_count + i), progress_sources i (omega arith), field_source d i h, add-one i)

  pub progress_links : (l : ℕ) → progress_at d (d.task_count + d.source_count + l) ≡ record { tasks = d.task_count; sources = d.source_count; links = l; from = last_from d l; to = last_to d l }
  progress_links zero = rw add-zero (progress_sources d.source_count (omega arith))
  progress_links (suc l) =
      rw
      (add-suc (d.task_count + d.source_count) l, progress_more d (d.task_count + d.source_count + l), progress_links l, field_link d l, add-one l)

  copy_none : copy_at d 0 ≡ blank
  unfolding copy_at up_to
  copy_none = refl

  pub copy_tasks : (k : ℕ) → k ≤ d.task_count → copy_at d k ≡ record {
    task_count = k;
    runs = filled 32 d.runs k 0;
    source_count = 0;
    sources = replicate 16 no_source;
    link_count = 0;
    links = replicate 256 no_link;
  }
  copy_tasks zero h = rw filled_none copy_none
  copy_tasks (suc k) h = rw (copy_more d k, copy_tasks k (omega arith), field_task d k h, filled_more 32 d.runs k 0, add-one k)

  pub copy_sources : (i : ℕ) → i ≤ d.source_count → copy_at d (d.task_count + i) ≡ record {
    task_count = d.task_count;
    runs = filled 32 d.runs d.task_count 0;
    source_count = i;
    sources = filled 16 d.sources i no_source;
    link_count = 0;
    links = replicate 256 no_link;
  }
  copy_sources zero h = rw (add-zero, filled_none 16 d.sources no_source) (copy_tasks d.task_count (omega arith))
  copy_sources (suc i) h =
      rw
      (add-suc d.task_count i, copy_more d (d.task_count + i), copy_sources i (omega arith), field_source d i h, filled_more 16 d.sources i no_source, add-one i)

  pub copy_links : (l : ℕ) → copy_at d (d.task_count + d.source_count + l) ≡ record {
    task_count = d.task_count;
    runs = filled 32 d.runs d.task_count 0;
    source_count = d.source_count;
    sources = filled 16 d.sources d.source_count no_source;
    link_count = l;
    links = filled 256 d.links l no_link;
  }
  copy_links zero = rw (add-zero, filled_none 256 d.links no_link) (copy_sources d.source_count (omega arith))
  copy_links (suc l) =
      rw
      (add-suc (d.task_count + d.source_count) l, copy_more d (d.task_count + d.source_count + l), copy_links l, field_link d l, filled_more 256 d.links l no_link, add-one l)
