-- The file of a description: each of its fields is taken back whole, in order, and checked once. Assumes nothing.
use Prim.Native.Nat.{ℕ, zero, suc, ◌+◌, ◌-◌, ◌≤◌, ◌<◌}
use mathlib.Core.Path.{◌≡◌, refl, ap}
use mathlib.Core.List.{List, [], ◌++◌, append_assoc, append-nil}
use native.Mathlib.Omega.{arith}
use lib.ListN.{length, get_or, length-append}
use borrow.Author.Tests.{le-leb, le-ltb, lt-ltb}
use Rattle.model.specs.declared.Description.{Description}
use Rattle.model.specs.declared.Field.{Field}
use Rattle.model.specs.declared.Field.TheVariants.{OfTask, OfSource, OfLink}
use Rattle.model.specs.declared.Refusal.{Refusal}
use Rattle.model.specs.Field.{Whole, Broken, End, Check, Fine, Unfit, field_bytes, take_field, check_field, with_field, passed, no_progress, field_of, field_count}
use Rattle.model.specs.declared.Progress.{Progress}
use Rattle.model.specs.Refusals.{Done, blank, no_link, no_source}
use Rattle.model.specs.declared.Reading.{Reading}
use Rattle.model.specs.Basics.{joined, up_to}
use Rattle.model.specs.Header.{header_at}
use Rattle.model.specs.File.{file_of, parse_from, parse_file, refused_reading}
pub use Rattle.model.specs.File.{Widths}
use Rattle.lemmas.proofs.Tests.{Cmp, less, same, more, cmp}
use Rattle.theory.proofs.FieldLaws.{FieldFits, take-written}

-- the steps of a reading
pub parse_fine : (n : ℕ) (s : List ℕ) (at : ℕ) (p : Progress) (d : Description) (f : Field) (next : ℕ) → take_field s at ≡ Whole f next → check_field p f ≡ Fine → parse_from (suc n) s at p d ≡ parse_from n s next (passed p f) (with_field d f)
unfolding parse_from
parse_fine n s at p d f next e q = rw e (ap (λ (c : Check). elim c as (λ x. Reading) [ Fine ↦ parse_from n s next (passed p f) (with_field d f) | Unfit x ↦ refused_reading x at ]) q)

pub parse_unfit : (n : ℕ) (s : List ℕ) (at : ℕ) (p : Progress) (d : Description) (f : Field) (next : ℕ) (r : Refusal) → take_field s at ≡ Whole f next → check_field p f ≡ Unfit r → parse_from (suc n) s at p d ≡ refused_reading r at
unfolding parse_from
parse_unfit n s at p d f next r e q = rw e (ap (λ (c : Check). elim c as (λ x. Reading) [ Fine ↦ parse_from n s next (passed p f) (with_field d f) | Unfit x ↦ refused_reading x at ]) q)

pub parse_broken : (n : ℕ) (s : List ℕ) (at : ℕ) (p : Progress) (d : Description) (r : Refusal) → take_field s at ≡ Broken r → parse_from (suc n) s at p d ≡ refused_reading r at
unfolding parse_from
parse_broken n s at p d r e = rw e

pub parse_end : (n : ℕ) (s : List ℕ) (at : ℕ) (p : Progress) (d : Description) → take_field s at ≡ End → parse_from (suc n) s at p d ≡ record { outcome = Done; description = d }
unfolding parse_from
parse_end n s at p d e = rw e

-- joined lists, cut at one of them
pub joined_cut : {A : Type 0} (n : ℕ) (f : ℕ → List A) (k : ℕ) → k < n → (rest : List A) × (joined n f ≡ joined k f ++ (f k ++ rest))
unfolding joined
joined_cut {A = A} zero f k h = absurd (omega arith)
joined_cut {A = A} (suc n) f k h = go (cmp k n) (joined_cut n f k)
  where
    go : Cmp k n → (k < n → (rest : List A) × (joined n f ≡ joined k f ++ (f k ++ rest))) → (rest : List A) × (joined n f ++ f n ≡ joined k f ++ (f k ++ rest))
    go (less r) ih = ((ih r).0 ++ f n, rw (ih r).1 (simp append_assoc))
    go (same r) ih = ([], rw (r, append-nil))
    go (more r) ih = absurd (omega arith)

-- fields by their place
module _ (d : Description) where
  pub field_task : (k : ℕ) → k < d.task_count → field_of d k ≡ OfTask (get_or d.runs k 0)
  unfolding field_of
  field_task k h = rw (lt-ltb k d.task_count h)

  pub field_source : (i : ℕ) → i < d.source_count → field_of d (d.task_count + i) ≡ OfSource (get_or d.sources i no_source).source
  unfolding field_of
  field_source i h =
      let e : d.task_count + i - d.task_count ≡ i = omega arith in
      rw (le-ltb (d.task_count + i) d.task_count (omega arith), lt-ltb (d.task_count + i) (d.task_count + d.source_count) (omega arith), e)

  pub field_link : (l : ℕ) → field_of d (d.task_count + d.source_count + l) ≡ OfLink (get_or d.links l no_link)
  unfolding field_of
  field_link l =
      let e : d.task_count + d.source_count + l - (d.task_count + d.source_count) ≡ l = omega arith in
      rw (le-ltb (d.task_count + d.source_count + l) d.task_count (omega arith), le-ltb (d.task_count + d.source_count + l) (d.task_count + d.source_count) (omega arith), e)

  pub by_place : (P : ℕ → Type 0) → ((k : ℕ) → k < d.task_count → P k) → ((i : ℕ) → i < d.source_count → P (d.task_count + i)) → ((l : ℕ) → l < d.link_count → P (d.task_count + d.source_count + l)) → (k : ℕ) → k < field_count d → P k
  by_place P a b c k h = go (cmp k d.task_count) (cmp k (d.task_count + d.source_count))
    where
      in_sources : d.task_count ≤ k → k < d.task_count + d.source_count → P k
      in_sources p q =
          let e : k ≡ d.task_count + (k - d.task_count) = omega arith in
          rw e (b (k - d.task_count) (omega arith))

      in_links : d.task_count + d.source_count ≤ k → P k
      in_links p =
          let e : k ≡ d.task_count + d.source_count + (k - (d.task_count + d.source_count)) = omega arith in
          rw e (c (k - (d.task_count + d.source_count)) (omega arith))

      go : Cmp k d.task_count → Cmp k (d.task_count + d.source_count) → P k
      go (less p) q = a k p
      go (same p) (less q) = in_sources (omega arith) q
      go (same p) (same q) = in_links (omega arith)
      go (same p) (more q) = in_links (omega arith)
      go (more p) (less q) = in_sources (omega arith) q
      go (more p) (same q) = in_links (omega arith)
      go (more p) (more q) = in_links (omega arith)

-- where field k of the file begins; what is known before it, and the description that the fields before it give
abbrev pub offset : Description → ℕ → ℕ
offset d k = length (joined k (λ i. field_bytes (field_of d i)))

unfoldable pub progress_at : Description → ℕ → Progress
progress_at d k = up_to k (λ i p. passed p (field_of d i)) no_progress

unfoldable pub copy_at : Description → ℕ → Description
copy_at d k = up_to k (λ i e. with_field e (field_of d i)) blank

-- one field more
pub offset_more : (d : Description) (k : ℕ) → offset d (suc k) ≡ offset d k + length (field_bytes (field_of d k))
unfolding joined
offset_more d k = length-append (joined k (λ i. field_bytes (field_of d i))) (field_bytes (field_of d k))

pub progress_more : (d : Description) (k : ℕ) → progress_at d (suc k) ≡ passed (progress_at d k) (field_of d k)
unfolding progress_at up_to
progress_more d k = refl

pub copy_more : (d : Description) (k : ℕ) → copy_at d (suc k) ≡ with_field (copy_at d k) (field_of d k)
unfolding copy_at up_to
copy_more d k = refl

pub field_fits : (d : Description) → Widths d → (k : ℕ) → k < field_count d → FieldFits (field_of d k)
field_fits d w = by_place d (λ k. FieldFits (field_of d k))
    (λ k h. rw (field_task d k h) (w.run_width k h))
    (λ i h. rw (field_source d i h) (w.source_width i h))
    (λ l h. rw (field_link d l) tt)

-- each field is taken back where it begins, and then comes the end
pub file_field : (d : Description) → Widths d → (k : ℕ) → k < field_count d → take_field (file_of d) (offset d k) ≡ Whole (field_of d k) (offset d (suc k))
unfolding file_of
file_field d w k h =
    let c = joined_cut (field_count d) (λ i. field_bytes (field_of d i)) k h in
    rw (c.1, offset_more d k) (take-written (joined k (λ i. field_bytes (field_of d i))) (field_of d k) c.0 (field_fits d w k h))

pub file_end : (d : Description) → take_field (file_of d) (offset d (field_count d)) ≡ End
unfolding file_of take_field header_at
file_end d = rw (le-leb (offset d (field_count d)) (offset d (field_count d)) (omega arith))

-- a reading of the file, from its field k on, with what the fields before it gave
abbrev pub read_at : Description → ℕ → ℕ → Reading
read_at d n k = parse_from n (file_of d) (offset d k) (progress_at d k) (copy_at d k)

pub read_fine : (d : Description) → Widths d → (n k : ℕ) → k < field_count d → check_field (progress_at d k) (field_of d k) ≡ Fine → read_at d (suc n) k ≡ read_at d n (suc k)
read_fine d w n k h e =
    rw (progress_more d k, copy_more d k) (parse_fine n (file_of d) (offset d k) (progress_at d k) (copy_at d k) (field_of d k) (offset d (suc k)) (file_field d w k h) e)

pub read_unfit : (d : Description) → Widths d → (n k : ℕ) (r : Refusal) → k < field_count d → check_field (progress_at d k) (field_of d k) ≡ Unfit r → read_at d (suc n) k ≡ refused_reading r (offset d k)
read_unfit d w n k r h e =
    parse_unfit n (file_of d) (offset d k) (progress_at d k) (copy_at d k) (field_of d k) (offset d (suc k)) r (file_field d w k h) e

pub read_end : (d : Description) (n : ℕ) → read_at d (suc n) (field_count d) ≡ record { outcome = Done; description = copy_at d (field_count d) }
read_end d n =
    parse_end n (file_of d) (offset d (field_count d)) (progress_at d (field_count d)) (copy_at d (field_count d)) (file_end d)

pub read_start : (d : Description) → parse_file (file_of d) ≡ read_at d (suc (length (file_of d))) 0
unfolding parse_file progress_at copy_at up_to joined
read_start d = refl
