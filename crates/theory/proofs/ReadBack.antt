-- Reading and writing are inverse: what was written reads back, what was read writes back, and a description has one file. Assumes nothing.
use Prim.Native.Nat.{ℕ, suc, ◌+◌, ◌-◌, ◌≤◌, ◌<◌}
use mathlib.Core.Path.{◌≡◌, sym, ap, ◌∙◌}
use mathlib.Core.Bool.{false}
use mathlib.Core.List.{List}
use mathlib.Core.Logic.{◌↔◌}
use native.Mathlib.Omega.{arith}
use lib.Dec.{ltb}
use lib.ListN.{length, get_or, get_or-eq_default}
use borrow.Author.Tests.{le-ltb}
use Rattle.model.specs.declared.Description.{Description}
use Rattle.model.specs.declared.Field.TheVariants.{OfSource}
use Rattle.model.specs.declared.SourceSlot.{SourceSlot}
use Rattle.model.specs.declared.Link.{Link}
use Rattle.model.specs.declared.Reading.{Reading}
use Rattle.model.specs.Refusals.{Done, no_link, no_source}
use Rattle.model.specs.Graph.{system}
use Rattle.model.specs.Field.{field_count, on_scale}
use Rattle.model.specs.File.{file_of, parse_file, read_file, Accepted, overfull, judge, trimmed}
use Rattle.lemmas.proofs.Tests.{Cmp, less, same, more, cmp, not_both, or_false}
use Rattle.theory.proofs.WellFormed.{WellFormed}
use Rattle.theory.proofs.NumberBytes.{Bytes}
use Rattle.theory.proofs.RecordLaws.{Widths, copy_at}
use Rattle.theory.proofs.RecordState.{filled_is, copy_links}
use Rattle.theory.proofs.JudgeLaws.{Few, copy_system, judge_read, read_parsed, read_last}
use Rattle.theory.proofs.ReadLaws.{Whence, so_far_start, parse_whence}
use Rattle.theory.proofs.FileLength.{file_length}
use Rattle.theory.proofs.WellFormed.{Fielded}
use Rattle.theory.proofs.FileLaws.{judge_judged, judge_well_formed, record_fielded}

-- a list that holds no blank entry below n has n entries
entries : {A : Type 0} (l : List A) (n : ℕ) (z : A) → ((k : ℕ) → k < n → get_or l k z ≡ z → ⊥) → n ≤ length l
entries l n z h = go (cmp n (length l))
  where
    go : Cmp n (length l) → n ≤ length l
    go (less r) = omega arith
    go (same r) = omega arith
    go (more r) = absurd (h (length l) r (get_or-eq_default l z (omega arith)))

-- what a well-formed description holds below its counts is no blank
has_runs : (d : Description) → WellFormed d → d.task_count ≤ length d.runs
has_runs d w = entries d.runs d.task_count 0
    (λ k h e. let i : suc k - 1 ≡ k = omega arith in omega (arith, e, rw i at (w.fields.run_some (suc k) (omega arith) h)))

has_sources : (d : Description) → WellFormed d → d.source_count ≤ length d.sources
has_sources d w = entries d.sources d.source_count no_source
    (λ k h e. let i : 33 + k - 33 ≡ k = omega arith in
    let q : get_or d.sources (33 + k - 33) no_source ≡ no_source = rw i e in
    not_both (w.fields.source_scale (33 + k) (omega arith) (omega arith)) (ap (λ (x : SourceSlot). on_scale (OfSource x.source)) q))

has_links : (d : Description) → WellFormed d → d.link_count ≤ length d.links
unfolding system
has_links d w = entries d.links d.link_count no_link
    (λ k h e. let t = w.fields.link_to k h in omega (arith, t.0, ap (λ (x : Link). x.to) e))

pub copy_trimmed : (d : Description) → WellFormed d → copy_at d (field_count d) ≡ trimmed d
unfolding trimmed
copy_trimmed d w =
    rw (copy_links d d.link_count, filled_is 32 d.runs d.task_count 0 (has_runs d w) w.fields.few_tasks, filled_is 16 d.sources d.source_count no_source (has_sources d w) w.fields.few_sources, filled_is 256 d.links d.link_count no_link (has_links d w) w.fields.few_links)

abbrev done_with : Description → Reading
done_with d = record { outcome = Done; description = d }

-- a reading that is done gives the description of its fields
pub read_is : (s : List ℕ) → (read_file s).outcome ≡ Done → read_file s ≡ record { outcome = Done; description = (parse_file s).description }
unfolding read_file
read_is s e = rw (read_parsed s e, read_last s e)

-- reading what was written gives the record back, with blanks past its counts
pub judge_reads : (d : Description) → Widths d → judge d ≡ Done → read_file (file_of d) ≡ record { outcome = Done; description = trimmed d }
judge_reads d w e =
    let j = judge_judged d w e in
    read_is (file_of d) (judge_read d e)
    ∙ ap (λ (x : Description). done_with x) (ap (λ (x : Reading). x.description) j.parsed ∙ copy_trimmed d (judge_well_formed d w e))

-- writing what was read gives the bytes back
pub read_whence : (s : List ℕ) → Bytes s → Accepted s → Whence s (read_file s).description
unfolding parse_file
read_whence s b e = rw (read_is s e) (parse_whence (suc (length s)) s 0 _ _ b (so_far_start s) (read_parsed s e))

pub read_writes : (s : List ℕ) → Bytes s → Accepted s → file_of (read_file s).description ≡ s
read_writes s b e = (read_whence s b e).file

pub few_not_over : (d : Description) → Few d → overfull d ≡ false
unfolding overfull
few_not_over d w =
    or_false (ltb 32 d.task_count) _ (le-ltb 32 d.task_count w.tasks)
    (or_false (ltb 16 d.source_count) _ (le-ltb 16 d.source_count w.sources) (le-ltb 256 d.link_count w.links))

-- a description that was read is judged as done
pub read_judged : (s : List ℕ) → Bytes s → Accepted s → judge (read_file s).description ≡ Done
unfolding judge
read_judged s b e = rw (few_not_over (read_file s).description (read_whence s b e).few, read_writes s b e) e

-- a file is accepted exactly if it is written for some description that is judged as done
pub accepted_written : (s : List ℕ) → Bytes s → Accepted s ↔ ((d : Description) × Widths d × (judge d ≡ Done) × (file_of d ≡ s))
accepted_written s b =
    (λ e. ((read_file s).description, (read_whence s b e).widths, read_judged s b e, read_writes s b e), λ r. rw r.3 at (judge_read r.0 r.2))

-- no two accepted files have one description
pub one_file : (s t : List ℕ) → Bytes s → Bytes t → Accepted s → Accepted t → (read_file s).description ≡ (read_file t).description → s ≡ t
one_file s t b c e f q = sym (read_writes s b e) ∙ ap file_of q ∙ read_writes t c f

pub accepted_length : (s : List ℕ) → Bytes s → Accepted s → length s ≤ 1872
accepted_length s b e = rw (read_writes s b e) at (file_length (read_file s).description (read_whence s b e).few)

-- the record that comes back has the same graph
pub trimmed_system : (d : Description) → WellFormed d → system (trimmed d) ≡ system d
trimmed_system d w =
    rw (copy_trimmed d w) at (copy_system d (record { tasks = w.fields.few_tasks; sources = w.fields.few_sources; links = w.fields.few_links }) w.some_task)

-- a file whose fields are all accepted gives a description with good fields
pub parsed_whence : (s : List ℕ) → Bytes s → (parse_file s).outcome ≡ Done → Whence s (parse_file s).description
unfolding parse_file
parsed_whence s b e = parse_whence (suc (length s)) s 0 _ _ b (so_far_start s) e

pub parsed_fielded : (s : List ℕ) → Bytes s → (parse_file s).outcome ≡ Done → Fielded (parse_file s).description
parsed_fielded s b e =
    let w : Whence s (parse_file s).description = parsed_whence s b e in
    record_fielded (parse_file s).description w.widths (few_not_over (parse_file s).description w.few) (rw w.file e)
