-- "The longest file has 1,872 bytes": no accepted file is longer, and one is as long. Assumes nothing.
use Prim.Native.Nat.{ℕ, zero, suc, ◌+◌, ◌-◌, ◌/◌, ◌%◌, ◌≤◌, ◌<◌}
use mathlib.Core.Path.{◌≡◌, refl, ap}
use mathlib.Core.Bool.{Bool, true, false, cond, ◌&&◌}
use mathlib.Core.List.{List, [], ◌∷◌}
use mathlib.Core.Logic.{inr}
use native.Mathlib.Omega.{arith}
use native.Mathlib.Nat.{mod-lt}
use lib.Dec.{ltb}
use lib.ListN.{length, get_or, replicate, get_or-replicate}
use borrow.Author.Tests.{lt-ltb, le-ltb, ltb-true}
use Rattle.model.specs.declared.Source.TheVariants.{Fixed}
use Rattle.model.specs.declared.SourceSlot.{SourceSlot}
use Rattle.model.specs.declared.Link.{Link}
use Rattle.model.specs.declared.Description.{Description}
use Rattle.model.specs.declared.Field.TheVariants.{OfSource}
use Rattle.model.specs.Refusals.{Done, no_link, no_source}
use Rattle.model.specs.Basics.{tab, joined, all_n, sum_n}
use Rattle.model.specs.Graph.{system, link_at, cyclic}
use Rattle.model.specs.Loads.{work, added, load, too_heavy}
use Rattle.model.specs.Header.{bytes_of}
use Rattle.model.specs.Field.{on_scale, field_bytes, field_of, body_of}
use Rattle.model.specs.File.{file_of, read_file, Accepted, judge}
use Rattle.lemmas.proofs.Tests.{false_of, and_left, and_right}
use Rattle.lemmas.proofs.Range.{all_at, any_none, sum_to-le}
use Rattle.lemmas.proofs.Table.{get_d_tab}
use Rattle.theory.proofs.WellFormed.{Fielded, IsTask, Loaded, rises}
use Rattle.theory.proofs.Fielded.{Place, link_place, shaped_fields, run_is}
use Rattle.theory.proofs.RecordLaws.{Widths}
use Rattle.theory.proofs.JudgeLaws.{judge_read}
use Rattle.theory.proofs.Rank.{reach_falls, cycle_is}
use Rattle.theory.proofs.LoadLaws.{loaded, added_le, no_link-load}
use Rattle.theory.proofs.NumberBytes.{Bytes}
use Rattle.theory.proofs.ReadBack.{accepted_length}
use Rattle.theory.proofs.Accepting.{well_formed_judge}

-- 32 tasks of run 1, 16 fixed sources, and a link from each source to each of the first 16 tasks
abbrev link_of : ℕ → Link
link_of l = record { from = 33 + l / 16; to = 1 + l % 16; critical = 0 }

abbrev slot : SourceSlot
slot = record { source = Fixed 1000 }

unfoldable pub longest : Description
longest = record {
  task_count = 32;
  runs = replicate 32 1;
  source_count = 16;
  sources = replicate 16 slot;
  link_count = 256;
  links = tab 256 link_of;
}

link_is : (l : ℕ) → l < 256 → link_at longest l ≡ link_of l
unfolding longest
link_is l h = get_d_tab 256 link_of no_link l h

run_one : (k : ℕ) → k < 32 → get_or longest.runs k 0 ≡ 1
unfolding longest
run_one k h = get_or-replicate 32 k 1 0 h

slot_is : (k : ℕ) → k < 16 → get_or longest.sources k no_source ≡ slot
unfolding longest
slot_is k h = get_or-replicate 16 k slot no_source h

all_rise : all_n (λ l. rises (link_of l) (link_of (suc l))) 0 255 ≡ true
unfolding all_n
all_rise = refl

pub longest_bytes : length (file_of longest) ≡ 1872
unfolding longest file_of joined field_bytes field_of body_of bytes_of tab
longest_bytes = refl

-- whether every number of a list is a byte
unfoldable bytes_in : List ℕ → Bool
bytes_in [] = true
bytes_in (x ∷ s) = ltb x 256 && bytes_in s

in_bytes : (s : List ℕ) → bytes_in s ≡ true → Bytes s
unfolding bytes_in
in_bytes [] e i = omega arith
in_bytes (x ∷ s) e zero = ltb-true x 256 (and_left (ltb x 256) (bytes_in s) e)
in_bytes (x ∷ s) e (suc i) = in_bytes s (and_right (ltb x 256) (bytes_in s) e) i

longest_small : bytes_in (file_of longest) ≡ true
unfolding bytes_in longest file_of joined field_bytes field_of body_of bytes_of tab
longest_small = refl

-- its fields are good
fields : Fielded longest
unfolding longest system
fields = record {
  few_tasks = omega arith;
  few_sources = omega arith;
  few_links = omega arith;
  run_some = λ k p q. omega (arith, run_one (k - 1) (omega arith));
  run_most = λ k p q. omega (arith, run_one (k - 1) (omega arith));
  source_scale = λ u p q. ap (λ (x : SourceSlot). on_scale (OfSource x.source)) (slot_is (u - 33) (omega arith));
  link_from = λ l h. inr (rw (link_is l h) (omega arith, omega (arith, quotient l h)));
  link_to = λ l h. rw (link_is l h) (omega arith, omega (arith, mod-lt l {m = 16} (omega arith)));
  link_critical = λ l h. rw (link_is l h) (omega arith);
  link_rises = λ l h. rw (link_is l (omega arith), link_is (suc l) h) (all_at _ 0 255 all_rise l (omega arith) (omega arith));
}
  where
    quotient : (l : ℕ) → l < 256 → l / 16 < 16
    quotient l h = omega arith

widths : Widths longest
unfolding longest
widths = record {
  run_width = λ k h. omega (arith, run_one k h);
  source_width = λ k h. rw (slot_is k h) (omega arith);
}

-- no link leaves a task, so there is no cycle, and a run of a task is all that an event of it brings
from_source_lem : (i j : ℕ) → (system longest).link i j ≡ true → 33 ≤ i
unfolding system longest
from_source_lem i j e =
    let p : Place longest i j = link_place longest i j e in
    omega (arith, p.from_is, ap (λ (x : Link). x.from) (link_is p.at p.within))

acyclic : cyclic (system longest) ≡ false
unfolding system longest
acyclic = false_of (cyclic (system longest)) (λ e. let (k, r) = cycle_is (system longest) e in omega (arith, reach_falls (system longest) rank falls r))
  where
    rank : ℕ → ℕ
    rank i = cond (ltb i 33) 0 1

    falls : (i k : ℕ) → (system longest).link i k ≡ true → rank k < rank i
    falls i k e =
        let t : IsTask (system longest) k = (shaped_fields longest fields).to_task i k e in
        rw (lt-ltb k 33 (omega (arith, t.1)), le-ltb i 33 (from_source_lem i k e)) (omega arith)

law : Loaded (system longest)
law = loaded (system longest) (shaped_fields longest fields) acyclic

work_one : (k : ℕ) → 1 ≤ k → k ≤ 32 → work (system longest) k ≤ 1
unfolding load system longest
work_one k p q =
    omega (
      arith,
      law.whole k,
      run_is longest k q,
      run_one (k - 1) (omega arith),
      no_link-load (system longest) k (suc k) (λ m a b. false_of ((system longest).link k m) (λ e. omega (arith, from_source_lem k m e))),
    )

light : too_heavy (system longest) ≡ false
unfolding too_heavy load sum_n system longest
light = any_none _ 1 48 (λ i p q. le-ltb 1000000000 (load (system longest) i 1) (omega (arith, few i)))
  where
    few : (i : ℕ) → load (system longest) i 1 ≤ 32
    few i = sum_to-le (added (system longest) i) (λ k. 1) 1 32 (λ k a b. omega (arith, added_le (system longest) law i k, work_one k a b))

-- so it is accepted
pub longest_judged : judge longest ≡ Done
unfolding longest
longest_judged = well_formed_judge longest widths (record { fields = fields; some_task = omega arith; no_cycle = acyclic; not_heavy = light })

pub longest_accepted : (read_file (file_of longest)).outcome ≡ Done
longest_accepted = judge_read longest longest_judged

-- no accepted file has more than 1,872 bytes, and this one has as many
pub record LongestFile : Type 0 where
  pub most : (s : List ℕ) → Bytes s → Accepted s → length s ≤ 1872
  pub reached : (s : List ℕ) × Bytes s × Accepted s × (length s ≡ 1872)

pub longest_file : LongestFile
longest_file = record {
  most = accepted_length;
  reached = (file_of longest, in_bytes (file_of longest) longest_small, longest_accepted, longest_bytes);
}
