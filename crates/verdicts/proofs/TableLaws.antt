-- The tables are those of the description, and the verdict on a link from them is the link's verdict. Assumes nothing.
use Prim.Native.Nat.{ℕ, zero, suc, ◌+◌, ◌-◌, ◌≤◌, ◌<◌}
use mathlib.Core.Path.{◌≡◌, refl, sym, ap, ◌∙◌}
use mathlib.Core.Bool.{Bool, true, false, cond}
use mathlib.Core.List.{List, []}
use mathlib.Core.Logic.{◌⊎◌, inl, inr}
use native.Mathlib.Omega.{arith}
use lib.ListN.{length, get_or, set, replicate, get_or-replicate}
use lib.Dec.{eqb, ltb}
use borrow.Author.Tests.{eqb-false, ltb-true, ltb-false}
use Rattle.model.specs.declared.Link.{Link}
use Rattle.model.specs.declared.Description.{Description}
use Rattle.model.specs.declared.Policy.{Policy}
use Rattle.model.specs.declared.Policy.TheVariants.{Preemptive, HoldOn}
use Rattle.model.specs.declared.Verdict.{Verdict}
use Rattle.model.specs.declared.Verdict.TheVariants.{Free, HeldOrder, DoubtOrder, Held, Doubt}
use Rattle.model.specs.declared.VerdictSlot.{VerdictSlot}
use Rattle.model.specs.Basics.{top_n, tab}
use Rattle.model.specs.Graph.{system, link_at}
use Rattle.model.specs.Loads.{load}
use Rattle.model.specs.Delays.{Settled, unchanged, reached, settle, start_of, level_of, tail_of, spacing_of}
use Rattle.model.specs.Order.{in_order}
use Rattle.model.specs.Verdicts.{source_verdict, order_verdict, verdict_of, verdict_at, slot_at, free_slot}
use Rattle.lemmas.proofs.Table.{stored, tab_cong}
use Rattle.theory.proofs.WellFormed.{WellFormed, IsTask, IsSource}
use Rattle.theory.proofs.Fielded.{run_is}
use Rattle.theory.proofs.Rounds.{settle_fixed}
use Rattle.theory.proofs.Levels.{reach_of, level_reach, level_verdict}
use Rattle.works.specs.Works.{load_by}
use Rattle.loads.specs.Tables.{LoadsOf, held}
use Rattle.loads.proofs.Columns.{top_cong}
use Rattle.spacings.specs.Gaps.{GapsIn}
use Rattle.rounds.specs.Level.{round_in, reach_in}
use Rattle.verdicts.specs.declared.Tables.{Tables}
use Rattle.verdicts.specs.Tables.{below_of, LevelsOf, StartsOf, TailsOf, LevelTables, task_level, LevelOf, TablesOf}
use Rattle.verdicts.specs.Slots.{verdict_by, gap_by, by_tables, slot_by, slot_of, LimitsOf, reach_with, ReachesOf, Leveled, SlotTables}
use Rattle.verdicts.proofs.LevelRounds.{spaced_in, level_light, start_light, tail_light, reach_is}

-- a largest value whose numbers are counted from 0
top_shift : (f : ℕ → ℕ) (n : ℕ) → top_n f 1 n ≡ top_n (λ k. f (suc k)) 0 n
unfolding top_n
top_shift f zero = refl
top_shift f (suc n) =
    let e : 1 + n ≡ suc (0 + n) = omega arith in
    rw (top_shift f n, e)

-- the starts and levels that sets and works give
module _ (d : Description) (brings works : List ℕ) (h : LoadsOf d brings works) where
  task_load : (k j : ℕ) → k < 48 → load_by (get_or brings k 0) works d.task_count (suc j) ≡ load (system d) (suc k) (suc j)
  task_load k j q = let e : suc k - 1 ≡ k = omega arith in rw e at (h.by_sets (suc k) (suc j) (omega arith, omega arith) (omega arith))

  pub starts_of : (starts : List ℕ) → d.task_count ≤ 32 → ((j : ℕ) → j < 32 → get_or starts j 0 ≡ top_n (λ k. load_by (get_or brings k 0) works d.task_count (suc j)) 0 j) → StartsOf Preemptive d starts
  unfolding start_of
  starts_of starts few s j p =
      let e : suc (suc j - 1) - 1 ≡ j = omega arith in
      s j (omega arith)
      ∙ top_cong (λ k. load_by (get_or brings k 0) works d.task_count (suc j)) (λ k. load (system d) (suc k) (suc j)) j (λ k q. task_load k j (omega arith))
      ∙ sym (top_shift (λ k. load (system d) k (suc j)) j)
      ∙ ap (λ n. top_n (λ k. load (system d) k (suc j)) 1 n) (sym e)

  pub hold_starts_of : (starts : List ℕ) → d.task_count ≤ 32 → ((j : ℕ) → j < d.task_count → get_or starts j 0 ≡ top_n (held d.runs (λ k. load_by (get_or brings k 0) works d.task_count (suc (suc j)))) 0 (suc j)) → StartsOf HoldOn d starts
  unfolding start_of
  hold_starts_of starts few s j p =
      let e : suc (suc j) - 1 ≡ suc j = omega arith in
      s j p
      ∙ top_cong (held d.runs (λ k. load_by (get_or brings k 0) works d.task_count (suc (suc j)))) (λ k. (system d).run (suc k) + load (system d) (suc k) (suc (suc j))) (suc j) (λ k q. one k (omega arith))
      ∙ sym (top_shift (λ k. (system d).run k + load (system d) k (suc (suc j))) (suc j))
      ∙ ap (λ n. top_n (λ k. (system d).run k + load (system d) k (suc (suc j))) 1 n) (sym e)
    where
      one : (k : ℕ) → k ≤ j → get_or d.runs k 0 + load_by (get_or brings k 0) works d.task_count (suc (suc j)) ≡ (system d).run (suc k) + load (system d) (suc k) (suc (suc j))
      one k q =
          let f : suc k - 1 ≡ k = omega arith in
          let r : (system d).run (suc k) ≡ get_or d.runs k 0 = run_is d (suc k) (omega arith) ∙ ap (λ i. get_or d.runs i 0) f in
          omega (arith, r, task_load k (suc j) (omega arith))

  pub levels_of : (pol : Policy) (levels : List (List ℕ)) → d.source_count ≤ 16 → ((j u : ℕ) → j < 32 → u < d.source_count → get_or (get_or levels j []) u 0 ≡ load_by (get_or brings (32 + u) 0) works d.task_count (suc (below_of pol + j))) → LevelsOf pol d levels
  levels_of pol levels few s j u p q =
      let e : 33 + u - 1 ≡ 32 + u = omega arith in
      s j u p q ∙ rw e at (h.by_sets (33 + u) (suc (below_of pol + j)) (omega arith, omega arith) (omega arith)) ∙ ap (load (system d) (33 + u)) (at pol)
    where
      at : (pol : Policy) → suc (below_of pol + j) ≡ level_of pol (suc j)
      at Preemptive = omega arith
      at HoldOn = omega arith

pub below_few : (pol : Policy) (b : ℕ) → b ≡ below_of pol → b ≤ 32
below_few Preemptive b e = omega arith
below_few HoldOn b e = omega arith

-- what delays have beyond their rounds
pub no_tails : (d : Description) → d.task_count ≤ 32 → TailsOf Preemptive d (replicate 32 0)
no_tails d few j p = get_or-replicate {A = ℕ} 32 j 0 0 (omega arith)

pub run_tails : (d : Description) → TailsOf HoldOn d d.runs
run_tails d j p =
    let f : suc j - 1 ≡ j = omega arith in
    sym (run_is d (suc j) (omega arith) ∙ ap (λ i. get_or d.runs i 0) f)

-- a level of the tables is the description's
pub level_of-tables : (pol : Policy) (d : Description) (t : Tables) (j : ℕ) → LevelTables pol d t → j < t.tasks → LevelOf pol d (suc j) (task_level t j)
level_of-tables pol d t j x p =
    record {
      start_is = x.by_start j (omega (arith, x.counted));
      load_is = λ u q. x.by_level j u low q;
      tail_is = x.by_tail j (omega (arith, x.counted));
      critical_is = λ u. x.by_critical j u low;
    }
  where
    low : j < 32
    low = omega (arith, x.counted, x.good.fields.few_tasks)

-- the tables that verdicts are worked out from are among all
pub slot_tables : (pol : Policy) (d : Description) (t : Tables) → TablesOf pol d t → SlotTables pol d t
slot_tables pol d t x =
    let own = x.by_levels in
    record { good = own.good; by_level = own.by_level; by_start = own.by_start; by_tail = own.by_tail; by_order = x.by_order }

module _ (pol : Policy) (d : Description) (t : Tables) (tables : SlotTables pol d t) where
  g : WellFormed d
  g = tables.good

  -- the tables are on the scale
  pub leveled : Leveled t d.task_count d.source_count
  leveled =
      record {
        few_tasks = g.fields.few_tasks;
        few_sources = g.fields.few_sources;
        start_most = λ j p. rw (tables.by_start j p) (start_light d g pol (suc j) (omega arith));
        tail_most = λ j p. rw (tables.by_tail j p) (tail_light d g pol (suc j) (omega arith));
        load_most = λ j u p q. rw (tables.by_level j u (omega (arith, p, g.fields.few_tasks)) q) (level_light d g pol (33 + u) (suc j) (omega arith));
      }

  module _ (gap : ℕ → ℕ) (gaps : List ℕ) (z : GapsIn gap d.source_count gaps) (limits : List ℕ) (m : LimitsOf d gaps limits) (reaches : List ℕ) (r : ReachesOf pol d gap limits reaches) where
    -- the spacing of a source link's source
    from_gap : (l : ℕ) → l < d.link_count → 33 ≤ (link_at d l).from → get_or gaps ((link_at d l).from - 33) 0 ≡ gap (link_at d l).from
    unfolding system
    from_gap l p q = go (g.fields.link_from l p)
      where
        go : IsTask (system d) (link_at d l).from ⊎ IsSource (system d) (link_at d l).from → get_or gaps ((link_at d l).from - 33) 0 ≡ gap (link_at d l).from
        go (inl x) = absurd (omega (arith, x.1, g.fields.few_tasks))
        go (inr x) =
            let e : 33 + ((link_at d l).from - 33) ≡ (link_at d l).from = omega arith in
            z.at ((link_at d l).from - 33) (omega (arith, x.1)) ∙ ap gap e

    source_by : (l : ℕ) → l < d.link_count → 33 ≤ (link_at d l).from → (link_at d l).critical ≡ 1 → cond (ltb (get_or reaches ((link_at d l).to - 1) 0) (get_or gaps ((link_at d l).from - 33) 0)) (Held (get_or reaches ((link_at d l).to - 1) 0) (get_or gaps ((link_at d l).from - 33) 0)) (Doubt (get_or gaps ((link_at d l).from - 33) 0)) ≡ source_verdict pol (system d) gap (link_at d l).from (link_at d l).to
    unfolding system
    source_by l p q c =
        let i : ℕ = (link_at d l).from in
        let j : ℕ = (link_at d l).to in
        let k = g.fields.link_to l p in
        let e : suc (j - 1) ≡ j = omega (arith, k.0) in
        let tail : ℕ = tail_of pol (system d) j in
        let limit : ℕ = get_or limits (j - 1) 0 in
        let x : get_or reaches (j - 1) 0 ≡ level_reach pol (system d) gap j (limit - tail) + tail = r (j - 1) (omega (arith, k.0, k.1)) ∙ ap (λ n. reach_with pol d gap n limit) e in
        let y : get_or gaps (i - 33) 0 ≡ gap i = from_gap l p q in
        let own : gap i ≤ limit = rw y at (m.covers l p q c) in
        rw (x, y) (sym (level_verdict pol (system d) gap (spaced_in d gap gaps z) i j (limit - tail) (omega arith)))

    by_tables_lem : (l : ℕ) → l < d.link_count → by_tables (get_or t.orders l false) gaps reaches (link_at d l) ≡ verdict_of pol (system d) gap (link_at d l)
    unfolding by_tables verdict_by gap_by verdict_of order_verdict
    by_tables_lem l p = go (eqb (link_at d l).critical 0) refl (ltb (link_at d l).from 33) refl
      where
        k : Link
        k = link_at d l

        one : eqb k.critical 0 ≡ false → k.critical ≡ 1
        one e = omega (arith, eqb-false k.critical 0 e, g.fields.link_critical l p)

        go : (a : Bool) → eqb k.critical 0 ≡ a → (b : Bool) → ltb k.from 33 ≡ b
            → cond a Free (cond b (cond (get_or t.orders l false) HeldOrder DoubtOrder) (cond (ltb (get_or reaches (k.to - 1) 0) (cond b 0 (get_or gaps (k.from - 33) 0))) (Held (get_or reaches (k.to - 1) 0) (cond b 0 (get_or gaps (k.from - 33) 0))) (Doubt (cond b 0 (get_or gaps (k.from - 33) 0)))))
            ≡ cond a Free (cond b (cond (in_order (system d) k.from k.to) HeldOrder DoubtOrder) (source_verdict pol (system d) gap k.from k.to))
        go true e b f = refl
        go false e true f = ap (λ (x : Bool). cond x HeldOrder DoubtOrder) (tables.by_order l p (ltb-true k.from 33 f) (one e))
        go false e false f = source_by l p (ltb-false k.from 33 f) (one e)

    pub slots_by : tab 256 (slot_by d t.orders gaps reaches) ≡ tab 256 (slot_of pol d gap)
    unfolding slot_by slot_of
    slots_by = tab_cong 256 (slot_by d t.orders gaps reaches) (slot_of pol d gap) (λ l p. go l (ltb l d.link_count) refl)
      where
        go : (l : ℕ) (b : Bool) → ltb l d.link_count ≡ b → cond b (let x : VerdictSlot = record { verdict = by_tables (get_or t.orders l false) gaps reaches (link_at d l) } in x) free_slot ≡ cond b (let x : VerdictSlot = record { verdict = verdict_of pol (system d) gap (link_at d l) } in x) free_slot
        go l true e = ap (λ (v : Verdict). let x : VerdictSlot = record { verdict = v } in x) (by_tables_lem l (ltb-true l d.link_count e))
        go l false e = refl

-- the levels below j are worked out, whatever model and description the tables are of
abbrev pub ReachesTo : Tables → List ℕ → List ℕ → ℕ → ℕ → List ℕ → ℕ → Type 0
ReachesTo t gaps limits n m reaches j = (pol : Policy) (d : Description) (gap : ℕ → ℕ) → WellFormed d → LevelsOf pol d t.levels → StartsOf pol d t.starts → TailsOf pol d t.tails → n ≡ d.task_count → m ≡ d.source_count → GapsIn gap m gaps → (k : ℕ) → k < j → get_or reaches k 0 ≡ reach_with pol d gap (suc k) (get_or limits k 0)

pub reaches_more : (t : Tables) (gaps limits : List ℕ) (n m : ℕ) (reaches : List ℕ) (j reach tail limit : ℕ) → j < n → n ≤ 32 → length reaches ≡ 32 → tail ≡ get_or t.tails j 0 → limit ≡ get_or limits j 0 - tail → reach ≡ reach_in (get_or t.starts j 0) (get_or t.levels j []) gaps m limit → ReachesTo t gaps limits n m reaches j → ReachesTo t gaps limits n m (set reaches j (reach + tail)) (j + 1)
reaches_more t gaps limits n m reaches j reach tail limit p few long et el e r pol d gap g levels starts tails c q z =
    stored (λ k y. y ≡ reach_with pol d gap (suc k) (get_or limits k 0)) 0 reaches j (reach + tail) (omega arith) (r pol d gap g levels starts tails c q z) own
  where
    is_tail : tail ≡ tail_of pol (system d) (suc j)
    is_tail = et ∙ tails j (omega arith)

    is_limit : limit ≡ get_or limits j 0 - tail_of pol (system d) (suc j)
    is_limit = el ∙ ap (λ x. get_or limits j 0 - x) is_tail

    is_reach : reach ≡ level_reach pol (system d) gap (suc j) limit
    is_reach = e ∙ rw q (reach_is d g pol (suc j) (omega arith) (get_or t.starts j 0) (get_or t.levels j []) (starts j (omega arith)) (λ u w. levels j u (omega arith) w) gaps gap (rw q at z) limit)

    own : reach + tail ≡ reach_with pol d gap (suc j) (get_or limits j 0)
    own = ap (λ x. x + tail) (is_reach ∙ ap (level_reach pol (system d) gap (suc j)) is_limit) ∙ ap (λ x. level_reach pol (system d) gap (suc j) (get_or limits j 0 - tail_of pol (system d) (suc j)) + x) is_tail

-- rounds come to no more than their limit
pub reach_most : (start : ℕ) (loads gaps : List ℕ) (m limit : ℕ) → reach_in start loads gaps m limit ≤ limit
unfolding reach_in
reach_most start loads gaps m limit = go (settle (suc limit) (round_in start loads gaps m) limit start) refl
  where
    go : (x : Settled) → settle (suc limit) (round_in start loads gaps m) limit start ≡ x → reach_of x limit ≤ limit
    go (unchanged D) e = omega (arith, (settle_fixed (suc limit) (round_in start loads gaps m) limit start D e).1)
    go reached e = omega arith

-- at the spacings of a tempo they are the verdicts at it
pub slots_at_tempo : (pol : Policy) (d : Description) (t : ℕ) → tab 256 (slot_of pol d (spacing_of d t)) ≡ tab 256 (slot_at pol d t)
unfolding slot_of verdict_at
slots_at_tempo pol d t = refl
