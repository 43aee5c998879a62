-- The best tempo level by level, and the quote by the answers of the search. Assumes nothing.
use Rattle.std.specs.Prelude.{Ok}
use Prim.Native.Nat.{ℕ, suc, ◌+◌, ◌≤◌, ◌<◌}
use mathlib.Core.Path.{◌≡◌, sym}
use mathlib.Core.Bool.{Bool, true, false}
use mathlib.Core.List.{List}
use native.Mathlib.Omega.{arith}
use Rattle.model.specs.declared.Description.{Description}
use Rattle.model.specs.declared.Policy.{Policy}
use Rattle.model.specs.Refusals.{Done, Refused}
use Rattle.model.specs.declared.Refusal.{Refusal}
use Rattle.model.specs.declared.Refusal.TheVariants.{NoTempo}
use Rattle.model.specs.Delays.{spacing_of}
use Rattle.model.specs.File.{read_file, judge}
use Rattle.model.specs.Verdicts.{all_held, tempos, largest_below, quote_of, quoted_file}
use Rattle.lemmas.proofs.Tests.{Cmp, less, same, more, cmp}
use Rattle.theory.proofs.WellFormed.{WellFormed}
use Rattle.theory.proofs.NumberBytes.{Bytes}
use Rattle.theory.proofs.ReadBack.{read_judged}
use Rattle.theory.proofs.Quotes.{quote_at, quote_none}
use Rattle.spacings.specs.Gaps.{GapsBy}
use Rattle.verdicts.specs.declared.Tables.{Tables}
use Rattle.neighbourhoods.specs.Orders.{orders_held}
use Rattle.verdicts.specs.Held.{level_held}
use Rattle.verdicts.specs.Tables.{Level, task_level, HeldBy, LevelTables}
use Rattle.verdicts.proofs.LevelLaws.{levels_all, not_level, not_orders}
use Rattle.verdicts.proofs.TableLaws.{level_of-tables}
use Rattle.tempo_search.specs.Search.{LevelFrom, SlowerAt}
use Rattle.tempo_search.proofs.Laws.{level_slower, held_from}
use Rattle.quotes.specs.Best.{Best}

-- the level of the tables at hand, and whether it is held at the best tempo so far
module _ (pol : Policy) (d : Description) (t : Tables) (j : ℕ) (v : Level) (x : LevelTables pol d t) (p : j < t.tasks) (e : v ≡ task_level t j) where
  pub level_from : LevelFrom pol d (suc j) v t.sources
  level_from = record { good = x.good; task = omega arith; level_is = rw e (level_of-tables pol d t j x p); sources_are = x.by_source }

  pub held_is : (best : ℕ) (gaps : List ℕ) (r : Bool) → GapsBy t.sources best gaps → HeldBy v gaps t.sources.count r → r ≡ level_held pol d (spacing_of d best) (suc j)
  held_is best gaps r z h = held_from pol d (suc j) v t.sources best gaps r level_from z h

module _ (pol : Policy) (d : Description) where
  -- no level yet, the next one held, and the next one in doubt
  pub best_none : Best pol d 0 3000
  best_none = record { low = omega arith; high = omega arith; held = λ k a b. absurd (omega arith); above = λ h. absurd (omega arith) }

  pub best_held : (j best : ℕ) → level_held pol d (spacing_of d best) (suc j) ≡ true → Best pol d j best → Best pol d (j + 1) best
  best_held j best e r =
      record { low = r.low; high = r.high; held = λ k a b. go k a (cmp k (suc j)) b; above = λ h. let x = r.above h in (x.0, x.1, omega (arith, x.2), x.3) }
    where
      go : (k : ℕ) → 1 ≤ k → Cmp k (suc j) → k ≤ j + 1 → level_held pol d (spacing_of d best) k ≡ true
      go k a (less x) b = r.held k a (omega arith)
      go k a (same x) b = rw x e
      go k a (more x) b = absurd (omega arith)

  pub best_slower : WellFormed d → (j best q : ℕ) → SlowerAt pol d (suc j) best q → Best pol d j best → Best pol d (j + 1) q
  best_slower g j best q x r =
      record {
        low = x.0;
        high = omega (arith, x.1, r.high);
        held = λ k a b. go k a (cmp k (suc j)) b;
        above = λ h. (suc j, omega arith, omega arith, x.3);
      }
    where
      go : (k : ℕ) → 1 ≤ k → Cmp k (suc j) → k ≤ j + 1 → level_held pol d (spacing_of d q) k ≡ true
      go k a (less y) b = level_slower pol d g q best k (omega (arith, x.0)) (omega (arith, x.1)) r.high (r.held k a (omega arith))
      go k a (same y) b = rw y x.2
      go k a (more y) b = absurd (omega arith)

  -- the quote, where the last level is passed
  pub best_quote : WellFormed d → orders_held d ≡ true → (best : ℕ) → Best pol d d.task_count best → Ok best ≡ largest_below (all_held pol d) tempos
  best_quote g o best r =
      sym (quote_at pol d g best r.low r.high (levels_all pol d best g o r.held) (λ h. let x = r.above h in not_level pol d (suc best) x.0 x.3))

  -- there is none, where a level or an order is in doubt at the lowest tempo
  pub no_level : WellFormed d → (j : ℕ) → level_held pol d (spacing_of d 200) j ≡ false → Refused NoTempo 0 ≡ largest_below (all_held pol d) tempos
  no_level g j e = sym (quote_none pol d g (not_level pol d 200 j e))

  pub no_order : WellFormed d → orders_held d ≡ false → Refused NoTempo 0 ≡ largest_below (all_held pol d) tempos
  no_order g e = sym (quote_none pol d g (not_orders pol d 200 e))

pub quote_refused : (pol : Policy) (d : Description) (r : Refusal) (p : ℕ) → judge d ≡ Refused r p → Refused r p ≡ quote_of pol d
unfolding quote_of
quote_refused pol d r p e = rw e

pub quote_judged : (pol : Policy) (d : Description) → judge d ≡ Done → largest_below (all_held pol d) tempos ≡ quote_of pol d
unfolding quote_of
quote_judged pol d e = rw e

-- the quote of a file, refused or accepted
module _ (pol : Policy) (s : List ℕ) where
  pub file_refused : (r : Refusal) (p : ℕ) → (read_file s).outcome ≡ Refused r p → Refused r p ≡ quoted_file pol s
  unfolding quoted_file
  file_refused r p e = rw e

  pub file_quoted : Bytes s → (d : Description) → d ≡ (read_file s).description → (read_file s).outcome ≡ Done → largest_below (all_held pol d) tempos ≡ quoted_file pol s
  unfolding quoted_file
  file_quoted b d f e = rw (e, f) (quote_judged pol (read_file s).description (read_judged s b e))
