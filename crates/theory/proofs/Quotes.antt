-- The quote: a link held at one tempo is held at every lower one, so the quote is where a search by halves finds it,
-- and there is none exactly if some critical link is doubtful at 20.0. Assumes nothing.
use Rattle.std.specs.Prelude.{Ok, Err}
use Prim.Native.Nat.{ℕ, zero, suc, ◌+◌, ◌-◌, ◌≤◌, ◌<◌}
use mathlib.Core.Path.{◌≡◌, refl, sym, ap, ◌∙◌}
use mathlib.Core.Bool.{Bool, true, false, not, cond}
use mathlib.Core.List.{List}
use mathlib.Core.Logic.{◌⊎◌, inl, inr, ◌↔◌}
use native.Mathlib.Omega.{arith}
use lib.Dec.{eqb, ltb}
use borrow.Author.Tests.{ltb-false, not-true}
use Rattle.model.specs.declared.Link.{Link}
use Rattle.model.specs.declared.Description.{Description}
use Rattle.model.specs.declared.Refusal.{Refusal}
use Rattle.model.specs.declared.Refusal.TheVariants.{NoTempo}
use Rattle.model.specs.declared.Policy.{Policy}
use Rattle.model.specs.Refusals.{Quote, Outcome, Done, Refused, on_done, number_of}
use Rattle.model.specs.declared.Verdict.{Verdict}
use Rattle.model.specs.Graph.{System, system, link_at}
use Rattle.model.specs.File.{judge, read_file, Accepted}
use Rattle.model.specs.Delays.{Settled, unchanged, reached, tail_of, delay_of, spacing_of}
use Rattle.model.specs.Verdicts.{settled_verdict, source_verdict, order_verdict, verdict_of, verdict_at, doubtful, all_held, tempos, largest_below, quote_of, quoted_file}
use Rattle.lemmas.proofs.Tests.{Cmp, less, same, more, cmp, not_both, false_of}
use Rattle.lemmas.proofs.Range.{all_at, all_of}
use Rattle.theory.proofs.WellFormed.{WellFormed, IsTask, IsSource}
use Rattle.theory.proofs.Spacing.{gap_anti, gap_some}
use Rattle.theory.proofs.NumberBytes.{Bytes}
use Rattle.theory.proofs.ReadBack.{read_judged}
use Rattle.theory.proofs.RefusalLaws.{read_number, judge_number}
use Rattle.theory.proofs.Rounds.{Spaced, Wider, Kept, held_wider}

-- a working out that gives no doubtful verdict has ended unchanged
pub settled_held : (r : Settled) (tail m : ℕ) → doubtful (settled_verdict r tail m) ≡ false → (D : ℕ) × (r ≡ unchanged D)
settled_held (unchanged D) tail m e = (D, refl)
settled_held reached tail m e = absurd (not_both refl e)

pub held_settled : (r : Settled) (tail m D : ℕ) → r ≡ unchanged D → doubtful (settled_verdict r tail m) ≡ false
held_settled r tail m D e = rw e refl

module _ (pol : Policy) (s : System) (gap gap' : ℕ → ℕ) (g : Spaced s gap) (w : Wider s gap gap') where
  -- a source link that is not doubtful stays so when spacings grow
  pub source_wider : (i j : ℕ) → gap i ≤ gap' i → doubtful (source_verdict pol s gap i j) ≡ false → doubtful (source_verdict pol s gap' i j) ≡ false
  unfolding source_verdict
  source_wider i j h e =
      let (D, x) = settled_held (delay_of pol s gap i j) (tail_of pol s j) (gap i) e in
      let k : Kept pol s gap' i j D = held_wider pol s gap gap' i j D g w h x in
      held_settled (delay_of pol s gap' i j) (tail_of pol s j) (gap' i) k.delay k.held

  -- and so does any link
  pub verdict_wider : (l : Link) → (33 ≤ l.from → gap l.from ≤ gap' l.from) → doubtful (verdict_of pol s gap l) ≡ false → doubtful (verdict_of pol s gap' l) ≡ false
  unfolding verdict_of
  verdict_wider l h = go (eqb l.critical 0) (ltb l.from 33) refl
    where
      go : (a b : Bool) → ltb l.from 33 ≡ b → doubtful (cond a Verdict.Free (cond b (order_verdict s l.from l.to) (source_verdict pol s gap l.from l.to))) ≡ false → doubtful (cond a Verdict.Free (cond b (order_verdict s l.from l.to) (source_verdict pol s gap' l.from l.to))) ≡ false
      go true b q e = refl
      go false true q e = e
      go false false q e = source_wider l.from l.to (h (ltb-false l.from 33 q)) e

-- the spacings of an accepted description at a tempo of the knob
pub spaced : (d : Description) → WellFormed d → (t : ℕ) → 1 ≤ t → t ≤ 3000 → Spaced (system d) (spacing_of d t)
unfolding system
spaced d g t p h u a b = gap_some d g u a b t p h

pub wider : (d : Description) → WellFormed d → (t t' : ℕ) → 1 ≤ t → t ≤ t' → Wider (system d) (spacing_of d t') (spacing_of d t)
unfolding system
wider d g t t' p h u a b = gap_anti d g u a b t t' p h

-- held at one tempo is held at every lower one
pub held_slower : (pol : Policy) (d : Description) → WellFormed d → (t t' l : ℕ) → 1 ≤ t → t ≤ t' → t' ≤ 3000 → l < d.link_count → doubtful (verdict_at pol d t' l) ≡ false → doubtful (verdict_at pol d t l) ≡ false
unfolding verdict_at system
held_slower pol d g t t' l p h b c e =
    verdict_wider
    pol
    (system d)
    (spacing_of d t')
    (spacing_of d t)
    (spaced d g t' (omega arith) b)
    (wider d g t t' p h)
    (link_at d l)
    (λ q. from (g.fields.link_from l c) q)
    e
  where
    from : IsTask (system d) (link_at d l).from ⊎ IsSource (system d) (link_at d l).from → 33 ≤ (link_at d l).from → spacing_of d t' (link_at d l).from ≤ spacing_of d t (link_at d l).from
    from (inl x) q = absurd (omega (arith, x.1, g.fields.few_tasks))
    from (inr x) q = gap_anti d g (link_at d l).from x.0 x.1 t t' p h

pub all_slower : (pol : Policy) (d : Description) → WellFormed d → (t t' : ℕ) → 1 ≤ t → t ≤ t' → t' ≤ 3000 → all_held pol d t' ≡ true → all_held pol d t ≡ true
unfolding all_held
all_slower pol d g t t' p h b e =
    all_of
    (λ l. not (doubtful (verdict_at pol d t l)))
    0
    d.link_count
    (λ l x y. rw (held_slower pol d g t t' l p h b (omega arith) (not-true _ (all_at (λ l. not (doubtful (verdict_at pol d t' l))) 0 d.link_count e l x y))))

-- the largest tempo that passes a test
module _ (good : ℕ → Bool) where
  pub largest_hit : (n : ℕ) → good (200 + n) ≡ true → largest_below good (suc n) ≡ Ok (200 + n)
  unfolding largest_below
  largest_hit n e = rw (e, largest_below)

  pub largest_miss : (n : ℕ) → good (200 + n) ≡ false → largest_below good (suc n) ≡ largest_below good n
  unfolding largest_below
  largest_miss n e = rw (e, largest_below)

  -- what the search finds: it passes, and no larger one does
  pub record Largest (n q : ℕ) : Type 0 where
    pub low : 200 ≤ q
    pub high : q < 200 + n
    pub passes : good q ≡ true
    pub above : (t : ℕ) → q < t → t < 200 + n → good t ≡ false

  unquoted_not : {r : Refusal} {p q : ℕ} → Refused r p ≡ Ok q → ⊥
  unquoted_not e = let z : ◌≡◌ {A = ℕ} 0 1 = cc in omega arith

  tempo_is : {a b : ℕ} → ◌≡◌ {A = Quote} (Ok a) (Ok b) → a ≡ b
  tempo_is e = cc

  pub largest_found : (n q : ℕ) → largest_below good n ≡ Ok q → Largest n q
  unfolding largest_below
  largest_found zero q = λ e. absurd (unquoted_not e)
  largest_found (suc n) q = go (good (200 + n)) refl (largest_found n q)
    where
      go : (b : Bool) → good (200 + n) ≡ b → (largest_below good n ≡ Ok q → Largest n q) → largest_below good (suc n) ≡ Ok q → Largest (suc n) q
      go true e ih f =
          let z : 200 + n ≡ q = tempo_is (sym (largest_hit n e) ∙ f) in
          record { low = omega arith; high = omega arith; passes = rw z at e; above = λ t x y. absurd (omega arith) }
      go false e ih f =
          let r : Largest n q = ih (sym (largest_miss n e) ∙ f) in
          record { low = r.low; high = omega (arith, r.high); passes = r.passes; above = λ t x y. up r t x (cmp t (200 + n)) y }
        where
          up : Largest n q → (t : ℕ) → q < t → Cmp t (200 + n) → t < 200 + suc n → good t ≡ false
          up r t x (less c) y = r.above t x c
          up r t x (same c) y = rw c e
          up r t x (more c) y = absurd (omega arith)

  -- and it is found
  pub largest_is : (n q : ℕ) → Largest n q → largest_below good n ≡ Ok q
  unfolding largest_below
  largest_is zero q r = absurd (omega (arith, r.low, r.high))
  largest_is (suc n) q r = go (cmp q (200 + n)) (largest_is n q)
    where
      go : Cmp q (200 + n) → (Largest n q → largest_below good n ≡ Ok q) → largest_below good (suc n) ≡ Ok q
      go (less c) ih =
          largest_miss n (r.above (200 + n) c (omega arith)) ∙ ih (record { low = r.low; high = c; passes = r.passes; above = λ t x y. r.above t x (omega arith) })
      go (same c) ih = let p : good (200 + n) ≡ true = rw c at r.passes in largest_hit n p ∙ ap Ok (sym c)
      go (more c) ih = absurd (omega (arith, r.high))

  -- none passes
  pub none_largest : (n : ℕ) → largest_below good n ≡ Refused NoTempo 0 → (t : ℕ) → 200 ≤ t → t < 200 + n → good t ≡ false
  none_largest n e t x y = false_of (good t) (λ f. found n t e x y f)
    where
      found : (n t : ℕ) → largest_below good n ≡ Refused NoTempo 0 → 200 ≤ t → t < 200 + n → good t ≡ true → ⊥
      found zero t e x y f = omega arith
      found (suc n) t e x y f = go (good (200 + n)) refl (found n t)
        where
          go : (b : Bool) → good (200 + n) ≡ b → (largest_below good n ≡ Refused NoTempo 0 → 200 ≤ t → t < 200 + n → good t ≡ true → ⊥) → ⊥
          go true q ih = unquoted_not (sym e ∙ largest_hit n q)
          go false q ih = ih (sym (largest_miss n q) ∙ e) x (below (cmp t (200 + n))) f
            where
              below : Cmp t (200 + n) → t < 200 + n
              below (less c) = c
              below (same c) = absurd (not_both (rw c at f) q)
              below (more c) = absurd (omega arith)

  pub largest_none : (n : ℕ) → ((t : ℕ) → 200 ≤ t → t < 200 + n → good t ≡ false) → largest_below good n ≡ Refused NoTempo 0
  unfolding largest_below
  largest_none zero h = refl
  largest_none (suc n) h =
      largest_miss n (h (200 + n) (omega arith) (omega arith)) ∙ largest_none n (λ t x y. h t x (omega arith))

-- of a test that passes at every lower tempo too, it is enough to look at two neighbours, or at the lowest
module _ (pol : Policy) (d : Description) (g : WellFormed d) where
  pub quote_at : (q : ℕ) → 200 ≤ q → q ≤ 3000 → all_held pol d q ≡ true → (q < 3000 → all_held pol d (suc q) ≡ false) → largest_below (all_held pol d) tempos ≡ Ok q
  quote_at q a b e h =
      largest_is
      (all_held pol d)
      tempos
      q
      (record {
        low = a;
        high = omega arith;
        passes = e;
        above =
            λ t x y. false_of (all_held pol d t) (λ f. not_both (all_slower pol d g (suc q) t (omega arith) x (omega arith) f) (h (omega arith)));
      })

  pub quote_none : all_held pol d 200 ≡ false → largest_below (all_held pol d) tempos ≡ Refused NoTempo 0
  quote_none e =
      largest_none
      (all_held pol d)
      tempos
      (λ t x y. false_of (all_held pol d t) (λ f. not_both (all_slower pol d g 200 t (omega arith) x (omega arith) f) e))

-- what a quote says
pub record Quoted (pol : Policy) (d : Description) (q : ℕ) : Type 0 where
  pub judged : judge d ≡ Done
  pub low : 200 ≤ q
  pub high : q ≤ 3000
  pub held : all_held pol d q ≡ true
  pub above : (t : ℕ) → q < t → t ≤ 3000 → all_held pol d t ≡ false

pub quoted : (pol : Policy) (d : Description) (q : ℕ) → quote_of pol d ≡ Ok q → Quoted pol d q
unfolding quote_of
quoted pol d q = go (judge d) refl
  where
    go : (o : Outcome) → judge d ≡ o → on_done o (largest_below (all_held pol d) tempos) Refused ≡ Ok q → Quoted pol d q
    go Done e f =
        let r : Largest (all_held pol d) tempos q = largest_found (all_held pol d) tempos q f in
        record {
          judged = e;
          low = r.low;
          high = omega (arith, r.high);
          held = r.passes;
          above = λ t x y. r.above t x (omega arith);
        }
    go (Err x) e f = absurd (unquoted_not (all_held pol d) f)

-- "the quote is the largest T at which every critical link is held", both ways
pub quote_exactly : (pol : Policy) (d : Description) (q : ℕ) → (quote_of pol d ≡ Ok q) ↔ Quoted pol d q
unfolding quote_of
quote_exactly pol d q = (quoted pol d q, found)
  where
    found : Quoted pol d q → quote_of pol d ≡ Ok q
    found r =
        rw r.judged
        (largest_is (all_held pol d) tempos q (record { low = r.low; high = omega (arith, r.high); passes = r.held; above = λ t x y. r.above t x (omega arith) }))

-- no tempo of the knob has every critical link held
pub record NoneHeld (pol : Policy) (d : Description) : Type 0 where
  pub judged : judge d ≡ Done
  pub none : (t : ℕ) → 200 ≤ t → t ≤ 3000 → all_held pol d t ≡ false

-- a refusal of a reading is not 12
abbrev why_of : Quote → ℕ
why_of (Ok t) = 0
why_of (Err x) = number_of x.why

not_12 : {r : Refusal} {p : ℕ} → number_of r ≤ 10 → ◌≡◌ {A = Quote} (Refused r p) (Refused NoTempo 0) → ⊥
not_12 {r} h e = omega (arith, h, ap why_of e)

-- 12 is given only if there is no such tempo, and always then
pub no_tempo_exactly : (pol : Policy) (d : Description) → (quote_of pol d ≡ Refused NoTempo 0) ↔ NoneHeld pol d
unfolding quote_of
no_tempo_exactly pol d = (go (judge d) refl, found)
  where
    go : (o : Outcome) → judge d ≡ o → on_done o (largest_below (all_held pol d) tempos) Refused ≡ Refused NoTempo 0 → NoneHeld pol d
    go (Ok tt) e f = record { judged = e; none = λ t x y. none_largest (all_held pol d) tempos f t x (omega arith) }
    go (Err x) e f = absurd (not_12 (rw e at (judge_number d)) f)

    found : NoneHeld pol d → quote_of pol d ≡ Refused NoTempo 0
    found r = rw r.judged (largest_none (all_held pol d) tempos (λ t x y. r.none t x (omega arith)))

-- the same of a file
pub file_quote_exactly : (pol : Policy) (s : List ℕ) (q : ℕ) → (quoted_file pol s ≡ Ok q) ↔ (Accepted s × Quoted pol (read_file s).description q)
unfolding quoted_file
file_quote_exactly pol s q = (go (read_file s).outcome refl, λ r. rw r.0 ((quote_exactly pol (read_file s).description q).1 r.1))
  where
    go : (o : Outcome) → (read_file s).outcome ≡ o → on_done o (quote_of pol (read_file s).description) Refused ≡ Ok q → Accepted s × Quoted pol (read_file s).description q
    go (Ok tt) e f = (e, quoted pol (read_file s).description q f)
    go (Err x) e f = absurd (unquoted_not (λ t. true) f)

pub file_no_tempo_exactly : (pol : Policy) (s : List ℕ) → Bytes s → (quoted_file pol s ≡ Refused NoTempo 0) ↔ (Accepted s × ((t : ℕ) → 200 ≤ t → t ≤ 3000 → all_held pol (read_file s).description t ≡ false))
unfolding quoted_file
file_no_tempo_exactly pol s b = (go (read_file s).outcome refl, found)
  where
    go : (o : Outcome) → (read_file s).outcome ≡ o → on_done o (quote_of pol (read_file s).description) Refused ≡ Refused NoTempo 0 → Accepted s × ((t : ℕ) → 200 ≤ t → t ≤ 3000 → all_held pol (read_file s).description t ≡ false)
    go (Ok tt) e f = (e, ((no_tempo_exactly pol (read_file s).description).0 f).none)
    go (Err x) e f = absurd (not_12 (rw e at (read_number s)) f)

    found : Accepted s × ((t : ℕ) → 200 ≤ t → t ≤ 3000 → all_held pol (read_file s).description t ≡ false) → quoted_file pol s ≡ Refused NoTempo 0
    found r = rw r.0 ((no_tempo_exactly pol (read_file s).description).1 (record { judged = read_judged s b r.0; none = r.1 }))
