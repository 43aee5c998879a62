-- The promise, however the knob moves up to the quote, and demand 3, its case of one tempo. Assumes nothing.
use Rattle.std.specs.Prelude.{Ok}
use Prim.Native.Nat.{ℕ, zero, suc, ◌≤◌}
use mathlib.Core.Path.{◌≡◌, refl, subst}
use mathlib.Core.Bool.{Bool, true, false, ◌&&◌}
use mathlib.Core.List.{List, [], ◌∷◌, ◌++◌}
use lib.Dec.{leb, eqb}
use borrow.Author.Tests.{eqb-true, le-leb, leb-true}
use native.Mathlib.Omega.{arith}
use Rattle.model.specs.declared.Description.{Description}
use Rattle.model.specs.declared.Policy.{Policy}
use Rattle.model.specs.declared.Machine.{Machine}
use Rattle.model.specs.declared.Ticked.{Ticked}
use Rattle.model.specs.Refusals.{Done}
use Rattle.model.specs.Basics.{tab}
use Rattle.model.specs.Graph.{system}
use Rattle.model.specs.Delays.{spacing_of}
use Rattle.model.specs.File.{Widths}
use Rattle.model.specs.Verdicts.{quote_of}
use Rattle.model.specs.Machine.{idle, started}
use Rattle.model.specs.History.{Call, Tick, plain_call, is_done, observe, ticks}
use Rattle.model.specs.Promise.{StartMeets, Calls, UpTo, Assured, Promise, at_tempo, Demand3}
use Rattle.lemmas.proofs.Tests.{and_left, and_right, both}
use Rattle.theory.proofs.WellFormed.{WellFormed, Shaped}
use Rattle.theory.proofs.FileLaws.{judge_well_formed}
use Rattle.theory.proofs.Fielded.{shaped}
use Rattle.theory.proofs.LoadLaws.{loaded}
use Rattle.theory.proofs.Spacing.{gap_anti, gap_some}
use Rattle.theory.proofs.Rounds.{held_fixed}
use Rattle.theory.proofs.Order.{walk_order}
use Rattle.theory.proofs.Quotes.{Quoted, quoted}
use Rattle.assurance.proofs.Assurance.{Facts, assured_by}

-- what the laws of files, loads, delays, walks and quotes give
facts : (pol : Policy) (d : Description) (q : ℕ) → Widths d → quote_of pol d ≡ Ok q → Facts pol d q
unfolding system
facts pol d q w e =
    let k : Quoted pol d q = quoted pol d q e in
    let g : WellFormed d = judge_well_formed d w k.judged in
    let s : Shaped (system d) = shaped d g in
    record {
      formed = g;
      loaded = loaded (system d) s g.no_cycle;
      shaped = s;
      held = k.held;
      spaced = record {
        low = k.low;
        some = λ u a b. gap_some d g u a b q (omega (arith, k.low)) k.high;
        most = λ u t a b low high. gap_anti d g u a b t q (omega arith) high;
      };
      settled = λ i j D x. held_fixed pol (system d) (spacing_of d q) i j D x;
      ordered = λ i j a b c. walk_order (system d) s g.fields.few_sources i j a c;
    }

-- a list of calls from the idle record
pub calls_assured : (pol : Policy) (d : Description) (q : ℕ) (cs : List Call) (rs : List Ticked) (m : Machine) → Widths d → quote_of pol d ≡ Ok q → UpTo q (ticks pol d (idle d) cs) → Calls pol d (idle d) cs rs m → Assured pol d q cs rs m
calls_assured pol d q cs rs m w e up k = assured_by pol d q (facts pol d q w e) cs up rs m k

-- with a quote the start is not refused: its record is the idle one
pub start_idle : (pol : Policy) (d : Description) (q : ℕ) (s : Ticked) → quote_of pol d ≡ Ok q → StartMeets d s → s ≡ record { outcome = Done; machine = idle d }
unfolding started
start_idle pol d q s e a = rw (quoted pol d q e).judged at a

pub promise : Promise
promise pol d q s cs rs m w e a k up =
    calls_assured pol d q cs rs m w e up (subst (λ (x : Ticked). Calls pol d x.machine cs rs m) (start_idle pol d q s e a) k)

-- no call of a list is above q: so is no tick of it
unfoldable pub slow_calls : ℕ → List Call → Bool
slow_calls q [] = true
slow_calls q (c ∷ cs) = leb c.tempo q && slow_calls q cs

pub up_next : (q : ℕ) (k : Tick) (h : List Tick) → k.tempo ≤ q → UpTo q h → UpTo q (k ∷ h)
up_next q k h p a zero r = p
up_next q k h p a (suc x) r = a x (omega arith)

pub slow_ticks : (pol : Policy) (q : ℕ) (d : Description) (cs : List Call) (m : Machine) → slow_calls q cs ≡ true → UpTo q (ticks pol d m cs)
unfolding ticks slow_calls observe
slow_ticks pol q d [] m e = λ x p. absurd (omega arith)
slow_ticks pol q d (c ∷ cs) m e =
    go (is_done (plain_call pol d m c).outcome) refl (slow_ticks pol q d cs m rest) (slow_ticks pol q d cs (plain_call pol d m c).machine rest)
  where
    rest : slow_calls q cs ≡ true
    rest = and_right (leb c.tempo q) _ e

    go : (b : Bool) → is_done (plain_call pol d m c).outcome ≡ b → UpTo q (ticks pol d m cs) → UpTo q (ticks pol d (plain_call pol d m c).machine cs) → UpTo q (ticks pol d m (c ∷ cs))
    go true f a b = rw (f, ticks) (up_next q (observe pol d m c) (ticks pol d (plain_call pol d m c).machine cs) (leb-true c.tempo q (and_left (leb c.tempo q) _ e)) b)
    go false f a b = rw (f, ticks) a

-- a list by the numbers of its calls
slow_more : (q : ℕ) (cs : List Call) (c : Call) → slow_calls q cs ≡ true → c.tempo ≤ q → slow_calls q (cs ++ (c ∷ [])) ≡ true
unfolding slow_calls
slow_more q [] c e h = both (leb c.tempo q) true (le-leb c.tempo q h) refl
slow_more q (b ∷ cs) c e h =
    both (leb b.tempo q) _ (and_left (leb b.tempo q) _ e) (slow_more q cs c (and_right (leb b.tempo q) _ e) h)

pub slow_tab : (q : ℕ) (call : ℕ → Call) → ((x : ℕ) → (call x).tempo ≤ q) → (n : ℕ) → slow_calls q (tab n call) ≡ true
unfolding tab slow_calls
slow_tab q call h zero = refl
slow_tab q call h (suc n) = slow_more q (tab n call) (call n) (slow_tab q call h n) (h n)

-- demand 3: calls at one tempo up to the quote
one_slow : (q t : ℕ) → t ≤ q → (cs : List Call) → at_tempo t cs ≡ true → slow_calls q cs ≡ true
unfolding at_tempo slow_calls
one_slow q t h [] e = refl
one_slow q t h (c ∷ cs) e =
    let k : c.tempo ≡ t = eqb-true c.tempo t (and_left (eqb c.tempo t) _ e) in
    both (leb c.tempo q) _ (le-leb c.tempo q (omega arith)) (one_slow q t h cs (and_right (eqb c.tempo t) _ e))

pub demand3 : Demand3
demand3 pol d q t s cs rs m w e high one a k =
    promise pol d q s cs rs m w e a k (slow_ticks pol q d cs (idle d) (one_slow q t high cs one))
