-- A list of calls from a record on: those that are ticks, the records between them, and that History's ticks are what they show. Assumes nothing.
use Rattle.std.specs.Prelude.{Ok, Err}
use Prim.Native.Nat.{ℕ, zero, suc, ◌<◌}
use mathlib.Core.Path.{◌≡◌, refl, sym, ap, ◌∙◌}
use mathlib.Core.Bool.{Bool, true, false}
use mathlib.Core.List.{List, [], ◌∷◌}
use native.Mathlib.Omega.{arith}
use lib.ListN.{length, get_or}
use Rattle.model.specs.declared.Description.{Description}
use Rattle.model.specs.declared.Policy.{Policy}
use Rattle.model.specs.declared.Machine.{Machine}
use Rattle.model.specs.Refusals.{Outcome, Done, Refused}
use Rattle.model.specs.declared.Refusal.TheVariants.{TooSoon, Stranger, ForeignState}
use Rattle.model.specs.Verdicts.{judge_at}
use Rattle.model.specs.Machine.{lawful, stepped, strangers, too_soon, judge_tick, plain_tick}
use Rattle.model.specs.History.{Call, plain_call, left, observe, is_done, ticks, tick_at, no_tick}
use Rattle.lemmas.proofs.Tests.{not_both}

-- a call with no arrival, which stands past the end of a list
abbrev pub quiet_call : Call
quiet_call = record { tempo = 0; arrivals = record { marks = [] }; finish = false }

abbrev pub call_at : List Call → ℕ → Call
call_at ks x = get_or ks x quiet_call

-- the calls that are ticks
unfoldable pub taken : Policy → Description → Machine → List Call → List Call
taken pol d m [] = []
taken pol d m (c ∷ cs) =
    let r = plain_call pol d m c in
    elim (is_done r.outcome) [ true ↦ c ∷ taken pol d r.machine cs | false ↦ taken pol d m cs ]

-- the record before tick x of a list of ticks
unfoldable pub state_at : Policy → Description → Machine → List Call → ℕ → Machine
state_at pol d m ks zero = m
state_at pol d m ks (suc x) = stepped pol d (call_at ks x).tempo (call_at ks x).arrivals.marks (call_at ks x).finish (state_at pol d m ks x)

state_cons : (pol : Policy) (d : Description) (m : Machine) (c : Call) (ks : List Call) (x : ℕ) → state_at pol d m (c ∷ ks) (suc x) ≡ state_at pol d (stepped pol d c.tempo c.arrivals.marks c.finish m) ks x
unfolding state_at
state_cons pol d m c ks zero = refl
state_cons pol d m c ks (suc x) =
    ap (λ (n : Machine). stepped pol d (call_at ks x).tempo (call_at ks x).arrivals.marks (call_at ks x).finish n) (state_cons pol d m c ks x)

-- a call that is done: what passed, and the record that it leaves
pub record Passed (d : Description) (t : ℕ) (m : Machine) (marks : List Bool) : Type 0 where
  pub judged : judge_at d t ≡ Done
  pub known : strangers d marks ≡ false
  pub spaced : too_soon d t marks m ≡ false

pub judge_passed : (pol : Policy) (d : Description) (t : ℕ) (m : Machine) (marks : List Bool) → judge_tick pol d t m marks ≡ Done → Passed d t m marks
unfolding judge_tick
judge_passed pol d t m marks e = go (judge_at d t) refl (lawful pol d m) refl (strangers d marks) refl (too_soon d t marks m) refl
  where
    never : {A : Type 0} (o : Outcome) → is_done o ≡ false → o ≡ Done → A
    never o p q = absurd (not_both (ap is_done q) p)

    go : (o : Outcome) → judge_at d t ≡ o → (a : Bool) → lawful pol d m ≡ a → (b : Bool) → strangers d marks ≡ b → (c : Bool) → too_soon d t marks m ≡ c → Passed d t m marks
    go (Err x) eo a ea b eb c ec = never (Refused x.why x.place) refl (rw (eo, judge_tick) at e)
    go (Ok tt) eo false ea b eb c ec = never (Refused ForeignState 0) refl (rw (eo, ea, judge_tick) at e)
    go (Ok tt) eo true ea true eb c ec = never (Refused Stranger 0) refl (rw (eo, ea, eb, judge_tick) at e)
    go (Ok tt) eo true ea false eb true ec = never (Refused TooSoon 0) refl (rw (eo, ea, eb, ec, judge_tick) at e)
    go (Ok tt) eo true ea false eb false ec = record { judged = eo; known = eb; spaced = ec }

tick_done : (pol : Policy) (d : Description) (m : Machine) (c : Call) → is_done (plain_call pol d m c).outcome ≡ true → (judge_tick pol d c.tempo m c.arrivals.marks ≡ Done) × ((plain_call pol d m c).machine ≡ stepped pol d c.tempo c.arrivals.marks c.finish m)
unfolding plain_tick
tick_done pol d m c e = go (judge_tick pol d c.tempo m c.arrivals.marks) refl
  where
    go : (o : Outcome) → judge_tick pol d c.tempo m c.arrivals.marks ≡ o → (judge_tick pol d c.tempo m c.arrivals.marks ≡ Done) × ((plain_call pol d m c).machine ≡ stepped pol d c.tempo c.arrivals.marks c.finish m)
    go (Ok tt) q = (q, rw (q, plain_tick) refl)
    go (Err x) q = absurd (not_both (rw (q, plain_tick) at e) refl)

pub tick_refused : (pol : Policy) (d : Description) (m : Machine) (c : Call) → is_done (plain_call pol d m c).outcome ≡ false → (plain_call pol d m c).machine ≡ m
unfolding plain_tick
tick_refused pol d m c e = go (judge_tick pol d c.tempo m c.arrivals.marks) refl
  where
    go : (o : Outcome) → judge_tick pol d c.tempo m c.arrivals.marks ≡ o → (plain_call pol d m c).machine ≡ m
    go (Ok tt) q = absurd (not_both refl (rw (q, plain_tick) at e))
    go (Err x) q = rw (q, plain_tick) refl

-- what the calls cs show from the record m on, ks being those that are ticks
pub record Replayed (pol : Policy) (d : Description) (m : Machine) (cs ks : List Call) : Type 0 where
  pub as_many : length (ticks pol d m cs) ≡ length ks
  pub shows : (x : ℕ) → x < length ks → tick_at (ticks pol d m cs) x ≡ observe pol d (state_at pol d m ks x) (call_at ks x)
  pub ends_at_lem : left pol d m cs ≡ state_at pol d m ks (length ks)
  pub passed : (x : ℕ) → x < length ks → Passed d (call_at ks x).tempo (state_at pol d m ks x) (call_at ks x).arrivals.marks

replay_done : (pol : Policy) (d : Description) (m : Machine) (c : Call) (cs ks : List Call) → is_done (plain_call pol d m c).outcome ≡ true → Replayed pol d (plain_call pol d m c).machine cs ks → Replayed pol d m (c ∷ cs) (c ∷ ks)
unfolding ticks left state_at
replay_done pol d m c cs ks e f =
    record {
      as_many = rw (e, ticks) (ap suc f.as_many);
      shows = λ x p. rw (e, ticks, (tick_done pol d m c e).1) (shows x p);
      ends_at_lem = rw ((tick_done pol d m c e).1, left) (h.ends_at_lem ∙ sym (state_cons pol d m c ks (length ks)));
      passed = passed;
    }
  where
    m₁ : Machine
    m₁ = stepped pol d c.tempo c.arrivals.marks c.finish m

    h : Replayed pol d (stepped pol d c.tempo c.arrivals.marks c.finish m) cs ks
    h = rw (tick_done pol d m c e).1 at f

    shows : (x : ℕ) → x < suc (length ks) → get_or (observe pol d m c ∷ ticks pol d (stepped pol d c.tempo c.arrivals.marks c.finish m) cs) x no_tick ≡ observe pol d (state_at pol d m (c ∷ ks) x) (call_at (c ∷ ks) x)
    shows zero p = refl
    shows (suc x) p = rw (state_cons pol d m c ks x) (h.shows x (omega arith))

    passed : (x : ℕ) → x < suc (length ks) → Passed d (call_at (c ∷ ks) x).tempo (state_at pol d m (c ∷ ks) x) (call_at (c ∷ ks) x).arrivals.marks
    passed zero p = judge_passed pol d c.tempo m c.arrivals.marks (tick_done pol d m c e).0
    passed (suc x) p = rw (state_cons pol d m c ks x) (h.passed x (omega arith))

replay_refused : (pol : Policy) (d : Description) (m : Machine) (c : Call) (cs ks : List Call) → is_done (plain_call pol d m c).outcome ≡ false → Replayed pol d m cs ks → Replayed pol d m (c ∷ cs) ks
unfolding ticks left
replay_refused pol d m c cs ks e f = record {
  as_many = rw (e, ticks) f.as_many;
  shows = rw (e, ticks) f.shows;
  ends_at_lem = rw (tick_refused pol d m c e, left) f.ends_at_lem;
  passed = f.passed;
}

pub replayed : (pol : Policy) (d : Description) (cs : List Call) (m : Machine) → Replayed pol d m cs (taken pol d m cs)
unfolding taken ticks left state_at
replayed pol d [] m = record {
  as_many = refl;
  shows = λ x p. absurd (omega arith);
  ends_at_lem = refl;
  passed = λ x p. absurd (omega arith);
}
replayed pol d (c ∷ cs) m = go (is_done (plain_call pol d m c).outcome) refl (replayed pol d cs m) (replayed pol d cs (plain_call pol d m c).machine)
  where
    go : (b : Bool) → is_done (plain_call pol d m c).outcome ≡ b → Replayed pol d m cs (taken pol d m cs) → Replayed pol d (plain_call pol d m c).machine cs (taken pol d (plain_call pol d m c).machine cs) → Replayed pol d m (c ∷ cs) (taken pol d m (c ∷ cs))
    go true e f g = rw (e, taken) (replay_done pol d m c cs (taken pol d (plain_call pol d m c).machine cs) e g)
    go false e f g = rw (e, taken) (replay_refused pol d m c cs (taken pol d m cs) e f)
