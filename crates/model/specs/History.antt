-- A list of tick calls, the plain machine beside it, and what its ticks show: firings, runs, events, serves, drops and waits.
use Rattle.std.specs.Prelude.{ℕ, zero, suc, ◌+◌, ◌-◌, ◌<◌, Bool, true, false, ◌||◌, ◌&&◌, not, cond, List, [], ◌∷◌, ◌≡◌, get_or, length, ltb, eqb, Ok, Err}
use Rattle.model.specs.declared.Description.{Description}
use Rattle.model.specs.declared.Policy.{Policy}
use Rattle.model.specs.declared.Machine.{Machine}
use Rattle.model.specs.declared.Arrivals.{Arrivals}
use Rattle.model.specs.declared.Ticked.{Ticked}
use Rattle.model.specs.Refusals.{Outcome, Done, Refused}
use Rattle.model.specs.Graph.{run_of}
use Rattle.model.specs.Machine.{idle, plain_tick, arrive, choose, used_at}

-- a call: "arrivals and finish are free in each", and "its tempos now free"
pub record Call : Type 0 where
  pub tempo : ℕ
  pub arrivals : Arrivals
  pub finish : Bool

-- the plain machine's answer to each call, each lent the record that the one before left; and the record after the last
abbrev pub plain_call : Policy → Description → Machine → Call → Ticked
plain_call p d m c = plain_tick p d c.tempo m c.arrivals c.finish

unfoldable pub answers : Policy → Description → Machine → List Call → List Ticked
answers p d m [] = []
answers p d m (c ∷ cs) = let r = plain_call p d m c in r ∷ answers p d r.machine cs

unfoldable pub left : Policy → Description → Machine → List Call → Machine
left p d m [] = m
left p d m (c ∷ cs) = left p d (plain_call p d m c).machine cs

-- what one tick shows: its tempo, the sources that arrived, the task that ran (0 for none), and whether its run began and whether it ended in
-- this tick
pub record Tick : Type 0 where
  pub tempo : ℕ
  pub arrived : List Bool
  pub ran : ℕ
  pub began : Bool
  pub ended : Bool

unfoldable pub observe : Policy → Description → Machine → Call → Tick
observe p d m c =
    let h = choose p d (arrive d c.arrivals.marks m) in
    record {
      tempo = c.tempo;
      arrived = c.arrivals.marks;
      ran = h;
      began = eqb (used_at m h) 0;
      ended = not (eqb h 0) && (eqb (used_at m h + 1) (run_of d h) || c.finish);
    }

-- "a refused call is no tick"
abbrev pub is_done : Outcome → Bool
is_done (Ok tt) = true
is_done (Err x) = false

unfoldable pub ticks : Policy → Description → Machine → List Call → List Tick
ticks p d m [] = []
ticks p d m (c ∷ cs) =
    let r = plain_call p d m c in
    elim (is_done r.outcome) [ true ↦ observe p d m c ∷ ticks p d r.machine cs | false ↦ ticks p d m cs ]

-- the ticks of a list of calls from the start
abbrev pub history : Policy → Description → List Call → List Tick
history p d cs = ticks p d (idle d) cs

-- a node fires: a source when it arrives, a task when its run ends
abbrev pub fires : Tick → ℕ → Bool
fires k x = cond (ltb x 33) (eqb k.ran x && k.ended) (get_or k.arrived (x - 33) false)

abbrev pub begins : Tick → ℕ → Bool
begins k j = eqb k.ran j && k.began

abbrev pub ends : Tick → ℕ → Bool
ends k j = eqb k.ran j && k.ended

-- the ticks of a list by number, from 0
abbrev pub no_tick : Tick
no_tick = record { tempo = 0; arrived = []; ran = 0; began = false; ended = false }

abbrev pub tick_at : List Tick → ℕ → Tick
tick_at h x = get_or h x no_tick

-- whether the run of j that takes an event ends within the n ticks from tick x on; `begun` says whether it has begun before x
unfoldable pub ends_within : List Tick → ℕ → Bool → ℕ → ℕ → Bool
ends_within h j begun x zero = false
ends_within h j begun x (suc n) =
    let now = begun || begins (tick_at h x) j in
    (now && ends (tick_at h x) j) || ends_within h j now (suc x) n

-- how many of the n ticks from tick x on pass up to the one in which it ends, that one counted; n where it does not end in them
unfoldable pub ticks_until : List Tick → ℕ → Bool → ℕ → ℕ → ℕ
ticks_until h j begun x zero = 0
ticks_until h j begun x (suc n) =
    let now = begun || begins (tick_at h x) j in
    elim (now && ends (tick_at h x) j) [ true ↦ 1 | false ↦ suc (ticks_until h j now (suc x) n) ]

-- "an event that comes later in that run must wait for another run" (C-15): each is taken by the run begun next, be it in the event's own tick. "The
-- event is served in the tick in which the run that takes it ends": the event of tick x for task j is served before tick y
unfoldable pub served_before : List Tick → ℕ → ℕ → ℕ → Bool
served_before h j x y = ends_within h j false x (y - x)

-- "a link has been dropped if its from fired in some tick and its event before that one was not served in an earlier tick"
pub record Dropped (h : List Tick) (i j : ℕ) : Type 0 where
  pub second : ℕ
  pub before : ℕ
  pub earlier : before < second
  pub in_list : second < length h
  pub fired_second : fires (tick_at h second) i ≡ true
  pub fired_before : fires (tick_at h before) i ≡ true
  pub none_between : (x : ℕ) → before < x → x < second → fires (tick_at h x) i ≡ false
  pub not_served : served_before h j before second ≡ false

-- "a wait counts the ticks from the event's own, as the first, to the one that serves it, or else to the last of the list"
unfoldable pub wait_of : List Tick → ℕ → ℕ → ℕ
wait_of h j x = ticks_until h j false x (length h - x)
