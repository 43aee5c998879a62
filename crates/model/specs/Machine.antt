-- "The tick machine" as C-13 has it, with a tempo in each tick, on both models (C-14), whose tasks read their inputs when they begin (C-15): the
-- record, its rules, its start, the steps of a tick, and the refusals of a call. It is the plain machine.
use Rattle.std.specs.Prelude.{ℕ, zero, suc, ◌+◌, ◌-◌, min, max, Bool, true, false, ◌||◌, ◌&&◌, not, cond, List, get_or, set, drop, replicate, ltb, leb, eqb}
use Rattle.model.specs.declared.Description.{Description}
use Rattle.model.specs.declared.Machine.{Machine}
use Rattle.model.specs.declared.Arrivals.{Arrivals}
use Rattle.model.specs.declared.Ticked.{Ticked}
use Rattle.model.specs.Refusals.{Outcome, Done, Refused, on_done}
use Rattle.model.specs.declared.Refusal.{Refusal}
use Rattle.model.specs.declared.Refusal.TheVariants.{TooSoon, Stranger, ForeignState}
use Rattle.model.specs.declared.Policy.{Policy}
use Rattle.model.specs.declared.Policy.TheVariants.{Preemptive, HoldOn}
use Rattle.model.specs.Basics.{sum_n, up_to, tab, all_n, any_n, unset, given}
use Rattle.model.specs.File.{judge}
use Rattle.model.specs.Graph.{link_at, run_of}
use Rattle.model.specs.Delays.{spacing_of}
use Rattle.model.specs.Verdicts.{on_knob, judge_at}

-- reading the record: by task number, by link's place, by source's place
abbrev pub awake_at : Machine → ℕ → Bool
awake_at m k = get_or m.awake (k - 1) false

abbrev pub used_at : Machine → ℕ → ℕ
used_at m k = get_or m.used (k - 1) 0

abbrev pub waiting_at : Machine → ℕ → Bool
waiting_at m l = get_or m.waiting l false

abbrev pub dropped_at : Machine → ℕ → Bool
dropped_at m l = get_or m.dropped l false

abbrev pub age_at : Machine → ℕ → ℕ
age_at m u = get_or m.ages u 0

-- "the record gains that fastest tempo for each source, 0 before the first firing"
abbrev pub fastest_at : Machine → ℕ → ℕ
fastest_at m u = get_or m.fastest u 0

-- "the record gains, for each task, a mark 'again', and for each link a mark 'late'"
abbrev pub again_at : Machine → ℕ → Bool
again_at m k = get_or m.again (k - 1) false

abbrev pub late_at : Machine → ℕ → Bool
late_at m l = get_or m.late l false

-- "the spacing for 20.0", the longest that a source has
abbrev pub longest_gap : Description → ℕ → ℕ
longest_gap d u = spacing_of d 200 (33 + u)

-- one part of the record replaced
abbrev pub set_awake : ℕ → Bool → Machine → Machine
set_awake k b m = record { awake = set m.awake (k - 1) b; used = m.used; waiting = m.waiting; dropped = m.dropped; ages = m.ages; fastest = m.fastest; again = m.again; late = m.late }

abbrev pub set_used : ℕ → ℕ → Machine → Machine
set_used k x m = record { awake = m.awake; used = set m.used (k - 1) x; waiting = m.waiting; dropped = m.dropped; ages = m.ages; fastest = m.fastest; again = m.again; late = m.late }

abbrev pub set_waiting : ℕ → Bool → Machine → Machine
set_waiting l b m = record { awake = m.awake; used = m.used; waiting = set m.waiting l b; dropped = m.dropped; ages = m.ages; fastest = m.fastest; again = m.again; late = m.late }

abbrev pub set_dropped : ℕ → Bool → Machine → Machine
set_dropped l b m = record { awake = m.awake; used = m.used; waiting = m.waiting; dropped = set m.dropped l b; ages = m.ages; fastest = m.fastest; again = m.again; late = m.late }

abbrev pub set_age : ℕ → ℕ → Machine → Machine
set_age u x m = record { awake = m.awake; used = m.used; waiting = m.waiting; dropped = m.dropped; ages = set m.ages u x; fastest = m.fastest; again = m.again; late = m.late }

abbrev pub set_fastest : ℕ → ℕ → Machine → Machine
set_fastest u x m = record { awake = m.awake; used = m.used; waiting = m.waiting; dropped = m.dropped; ages = m.ages; fastest = set m.fastest u x; again = m.again; late = m.late }

abbrev pub set_again : ℕ → Bool → Machine → Machine
set_again k b m = record { awake = m.awake; used = m.used; waiting = m.waiting; dropped = m.dropped; ages = m.ages; fastest = m.fastest; again = set m.again (k - 1) b; late = m.late }

abbrev pub set_late : ℕ → Bool → Machine → Machine
set_late l b m = record { awake = m.awake; used = m.used; waiting = m.waiting; dropped = m.dropped; ages = m.ages; fastest = m.fastest; again = m.again; late = set m.late l b }

-- a record of zeros, which stands beside a refusal
abbrev pub blank_machine : Machine
blank_machine = record { awake = replicate 32 false; used = replicate 32 0; waiting = replicate 256 false; dropped = replicate 256 false; ages = replicate 16 0; fastest = replicate 16 0; again = replicate 32 false; late = replicate 256 false }

-- "at the start all tasks sleep, used is 0, marks are clear"; "ages start at the spacing for 20.0", and no tempo is kept
unfoldable pub idle : Description → Machine
idle d = record {
  awake = replicate 32 false;
  used = replicate 32 0;
  waiting = replicate 256 false;
  dropped = replicate 256 false;
  ages = tab 16 (λ u. cond (ltb u d.source_count) (longest_gap d u) 0);
  fastest = replicate 16 0;
  again = replicate 32 false;
  late = replicate 256 false;
}

-- the start call: 1 to 10, with zeros beside a refusal
abbrev pub unstarted : Refusal → ℕ → Ticked
unstarted r place = record { outcome = Refused r place; machine = blank_machine }

unfoldable pub started : Description → Ticked
started d = on_done (judge d) (record { outcome = Done; machine = idle d }) unstarted

-- the rules: "used is below e; a sleeping task has used 0; a waiting link's task is awake; ages do not exceed spacings", now those for 20.0;
-- "a kept tempo is 0, with the age as at the start, or 200 to 3,000"; "nothing is set for absent nodes or links"
abbrev pub task_rule : Description → Machine → ℕ → Bool
task_rule d m k = cond (leb k d.task_count)
    (ltb (used_at m k) (run_of d k) && (awake_at m k || eqb (used_at m k) 0))
    (not (awake_at m k) && eqb (used_at m k) 0)

abbrev pub link_rule : Description → Machine → ℕ → Bool
link_rule d m l = not (waiting_at m l) || awake_at m (link_at d l).to

abbrev pub source_rule : Description → Machine → ℕ → Bool
source_rule d m u = cond (ltb u d.source_count)
    (leb (age_at m u) (longest_gap d u) && cond (eqb (fastest_at m u) 0) (eqb (age_at m u) (longest_gap d u)) (on_knob (fastest_at m u)))
    (eqb (age_at m u) 0 && eqb (fastest_at m u) 0)

-- "'again' only on a task part done, and 'late' only on a waiting link into a task marked 'again'"
abbrev pub again_rule : Machine → ℕ → Bool
again_rule m k = not (again_at m k) || ltb 0 (used_at m k)

abbrev pub late_rule : Description → Machine → ℕ → Bool
late_rule d m l = not (late_at m l) || (waiting_at m l && again_at m (link_at d l).to)

-- "nothing is set for absent .. links": the marks from the link count on
abbrev pub absent_rule : Description → List Bool → Bool
absent_rule d marks = unset (drop d.link_count marks)

-- of the marks of links: waiting and dropped, and late
abbrev pub links_rule : Description → Machine → Bool
links_rule d m = all_n (link_rule d m) 0 d.link_count && (absent_rule d m.waiting && absent_rule d m.dropped)

abbrev pub lates_rule : Description → Machine → Bool
lates_rule d m = all_n (late_rule d m) 0 d.link_count && absent_rule d m.late

-- these are the rules of both models
unfoldable pub rules_kept : Description → Machine → Bool
rules_kept d m = all_n (task_rule d m) 1 32 && (links_rule d m && (all_n (source_rule d m) 0 16 && (all_n (again_rule m) 1 32 && lates_rule d m)))

-- how many tasks are part done; on the hold-on model "the task that runs is the one whose used is above 0, and the state rule allows only one such"
unfoldable pub parts_done : Machine → ℕ
parts_done m = sum_n (λ k. given (ltb 0 (used_at m k)) 1) 1 32

abbrev pub alone_rule : Policy → Machine → Bool
alone_rule Preemptive m = true
alone_rule HoldOn m = leb (parts_done m) 1

unfoldable pub lawful : Policy → Description → Machine → Bool
lawful p d m = rules_kept d m && alone_rule p m

-- "Firing means, for each link out: if waiting, mark dropped; set waiting; wake the task"
abbrev pub mark_dropped : ℕ → Machine → Machine
mark_dropped l m = cond (waiting_at m l) (set_dropped l true m) m

-- "An event for a task whose used is above 0 sets waiting and late, and 'again' on its task"
abbrev pub mark_late : Description → ℕ → Machine → Machine
mark_late d l m = cond (ltb 0 (used_at m (link_at d l).to)) (set_again (link_at d l).to true (set_late l true m)) m

unfoldable pub fire_link : Description → ℕ → ℕ → Machine → Machine
fire_link d x l m = cond (eqb (link_at d l).from x) (set_awake (link_at d l).to true (set_waiting l true (mark_dropped l (mark_late d l m)))) m

unfoldable pub fire : Description → ℕ → Machine → Machine
fire d x m = up_to d.link_count (fire_link d x) m

-- 1. "each arriving source fires, in rising number, and its age becomes 0"
unfoldable pub arrive_one : Description → List Bool → ℕ → Machine → Machine
arrive_one d marks u m = cond (get_or marks u false) (set_age u 0 (fire d (33 + u) m)) m

unfoldable pub arrive : Description → List Bool → Machine → Machine
arrive d marks m = up_to d.source_count (arrive_one d marks) m

-- 2. "the highest awake task runs; its used rises by one. With no task awake, this step and the next do nothing"
unfoldable pub highest_in : List Bool → ℕ → ℕ
highest_in awake zero = 0
highest_in awake (suc k) = elim (get_or awake k false) [ true ↦ suc k | false ↦ highest_in awake k ]

abbrev pub highest : Description → Machine → ℕ
highest d m = highest_in m.awake d.task_count

-- "the highest awake task is chosen only when none is running": the task that goes on, 0 for none, and the one that runs
abbrev pub running : Policy → Description → Machine → ℕ
running Preemptive d m = 0
running HoldOn d m = highest_in (tab 32 (λ k. ltb 0 (get_or m.used k 0))) d.task_count

unfoldable pub choose : Policy → Description → Machine → ℕ
choose p d m = cond (eqb (running p d m) 0) (highest d m) (running p d m)

unfoldable pub run_task : ℕ → Machine → Machine
run_task h m = cond (eqb h 0) m (set_used h (used_at m h + 1) m)

-- 3. "if used equals e, or the caller says finish, it sleeps, used becomes 0, waiting marks on links into it clear, and then it fires", but "late links stay
-- waiting and lose 'late'", and "a task marked 'again' is awake with used 0 and loses the mark"
unfoldable pub clear_link : Description → ℕ → ℕ → Machine → Machine
clear_link d h l m = cond (eqb (link_at d l).to h) (set_late l false (set_waiting l (late_at m l) m)) m

unfoldable pub clear_into : Description → ℕ → Machine → Machine
clear_into d h m = up_to d.link_count (clear_link d h) m

abbrev pub complete : ℕ → Machine → Machine
complete h m = set_again h false (set_used h 0 (set_awake h (again_at m h) m))

unfoldable pub end_run : Description → ℕ → Bool → Machine → Machine
end_run d h finish m =
    cond (not (eqb h 0) && (eqb (used_at m h) (run_of d h) || finish))
    (fire d h (clear_into d h (complete h m)))
    m

-- 4. "ages rise by one, up to the spacing", which is that for 20.0
unfoldable pub age_one : Description → ℕ → Machine → Machine
age_one d u m = set_age u (min (longest_gap d u) (age_at m u + 1)) m

unfoldable pub age_all : Description → Machine → Machine
age_all d m = up_to d.source_count (age_one d) m

-- and "the fastest tempo given since it last fired", "the tick of that firing" included: a source that fires keeps this tick's tempo, another
-- with a kept tempo the larger of the two, and one that never fired has none
abbrev pub kept_after : ℕ → Bool → ℕ → ℕ
kept_after t fired f = cond fired t (cond (eqb f 0) 0 (max f t))

unfoldable pub keep : ℕ → List Bool → Machine → Machine
keep t marks m = record {
  awake = m.awake;
  used = m.used;
  waiting = m.waiting;
  dropped = m.dropped;
  ages = m.ages;
  fastest = tab 16 (λ u. kept_after t (get_or marks u false) (fastest_at m u));
  again = m.again;
  late = m.late;
}

-- one tick at tempo t: these steps, the task that runs being chosen once the sources have fired
unfoldable pub stepped : Policy → Description → ℕ → List Bool → Bool → Machine → Machine
stepped p d t marks finish m =
    let m₁ = arrive d marks m in
    let h = choose p d m₁ in
    keep t marks (age_all d (end_run d h finish (run_task h m₁)))

-- 15: "an arrival from a source that does not exist"; 14: "an arriving source's age is below its spacing", which is that "at the fastest tempo given
-- since it last fired, the tick of that firing and its present tick included". Before its first firing 0 is kept and the age is the
-- longest spacing: it is free
unfoldable pub strangers : Description → List Bool → Bool
strangers d marks = any_n (λ u. get_or marks u false && leb d.source_count u) 0 16

unfoldable pub too_soon : Description → ℕ → List Bool → Machine → Bool
too_soon d t marks m = any_n (λ u. get_or marks u false && ltb (age_at m u) (spacing_of d (max (fastest_at m u) t) (33 + u))) 0 d.source_count

-- "calls then check 11, 16, 15, 14"
unfoldable pub judge_tick : Policy → Description → ℕ → Machine → List Bool → Outcome
judge_tick p d t m marks = on_done (judge_at d t)
    (cond (not (lawful p d m)) (Refused ForeignState 0)
    (cond (strangers d marks) (Refused Stranger 0)
    (cond (too_soon d t marks m) (Refused TooSoon 0)
    Done)))
    Refused

-- the tick call; a refusal changes "no part of a lent machine record"
unfoldable pub plain_tick : Policy → Description → ℕ → Machine → Arrivals → Bool → Ticked
plain_tick p d t m a finish = on_done (judge_tick p d t m a.marks)
    (record { outcome = Done; machine = stepped p d t a.marks finish m })
    (λ r place. record { outcome = Refused r place; machine = m })
