-- "Entries past a count are not looked at", by the machine: two records that agree below their counts start, tick and run alike. Assumes nothing.
use Prim.Native.Nat.{ℕ, ◌+◌, ◌-◌, ◌≤◌, ◌<◌, min, max}
use mathlib.Core.Path.{◌≡◌, refl, ap, ◌∙◌}
use mathlib.Core.Bool.{Bool, true, false, cond, not, ◌||◌, ◌&&◌}
use mathlib.Core.List.{List, [], ◌∷◌}
use native.Mathlib.Omega.{arith}
use lib.ListN.{length, get_or, replicate}
use lib.Dec.{eqb, ltb, leb}
use borrow.Author.Tests.{ltb-true, leb-true}
use Rattle.model.specs.declared.Link.{Link}
use Rattle.model.specs.declared.Description.{Description}
use Rattle.model.specs.declared.Policy.{Policy}
use Rattle.model.specs.declared.Policy.TheVariants.{Preemptive, HoldOn}
use Rattle.model.specs.declared.Machine.{Machine}
use Rattle.model.specs.declared.Arrivals.{Arrivals}
use Rattle.model.specs.declared.Ticked.{Ticked}
use Rattle.model.specs.Refusals.{Outcome, Done, on_done}
use Rattle.model.specs.declared.Refusal.TheVariants.{ShortPage}
use Rattle.model.specs.Basics.{up_to, tab, all_n, any_n}
use Rattle.model.specs.Delays.{spacing_of}
use Rattle.model.specs.Graph.{run_of}
use Rattle.model.specs.File.{SameTo, Widths, filled_by, judge}
use Rattle.model.specs.Verdicts.{on_knob}
use Rattle.model.specs.Machine.{awake_at, used_at, waiting_at, age_at, fastest_at, again_at, late_at, set_awake, set_waiting, set_age, set_again, set_late, mark_dropped, complete, idle, unstarted, started, task_rule, absent_rule, links_rule, source_rule, lates_rule, rules_kept, lawful, fire_link, fire, arrive_one, arrive, highest_in, choose, run_task, clear_link, clear_into, end_run, age_one, age_all, keep, stepped, strangers, too_soon, judge_tick, plain_tick}
use Rattle.model.specs.History.{Call, plain_call, answers, left}
use Rattle.model.specs.Run.{codes, page, ran_from, ran, page_ran}
use Rattle.lemmas.proofs.Range.{any_cong, all_cong, up_to-alike}
use Rattle.lemmas.proofs.Table.{tab_cong}
use Rattle.theory.proofs.FileLaws.{at_known}
use Rattle.lemmas.proofs.Tests.{cond_same}
use Rattle.theory.proofs.PastCounts.{done_same, same_judge, same_knob, same_run, same_spacing}
use Rattle.assurance.proofs.Choosing.{chosen_le}
use Rattle.assurance.proofs.Replay.{judge_passed}

module _ (d e : Description) (s : SameTo d e) where
  -- the start
  gap_same : (t u : ℕ) → ltb u d.source_count ≡ true → spacing_of d t (33 + u) ≡ spacing_of e t (33 + u)
  gap_same t u p = same_spacing d e s t (33 + u) (omega (arith, ltb-true u d.source_count p))

  same_idle : idle d ≡ idle e
  unfolding idle
  same_idle =
      ap (λ (l : List ℕ). record { awake = replicate 32 false; used = replicate 32 0; waiting = replicate 256 false; dropped = replicate 256 false; ages = l; fastest = replicate 16 0; again = replicate 32 false; late = replicate 256 false })
      (tab_cong 16 _ _ (λ u h. cond_same (ltb u d.source_count) (ltb u e.source_count) _ _ 0 0 (ap (ltb u) s.sources) (gap_same 200 u) (λ p. refl)))

  pub same_started : started d ≡ started e
  unfolding started
  same_started =
      done_same (judge d) (judge e) _ _ _ (same_judge d e s) (λ j. ap (λ (m : Machine). record { outcome = Done; machine = m }) same_idle)

  -- the rules
  pub same_lawful : (pol : Policy) (m : Machine) → lawful pol d m ≡ lawful pol e m
  unfolding lawful rules_kept
  same_lawful pol m = rw (tasks, links, sources, lates)
    where
      tasks : all_n (task_rule d m) 1 32 ≡ all_n (task_rule e m) 1 32
      tasks = all_cong _ _ 1 32 (λ k p q.
          cond_same (leb k d.task_count) (leb k e.task_count) _ _ _ _ (ap (leb k) s.tasks)
          (λ b. ap (λ (r : ℕ). ltb (used_at m k) r && (awake_at m k || eqb (used_at m k) 0)) (same_run d e s k (omega (arith, leb-true k d.task_count b))))
          (λ b. refl))

      links : links_rule d m ≡ links_rule e m
      links = rw (← s.links) (ap (λ b. b && (absent_rule d m.waiting && absent_rule d m.dropped))
          (all_cong _ _ 0 d.link_count (λ l p q. ap (λ (x : Link). not (waiting_at m l) || awake_at m x.to) (s.link l (omega arith)))))

      sources : all_n (source_rule d m) 0 16 ≡ all_n (source_rule e m) 0 16
      sources = all_cong _ _ 0 16 (λ u p q.
          cond_same (ltb u d.source_count) (ltb u e.source_count) _ _ _ _ (ap (ltb u) s.sources)
          (λ b. ap (λ (g : ℕ). leb (age_at m u) g && cond (eqb (fastest_at m u) 0) (eqb (age_at m u) g) (on_knob (fastest_at m u))) (gap_same 200 u b))
          (λ b. refl))

      lates : lates_rule d m ≡ lates_rule e m
      lates = rw (← s.links) (ap (λ b. b && absent_rule d m.late)
          (all_cong _ _ 0 d.link_count (λ l p q. ap (λ (x : Link). not (late_at m l) || (waiting_at m l && again_at m x.to)) (s.link l (omega arith)))))

  -- the refusals of a tick
  same_strangers : (marks : List Bool) → strangers d marks ≡ strangers e marks
  unfolding strangers
  same_strangers marks = ap (λ (n : ℕ). any_n (λ u. get_or marks u false && leb n u) 0 16) s.sources

  same_soon : (t : ℕ) (marks : List Bool) (m : Machine) → too_soon d t marks m ≡ too_soon e t marks m
  unfolding too_soon
  same_soon t marks m =
      any_cong _ _ 0 d.source_count (λ u p q. ap (λ (g : ℕ). get_or marks u false && ltb (age_at m u) g) (same_spacing d e s (max (fastest_at m u) t) (33 + u) (omega arith)))
      ∙ ap (any_n (λ u. get_or marks u false && ltb (age_at m u) (spacing_of e (max (fastest_at m u) t) (33 + u))) 0) s.sources

  pub same_judge_tick : (pol : Policy) (t : ℕ) (m : Machine) (marks : List Bool) → judge_tick pol d t m marks ≡ judge_tick pol e t m marks
  unfolding judge_tick
  same_judge_tick pol t m marks = rw (same_knob d e s t, same_lawful pol m, same_strangers marks, same_soon t marks m)

  -- the steps of a tick
  same_fire : (x : ℕ) (m : Machine) → fire d x m ≡ fire e x m
  unfolding fire fire_link
  same_fire x m =
      up_to-alike d.link_count (fire_link d x) (fire_link e x) m
      (λ l h y. ap (λ (k : Link). cond (eqb k.from x) (set_awake k.to true (set_waiting l true (mark_dropped l (cond (ltb 0 (used_at y k.to)) (set_again k.to true (set_late l true y)) y)))) y) (s.link l h))
      ∙ ap (λ (n : ℕ). up_to n (fire_link e x) m) s.links

  same_arrive : (marks : List Bool) (m : Machine) → arrive d marks m ≡ arrive e marks m
  unfolding arrive arrive_one
  same_arrive marks m =
      up_to-alike d.source_count (arrive_one d marks) (arrive_one e marks) m
      (λ u h y. ap (λ (z : Machine). cond (get_or marks u false) (set_age u 0 z) y) (same_fire (33 + u) y))
      ∙ ap (λ (n : ℕ). up_to n (arrive_one e marks) m) s.sources

  same_clear : (h : ℕ) (m : Machine) → clear_into d h m ≡ clear_into e h m
  unfolding clear_into clear_link
  same_clear h m =
      up_to-alike d.link_count (clear_link d h) (clear_link e h) m
      (λ l p y. ap (λ (k : Link). cond (eqb k.to h) (set_late l false (set_waiting l (late_at y l) y)) y) (s.link l p))
      ∙ ap (λ (n : ℕ). up_to n (clear_link e h) m) s.links

  same_end : (h : ℕ) (finish : Bool) (m : Machine) → h - 1 < d.task_count → end_run d h finish m ≡ end_run e h finish m
  unfolding end_run
  same_end h finish m p =
      ap (λ (r : ℕ). cond (not (eqb h 0) && (eqb (used_at m h) r || finish)) (fire d h (clear_into d h (complete h m))) m) (same_run d e s h p)
      ∙ ap (λ (x : Machine). cond (not (eqb h 0) && (eqb (used_at m h) (run_of e h) || finish)) x m) (same_fire h (clear_into d h (complete h m)) ∙ ap (fire e h) (same_clear h (complete h m)))

  same_age : (m : Machine) → age_all d m ≡ age_all e m
  unfolding age_all age_one
  same_age m =
      up_to-alike d.source_count (age_one d) (age_one e) m
      (λ u h y. ap (λ (g : ℕ). set_age u (min g (age_at y u + 1)) y) (same_spacing d e s 200 (33 + u) (omega arith)))
      ∙ ap (λ (n : ℕ). up_to n (age_one e) m) s.sources

  same_choose : (pol : Policy) (m : Machine) → choose pol d m ≡ choose pol e m
  unfolding choose
  same_choose Preemptive m = ap (highest_in m.awake) s.tasks
  same_choose HoldOn m =
      ap (λ (n : ℕ). let r = highest_in (tab 32 (λ k. ltb 0 (get_or m.used k 0))) n in cond (eqb r 0) (highest_in m.awake n) r) s.tasks

  same_stepped : (pol : Policy) (t : ℕ) (marks : List Bool) (finish : Bool) (m : Machine) → 1 ≤ d.task_count → stepped pol d t marks finish m ≡ stepped pol e t marks finish m
  unfolding stepped
  same_stepped pol t marks finish m some = ap (worked d) (same_arrive marks m) ∙ go (arrive e marks m)
    where
      worked : Description → Machine → Machine
      worked x y = keep t marks (age_all x (end_run x (choose pol x y) finish (run_task (choose pol x y) y)))

      go : (y : Machine) → worked d y ≡ worked e y
      go y =
          ap (λ (z : Machine). keep t marks (age_all d z)) (same_end (choose pol d y) finish (run_task (choose pol d y) y) (omega (arith, chosen_le pol d y)))
          ∙ ap (keep t marks) (same_age (end_run e (choose pol d y) finish (run_task (choose pol d y) y)))
          ∙ ap (λ (h : ℕ). keep t marks (age_all e (end_run e h finish (run_task h y)))) (same_choose pol y)

  -- a tick and a run
  module _ (pol : Policy) (w : Widths d) where
    pub same_tick : (t : ℕ) (m : Machine) (a : Arrivals) (finish : Bool) → plain_tick pol d t m a finish ≡ plain_tick pol e t m a finish
    unfolding plain_tick
    same_tick t m a finish =
        done_same (judge_tick pol d t m a.marks) (judge_tick pol e t m a.marks) _ _ _ (same_judge_tick pol t m a.marks)
        (λ j. ap (λ (x : Machine). record { outcome = Done; machine = x }) (same_stepped pol t a.marks finish m (at_known d t w (judge_passed pol d t m a.marks j).judged).0.some_task))

    pub same_answers : (m : Machine) (cs : List Call) → answers pol d m cs ≡ answers pol e m cs
    unfolding answers
    same_answers m [] = refl
    same_answers m (c ∷ cs) =
        ap (λ (r : Ticked). r ∷ answers pol d r.machine cs) (same_tick c.tempo m c.arrivals c.finish)
        ∙ ap (λ (l : List Ticked). plain_call pol e m c ∷ l) (same_answers (plain_call pol e m c).machine cs)

    pub same_left : (m : Machine) (cs : List Call) → left pol d m cs ≡ left pol e m cs
    unfolding left
    same_left m [] = refl
    same_left m (c ∷ cs) =
        ap (λ (r : Ticked). left pol d r.machine cs) (same_tick c.tempo m c.arrivals c.finish) ∙ same_left (plain_call pol e m c).machine cs

    -- the run call: its answer, and the buffer it leaves
    pub same_ran : (cs : List Call) (buffer : List ℕ) → ran pol d cs buffer ≡ ran pol e cs buffer
    unfolding ran
    same_ran cs buffer =
        ap (λ (m : Machine). on_done (judge d) (cond (ltb (length buffer) (length cs)) (unstarted ShortPage 0) (record { outcome = Done; machine = m })) unstarted) (same_left (idle d) cs ∙ ap (λ (m : Machine). left pol e m cs) same_idle)
        ∙ ap (λ (o : Outcome). on_done o (ran_from pol e cs buffer) unstarted) (same_judge d e s)

    pub same_page_ran : (cs : List Call) (buffer : List ℕ) → page_ran pol d cs buffer ≡ page_ran pol e cs buffer
    unfolding page_ran
    same_page_ran cs buffer =
        ap (λ (rs : List Ticked). on_done (judge d) (filled_by (codes rs) buffer) (λ r place. buffer)) (same_answers (idle d) cs ∙ ap (λ (m : Machine). answers pol e m cs) same_idle)
        ∙ ap (λ (o : Outcome). on_done o (filled_by (page pol e cs) buffer) (λ r place. buffer)) (same_judge d e s)
