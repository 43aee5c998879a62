-- `visit` meets its contract: the walk over the sets of links, which ends since the number of unmet tasks falls. Assumes nothing.
use Rattle.std.specs.Prelude.{None}
use Rattle.std.proofs.Common.{◌≡◌, ◌≤◌, ℕ, ◌-◌, ◌<◌, ◌/◌, ◌%◌, ◌^◌, get_or}
use Rattle.model.specs.Basics.{up_to}
use Rattle.theory.proofs.Walk.{step_to}
use Rattle.neighbourhoods.specs.Into.{into_system, unmet}
use Rattle.neighbourhoods.proofs.walk.+visit.Given as goal

abbrev pub decreases-visit : goal.decreases-visit
decreases-visit l = unmet l.w.met

abbrev pub invariant-loop-rest : goal.invariant-loop-rest
invariant-loop-rest l =
    (l.r ≤ 48) × (l.rest ≡ get_or l.into (l.x - 1) 0 % 281474976710656 / 2 ^ l.r) × (l.next.failed ≡ None) × ((f : ℕ) → unmet l.initial.next.met < f → l.next ≡ up_to l.r (step_to (into_system l.into) l.j f l.x) l.initial.next) × (unmet l.next.met ≤ unmet l.initial.next.met)

abbrev pub decreases-loop-rest : goal.decreases-loop-rest
decreases-loop-rest l = 48 - l.r
