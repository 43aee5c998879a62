use Rattle.std.proofs.Common.{◌≡◌, ℕ, ◌+◌, ◌-◌, ◌<◌, ◌/◌, ◌%◌, ◌^◌, length, get_or, sym, ap, ◌∙◌, refl, arith, rules}
use lib.Pow.{shr-shr}
use native.Mathlib.Nat.{div-one}
use Rattle.model.specs.Basics.{up_to}
use Rattle.model.specs.Order.{meet}
use Rattle.theory.proofs.Walk.{step_to}
use Rattle.sets.specs.Sets.{FirstIn}
use Rattle.neighbourhoods.specs.Into.{into_system, unmet}
use Rattle.neighbourhoods.proofs.IntoLaws.{rest_node}
use Rattle.neighbourhoods.proofs.WalkLaws.{unmet_le, unmet_falls, visit_is_far, visit_is_again, visit_is_low, visit_is_high, turn_on, turn_none, turn_failed, some_failed, none_failed}
use Rattle.neighbourhoods.proofs.walk.+visit.Goals as goal
use Rattle.neighbourhoods.proofs.walk.+visit.Goals.{then-x-gt32-via-then-x-gt32, then-x-gt32-via-else-x-gt32+then-w-x}

pub returns-then-x-gt32 : goal.returns-then-x-gt32
returns-then-x-gt32 t c =
    let a = c.args in
    elim c.then-x-gt32.branch [
      | then-x-gt32-via-then-x-gt32 w ↦ (visit_is_far a.into.now a.j a.x a.w w.if-x-gt32.true, omega arith)
      | then-x-gt32-via-else-x-gt32+then-w-x w ↦ (visit_is_again a.into.now a.j a.x a.w w.if-x-gt32.false w.if-w-x.true, omega arith)
    ]

pub returns-then-x-j : goal.returns-then-x-j
returns-then-x-j t c =
    let a = c.args in
    (visit_is_low a.into.now a.j a.x a.w c.if-x-gt32.false c.if-w-x.false c.if-x-j.true, unmet_le a.w.met (a.x - 1))

pub loop-rest-init : goal.loop-rest-init
unfolding up_to
loop-rest-init t c =
    let a = c.args in
    (omega arith, sym (div-one (get_or a.into.now (a.x - 1) 0 % 281474976710656)), c.requires.2, (λ f b. refl), omega arith)

pub visit-next-requires : goal.visit-next-requires
visit-next-requires t c =
    let a = c.args in
    let L = c.loop-rest in
    -- the set is that of x, shifted by the nodes that are passed
    let found : FirstIn (get_or a.into.now (a.x - 1) 0 % 281474976710656 / 2 ^ L.r) c.first-k.result = rw L.invariant.1 at c.first-k.ensures in
    let inside : L.r + c.first-k.result < 48 = rest_node (get_or a.into.now (a.x - 1) 0) L.r c.first-k.result found.in_set in
    -- x itself is met
    let falls_at_x : unmet (meet a.x a.w).met < unmet a.w.met =
    let z : length a.w.met ≡ 32 = search rules in
    unmet_falls a.w.met (a.x - 1) (omega (arith, z, c.if-x-gt32.false, c.requires.0)) c.if-w-x.false in
    (omega (arith, c.decreases, L.invariant.4, falls_at_x), (omega arith, omega (arith, inside), L.invariant.2))

pub returns-then-is_some : goal.returns-then-is_some
returns-then-is_some t c =
    let a = c.args in
    let L = c.loop-rest in
    let k = c.first-k.result in
    let v = c.visit-next.result in
    let found : FirstIn (get_or a.into.now (a.x - 1) 0 % 281474976710656 / 2 ^ L.r) c.first-k.result = rw L.invariant.1 at c.first-k.ensures in
    let inside : L.r + c.first-k.result < 48 = rest_node (get_or a.into.now (a.x - 1) 0) L.r c.first-k.result found.in_set in
    let falls_at_x : unmet (meet a.x a.w).met < unmet a.w.met =
    let z : length a.w.met ≡ 32 = search rules in
    unmet_falls a.w.met (a.x - 1) (omega (arith, z, c.if-x-gt32.false, c.requires.0)) c.if-w-x.false in
    let passed : L.r + (k + 1) ≡ L.r + k + 1 = omega arith in
    let visited = rw passed at c.visit-next.ensures.0 in
    -- the visit of the next node is one turn
    let turn : (f : ℕ) → unmet (meet a.x a.w).met < f → v ≡ up_to (L.r + k + 1) (step_to (into_system a.into.now) a.j f a.x) (meet a.x a.w) =
    λ f b. visited f (omega (arith, b, L.invariant.4)) ∙ turn_on a.into.now a.j a.x f L.r (meet a.x a.w) L.next (L.invariant.3 f b) k L.invariant.2 found in (
      visit_is_high a.into.now a.j a.x a.w v c.if-x-gt32.false c.if-w-x.false c.if-x-j.false
          (λ f b. turn_failed a.into.now a.j a.x f (L.r + k + 1) (meet a.x a.w) v (turn f (omega (arith, falls_at_x, b))) (omega (arith, inside)) (λ e. some_failed v.failed (sym c.is_some.ensures ∙ c.if-is_some.true) e)),
      omega (arith, falls_at_x, L.invariant.4, c.visit-next.ensures.1),
    )

pub loop-rest-preserved : goal.loop-rest-preserved
loop-rest-preserved t c =
    let a = c.args in
    let L = c.loop-rest in
    let k = c.first-k.result in
    let s = get_or a.into.now (a.x - 1) 0 % 281474976710656 in
    let found : FirstIn (get_or a.into.now (a.x - 1) 0 % 281474976710656 / 2 ^ L.r) c.first-k.result = rw L.invariant.1 at c.first-k.ensures in
    let inside : L.r + c.first-k.result < 48 = rest_node (get_or a.into.now (a.x - 1) 0) L.r c.first-k.result found.in_set in
    let passed : L.r + (k + 1) ≡ L.r + k + 1 = omega arith in
    let visited = rw passed at c.visit-next.ensures.0 in
    rw passed (
      omega (arith, inside),
      ap (λ z. z / 2 ^ k / 2) L.invariant.1 ∙ ap (λ z. z / 2) (shr-shr s L.r k) ∙ shr-shr s (L.r + k) 1,
      none_failed c.visit-next.result.failed (sym c.is_some.ensures ∙ c.if-is_some.false),
      (λ f b. visited f (omega (arith, b, L.invariant.4)) ∙ turn_on a.into.now a.j a.x f L.r (meet a.x a.w) L.next (L.invariant.3 f b) k L.invariant.2 found),
      omega (arith, L.invariant.4, c.visit-next.ensures.1),
    )

pub returns : goal.returns
returns t c =
    let a = c.args in
    let L = c.loop-rest in
    let falls_at_x : unmet (meet a.x a.w).met < unmet a.w.met =
    let z : length a.w.met ≡ 32 = search rules in
    unmet_falls a.w.met (a.x - 1) (omega (arith, z, c.if-x-gt32.false, c.requires.0)) c.if-w-x.false in (
      visit_is_high a.into.now a.j a.x a.w L.next c.if-x-gt32.false c.if-w-x.false c.if-x-j.false
          (λ f b. turn_none a.into.now a.j a.x f L.r (meet a.x a.w) L.next (L.invariant.3 f (omega (arith, falls_at_x, b))) L.invariant.0 (sym L.invariant.1 ∙ c.loop-rest-test.false)),
      omega (arith, falls_at_x, L.invariant.4),
    )
