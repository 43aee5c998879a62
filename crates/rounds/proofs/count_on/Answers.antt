-- `count_on` meets its contract: nothing up to the end, else the firings beyond it. Assumes nothing.
use Prim.Native.Nat.{◌+◌, ◌*◌}
use mathlib.Core.Path.{◌≡◌, ap, ◌∙◌}
use native.Mathlib.Omega.{arith}
use native.Mathlib.Nat.{mul-zero, zero-mul}
use Rattle.rounds.specs.Level.{more_by}
use Rattle.rounds.proofs.Laws.{more_none, more_some, counts_far, counts_most}
use Rattle.rounds.proofs.count_on.Goals as goal

pub returns-then-d-end : goal.returns-then-d-end
returns-then-d-end c =
    let a = c.args in
    let e : more_by a.d a.end.now a.gap ≡ 0 = more_none a.d a.end.now a.gap c.requires.1 c.if-d-end.true in
    rw e (omega (arith, zero-mul a.gap), omega (arith, mul-zero a.load), omega arith)

pub overflow_mul-end : goal.overflow_mul-end
overflow_mul-end c =
    let a = c.args in
    omega
    (arith, counts_far a.d a.end.now a.gap c.spacings_in-count.result c.requires.1 c.if-d-end.false (rw c.from-spacing.ensures at c.spacings_in-count.ensures), ap (λ x. c.spacings_in-count.result * x) c.from-spacing.ensures, c.requires)

pub overflow_add-end : goal.overflow_add-end
overflow_add-end c =
    let a = c.args in
    omega
    (arith, c.requires, counts_far a.d a.end.now a.gap c.spacings_in-count.result c.requires.1 c.if-d-end.false (rw c.from-spacing.ensures at c.spacings_in-count.ensures), ap (λ x. c.spacings_in-count.result * x) c.from-spacing.ensures)

pub overflow_mul-result : goal.overflow_mul-result
overflow_mul-result c =
    let a = c.args in
    omega
    (arith, counts_most a.load a.d a.end.now a.gap c.spacings_in-count.result c.requires.0 c.requires.1 c.requires.3 c.if-d-end.false (rw c.from-spacing.ensures at c.spacings_in-count.ensures))

pub overflow_add-result : goal.overflow_add-result
overflow_add-result c =
    let a = c.args in
    omega
    (arith, c.requires, counts_most a.load a.d a.end.now a.gap c.spacings_in-count.result c.requires.0 c.requires.1 c.requires.3 c.if-d-end.false (rw c.from-spacing.ensures at c.spacings_in-count.ensures))

pub returns : goal.returns
returns c =
    let a = c.args in
    let beyond : c.spacings_in-count.result ≡ more_by a.d a.end.now a.gap = (rw c.from-spacing.ensures at c.spacings_in-count.ensures) ∙ more_some a.d a.end.now a.gap c.requires.1 c.if-d-end.false in
    (omega (arith, ap (λ x. x * a.gap) beyond, ap (λ x. c.spacings_in-count.result * x) c.from-spacing.ensures), ap (λ x. a.sum + a.load * x) beyond, omega (arith, counts_most a.load a.d a.end.now a.gap c.spacings_in-count.result c.requires.0 c.requires.1 c.requires.3 c.if-d-end.false (rw c.from-spacing.ensures at c.spacings_in-count.ensures)))
