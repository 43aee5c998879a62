use Prim.Native.Nat.{ℕ, ◌+◌, ◌-◌, ◌≤◌, ◌<◌}
use mathlib.Core.Path.{◌≡◌, refl, sym, ap, ◌∙◌}
use mathlib.Core.List.{List, [], ◌++◌}
use native.Mathlib.Omega.{arith}
use lib.ListN.{length}
use lib.Seq.{take_all}
use Rattle.std.proofs.Common.{rules}
use Rattle.model.specs.Basics.{joined}
use Rattle.model.specs.Verdicts.{tempos}
use Rattle.model.specs.Clock.{clock_line, clock_list}
use Rattle.lemmas.proofs.Table.{joined_more, joined_room}
use Rattle.text.specs.Page.{Put}
use Rattle.text.proofs.Pages.{put_none, put_then, put_same}
use Rattle.clock_list.proofs.ListLaws.{lines_to, list_length}
use Rattle.clock_list.proofs.put_list.Goals as goal

none : lines_to 0 ≡ []
unfolding joined
none = refl

all : lines_to tempos ≡ clock_list
unfolding clock_list
all = refl

-- a page of its length is the text
filled : {a b : List ℕ} {end : ℕ} (t : List ℕ) → t ≡ clock_list → length a ≡ length clock_list → Put a 0 t b end → b ≡ clock_list
filled {a} {b} {end} t e l p = sym (take_all end b (omega (arith, p.put_end, p.put_size, l, ap length e))) ∙ p.put_front ∙ e

pub loop-t-init : goal.loop-t-init
loop-t-init c = (refl, put_same [] (lines_to 0) (sym none) (put_none c.args.page.now 0))

-- the line of the tempo t is the next
next : (t : ℕ) → 200 ≤ t → lines_to (t - 200) ++ clock_line t ≡ lines_to (t + 1 - 200)
next t low =
    let k : t + 1 - 200 ≡ t - 200 + 1 = omega arith in
    let here : 200 + (t - 200) ≡ t = omega arith in
    ap (λ (x : ℕ). lines_to (t - 200) ++ clock_line x) (sym here) ∙ sym (joined_more (t - 200) (λ i. clock_line (200 + i))) ∙ ap lines_to (sym k)

-- and there is room for it
room : (t : ℕ) → 200 ≤ t → t < 3001 → length (lines_to (t - 200)) + length (clock_line t) ≤ length clock_list
room t low high =
    let more = joined_room tempos (λ i. clock_line (200 + i)) (t - 200) (omega arith) in
    let here : 200 + (t - 200) ≡ t = omega arith in
    omega (arith, more, ap length all, ap (λ (x : ℕ). length (clock_line x)) here)

pub clock_line-requires : goal.clock_line-requires
clock_line-requires c =
    let L = c.loop-t in
    let below = c.loop-t-test.true in
    (omega arith, omega (arith, below), omega (arith, room L.t (omega arith) (omega (arith, below)), c.requires, list_length, L.invariant.1.put_end, L.invariant.1.put_size))

pub loop-t-preserved : goal.loop-t-preserved
loop-t-preserved c =
    let t = c.loop-t.t in
    (c.clock_line.ensures.in_place ∙ c.loop-t.invariant.0, put_same _ (lines_to (t + 1 - 200)) (next t (omega arith)) (put_then (lines_to (t - 200)) (clock_line t) c.loop-t.invariant.1 c.clock_line.ensures.text))

pub returns : goal.returns
returns c =
    let k : c.loop-t.t - 200 ≡ tempos = omega (arith, c.loop-t-test.false) in
    search rules ∙ filled _ (ap lines_to k ∙ all) (c.requires ∙ sym list_length) c.loop-t.invariant.1
