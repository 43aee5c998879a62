use Prim.Native.Nat.{ℕ}
use mathlib.Core.Path.{◌≡◌, refl}
use native.Mathlib.Omega.{arith}
use lib.ListN.{get_or, replicate, get_or-replicate, get_or-eq_default}
use Rattle.model.specs.declared.VerdictSlot.{VerdictSlot}
use Rattle.model.specs.Verdicts.{free_slot}
use Rattle.lemmas.proofs.Tests.{Cmp, less, same, more, cmp}
use Rattle.theory.proofs.Links.{from_most, to_most}
use Rattle.verdicts.proofs.SlotLaws.{slot_in, slots_more, slots_done}
use Rattle.lemmas.proofs.Front.{link_below, link_here, front_all}
use Rattle.theory.proofs.Typed.{typed_sized}
use Rattle.verdicts.proofs.slots.decide_all.Goals as goal

-- every slot is free before the first link
free : (k : ℕ) → Cmp k 256 → get_or (replicate 256 free_slot) k free_slot ≡ free_slot
free k (less p) = get_or-replicate {A = VerdictSlot} 256 k free_slot free_slot p
free k (same p) = get_or-eq_default {A = VerdictSlot} (replicate 256 free_slot) free_slot {n = k} (omega arith)
free k (more p) = get_or-eq_default {A = VerdictSlot} (replicate 256 free_slot) free_slot {n = k} (omega arith)

pub loop-l-init : goal.loop-l-init
loop-l-init c = record { sized = refl; filled = λ k p. absurd (omega arith); rest = λ k p. free k (cmp k 256) }

pub verdict_from-verdict-requires : goal.verdict_from-verdict-requires
verdict_from-verdict-requires c =
    let d = c.args.d in
    let l = c.loop-l.l in
    let h = c.loop-l-test.true in
    let to = to_most d c.requires.fields l (link_below d l h) in
    rw (link_here d l h) (from_most d c.requires.fields l (link_below d l h), to.0, to.1)

pub loop-l-preserved : goal.loop-l-preserved
loop-l-preserved c =
    let L = c.loop-l in
    let d = c.args.d in
    let l = L.l in
    let h = c.loop-l-test.true in
    let below = link_below d l h in
    slots_more d c.args.orders.now c.args.gaps.now c.args.reaches.now L.slots l (record { verdict = c.verdict_from-verdict.result }) (omega (arith, below, c.requires.fields.few_links))
    (slot_in d c.args.orders.now c.args.gaps.now c.args.reaches.now l c.verdict_from-verdict.result below (rw (link_here d l h) at c.verdict_from-verdict.ensures))
    L.invariant

pub returns : goal.returns
returns c =
    let L = c.loop-l in
    let d = c.args.d in
    let z = (typed_sized d _ c.well_formed.0).links in
    slots_done d c.args.orders.now c.args.gaps.now c.args.reaches.now L.slots L.l (front_all d.link_count d.links L.l (omega (arith, z, c.requires.fields.few_links)) c.loop-l-test.false) L.invariant
