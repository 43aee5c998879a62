-- Refused, or a tick.
use Prim.Native.Nat.{max}
use mathlib.Core.Path.{◌≡◌, sym, ap, subst, ◌∙◌}
use native.Mathlib.Omega.{arith}
use Rattle.model.specs.declared.Machine.{Machine}
use Rattle.model.specs.declared.Ticked.{Ticked}
use Rattle.model.specs.Machine.{arrive}
use Rattle.model.specs.Run.{marks_in}
use Rattle.words.specs.Words.{Goes}
use Rattle.machine.specs.Calls.{Tracks}
use Rattle.machine.proofs.CallLaws.{tick_done, tracked, workable, same_length, arrive_still, lawful_rules}
use Rattle.machine.proofs.call.advance.Goals as goal

pub returns-in-Err : goal.returns-in-Err
returns-in-Err c =
    let A = c.args in
    let h = c.hear-heard in
    let told = c.in-Err in
    let since = h.new.since in
    let fastest = h.new.fastest in
    record {
      ends = λ d m T j l R. ap (λ (x : Ticked). x.outcome) (h.ensures.refuses told.field-0.why told.field-0.place told.is A.p d A.used.now m T j l R).0;
      leaves = λ d m T j l R.
          let e = h.ensures.refuses told.field-0.why told.field-0.place told.is A.p d A.used.now m T j l R in
          subst (λ (k : Machine). Tracks A.p d h.result.words A.used.now since fastest k) (ap (λ (x : Ticked). x.machine) e.0) e.1;
      soon = omega (arith, h.ensures.then);
    }

pub run_on-requires : goal.run_on-requires
run_on-requires c =
    let A = c.args in
    let p = c.requires in
    let h = c.hear-heard in
    let d = p.description in
    let g = p.tables.formed in
    let H = h.ensures.hears c.in-Ok.is A.p d A.used.now p.machine p.tables p.judged p.keeps p.tracks in
    (workable A.p d A.w h.result.words A.used.now A.since.now _ p.machine (arrive d (marks_in A.call.mask) p.machine) g (lawful_rules A.p d p.machine p.keeps) p.tracks.goes h.ensures.runs (arrive_still d (marks_in A.call.mask) A.w A.used.now A.since.now p.machine g p.tracks.holds) p.tracks.holds H.arrived, omega (arith, p.early, h.ensures.then))

pub returns-in-Ok : goal.returns-in-Ok
returns-in-Ok c =
    let A = c.args in
    let t = A.call.tempo in
    let mask = A.call.mask in
    let finish = A.call.finish in
    let h = c.hear-heard in
    let w = h.result.words in
    let v = c.run_on in
    let o = c.in-Ok.is in
    let since = h.new.since in
    let fastest = h.new.fastest in
    let used = v.new.used in
    record {
      ends = λ d m T j l R.
          let H = h.ensures.hears o A.p d A.used.now m T j l R in
          v.ensures.done ∙ ap (λ (x : Ticked). x.outcome) (tick_done A.p d t mask m finish H.judged l H.passed);
      leaves = λ d m T j l R.
          let H = h.ensures.hears o A.p d A.used.now m T j l R in
          let peak : v.result.words.peak ≡ max w.peak t = omega (arith, v.ensures.knob.1, H.high.0) in
          let goes : Goes A.p w.running A.used.now = subst (λ x. Goes A.p x A.used.now) (sym h.ensures.runs) R.goes in
          subst (λ (k : Machine). Tracks A.p d v.result.words used since fastest k) (ap (λ (x : Ticked). x.machine) (tick_done A.p d t mask m finish H.judged l H.passed))
          (tracked A.p d t mask finish A.w w v.result.words A.used.now used A.since.now since A.fastest.now fastest m T.formed H.high.1 R H.keeps v.ensures.knob.0 peak (v.ensures.goes (same_length R.holds) goes) (v.ensures.ran d since (arrive d (marks_in mask) m) T.formed T.rowed T.same_runs goes H.arrived));
      soon = omega (arith, v.ensures.then, h.ensures.then);
    }
