-- The digits of the tenth, then the last digit. Assumes nothing.
use Prim.Native.Nat.{◌<◌, ◌+◌, ◌/◌, ◌%◌, ◌^◌}
use mathlib.Core.Path.{ap, ◌∙◌}
use mathlib.Core.List.{[], ◌∷◌}
use native.Mathlib.Omega.{arith}
use lib.ListN.{length, length-append}
use Rattle.model.specs.Report.{decimal}
use Rattle.text.proofs.Digits.{decimal_more}
use Rattle.text.proofs.Decimals.{Met, met_more, met_one}
use Rattle.text.proofs.Page.+decimal.Goals as goal
use Rattle.text.proofs.Page.+decimal.Goals.{then-n-ge10, else-n-ge10}

pub decimal-requires : goal.decimal-requires
decimal-requires t c =
    let b : c.args.n < 10 ^ 20 = omega arith in
    let l = ap length (decimal_more c.args.n b c.if-n-ge10.true) ∙ length-append (decimal (c.args.n / 10)) ((48 + c.args.n % 10) ∷ []) in
    (omega arith, omega arith)

pub byte-requires : goal.byte-requires
byte-requires t c =
    let b : c.args.n < 10 ^ 20 = omega arith in
    let m : Met c.args.self.now c.args.n c.if-n-ge10.self =
    elim c.if-n-ge10.branch [
      | then-n-ge10 w ↦ rw w.self-is (met_more c.args.self.now _ c.args.n w.if-n-ge10.true b w.decimal.ensures.text)
      | else-n-ge10 w ↦ rw w.self-is (met_one c.args.self.now c.args.n w.if-n-ge10.false)
    ]
    in
    omega (arith, m.met_end, m.met_size)

pub returns-clause-text : goal.returns-clause-text
returns-clause-text t c =
    let b : c.args.n < 10 ^ 20 = omega arith in
    let m : Met c.args.self.now c.args.n c.if-n-ge10.self =
    elim c.if-n-ge10.branch [
      | then-n-ge10 w ↦ rw w.self-is (met_more c.args.self.now _ c.args.n w.if-n-ge10.true b w.decimal.ensures.text)
      | else-n-ge10 w ↦ rw w.self-is (met_one c.args.self.now c.args.n w.if-n-ge10.false)
    ]
    in
    let last = c.byte.ensures.text in
    record {
      put_end = last.put_end ∙ m.met_end;
      put_size = last.put_size ∙ m.met_size;
      put_front = last.put_front ∙ m.met_front;
    }
