-- `run_file` meets its contract: read, checked, run and stored. Assumes nothing.
use borrow.Author.Rules.{rules}
use mathlib.Core.Path.{◌∙◌}
use mir.Syntax.{w64}
use mir.ValLaws.{to_z-of_z}
use Rattle.model.specs.declared.Refusal.TheVariants.{ShortPage}
use Rattle.model.specs.File.{read_file}
use Rattle.library.proofs.RunLaws.{read_most, read_done, run_unread, run_short_record, run_short_codes, run_whole, run_refused, run_machine, run_does}
use Rattle.library.proofs.run_file.Goals as goal

pub refusal_code-requires : goal.refusal_code-requires
refusal_code-requires c = let a = c.args in read_most a.file.now c.read-read.result c.read-read.ensures c.in-Err.rejection.why c.in-Err.rejection.place c.in-Err.is

pub returns-in-Err : goal.returns-in-Err
returns-in-Err c =
    let a = c.args in
    let y = run_refused a.file.now c.read-read.result c.read-read.ensures a.calls.now a.outcomes.now a.state.now a.p (read_file a.file.now).description c.in-Err.rejection.why c.in-Err.rejection.place (run_unread a.file.now c.read-read.result c.read-read.ensures a.calls.now a.outcomes.now a.state.now c.in-Err.rejection.why c.in-Err.rejection.place c.in-Err.is) in
    record { answer = to_z-of_z w64 c.refusal_code.result (record { sfits = c.refusal_code.type_inv }) ∙ c.refusal_code.ensures ∙ y.0; codes = y.1; bytes = y.2 }

pub returns-then-state-lt-RECORD : goal.returns-then-state-lt-RECORD
returns-then-state-lt-RECORD c =
    let a = c.args in
    let y = run_refused a.file.now c.read-read.result c.read-read.ensures a.calls.now a.outcomes.now a.state.now a.p (read_file a.file.now).description ShortPage 0 (run_short_record a.file.now c.read-read.result c.read-read.ensures a.calls.now a.outcomes.now a.state.now c.in_default.is c.if-state-lt-RECORD.true) in
    record { answer = to_z-of_z w64 c.refusal_code-then-state-lt-RECORD.result (record { sfits = c.refusal_code-then-state-lt-RECORD.type_inv }) ∙ rw c.at.ensures at c.refusal_code-then-state-lt-RECORD.ensures ∙ y.0; codes = y.1; bytes = y.2 }

pub returns-then-outcomes-calls : goal.returns-then-outcomes-calls
returns-then-outcomes-calls c =
    let a = c.args in
    let y = run_refused a.file.now c.read-read.result c.read-read.ensures a.calls.now a.outcomes.now a.state.now a.p (read_file a.file.now).description ShortPage 0 (run_short_codes a.file.now c.read-read.result c.read-read.ensures a.calls.now a.outcomes.now a.state.now c.in_default.is c.if-state-lt-RECORD.false c.if-outcomes-calls.true) in
    record { answer = to_z-of_z w64 c.refusal_code-then-outcomes-calls.result (record { sfits = c.refusal_code-then-outcomes-calls.type_inv }) ∙ rw c.at-then-outcomes-calls.ensures at c.refusal_code-then-outcomes-calls.ensures ∙ y.0; codes = y.1; bytes = y.2 }

pub run_accepted-ran-requires : goal.run_accepted-ran-requires
run_accepted-ran-requires c = let a = c.args in read_done a.file.now c.read-read.result c.read-read.ensures (λ i. search rules) c.in_default.is

pub returns : goal.returns
returns c =
    let a = c.args in
    let done = run_whole a.file.now c.read-read.result c.read-read.ensures a.calls.now a.outcomes.now a.state.now c.in_default.is c.if-state-lt-RECORD.false c.if-outcomes-calls.false in
    let ran = run_machine a.file.now c.read-read.result c.read-read.ensures a.calls.now a.outcomes.now a.state.now a.p c.run_accepted-ran.result c.if-outcomes-calls.false c.run_accepted-ran.ensures.0 in
    let y = run_does a.file.now c.read-read.result c.read-read.ensures a.calls.now a.outcomes.now a.state.now a.p c.run_accepted-ran.result.machine _ _ done ran c.run_accepted-ran.ensures.1 c.put_record.ensures in
    record { answer = y.0; codes = y.1; bytes = y.2 }
