use Rattle.std.proofs.Common.{Err, ap, ◌∙◌}
use Rattle.std.proofs.lemmas.Result.{err_from_is_err_and}
use Rattle.turn_file.specs.Scanning.{passed_to}
use Rattle.turn_file.proofs.Entries.{one_passed}
use Rattle.turn_file.proofs.scan.Scan.entries.Goals as goal

pub returns-in_err-value : goal.returns-in_err-value
returns-in_err-value c =
    let l = c.loop in
    let p = err_from_is_err_and c.from_residual.result c.from_residual.ensures.1 in
    let a = c.args in
    let end = one_passed a.count l.counter a.workers a.self.now.file.now l.self.place _ _ c.loop-test.true
    l.invariant.1 (rw l.invariant.0 at c.in_err-value.ensures.0) in
    (ap (λ r. passed_to r c.value.new.self.place) (p.1 ∙ ap Err p.2) ∙ end, c.value.ensures.1 ∙ l.invariant.0)

pub loop-preserved : goal.loop-preserved
loop-preserved c =
    let l = c.loop in
    let a = c.args in
    let end = one_passed a.count l.counter a.workers a.self.now.file.now l.self.place _ _ c.loop-test.true
    l.invariant.1 (rw l.invariant.0 at c.in_ok-value.ensures.0) in
    (c.value.ensures.1 ∙ l.invariant.0, end)
