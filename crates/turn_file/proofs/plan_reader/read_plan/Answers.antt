use Rattle.std.proofs.Common.{◌≡◌, Some, Ok, Err, sym, refl, ap, ◌∙◌, arith}
use Rattle.std.proofs.lemmas.Result.{err_from_is_err_and}
use Rattle.turn_file.specs.Plan.{plan_numbers, plan_of, with_item}
use Rattle.turn_file.specs.Reading.{Handed, Stepped, Cursor, cursor_of, next_from, moved_on, seen_record, seen_answer}
use Rattle.turn_file.proofs.Orders.{told}
use Rattle.turn_file.proofs.Plans.{handed_some, handed_none, handed_fault, completed, refused, takes, goes_on}
use Rattle.turn_file.proofs.plan_reader.read_plan.Goals as goal

pub returns-in_err-record : goal.returns-in_err-record
returns-in_err-record c =
    let file = c.args.file.now in
    let p = err_from_is_err_and c.from_residual-in_err-record.result c.from_residual-in_err-record.ensures.1 in
    let f = c.in_err-record.field-0.0 in
    let faulty = handed_fault (next_from (cursor_of c.loop-record.reader)) f
    c.in_err-record.ensures.answer in
    let whole = refused file _ _ (plan_of file) c.loop-record.invariant f faulty in
    let t = told file c.args.plan.now _ _ (Err f) (λ i. (c.type_inv.file i).fits) whole
    (p.1 ∙ ap Err p.2) refl in
    record { answer = t.0; plan = t.1; law = t.2 }

made_step : (c : goal.After-enter) → (s : Stepped) × (next_from (cursor_of c.loop-record.reader) ≡ Ok (Some s))
    × (s.handed ≡ seen_record c.in-Some.record)
made_step c =
    handed_some (next_from (cursor_of c.loop-record.reader)) (seen_record c.in-Some.record)
    (ap (λ o. seen_answer (Ok o)) (sym c.in-Some.is) ∙ c.in_ok-record.ensures.answer)

moved : (c : goal.After-enter) →
    cursor_of c.next_record.new.self ≡ moved_on (cursor_of c.loop-record.reader) (Ok (Some (made_step c).0))
moved c = c.next_record.ensures.after ∙ ap (moved_on (cursor_of c.loop-record.reader)) (made_step c).1

pub loop-record-smaller : goal.loop-record-smaller
loop-record-smaller c =
    let t = takes c.args.file.now _ _ _ c.loop-record.invariant (made_step c).0 (made_step c).1 in
    let at : c.next_record.new.self.scan.place ≡ (made_step c).0.next = ap (λ (d : Cursor). d.place) (moved c) in
    omega (arith, t.0, t.1, at)

pub loop-record-preserved : goal.loop-record-preserved
loop-record-preserved c =
    let entered = c.enter.ensures
    ∙ ap (λ (h : Handed). with_item (plan_numbers c.loop-record.read) h.item) (sym (made_step c).2) in
    goes_on c.args.file.now _ _ _ c.loop-record.invariant (made_step c).0 (cursor_of c.next_record.new.self)
    (plan_numbers c.enter.new.self) (made_step c).1 (moved c) entered

pub returns : goal.returns
returns c =
    let file = c.args.file.now in
    let ended = handed_none (next_from (cursor_of c.loop-record.reader))
    (ap (λ o. seen_answer (Ok o)) (sym c.in_default.is) ∙ c.in_ok-record.ensures.answer) in
    let whole = completed file _ _ (plan_of file) c.loop-record.invariant ended in
    let t = told file c.args.plan.now _ _ _ (λ i. (c.type_inv.file i).fits) whole refl refl in
    record { answer = t.0; plan = t.1; law = t.2 }
