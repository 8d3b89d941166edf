use Rattle.std.proofs.Common.{◌≡◌, length, ◌++◌, drop, sym, ap, ◌∙◌, arith, rules}
use Rattle.std.proofs.lemmas.Grind.{common_steps}
use Rattle.turn_file.specs.Plan.{plan_numbers}
use Rattle.turn_writer.specs.Records.{plan_spelling}
use Rattle.turn_writer.proofs.AcceptedPlans.{plan_accepted}
use Rattle.turn_writer.proofs.Law.{writes_as}
use Rattle.turn_writer.proofs.plan_writer.write_plan.Goals as goal

pub returns-in_err-length-clause-law : goal.returns-in_err-length-clause-law
returns-in_err-length-clause-law c = writes_as _ c.past_plan.ensures.known (search rules)

pub returns-then-length-out-clause-law : goal.returns-then-length-out-clause-law
returns-then-length-out-clause-law c = writes_as _ c.past_plan.ensures.known (search rules)

pub write_records-requires : goal.write_records-requires
write_records-requires c =
    let p = plan_numbers c.args.plan.now in
    let is = sym c.past_plan.ensures.end ∙ c.in_ok-length.was in
    let a = plan_accepted p c.in_ok-length.length c.past_plan.ensures.known.shape is in
    record {
      plain = a.plain;
      room = omega (arith, a.long, c.if-length-out.false, ap (λ page. length page.rest) c.new-pen.ensures);
    }

pub returns-clause-output : goal.returns-clause-output
returns-clause-output c =
    let p = plan_numbers c.args.plan.now in
    let is = sym c.past_plan.ensures.end ∙ c.in_ok-length.was in
    let a = plan_accepted p c.in_ok-length.length c.past_plan.ensures.known.shape is in
    let out = c.args.out.now in
    let file = plan_spelling p in
    let fills : _ ≡ file ++ drop (length file) out = grind (arith, common_steps) in
    fills ∙ ap (λ n. file ++ drop n out) (sym a.long)

pub returns-clause-law : goal.returns-clause-law
returns-clause-law c = writes_as _ c.past_plan.ensures.known (search rules)
