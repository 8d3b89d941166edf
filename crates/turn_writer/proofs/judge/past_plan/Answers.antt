use Rattle.std.proofs.Common.{sym, ◌∙◌, arith}
use Rattle.turn_file.specs.Plan.{plan_numbers}
use Rattle.turn_writer.proofs.Sizes.{header_near}
use Rattle.turn_writer.proofs.judge.past_plan.Goals as goal

pub past_schedule-requires : goal.past_schedule-requires
past_schedule-requires c =
    let shape = c.past_header.ensures.shape in
    let header = sym c.past_header.ensures.end ∙ c.in_ok-at_count.was in
    omega (arith, header_near (plan_numbers c.args.plan.now) _ shape.four shape.sixty_four header)
