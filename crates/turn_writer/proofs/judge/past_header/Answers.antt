use Rattle.std.proofs.Common.{length, sym, ap, ◌∙◌, arith}
use Rattle.std.proofs.lemmas.List.{length-take}
use Rattle.turn_file.specs.declared.field.Field.TheVariants.{LevelCount}
use Rattle.turn_file.specs.Plan.{plan_numbers, workers_of}
use Rattle.turn_writer.proofs.Sizes.{field_near, levels_near}
use Rattle.turn_writer.proofs.judge.past_header.Goals as goal

pub past_scripts-requires : goal.past_scripts-requires
past_scripts-requires c =
    let p = plan_numbers c.args.plan.now in
    let shape = c.past_level_count.ensures.shape in
    let front = field_near LevelCount p.count 0 c.in_ok-at_levels.at_levels
    (sym c.past_level_count.ensures.end ∙ c.in_ok-at_levels.was) in
    let far = levels_near 0 1 c.used_levels.result.now c.in_ok-at_levels.at_levels
    c.in_ok-at_scripts.at_scripts (sym c.past_levels.ensures ∙ c.in_ok-at_scripts.was) in (
      omega (arith, front, far, shape.four, ap length c.used_levels.ensures, length-take p.count p.levels),
      omega (arith, shape.sixty_four, ap length c.used_scripts.ensures, length-take (workers_of p) p.scripts),
    )
