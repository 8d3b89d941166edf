use Rattle.turn_writer.proofs.Typed.{levels_words, scripts_words}
use Rattle.turn_writer.proofs.judge.past_level_count.Goals as goal

pub returns-clause-shape : goal.returns-clause-shape
returns-clause-shape c =
    let t = c.type_inv.plan in
    let levels = t.1.0 in
    let scripts = t.1.1.0 in
    record {
      count = t.0.1;
      four = levels.1.0.1;
      levels = levels_words c.args.plan.now.levels levels.0 levels.1.1;
      sixty_four = scripts.1.0.1;
      scripts = scripts_words c.args.plan.now.scripts scripts.0 scripts.1.1;
    }
