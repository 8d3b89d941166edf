use Rattle.std.proofs.Common.{ap}
use Rattle.turn_writer.specs.Writing.{with_space}
use Rattle.turn_writer.proofs.Law.{writes_as}
use Rattle.turn_writer.proofs.plan_writer.file_length.Goals as goal

pub returns-clause-law : goal.returns-clause-law
returns-clause-law c = λ space. writes_as _ c.past_plan.ensures.known (ap (with_space space) c.past_plan.ensures.end)
