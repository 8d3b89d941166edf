use Rattle.std.proofs.Common.{◌+◌, ◌++◌, codes, refl}
use Rattle.turn_file.specs.Plan.{lanes_below}
use Rattle.inspect.specs.Text.{level_text, level_lines}
use Rattle.inspect.proofs.Printed.{one_element}
use Rattle.inspect.proofs.text.write_levels.Goals as goal

pub loop-rank-preserved : goal.loop-rank-preserved
loop-rank-preserved g c plain =
    let number = c.loop-rank.rank + 1 in
    let lanes = c.loop-rank.lanes in
    rw c.lanes_below-lanes.ensures
    (one_element (λ l. level_text number l lanes ++ codes "\n") (level_lines number lanes)
    (λ l. level_lines (number + 1) (lanes_below lanes l)) _ _ (λ l ls. refl) c.loop-rank-test.true
    (c.loop-rank.invariant plain) c.in_ok-writeln.ensures.writes)
