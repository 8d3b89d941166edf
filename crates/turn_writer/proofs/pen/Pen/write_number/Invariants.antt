use Rattle.turn_writer.specs.Page.{page}
use Rattle.turn_writer.proofs.Groups.{Left}
use Rattle.turn_writer.proofs.pen.Pen.write_number.Given as goal

abbrev pub invariant-loop-high : goal.invariant-loop-high
invariant-loop-high l = Left l.value (page l.initial.self) (page l.self) l.high

abbrev pub decreases-loop-high : goal.decreases-loop-high
decreases-loop-high l = l.high
