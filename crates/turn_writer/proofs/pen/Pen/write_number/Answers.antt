use Rattle.turn_writer.proofs.Groups.{left_all, left_more}
use Rattle.turn_writer.proofs.pen.Pen.write_number.Goals as goal

pub loop-high-init : goal.loop-high-init
loop-high-init c = left_all _ _ c.ranges.value.fits c.requires

pub loop-high-preserved : goal.loop-high-preserved
loop-high-preserved c = rw c.write_byte.ensures (left_more c.loop-high.invariant c.loop-high-test.true)
