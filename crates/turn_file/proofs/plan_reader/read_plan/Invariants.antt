use Rattle.std.proofs.Common.{◌-◌, length}
use Rattle.turn_file.specs.Plan.{plan_numbers, plan_of}
use Rattle.turn_file.specs.Reading.{cursor_of}
use Rattle.turn_file.proofs.Plans.{Completes}
use Rattle.turn_file.proofs.plan_reader.read_plan.Given as goal

abbrev pub invariant-loop-record : goal.invariant-loop-record
invariant-loop-record l = Completes l.file (cursor_of l.reader) (plan_numbers l.read) (plan_of l.file)

abbrev pub decreases-loop-record : goal.decreases-loop-record
decreases-loop-record l = length l.file - l.reader.scan.place
