use Rattle.std.proofs.Common.{drop}
use Rattle.turn_writer.specs.Page.{page}
use Rattle.turn_writer.specs.Records.{levels_spelling}
use Rattle.turn_writer.proofs.Pages.{Writing}
use Rattle.turn_writer.proofs.record_writer.write_levels.Given as goal

abbrev pub invariant-loop-rank : goal.invariant-loop-rank
invariant-loop-rank l =
    Writing (levels_spelling 0 l.levels) (page l.initial.pen) (levels_spelling l.rank (drop l.rank l.levels))
    (page l.pen)
