use Rattle.std.proofs.Common.{drop}
use Rattle.turn_writer.specs.Page.{page}
use Rattle.turn_writer.specs.Records.{scripts_spelling}
use Rattle.turn_writer.proofs.Pages.{Writing}
use Rattle.turn_writer.proofs.record_writer.write_scripts.Given as goal

abbrev pub invariant-loop-script : goal.invariant-loop-script
invariant-loop-script l =
    Writing (scripts_spelling 0 l.scripts) (page l.initial.pen)
    (scripts_spelling l.script-index (drop l.script-index l.scripts)) (page l.pen)
