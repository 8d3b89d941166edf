use Rattle.std.proofs.Common.{drop}
use Rattle.std.specs.List.{flat_map}
use Rattle.std.specs.Fmt.{IsPlainFormatter}
use Rattle.inspect.specs.Text.{entry_text}
use Rattle.inspect.proofs.Printed.{Printed}
use Rattle.inspect.proofs.text.ScheduleLineDisplay.fmt.Given as goal

abbrev pub invariant-loop-entry : goal.invariant-loop-entry
invariant-loop-entry g l =
    IsPlainFormatter l.initial.f →
    Printed g.W.Write.write_str_gives l.initial.f (flat_map entry_text l.entry-items)
    (flat_map entry_text (drop l.entry-index l.entry-items)) l.f
