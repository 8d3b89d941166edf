use Rattle.std.proofs.Common.{◌+◌, drop}
use Rattle.std.specs.Fmt.{IsPlainFormatter}
use Rattle.inspect.specs.Text.{level_lines}
use Rattle.inspect.proofs.Printed.{Printed}
use Rattle.inspect.proofs.text.write_levels.Given as goal

abbrev pub invariant-loop-rank : goal.invariant-loop-rank
invariant-loop-rank g l =
    IsPlainFormatter l.initial.f →
    Printed g.W.Write.write_str_gives l.initial.f (level_lines 1 1 l.levels)
    (level_lines (l.rank + 1) l.lanes (drop l.rank l.levels)) l.f
