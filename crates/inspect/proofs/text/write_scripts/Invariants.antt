use Rattle.std.proofs.Common.{drop}
use Rattle.std.specs.Fmt.{IsPlainFormatter}
use Rattle.inspect.specs.Text.{script_lines}
use Rattle.inspect.proofs.Printed.{Printed}
use Rattle.inspect.proofs.text.write_scripts.Given as goal

abbrev pub invariant-loop-worker : goal.invariant-loop-worker
invariant-loop-worker g l =
    IsPlainFormatter l.initial.f →
    Printed g.W.Write.write_str_gives l.initial.f (script_lines 0 l.scripts)
    (script_lines l.worker (drop l.worker l.scripts)) l.f
