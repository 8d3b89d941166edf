use Rattle.std.proofs.Common.{◌≡◌, ℕ, ◌≤◌, length}
use Rattle.std.specs.Slice.Iter.{chunks_rest, chunks_size}
use Rattle.std.specs.Fmt.{IsPlainFormatter}
use Rattle.inspect.specs.Text.{entry_lines}
use Rattle.inspect.proofs.Printed.{Printed}
use Rattle.inspect.proofs.text.write_schedule.Given as goal

abbrev pub invariant-loop-line : goal.invariant-loop-line
invariant-loop-line g l = record {
  size : chunks_size l.line-iterator ≡ 32;
  most : ℕ;
  bound : length (chunks_rest l.line-iterator) ≤ most;
  printed :
      IsPlainFormatter l.initial.f →
      Printed g.W.Write.write_str_gives l.initial.f (entry_lines (length l.entries) l.entries)
      (entry_lines most (chunks_rest l.line-iterator)) l.f;
}
