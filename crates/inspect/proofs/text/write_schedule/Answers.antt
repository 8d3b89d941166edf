use Rattle.std.proofs.Common.{min, length, ◌++◌, codes, ap, ◌∙◌, rules}
use Rattle.std.specs.Slice.Iter.{chunks_rest}
use Rattle.std.proofs.Output.{has_written_of_eq}
use Rattle.inspect.specs.Text.{schedule_text, entry_lines}
use Rattle.inspect.proofs.Lines.{next_line, no_line, with_entries}
use Rattle.inspect.proofs.Printed.{one_more, all}
use Rattle.inspect.proofs.text.write_schedule.Goals as goal

pub loop-line-preserved : goal.loop-line-preserved
loop-line-preserved g c =
    let old = c.loop-line.invariant in
    let es = c.args.entries.now in
    let rest = chunks_rest c.loop-line.line-iterator in
    let same = c.in-Some.ensures.steps.0 in
    let cut = c.in-Some.ensures.steps.1 in
    let next = next_line old.most rest _ _ cut.2 old.bound cut.0
    (cut.1 ∙ ap (λ n. min n (length rest)) old.size) in
    record {
      size = same ∙ old.size;
      most = next.0;
      bound = next.1;
      printed = λ plain.
          one_more {whole = entry_lines (length es) es} (schedule_text c.in-Some.line.now ++ codes "\n")
          (old.printed plain) next.2 c.in_ok-writeln.ensures.writes;
    }

pub returns : goal.returns
returns g c plain ok =
    let old = c.loop-line.invariant in
    let none = c.in-None.ensures.steps.1.0 in
    has_written_of_eq _ _ _ _ _ (with_entries c.args.entries.now (search rules))
    (all (old.printed plain) (no_line old.most _ none))
