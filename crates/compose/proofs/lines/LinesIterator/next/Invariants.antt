-- What is left of the text is what the iterator has left.
use Rattle.std.proofs.Common.{length, ◌≡◌, ◌≤◌}
use Rattle.std.specs.Slice.Iter.{split_inclusive_rest}
use Rattle.compose.proofs.lines.LinesIterator.next.Given as goal

abbrev pub invariant-loop-line : goal.invariant-loop-line
invariant-loop-line l =
    (goal.iterator-loop-line).can_next l.line-iterator
    × (goal.iterator-loop-line).is_finite l.line-iterator
    × (split_inclusive_rest l.line-iterator ≡ l.self.rest.now)
    × (length l.self.rest.now ≤ length l.initial.self.rest.now)
