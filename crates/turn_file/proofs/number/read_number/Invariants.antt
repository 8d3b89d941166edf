use Rattle.std.proofs.Common.{◌+◌, ◌<◌, ◌≤◌, length, drop}
use Rattle.turn_file.specs.Number.{number_at}
use Rattle.turn_file.proofs.Groups.{SoFar}
use Rattle.turn_file.proofs.number.read_number.Given as goal

abbrev pub invariant-loop-index : goal.invariant-loop-index
invariant-loop-index l = record {
  so_far : SoFar (number_at l.file l.at) l.at l.index l.value l.weight (drop l.at l.file);
  within : 0 < l.index → l.at + l.index ≤ length l.file;
}
