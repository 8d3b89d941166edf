use Rattle.std.proofs.Common.{◌≡◌, ◌+◌, ◌*◌, ◌≤◌, drop}
use Rattle.turn_writer.specs.Judgement.{past_levels}
use Rattle.turn_writer.proofs.judge.past_levels.Given as goal

-- what is left to judge ends where all levels end
abbrev pub invariant-loop-rank : goal.invariant-loop-rank
invariant-loop-rank l =
    record {
      same : past_levels l.rank l.parties (drop l.rank l.levels) l.next ≡ past_levels 0 1 l.levels l.at;
      near : l.next ≤ l.at + 15 * l.rank;
      few : l.parties ≤ 64;
    }
