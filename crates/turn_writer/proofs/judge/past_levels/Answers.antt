use Rattle.std.proofs.Common.{List, get_or, sym, ◌∙◌, arith}
use Rattle.std.proofs.lemmas.List.{at_drop_more}
use Rattle.turn_file.specs.declared.plan.Level.{Level}
use Rattle.turn_file.specs.Plan.{no_level}
use Rattle.turn_writer.specs.Judgement.{past_levels}
use Rattle.turn_writer.proofs.Sizes.{level_near}
use Rattle.turn_writer.proofs.judge.past_levels.Goals as goal

pub loop-rank-preserved : goal.loop-rank-preserved
loop-rank-preserved c =
    let l = c.loop-rank in
    let ls = c.args.levels.now in
    let judged = sym c.past_level.ensures ∙ c.in_ok-next.was in
    let k = level_near l.rank l.parties (get_or ls l.rank no_level) l.next c.in_ok-next.next judged in
    let left = λ (rest : List Level). past_levels l.rank l.parties rest l.next in
    let more = at_drop_more left ls l.rank no_level c.loop-rank-test.true in
    record {
      same = rw judged at (sym more ∙ l.invariant.same);
      near = omega (arith, l.invariant.near, k.0);
      few = k.1;
    }
