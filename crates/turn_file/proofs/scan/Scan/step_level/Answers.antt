use Rattle.std.proofs.Common.{sym, arith}
use Rattle.turn_file.proofs.Fields.{fan_out_fits}
use Rattle.turn_file.proofs.Accepted.{level_ok}
use Rattle.turn_file.proofs.Within.{level_takes}
use Rattle.turn_file.proofs.scan.Scan.step_level.Goals as goal

pub part_from-requires : goal.part_from-requires
part_from-requires c =
    let t = level_takes c.args.rank c.args.parties c.args.self.file.now c.args.self.place _
    (sym c.in_ok-level.ensures.0) in
    rw c.level.ensures.1 (omega (arith, t.0), t.1)

pub overflow_mul-parties : goal.overflow_mul-parties
overflow_mul-parties c =
    let fits = (level_ok c.args.rank c.args.parties c.args.self.file.now c.args.self.place _
    (sym c.in_ok-level.ensures.0)).fits in
    let small = (fan_out_fits c.args.parties c.in_ok-level.level.fan_out fits).1 in
    omega arith
