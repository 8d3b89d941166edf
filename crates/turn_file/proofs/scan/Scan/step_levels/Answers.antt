use Rattle.std.proofs.Common.{sym, arith}
use Rattle.turn_file.proofs.Within.{levels_take}
use Rattle.turn_file.proofs.scan.Scan.step_levels.Goals as goal

pub part_from-requires : goal.part_from-requires
part_from-requires c =
    let t = levels_take c.args.self.file.now c.args.self.place _ (sym c.in_ok-count.ensures.0) in
    rw c.value.ensures.1 (omega (arith, t.0), t.1)
