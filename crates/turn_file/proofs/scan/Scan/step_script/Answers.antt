use Rattle.std.proofs.Common.{sym, arith}
use Rattle.turn_file.proofs.Within.{script_takes}
use Rattle.turn_file.proofs.scan.Scan.step_script.Goals as goal

pub part_from-requires : goal.part_from-requires
part_from-requires c =
    let t = script_takes c.args.self.file.now c.args.self.place _ (sym c.in_ok-script.ensures.0) in
    rw c.script.ensures.1 (omega (arith, t.0), t.1)
