use Rattle.std.proofs.Common.{sym}
use Rattle.turn_file.proofs.Within.{schedule_takes}
use Rattle.turn_file.proofs.scan.Scan.step_schedule.Goals as goal

pub part_from-requires : goal.part_from-requires
part_from-requires c =
    let t = schedule_takes c.args.workers c.args.self.file.now c.args.self.place _ (sym c.in_ok-first.ensures.0) in
    rw c.schedule.ensures.1 (t.1, t.2)
