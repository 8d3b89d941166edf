use Rattle.std.proofs.Common.{◌≡◌, ◌-◌}
use Rattle.turn_file.specs.Record.{entries_end}
use Rattle.turn_file.proofs.scan.Scan.entries.Given as goal

-- what is left to pass ends where all entries end
abbrev pub invariant-loop : goal.invariant-loop
invariant-loop l =
    (l.self.file ≡ l.fn.self.file)
    × (entries_end (l.count - l.counter) l.workers l.fn.self.file.now l.self.place
    ≡ entries_end l.count l.workers l.fn.self.file.now l.fn.self.place)
