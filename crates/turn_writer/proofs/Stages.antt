-- Which stage comes after a record.
use Rattle.std.proofs.Common.{◌≡◌, ℕ, ◌+◌, ◌-◌, ◌<◌, ◌≤◌}
use Rattle.std.proofs.lemmas.Bool.{lt-ltb, le-ltb}
use Rattle.turn_file.specs.declared.step.Stage.TheVariants as stage
use Rattle.turn_file.specs.Reading.{after_level, after_script}

-- the stage after a level: another level, or the first script
pub after_level_more : (rank count lanes : ℕ) → rank < count - 1 →
    after_level rank count lanes ≡ stage.Level (rank + 1) count lanes
after_level_more rank count lanes more =
    simp (lt-ltb rank (count - 1) more)

pub after_level_last : (rank count lanes : ℕ) → count - 1 ≤ rank → after_level rank count lanes ≡ stage.Script 0 lanes
after_level_last rank count lanes last =
    simp (le-ltb rank (count - 1) last)

-- the stage after a script: another script, or the schedule
pub after_script_more : (worker workers : ℕ) → worker < workers - 1 →
    after_script worker workers ≡ stage.Script (worker + 1) workers
after_script_more worker workers more =
    simp (lt-ltb worker (workers - 1) more)

pub after_script_last : (worker workers : ℕ) → workers - 1 ≤ worker →
    after_script worker workers ≡ stage.Schedule workers
after_script_last worker workers last =
    simp (le-ltb worker (workers - 1) last)
