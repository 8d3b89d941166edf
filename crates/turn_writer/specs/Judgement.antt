-- A plan is judged number by number, in the order of a file. The place of a number is where it would stand.
use Rattle.std.specs.Prelude.{ℕ, ◌+◌, ◌*◌, cond, List, [], ◌∷◌, length, Ok, Err, Result, ◌==◌, nat_lt}
use Rattle.turn_file.specs.declared.fault.FileFault.{FileFault}
use Rattle.turn_file.specs.declared.fault.FileFault.TheVariants.{TooLong}
use Rattle.turn_file.specs.declared.fault.RecordFault.{RecordFault}
use Rattle.turn_file.specs.declared.field.Field.{Field}
use Rattle.turn_file.specs.declared.field.Field.TheVariants.{LevelCount, FanOut, HandoffLimit, ScriptNumber, Entry}
use Rattle.turn_file.specs.declared.plan.Level.{Level}
use Rattle.turn_file.specs.declared.plan.Script.{Script}
use Rattle.turn_file.specs.Fault.{in_file, longest_file}
use Rattle.turn_file.specs.Plan.{PlanNumbers, used_levels, workers_of, used_scripts}
use Rattle.turn_file.specs.Algorithm.{algorithm_number}
use Rattle.turn_file.specs.Field.{field_refuses, field_fault}
use Rattle.turn_file.specs.Record.{bind}
use Rattle.turn_file.specs.Spelling.{spell}

-- the place after a number that stands at `at`
abbrev pub past : ℕ → ℕ → ℕ
past n at = at + length (spell n)

-- the fault of a number that its field refuses, or else the place after it
abbrev pub past_field : Field → ℕ → ℕ → Result ℕ RecordFault
past_field field n at = cond (field_refuses field n) (Err (field_fault field at)) (Ok (past n at))

-- the top level has no handoff limit
abbrev pub past_limit : ℕ → ℕ → ℕ → Result ℕ RecordFault
past_limit rank n at = cond (rank == 0) (Ok at) (past_field HandoffLimit n at)

-- a level with so many levels above it, which have so many parties
abbrev pub past_level : ℕ → ℕ → Level → ℕ → Result ℕ RecordFault
past_level rank parties l at =
    bind (past_field (FanOut parties) l.fan_out (past (algorithm_number l.algorithm) at)) (λ next.
    past_limit rank l.handoff_limit next)

abbrev pub past_levels : ℕ → ℕ → List Level → ℕ → Result ℕ RecordFault
past_levels rank parties [] at = Ok at
past_levels rank parties (l ∷ ls) at =
    bind (past_level rank parties l at) (λ next. past_levels (rank + 1) (parties * l.fan_out) ls next)

abbrev pub past_script : Script → ℕ → Result ℕ RecordFault
past_script s at =
    bind (past_field ScriptNumber s.turns at) (λ at_rest.
    bind (past_field ScriptNumber s.rest at_rest) (λ at_hold.
    past_field ScriptNumber s.hold at_hold))

-- items one behind the other
abbrev pub past_each : {A : Type 0} → (A → ℕ → Result ℕ RecordFault) → List A → ℕ → Result ℕ RecordFault
past_each past_one [] at = Ok at
past_each past_one (x ∷ xs) at = bind (past_one x at) (λ next. past_each past_one xs next)

abbrev pub past_scripts : List Script → ℕ → Result ℕ RecordFault
past_scripts = past_each past_script

-- each entry is a worker
abbrev pub past_entries : ℕ → List ℕ → ℕ → Result ℕ RecordFault
past_entries workers = past_each (past_field (Entry workers))

-- all that stands before the count of entries
abbrev pub past_header : PlanNumbers → Result ℕ RecordFault
past_header p =
    bind (past_field LevelCount p.count 0) (λ at_levels.
    bind (past_levels 0 1 (used_levels p) at_levels) (λ at_scripts.
    past_scripts (used_scripts p) at_scripts))

-- a record's fault is raised to the file
abbrev pub in_file_order : Result ℕ RecordFault → (ℕ → Result ℕ FileFault) → Result ℕ FileFault
in_file_order (Ok at) next = next at
in_file_order (Err f) next = Err (in_file f)

-- a length that a file may have
abbrev pub within_file : ℕ → Result ℕ FileFault
within_file n = cond (nat_lt longest_file n) (Err TooLong) (Ok n)

-- the count of entries is judged before them
abbrev pub past_entry_count : List ℕ → ℕ → Result ℕ FileFault
past_entry_count es at = bind (within_file (length es)) (λ n. Ok (past n at))

-- the length of the file is judged after all values
abbrev pub past_schedule : ℕ → List ℕ → ℕ → Result ℕ FileFault
past_schedule workers es at =
    bind (past_entry_count es at) (λ first. in_file_order (past_entries workers es first) within_file)

-- how long the plan's file is
abbrev pub file_length : PlanNumbers → Result ℕ FileFault
file_length p = in_file_order (past_header p) (λ at. past_schedule (workers_of p) p.entries at)
