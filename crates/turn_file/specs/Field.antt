-- The numbers of records that only some values fit.
use Rattle.std.specs.Prelude.{ℕ, ◌*◌, Bool, cond, ◌||◌, Ok, Err, Result, nat_le, nat_lt}
use Rattle.turn_file.specs.declared.fault.RecordFault.{RecordFault}
use Rattle.turn_file.specs.declared.fault.RecordFault.TheVariants as fault
use Rattle.turn_file.specs.declared.fault.RecordKind.{RecordKind}
use Rattle.turn_file.specs.declared.fault.RecordKind.TheVariants as kind
use Rattle.turn_file.specs.declared.field.Field.{Field}
use Rattle.turn_file.specs.declared.field.Field.TheVariants.{LevelCount, FanOut, HandoffLimit, ScriptNumber, Entry}

-- how many levels there are: 1 to 4
abbrev pub bad_levels : ℕ → Bool
bad_levels n = nat_lt n 1 || nat_lt 4 n

-- the members of each lane, where the levels above have so many parties: some, and all lanes together at most 64
abbrev pub bad_fan_out : ℕ → ℕ → Bool
bad_fan_out parties n = nat_lt n 1 || nat_lt 64 (parties * n)

-- a handoff limit: 1 to 65,535
abbrev pub bad_limit : ℕ → Bool
bad_limit n = nat_lt n 1 || nat_lt 65535 n

-- turns, rest and hold: at most 65,535 each
abbrev pub bad_script_number : ℕ → Bool
bad_script_number n = nat_lt 65535 n

-- an entry of the schedule: a worker
abbrev pub bad_entry : ℕ → ℕ → Bool
bad_entry workers n = nat_le workers n

-- the kind of the record that a number is of
abbrev pub field_kind : Field → RecordKind
field_kind LevelCount = kind.Levels
field_kind (FanOut parties) = kind.Level
field_kind HandoffLimit = kind.Level
field_kind ScriptNumber = kind.Script
field_kind (Entry workers) = kind.Schedule

-- the values that a number may not have
abbrev pub field_refuses : Field → ℕ → Bool
field_refuses LevelCount = bad_levels
field_refuses (FanOut parties) = bad_fan_out parties
field_refuses HandoffLimit = bad_limit
field_refuses ScriptNumber = bad_script_number
field_refuses (Entry workers) = bad_entry workers

-- the fault of a number at a place
abbrev pub field_fault : Field → ℕ → RecordFault
field_fault LevelCount at = fault.LevelCount at
field_fault (FanOut parties) at = fault.FanOut at
field_fault HandoffLimit at = fault.HandoffLimit at
field_fault ScriptNumber at = fault.ScriptNumber at
field_fault (Entry workers) at = fault.Entry at

-- whether a value fits, at a place
abbrev pub field_judgement : Field → ℕ → ℕ → Result (Unit {0}) RecordFault
field_judgement field n at = cond (field_refuses field n) (Err (field_fault field at)) (Ok tt)
