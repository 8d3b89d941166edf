-- The records of a file in their order: what a reader hands out, and which record comes next.
use Rattle.std.specs.Prelude.{ℕ, ◌+◌, ◌-◌, ◌*◌, cond, List, length, Some, None, Ok, Err, Option, Result, nat_lt}
use Rattle.std.specs.List.{between}
use Rattle.turn_file.specs.declared.fault.RecordFault.{RecordFault}
use Rattle.turn_file.specs.declared.fault.FileFault.{FileFault}
use Rattle.turn_file.specs.declared.fault.FileFault.TheVariants.{TrailingByte, TooLong}
use Rattle.turn_file.specs.declared.plan.Level.{Level}
use Rattle.turn_file.specs.declared.plan.Script.{Script}
use Rattle.turn_file.specs.declared.reader.Reader.{Reader}
use Rattle.turn_file.specs.declared.record.Record.{Record}
use Rattle.turn_file.specs.declared.record.Record.TheVariants as rec
use Rattle.turn_file.specs.declared.step.Stage.{Stage}
use Rattle.turn_file.specs.declared.step.Stage.TheVariants as stage
use Rattle.turn_file.specs.declared.step.Step.{Step}
use Rattle.turn_file.specs.Fault.{in_file, longest_file}
use Rattle.turn_file.specs.Record.{bind, levels_at, level_at, script_at, schedule_at}

-- what a record says
pub data Item : Type 0 where
  levels : ℕ → Item
  level : ℕ → Level → Item
  script : ℕ → Script → Item
  schedule : List ℕ → Item

-- a record that is handed out: what it says, and its part of the file
pub record Handed : Type 0 where
  pub item : Item
  pub place : ℕ
  pub bytes : List ℕ

-- with the place after it, and which record comes next
pub record Stepped : Type 0 where
  pub handed : Handed
  pub next : ℕ
  pub stage : Stage

-- the step past a record
abbrev pub step : Item → List ℕ → ℕ → ℕ → Stage → Result Stepped RecordFault
step item file from to after =
    Ok (record {
      handed = record { item = item; place = from; bytes = between from to file };
      next = to;
      stage = after;
    })

-- what comes after a level or a script: another, or the first of the next kind
abbrev pub after_level : ℕ → ℕ → ℕ → Stage
after_level rank count parties =
    cond (nat_lt rank (count - 1)) (stage.Level (rank + 1) count parties) (stage.Script 0 parties)

abbrev pub after_script : ℕ → ℕ → Stage
after_script worker workers =
    cond (nat_lt worker (workers - 1)) (stage.Script (worker + 1) workers) (stage.Schedule workers)

abbrev pub levels_step : List ℕ → ℕ → Result Stepped RecordFault
levels_step file at = bind (levels_at file at) (λ n. step (levels n.0) file at n.1 (stage.Level 0 n.0 1))

abbrev pub level_step : ℕ → ℕ → ℕ → List ℕ → ℕ → Result Stepped RecordFault
level_step rank count parties file at =
    bind (level_at rank parties file at) (λ l.
    step (level rank l.0) file at l.1 (after_level rank count (parties * l.0.fan_out)))

abbrev pub script_step : ℕ → ℕ → List ℕ → ℕ → Result Stepped RecordFault
script_step worker workers file at =
    bind (script_at file at) (λ s. step (script worker s.0) file at s.1 (after_script worker workers))

-- the part of the schedule is that of its entries
abbrev pub schedule_step : ℕ → List ℕ → ℕ → Result Stepped RecordFault
schedule_step workers file at =
    bind (schedule_at workers file at) (λ e. step (schedule (between e.0 e.1 file)) file e.0 e.1 stage.End)

-- a record's fault is raised to the file
abbrev pub in_order : Result Stepped RecordFault → Result (Option Stepped) FileFault
in_order (Ok s) = Ok (Some s)
in_order (Err f) = Err (in_file f)

-- the record that comes next, or none where the file ends as it should
abbrev pub next_step : List ℕ → ℕ → Stage → Result (Option Stepped) FileFault
next_step file at stage.Levels = in_order (levels_step file at)
next_step file at (stage.Level rank count parties) = in_order (level_step rank count parties file at)
next_step file at (stage.Script worker workers) = in_order (script_step worker workers file at)
next_step file at (stage.Schedule workers) = in_order (schedule_step workers file at)
next_step file at stage.End = cond (nat_lt at (length file)) (Err (TrailingByte at)) (Ok None)

-- what a record of the code says
abbrev pub seen_record : Record → Handed
seen_record (rec.Levels part count) = record { item = levels count; place = part.place; bytes = part.bytes.now }
seen_record (rec.Level part rank l) = record { item = level rank l; place = part.place; bytes = part.bytes.now }
seen_record (rec.Script part worker s) =
    record { item = script worker s; place = part.place; bytes = part.bytes.now }
seen_record (rec.Schedule part) =
    record { item = schedule part.bytes.now; place = part.place; bytes = part.bytes.now }

-- what the answers of the code say
abbrev pub seen : Step → Stepped
seen s = record { handed = seen_record s.record; next = s.next; stage = s.stage }

abbrev pub seen_step : Result Step RecordFault → Result Stepped RecordFault
seen_step (Ok s) = Ok (seen s)
seen_step (Err f) = Err f

abbrev pub seen_next : Result (Option Step) FileFault → Result (Option Stepped) FileFault
seen_next (Ok (Some s)) = Ok (Some (seen s))
seen_next (Ok None) = Ok None
seen_next (Err f) = Err f

-- where a reader stands: the bytes of its file, the place that was reached, and which record comes next
pub record Cursor : Type 0 where
  pub file : List ℕ
  pub place : ℕ
  pub stage : Stage

abbrev pub cursor_of : Reader → Cursor
cursor_of r = record { file = r.scan.file.now; place = r.scan.place; stage = r.stage }

abbrev pub opened : Result Reader FileFault → Result Cursor FileFault
opened (Ok r) = Ok (cursor_of r)
opened (Err f) = Err f

-- the length of a file is judged first
abbrev pub open_file : List ℕ → Result Cursor FileFault
open_file file =
    cond (nat_lt longest_file (length file)) (Err TooLong)
    (Ok (record { file = file; place = 0; stage = stage.Levels }))

-- the next step from where a reader stands
abbrev pub next_from : Cursor → Result (Option Stepped) FileFault
next_from c = next_step c.file c.place c.stage

abbrev pub seen_answer : Result (Option Record) FileFault → Result (Option Handed) FileFault
seen_answer (Ok (Some r)) = Ok (Some (seen_record r))
seen_answer (Ok None) = Ok None
seen_answer (Err f) = Err f

-- what is handed out of a step
abbrev pub handed_out : Result (Option Stepped) FileFault → Result (Option Handed) FileFault
handed_out (Ok (Some s)) = Ok (Some s.handed)
handed_out (Ok None) = Ok None
handed_out (Err f) = Err f

-- the reader moves only past a record
abbrev pub moved_on : Cursor → Result (Option Stepped) FileFault → Cursor
moved_on c (Ok (Some s)) = record { file = c.file; place = s.next; stage = s.stage }
moved_on c (Ok None) = c
moved_on c (Err f) = c

-- where the reader stands after it was asked for the next record
abbrev pub moved : Cursor → Cursor
moved c = moved_on c (next_from c)
