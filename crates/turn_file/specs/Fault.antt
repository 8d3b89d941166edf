-- The numbers of a fault: its cause, its place, the kind of record, and the layer that it lies in.
use Rattle.std.specs.Prelude.{ℕ, List, ◌++◌, codes, decimal, Option, Some, None}
use Rattle.turn_file.specs.declared.fault.RecordKind.{RecordKind}
use Rattle.turn_file.specs.declared.fault.RecordKind.TheVariants.{Levels, Level, Script, Schedule}
use Rattle.turn_file.specs.declared.fault.Layer.{Layer}
use Rattle.turn_file.specs.declared.fault.Layer.TheVariants as layer
use Rattle.turn_file.specs.declared.fault.NumberFault.{NumberFault}
use Rattle.turn_file.specs.declared.fault.NumberFault.TheVariants.{Ends, Padded, TooLarge}
use Rattle.turn_file.specs.declared.fault.RecordFault.{RecordFault}
use Rattle.turn_file.specs.declared.fault.RecordFault.TheVariants.{Number, LevelCount, Algorithm, FanOut}
use Rattle.turn_file.specs.declared.fault.RecordFault.TheVariants.{HandoffLimit, ScriptNumber, Entry}
use Rattle.turn_file.specs.declared.fault.FileFault.{FileFault}
use Rattle.turn_file.specs.declared.fault.FileFault.TheVariants.{Record, TrailingByte, TooLong, OutputTooShort}
use Rattle.turn_file.specs.declared.fault.FaultNumbers.{FaultNumbers}

-- a number's fault, raised to the record that the number is of
abbrev pub in_record : RecordKind → NumberFault → RecordFault
in_record kind fault = Number kind fault

-- a record's fault, raised to the file
abbrev pub in_file : RecordFault → FileFault
in_file fault = Record fault

abbrev pub kind_number : RecordKind → ℕ
kind_number Levels = 1
kind_number Level = 2
kind_number Script = 3
kind_number Schedule = 4

abbrev pub kind_or_0 : Option RecordKind → ℕ
kind_or_0 (Some kind) = kind_number kind
kind_or_0 None = 0

-- a file is at most this long
abbrev pub longest_file : ℕ
longest_file = 60000

abbrev pub number_cause : NumberFault → ℕ
number_cause (Ends place) = 1
number_cause (Padded place) = 2
number_cause (TooLarge place) = 3

abbrev pub record_cause : RecordFault → ℕ
record_cause (Number kind fault) = number_cause fault
record_cause (LevelCount place) = 4
record_cause (Algorithm place) = 5
record_cause (FanOut place) = 6
record_cause (HandoffLimit place) = 7
record_cause (ScriptNumber place) = 8
record_cause (Entry place) = 9

abbrev pub cause_number : FileFault → ℕ
cause_number (Record fault) = record_cause fault
cause_number (TrailingByte place) = 10
cause_number TooLong = 11
cause_number OutputTooShort = 12

abbrev pub number_place : NumberFault → ℕ
number_place (Ends place) = place
number_place (Padded place) = place
number_place (TooLarge place) = place

abbrev pub record_place : RecordFault → ℕ
record_place (Number kind fault) = number_place fault
record_place (LevelCount place) = place
record_place (Algorithm place) = place
record_place (FanOut place) = place
record_place (HandoffLimit place) = place
record_place (ScriptNumber place) = place
record_place (Entry place) = place

abbrev pub fault_place : FileFault → ℕ
fault_place (Record fault) = record_place fault
fault_place (TrailingByte place) = place
fault_place TooLong = longest_file
fault_place OutputTooShort = 0

-- the kind of the record that a fault lies in
abbrev pub record_kind : RecordFault → RecordKind
record_kind (Number kind fault) = kind
record_kind (LevelCount place) = Levels
record_kind (Algorithm place) = Level
record_kind (FanOut place) = Level
record_kind (HandoffLimit place) = Level
record_kind (ScriptNumber place) = Script
record_kind (Entry place) = Schedule

-- if it lies in one
abbrev pub fault_record_kind : FileFault → Option RecordKind
fault_record_kind (Record fault) = Some (record_kind fault)
fault_record_kind (TrailingByte place) = None
fault_record_kind TooLong = None
fault_record_kind OutputTooShort = None

-- 0 where a fault lies in no record
abbrev pub fault_kind : FileFault → ℕ
fault_kind f = kind_or_0 (fault_record_kind f)

abbrev pub layer_number : Layer → ℕ
layer_number layer.Number = 1
layer_number layer.Record = 2
layer_number layer.File = 3

-- the layer that a fault lies in
abbrev pub record_layer : RecordFault → Layer
record_layer (Number kind fault) = layer.Number
record_layer (LevelCount place) = layer.Record
record_layer (Algorithm place) = layer.Record
record_layer (FanOut place) = layer.Record
record_layer (HandoffLimit place) = layer.Record
record_layer (ScriptNumber place) = layer.Record
record_layer (Entry place) = layer.Record

abbrev pub fault_layer : FileFault → Layer
fault_layer (Record fault) = record_layer fault
fault_layer (TrailingByte place) = layer.File
fault_layer TooLong = layer.File
fault_layer OutputTooShort = layer.File

abbrev pub fault_numbers : FileFault → FaultNumbers
fault_numbers f =
    record { cause = cause_number f; place = fault_place f; kind = fault_kind f; layer = layer_number (fault_layer f) }

-- the line that a program prints for a refused file
abbrev pub fault_line : FaultNumbers → List ℕ
fault_line n =
    codes "fault " ++ (decimal n.cause ++ (codes " " ++ (decimal n.place ++
    (codes " " ++ (decimal n.kind ++ (codes " " ++ decimal n.layer))))))
