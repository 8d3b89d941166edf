-- What stands at a place of the file: the records, number by number.
use Rattle.std.specs.Prelude.{ℕ, zero, suc, cond, List, Ok, Err, Result, ◌==◌}
use Rattle.std.specs.Result.{result_map_both}
use Rattle.turn_file.specs.declared.fault.NumberFault.{NumberFault}
use Rattle.turn_file.specs.declared.fault.RecordFault.{RecordFault}
use Rattle.turn_file.specs.declared.fault.RecordFault.TheVariants as fault
use Rattle.turn_file.specs.declared.fault.RecordKind.{RecordKind}
use Rattle.turn_file.specs.declared.fault.RecordKind.TheVariants as kind
use Rattle.turn_file.specs.declared.field.Field.{Field}
use Rattle.turn_file.specs.declared.field.Field.TheVariants as field
use Rattle.turn_file.specs.declared.plan.Algorithm.{Algorithm}
use Rattle.turn_file.specs.declared.plan.Level.{Level}
use Rattle.turn_file.specs.declared.plan.Script.{Script}
use Rattle.turn_file.specs.Algorithm.{algorithm_from}
use Rattle.turn_file.specs.Fault.{in_record}
use Rattle.turn_file.specs.Field.{field_kind, field_refuses, field_fault}
use Rattle.turn_file.specs.Number.{number_at}

-- a number's fault is raised to the record that the number is of
abbrev pub with_kind : RecordKind → Result (ℕ × ℕ) NumberFault → Result (ℕ × ℕ) RecordFault
with_kind k (Ok n) = Ok n
with_kind k (Err f) = Err (in_record k f)

-- a number of a record of this kind
abbrev pub number_in : RecordKind → List ℕ → ℕ → Result (ℕ × ℕ) RecordFault
number_in k file at = with_kind k (number_at file at)

-- the next is read only if this one is sound
abbrev pub bind : {A B E : Type 0} → Result A E → (A → Result B E) → Result B E
bind (Ok a) next = next a
bind (Err f) next = Err f

-- a number that only some values fit
abbrev pub value_at : Field → List ℕ → ℕ → Result (ℕ × ℕ) RecordFault
value_at field file at =
    bind (number_in (field_kind field) file at) (λ n.
    cond (field_refuses field n.0) (Err (field_fault field at)) (Ok n))

-- how many levels there are
abbrev pub levels_at : List ℕ → ℕ → Result (ℕ × ℕ) RecordFault
levels_at file at = value_at field.LevelCount file at

-- the algorithm of a number, or this fault
abbrev pub algorithm_of : ℕ → RecordFault → Result Algorithm RecordFault
algorithm_of n f = result_map_both (λ a. a) (λ unknown. f) (algorithm_from n)

abbrev pub algorithm_at : List ℕ → ℕ → Result (Algorithm × ℕ) RecordFault
algorithm_at file at =
    bind (number_in kind.Level file at) (λ n. bind (algorithm_of n.0 (fault.Algorithm at)) (λ a. Ok (a, n.1)))

-- the members of each lane, where the levels above have so many parties
abbrev pub fan_out_at : ℕ → List ℕ → ℕ → Result (ℕ × ℕ) RecordFault
fan_out_at parties file at = value_at (field.FanOut parties) file at

-- the handoff limit of a level with so many levels above it: the top level has none
abbrev pub limit_at : ℕ → List ℕ → ℕ → Result (ℕ × ℕ) RecordFault
limit_at rank file at = cond (rank == 0) (Ok (0, at)) (value_at field.HandoffLimit file at)

abbrev pub level_at : ℕ → ℕ → List ℕ → ℕ → Result (Level × ℕ) RecordFault
level_at rank parties file at =
    bind (algorithm_at file at) (λ a.
    bind (fan_out_at parties file a.1) (λ f.
    bind (limit_at rank file f.1) (λ h.
    Ok (record { algorithm = a.0; fan_out = f.0; handoff_limit = h.0 }, h.1))))

-- turns, rest or hold
abbrev pub script_number_at : List ℕ → ℕ → Result (ℕ × ℕ) RecordFault
script_number_at file at = value_at field.ScriptNumber file at

abbrev pub script_at : List ℕ → ℕ → Result (Script × ℕ) RecordFault
script_at file at =
    bind (script_number_at file at) (λ t.
    bind (script_number_at file t.1) (λ r.
    bind (script_number_at file r.1) (λ h.
    Ok (record { turns = t.0; rest = r.0; hold = h.0 }, h.1))))

-- an entry of the schedule
abbrev pub entry_at : ℕ → List ℕ → ℕ → Result (ℕ × ℕ) RecordFault
entry_at workers file at = value_at (field.Entry workers) file at

-- the place after so many entries
abbrev pub entries_end : ℕ → ℕ → List ℕ → ℕ → Result ℕ RecordFault
entries_end zero workers file at = Ok at
entries_end (suc n) workers file at = bind (entry_at workers file at) (λ e. entries_end n workers file e.1)

-- the count of entries, which may be any number; then the place of the first entry, and the place after the last
abbrev pub schedule_at : ℕ → List ℕ → ℕ → Result (ℕ × ℕ) RecordFault
schedule_at workers file at =
    bind (number_in kind.Schedule file at) (λ n. bind (entries_end n.0 workers file n.1) (λ end. Ok (n.1, end)))
