-- The laws of a whole file: it is the spellings of its records, in their order, or it has a first fault.
use Rattle.std.specs.Prelude.{◌≡◌, ℕ, ◌*◌, ◌^◌, ◌<◌, ◌≤◌, cond, ◌⊎◌, List, [], ◌∷◌, ◌++◌, length, Ok, Err, fold, Result, ◌==◌, ◌≢◌}
use Rattle.std.specs.List.{flat_map, AllByRecursion}
use Rattle.turn_file.specs.declared.fault.FileFault.{FileFault}
use Rattle.turn_file.specs.declared.fault.FileFault.TheVariants.{TooLong}
use Rattle.turn_file.specs.declared.plan.Level.{Level}
use Rattle.turn_file.specs.declared.plan.Script.{Script}
use Rattle.turn_file.specs.declared.step.Stage.{Stage}
use Rattle.turn_file.specs.declared.step.Stage.TheVariants as stage
use Rattle.turn_file.specs.Fault.{longest_file, fault_place}
use Rattle.turn_file.specs.Plan.{PlanNumbers, with_item, blank_plan}
use Rattle.turn_file.specs.Reading.{Item, levels, level, script, schedule, after_level, after_script, next_step}
use Rattle.turn_file.specs.Algorithm.{algorithm_number}
use Rattle.turn_file.specs.Spelling.{spell, Stands}

-- the numbers of a record, each spelled out; the top level has no handoff limit
abbrev pub record_spelling : Item → List ℕ
record_spelling (levels n) = spell n
record_spelling (level rank l) =
    spell (algorithm_number l.algorithm) ++
    (spell l.fan_out ++ cond (rank == 0) [] (spell l.handoff_limit))
record_spelling (script worker s) = spell s.turns ++ (spell s.rest ++ spell s.hold)
record_spelling (schedule entries) = spell (length entries) ++ flat_map spell entries

abbrev pub spelling : List Item → List ℕ
spelling items = flat_map record_spelling items

-- a level with so many levels and so many parties above it
pub record LevelFits (rank parties : ℕ) (l : Level) : Type 0 where
  pub some : 1 ≤ l.fan_out
  pub few : parties * l.fan_out ≤ 64
  pub limit : ((rank ≡ 0) × (l.handoff_limit ≡ 0))
      ⊎ ((rank ≢ 0) × (1 ≤ l.handoff_limit) × (l.handoff_limit ≤ 65535))

pub record ScriptFits (s : Script) : Type 0 where
  pub turns : s.turns ≤ 65535
  pub rest : s.rest ≤ 65535
  pub hold : s.hold ≤ 65535

-- which record may come at a stage, and which stage comes after it
abbrev pub Comes : Stage → Item → Stage → Type 0
Comes stage.Levels item after =
    (n : ℕ) × (item ≡ levels n) × (1 ≤ n) × (n ≤ 4) × (after ≡ stage.Level 0 n 1)
Comes (stage.Level rank count parties) item after =
    (l : Level) × (item ≡ level rank l) × LevelFits rank parties l
    × (after ≡ after_level rank count (parties * l.fan_out))
Comes (stage.Script worker workers) item after =
    (s : Script) × (item ≡ script worker s) × ScriptFits s × (after ≡ after_script worker workers)
Comes (stage.Schedule workers) item after =
    (es : List ℕ) × (item ≡ schedule es) × (length es < 2 ^ 32) × AllByRecursion (λ e. e < workers) es
    × (after ≡ stage.End)
Comes stage.End item after = ⊥

-- records that come one after another, from one stage to another
abbrev pub InOrder : Stage → List Item → Stage → Type 0
InOrder from [] to = from ≡ to
InOrder from (item ∷ items) to = (next : Stage) × Comes from item next × InOrder next items to

-- A file that is read whole: it is the spellings of its records, which say the plan, and no byte is left over.
-- It is the spellings of no other records.
pub record Whole (file : List ℕ) (p : PlanNumbers) : Type 0 where
  pub records : List Item
  pub ordered : InOrder stage.Levels records stage.End
  pub spelled : file ≡ spelling records
  pub says : p ≡ fold with_item blank_plan records
  pub only : (others : List Item) → InOrder stage.Levels others stage.End → file ≡ spelling others → others ≡ records

-- The first fault of a file: the records before it are spelled from the beginning up to a place, where the next record
-- is refused, and the fault lies at that place or behind it, and not past the file's end. However else records are
-- read from the beginning on, they are some of those; and the file is not the spellings of any records.
pub record FirstFault (file : List ℕ) (fault : FileFault) : Type 0 where
  pub records : List Item
  pub place : ℕ
  pub next : Stage
  pub ordered : InOrder stage.Levels records next
  pub spelled : Stands (spelling records) file 0 place
  pub refused : next_step file place next ≡ Err fault
  pub lies : (place ≤ fault_place fault) × (fault_place fault ≤ length file)
  pub stops : (others : List Item) (to : ℕ) (after : Stage) → InOrder stage.Levels others after →
      Stands (spelling others) file 0 to →
      (more : List Item) × (records ≡ others ++ more)
  pub none : (others : List Item) → InOrder stage.Levels others stage.End → file ≢ spelling others

-- what a reader of whole files answers, and the plan that it then holds
pub record ReadWhole (file : List ℕ) (r : Result (Unit {0}) FileFault) (p : PlanNumbers) : Type 0 where
  pub accepted : r ≡ Ok tt → (length file ≤ longest_file) × Whole file p
  pub refused : (fault : FileFault) → r ≡ Err fault →
      ((longest_file < length file) × (fault ≡ TooLong)) ⊎ ((length file ≤ longest_file) × FirstFault file fault)
