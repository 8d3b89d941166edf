-- The records of a plan: its used numbers, in the order of a file. Two plans are the same where these are.
use Rattle.std.specs.Prelude.{◌≡◌, ℕ, ◌+◌, ◌^◌, ◌<◌, cond, List, [], ◌∷◌, ◌++◌, length, ◌==◌}
use Rattle.std.specs.List.{flat_map}
use Rattle.turn_file.specs.declared.plan.Level.{Level}
use Rattle.turn_file.specs.declared.plan.Script.{Script}
use Rattle.turn_file.specs.Order.{record_spelling, spelling}
use Rattle.turn_file.specs.Plan.{PlanNumbers, used_levels, used_scripts}
use Rattle.turn_file.specs.Reading.{Item, levels, level, script, schedule}
use Rattle.turn_file.specs.Spelling.{spell}

-- the used numbers of a level with so many levels above it: the top level has no handoff limit
abbrev pub used_level : ℕ → Level → Level
used_level rank l =
    record {
      algorithm = l.algorithm;
      fan_out = l.fan_out;
      handoff_limit = cond (rank == 0) 0 l.handoff_limit;
    }

-- levels from this rank on
abbrev pub level_records : ℕ → List Level → List Item
level_records rank [] = []
level_records rank (l ∷ ls) = level rank (used_level rank l) ∷ level_records (rank + 1) ls

-- scripts from this worker on
abbrev pub script_records : ℕ → List Script → List Item
script_records worker [] = []
script_records worker (s ∷ ss) = script worker s ∷ script_records (worker + 1) ss

-- a file's records, where it has these parts
abbrev pub records_from : ℕ → List Level → List Script → List ℕ → List Item
records_from count ls ss es =
    levels count ∷ (level_records 0 ls ++ (script_records 0 ss ++ (schedule es ∷ [])))

abbrev pub records_of : PlanNumbers → List Item
records_of p = records_from p.count (used_levels p) (used_scripts p) p.entries

-- the file that a plan is written as
abbrev pub plan_spelling : PlanNumbers → List ℕ
plan_spelling p = spelling (records_of p)

-- the bytes of a level
abbrev pub level_spelling : ℕ → Level → List ℕ
level_spelling rank l = record_spelling (level rank (used_level rank l))

-- the bytes of a script, which are the same for each worker
abbrev pub script_spelling : Script → List ℕ
script_spelling s = record_spelling (script 0 s)

-- the bytes of levels from this rank on, and of scripts from this worker on
abbrev pub levels_spelling : ℕ → List Level → List ℕ
levels_spelling rank ls = spelling (level_records rank ls)

abbrev pub scripts_spelling : ℕ → List Script → List ℕ
scripts_spelling worker ss = spelling (script_records worker ss)

-- entries that are their own spelling, and a count of them that is a number
pub record IsPlain (es : List ℕ) : Type 0 where
  pub own : flat_map spell es ≡ es
  pub counted : length es < 2 ^ 32

-- the bytes of all that stands before the count of entries, and of the entries with their count
abbrev pub header_spelling : PlanNumbers → List ℕ
header_spelling p = spell p.count ++ (levels_spelling 0 (used_levels p) ++ scripts_spelling 0 (used_scripts p))

abbrev pub schedule_spelling : List ℕ → List ℕ
schedule_spelling es = record_spelling (schedule es)
