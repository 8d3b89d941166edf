-- The plan that a file says.
use Rattle.std.specs.Prelude.{ℕ, zero, suc, ◌-◌, ◌*◌, ◌^◌, min, cond, List, [], length, take, replicate, Some, None, Ok, Err, fold, Option, Result, nat_lt, slice_set}
use Rattle.turn_file.specs.declared.fault.FileFault.{FileFault}
use Rattle.turn_file.specs.declared.plan.Algorithm.TheVariants.{Ticket}
use Rattle.turn_file.specs.declared.plan.Level.{Level}
use Rattle.turn_file.specs.declared.plan.Plan.{Plan}
use Rattle.turn_file.specs.declared.plan.Script.{Script}
use Rattle.turn_file.specs.declared.record.Record.{Record}
use Rattle.turn_file.specs.Reading.{Item, levels, level, script, schedule, Stepped, Cursor, open_file, next_from}
use Rattle.turn_file.specs.Reading.{moved_on, seen_record}

-- the numbers of a plan
pub record PlanNumbers : Type 0 where
  pub count : ℕ
  pub levels : List Level
  pub scripts : List Script
  pub entries : List ℕ

abbrev pub plan_numbers : Plan → PlanNumbers
plan_numbers p =
    record { count = p.level_count; levels = p.levels; scripts = p.scripts; entries = p.schedule.now }

-- what stands in the unused part of a table
abbrev pub no_level : Level
no_level = record { algorithm = Ticket; fan_out = 0; handoff_limit = 0 }

abbrev pub no_script : Script
no_script = record { turns = 0; rest = 0; hold = 0 }

abbrev pub blank_plan : PlanNumbers
blank_plan = record { count = 0; levels = replicate 4 no_level; scripts = replicate 64 no_script; entries = [] }

-- the lanes of the level below a level with so many lanes, at most what 32 bits hold
abbrev pub lanes_below : ℕ → Level → ℕ
lanes_below lanes l = min (lanes * l.fan_out) (2 ^ 32 - 1)

-- the part of a plan that is used
abbrev pub used_levels : PlanNumbers → List Level
used_levels p = take p.count p.levels

abbrev pub workers_of : PlanNumbers → ℕ
workers_of p = fold lanes_below 1 (used_levels p)

abbrev pub used_scripts : PlanNumbers → List Script
used_scripts p = take (workers_of p) p.scripts

-- a table of so many places, with a value at one of them
abbrev pub put : {X : Type 0} → ℕ → List X → ℕ → X → List X
put places xs i x = cond (nat_lt i places) (slice_set xs i x) xs

-- a plan with what a record says
abbrev pub with_item : PlanNumbers → Item → PlanNumbers
with_item p (levels n) = record { count = n; levels = p.levels; scripts = p.scripts; entries = p.entries }
with_item p (level rank l) =
    record { count = p.count; levels = put 4 p.levels rank l; scripts = p.scripts; entries = p.entries }
with_item p (script worker s) =
    record { count = p.count; levels = p.levels; scripts = put 64 p.scripts worker s; entries = p.entries }
with_item p (schedule es) = record { count = p.count; levels = p.levels; scripts = p.scripts; entries = es }

-- the same, of a plan and a record of the code
abbrev pub with_record : Plan → Record → PlanNumbers
with_record p r = with_item (plan_numbers p) (seen_record r).item

-- the plan is whole where no record is left
abbrev pub on_next : PlanNumbers → Result (Option Stepped) FileFault → (Stepped → Result PlanNumbers FileFault) →
    Result PlanNumbers FileFault
on_next p (Ok (Some s)) more = more s
on_next p (Ok None) more = Ok p
on_next p (Err f) more = Err f

-- the plan after the records that a reader still hands out, which are at most `most`
abbrev pub plan_from : ℕ → Cursor → PlanNumbers → Result PlanNumbers FileFault
plan_from zero c p = Ok p
plan_from (suc most) c p =
    on_next p (next_from c) (λ s. plan_from most (moved_on c (Ok (Some s))) (with_item p s.handed.item))

abbrev pub on_open : Result Cursor FileFault → (Cursor → Result PlanNumbers FileFault) → Result PlanNumbers FileFault
on_open (Ok c) more = more c
on_open (Err f) more = Err f

-- the plan of a file: a record takes a byte at least, so the records are fewer than the bytes and one more
abbrev pub plan_of : List ℕ → Result PlanNumbers FileFault
plan_of file = on_open (open_file file) (λ c. plan_from (suc (length file)) c blank_plan)

-- what the caller is told of it
abbrev pub judgement : Result PlanNumbers FileFault → Result (Unit {0}) FileFault
judgement (Ok p) = Ok tt
judgement (Err f) = Err f

-- a lent plan: filled, or as it was
abbrev pub filled : Plan → Result PlanNumbers FileFault → PlanNumbers
filled was (Ok p) = p
filled was (Err f) = plan_numbers was
