-- The text of a plan, line by line.
use Rattle.std.specs.Prelude.{ℕ, zero, suc, ◌+◌, cond, List, [], ◌∷◌, ◌++◌, length, take, drop, codes, decimal, ◌==◌}
use Rattle.std.specs.List.{flat_map}
use Rattle.turn_file.specs.declared.plan.Level.{Level}
use Rattle.turn_file.specs.declared.plan.Script.{Script}
use Rattle.turn_file.specs.Algorithm.{algorithm_text}
use Rattle.turn_file.specs.Plan.{PlanNumbers, lanes_below, used_levels, workers_of, used_scripts}

abbrev pub script_text : ℕ → Script → List ℕ
script_text worker s =
    codes "script " ++ (decimal worker ++
    (codes " turns " ++ (decimal s.turns ++
    (codes " rest " ++ (decimal s.rest ++ (codes " hold " ++ decimal s.hold))))))

-- a level up to its fan-out
abbrev pub level_front : ℕ → Level → List ℕ → List ℕ
level_front number l rest =
    codes "level " ++ (decimal number ++ (codes " " ++ (algorithm_text l.algorithm ++
    (codes " fan-out " ++ (decimal l.fan_out ++ rest)))))

-- the top level, whose number is 1, has no handoff limit
abbrev pub level_text : ℕ → Level → ℕ → List ℕ
level_text number l lanes =
    cond (number == 1)
    (level_front number l (codes " # lanes " ++ decimal lanes))
    (level_front number l
    (codes " handoff-limit " ++ (decimal l.handoff_limit ++ (codes " # lanes " ++ decimal lanes))))

-- levels from this number on, the first of them with so many lanes
abbrev pub level_lines : ℕ → ℕ → List Level → List ℕ
level_lines number lanes [] = []
level_lines number lanes (l ∷ ls) =
    (level_text number l lanes ++ codes "\n") ++ level_lines (number + 1) (lanes_below lanes l) ls

-- scripts from this worker on
abbrev pub script_lines : ℕ → List Script → List ℕ
script_lines worker [] = []
script_lines worker (s ∷ ss) = (script_text worker s ++ codes "\n") ++ script_lines (worker + 1) ss

abbrev pub entry_text : ℕ → List ℕ
entry_text e = codes " " ++ decimal e

abbrev pub schedule_text : List ℕ → List ℕ
schedule_text es = codes "schedule" ++ flat_map entry_text es

-- lines of 32 entries, at most so many of them
abbrev pub entry_lines : ℕ → List ℕ → List ℕ
entry_lines zero es = []
entry_lines (suc more) [] = []
entry_lines (suc more) (e ∷ es) =
    (schedule_text (take 32 (e ∷ es)) ++ codes "\n") ++ entry_lines more (drop 32 (e ∷ es))

-- a schedule without entries has a line too; else a line has an entry at least
abbrev pub schedule_lines : List ℕ → List ℕ
schedule_lines [] = codes "schedule\n"
schedule_lines (e ∷ es) = entry_lines (length (e ∷ es)) (e ∷ es)

-- a line that names a number
abbrev pub number_line : List ℕ → ℕ → List ℕ
number_line name n = name ++ (decimal n ++ codes "\n")

abbrev pub plan_text : PlanNumbers → List ℕ
plan_text p =
    number_line (codes "levels ") p.count
    ++ (level_lines 1 1 (used_levels p)
    ++ (number_line (codes "# workers ") (workers_of p)
    ++ (script_lines 0 (used_scripts p)
    ++ (number_line (codes "# entries ") (length p.entries)
    ++ schedule_lines p.entries))))
