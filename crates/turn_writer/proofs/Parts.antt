-- The parts of a plan's spelling.
use Rattle.std.proofs.Common.{◌≡◌, ℕ, ◌+◌, List, ◌++◌, length, ap, ◌∙◌, append-nil, length-append}
use Rattle.std.specs.List.{flat_map}
use Rattle.std.proofs.lemmas.Grind.{flat_map-append}
use Rattle.turn_file.specs.declared.plan.Level.{Level}
use Rattle.turn_file.specs.declared.plan.Script.{Script}
use Rattle.turn_file.specs.Order.{spelling}
use Rattle.turn_file.specs.Spelling.{spell}
use Rattle.turn_writer.specs.Records.{records_from, levels_spelling, scripts_spelling}

-- the bytes of a plan
pub parts : (count : ℕ) (ls : List Level) (ss : List Script) (es : List ℕ) →
    spelling (records_from count ls ss es)
    ≡ spell count ++ (levels_spelling 0 ls ++ (scripts_spelling 0 ss ++ (spell (length es) ++ flat_map spell es)))
parts count ls ss es = simp (flat_map-append, append-nil)

pub sizes : (count : ℕ) (ls : List Level) (ss : List Script) (es : List ℕ) →
    length (spelling (records_from count ls ss es))
    ≡ length (spell count) + (length (levels_spelling 0 ls) + (length (scripts_spelling 0 ss)
    + (length (spell (length es)) + length (flat_map spell es))))
sizes count ls ss es = ap length (parts count ls ss es) ∙ simp length-append
