-- What the types of a plan's fields say of their values.
use Rattle.std.proofs.Common.{List, [], ◌∷◌}
use denote.Array.{each}
use denote.Shadow.{shadow}
use mir.Val.{Val}
use Rattle.std.specs.List.{AllByRecursion}
use Rattle.turn_file.specs.contracts.plan.Level as level
use Rattle.turn_file.specs.contracts.plan.Script as script
use Rattle.turn_file.specs.declared.plan.Level.{Level}
use Rattle.turn_file.specs.declared.plan.Script.{Script}
use Rattle.turn_writer.specs.Shape.{LevelWords, ScriptWords}

level_words : (l : Level) (u : Val) → shadow ((level.the_row).own_val l (u ∷ [])) → LevelWords l
level_words l u s = let fields = s.1.1 in (fields.1.0.1, fields.1.1.0.1)

pub levels_words : (ls : List Level) (us : List Val) →
    shadow (each (level.the_row).Denot (level.the_row).own_val ls us) → AllByRecursion LevelWords ls
levels_words [] us s = tt
levels_words (l ∷ ls) [] s = absurd s
levels_words (l ∷ ls) (u ∷ us) s = (level_words l u s.0, levels_words ls us s.1)

script_words : (t : Script) (u : Val) → shadow ((script.the_row).own_val t (u ∷ [])) → ScriptWords t
script_words t u s = let fields = s.1.1 in (fields.0.1, fields.1.0.1, fields.1.1.0.1)

pub scripts_words : (ts : List Script) (us : List Val) →
    shadow (each (script.the_row).Denot (script.the_row).own_val ts us) → AllByRecursion ScriptWords ts
scripts_words [] us s = tt
scripts_words (t ∷ ts) [] s = absurd s
scripts_words (t ∷ ts) (u ∷ us) s = (script_words t u s.0, scripts_words ts us s.1)
