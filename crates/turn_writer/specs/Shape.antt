-- What the types of a plan's fields say of their values: tables of 4 levels and 64 scripts, and numbers of 32 bits.
use Rattle.std.specs.Prelude.{◌≡◌, ℕ, ◌^◌, ◌<◌, length, Ok}
use Rattle.std.specs.List.{AllByRecursion}
use Rattle.turn_file.specs.declared.plan.Level.{Level}
use Rattle.turn_file.specs.declared.plan.Script.{Script}
use Rattle.turn_file.specs.Plan.{PlanNumbers}
use Rattle.turn_writer.specs.Judgement.{past_header}

abbrev pub Word : ℕ → Type 0
Word n = n < 2 ^ 32

abbrev pub LevelWords : Level → Type 0
LevelWords l = Word l.fan_out × Word l.handoff_limit

abbrev pub ScriptWords : Script → Type 0
ScriptWords s = Word s.turns × Word s.rest × Word s.hold

pub record Shape (p : PlanNumbers) : Type 0 where
  pub count : Word p.count
  pub four : length p.levels ≡ 4
  pub levels : AllByRecursion LevelWords p.levels
  pub sixty_four : length p.scripts ≡ 64
  pub scripts : AllByRecursion ScriptWords p.scripts

-- the code reads the entries only behind a header that is not refused
pub record Known (p : PlanNumbers) : Type 0 where
  pub shape : Shape p
  pub entries : (at : ℕ) → past_header p ≡ Ok at → AllByRecursion Word p.entries
