-- The parts of a plan's spelling, each where it stands, and that a reader stops at the part that is refused.
use Rattle.std.proofs.Common.{◌≡◌, ℕ, ◌≤◌, List, [], ◌∷◌, ◌++◌, length, Ok, Err, refl, ap, subst, arith}
use Rattle.std.specs.List.{flat_map, AllByRecursion}
use Rattle.turn_file.specs.declared.fault.RecordFault.{RecordFault}
use Rattle.turn_file.specs.declared.field.Field.TheVariants.{LevelCount}
use Rattle.turn_file.specs.declared.plan.Level.{Level}
use Rattle.turn_file.specs.declared.plan.Script.{Script}
use Rattle.turn_file.specs.declared.step.Stage.TheVariants as stage
use Rattle.turn_file.specs.Order.{spelling}
use Rattle.turn_file.specs.Reading.{levels, in_order}
use Rattle.turn_file.specs.Spelling.{spell, Stands}
use Rattle.turn_file.proofs.Orders.{stands_whole}
use Rattle.turn_file.proofs.Spelled.{stands_split}
use Rattle.turn_writer.specs.Judgement.{past, past_field, past_levels, past_scripts, past_entries}
use Rattle.turn_writer.specs.Records.{records_from, levels_spelling, scripts_spelling, level_records, script_records}
use Rattle.turn_writer.specs.Shape.{Word, LevelWords, ScriptWords}
use Rattle.turn_writer.proofs.AcceptedRecords.{product, levels_reach, levels_come, scripts_reach, scripts_come}
use Rattle.turn_writer.proofs.Parts.{parts}
use Rattle.turn_writer.proofs.RefusedRecords.{stop, field_refused, schedule_refused}
use Rattle.turn_writer.proofs.Stops.{Stopped, stopped_here, stopped_later, one_stands, levels_stop, scripts_stop}

-- the parts of a plan's spelling, each where it stands
pub record Standing (file : List ℕ) (count : ℕ) (ls : List Level) (ss : List Script) (es : List ℕ) : Type 0 where
  pub at_scripts : ℕ
  pub at_schedule : ℕ
  pub count_stands : Stands (spell count) file 0 (past count 0)
  pub levels_stand : Stands (levels_spelling 0 ls) file (past count 0) at_scripts
  pub scripts_stand : Stands (scripts_spelling 0 ss) file at_scripts at_schedule
  pub schedule_stands : Stands (spell (length es) ++ flat_map spell es) file at_schedule (length file)

pub standing : (count : ℕ) (ls : List Level) (ss : List Script) (es : List ℕ) →
    Standing (spelling (records_from count ls ss es)) count ls ss es
standing count ls ss es =
    let file : List ℕ = spelling (records_from count ls ss es) in
    let first = stands_split (spell count) _ file 0 (length file)
    (stands_whole _ file (parts count ls ss es)) in
    let second = stands_split (levels_spelling 0 ls) _ file (past count 0) (length file) first.1 in
    let third = stands_split (scripts_spelling 0 ss) (spell (length es) ++ flat_map spell es) file _ (length file)
    second.1 in
    record {
      at_scripts = _;
      at_schedule = _;
      count_stands = first.0;
      levels_stand = second.0;
      scripts_stand = third.0;
      schedule_stands = third.1;
    }

module _ {file : List ℕ} {count : ℕ} {ls : List Level} {ss : List Script} {es : List ℕ}
    (s : Standing file count ls ss es) (f : RecordFault) where
  pub count_stops : Word count → past_field LevelCount count 0 ≡ Err f → Stopped file 0 stage.Levels f
  count_stops small is =
      stopped_here file 0 stage.Levels f
      (ap in_order (stop _ (field_refused file LevelCount count 0 _ f small s.count_stands is)))

  pub behind_count : 1 ≤ count → count ≤ 4 → Stopped file (past count 0) (stage.Level 0 count 1) f →
      Stopped file 0 stage.Levels f
  behind_count some most later =
      stopped_later file 0 stage.Levels (levels count ∷ []) (past count 0) (stage.Level 0 count 1) f
      (stage.Level 0 count 1, (count, refl, some, most, refl), refl)
      (one_stands (levels count) file 0 (past count 0) s.count_stands) later

  pub levels_stops : AllByRecursion LevelWords ls → length ls ≡ count → 1 ≤ count →
      past_levels 0 1 ls (past count 0) ≡ Err f →
      Stopped file (past count 0) (stage.Level 0 count 1) f
  levels_stops words all some is = by_list ls words all s.levels_stand is
    where
      by_list : (ls : List Level) → AllByRecursion LevelWords ls → length ls ≡ count →
          Stands (levels_spelling 0 ls) file (past count 0) s.at_scripts →
          past_levels 0 1 ls (past count 0) ≡ Err f → Stopped file (past count 0) (stage.Level 0 count 1) f
      by_list [] words all stands is = absurd (omega arith)
      by_list (l ∷ ls) words all stands is =
          levels_stop file 0 count 1 l ls (past count 0) s.at_scripts f words (omega arith) stands is

  pub behind_levels : (b : ℕ) → length ls ≡ count → 1 ≤ count → past_levels 0 1 ls (past count 0) ≡ Ok b →
      Stopped file b (stage.Script 0 (product 1 ls)) f → Stopped file (past count 0) (stage.Level 0 count 1) f
  behind_levels b all some is later = by_list ls all s.levels_stand is later
    where
      by_list : (ls : List Level) → length ls ≡ count →
          Stands (levels_spelling 0 ls) file (past count 0) s.at_scripts → past_levels 0 1 ls (past count 0) ≡ Ok b →
          Stopped file b (stage.Script 0 (product 1 ls)) f → Stopped file (past count 0) (stage.Level 0 count 1) f
      by_list [] all stands is later = absurd (omega arith)
      by_list (l ∷ ls) all stands is later =
          let k = levels_come 0 count 1 l ls (past count 0) b (omega arith) is in
          let there : s.at_scripts ≡ b = omega (arith, stands.ends, levels_reach 0 1 (l ∷ ls) (past count 0) b is) in
          stopped_later file (past count 0) (stage.Level 0 count 1) (level_records 0 (l ∷ ls)) b
          (stage.Script 0 (product 1 (l ∷ ls))) f k
          (subst (Stands (levels_spelling 0 (l ∷ ls)) file (past count 0)) there stands) later

  pub scripts_stops : (workers b : ℕ) → AllByRecursion ScriptWords ss → length ss ≡ workers → 1 ≤ workers →
      s.at_scripts ≡ b →
      past_scripts ss b ≡ Err f → Stopped file b (stage.Script 0 workers) f
  scripts_stops workers b words all some there is =
      by_list ss words all
      (subst (λ at. Stands (scripts_spelling 0 ss) file at s.at_schedule) there s.scripts_stand) is
    where
      by_list : (ss : List Script) → AllByRecursion ScriptWords ss → length ss ≡ workers →
          Stands (scripts_spelling 0 ss) file b s.at_schedule → past_scripts ss b ≡ Err f →
          Stopped file b (stage.Script 0 workers) f
      by_list [] words all stands is = absurd (omega arith)
      by_list (t ∷ ts) words all stands is =
          scripts_stop file 0 workers t ts b s.at_schedule f words (omega arith) stands is

  pub behind_scripts : (workers b c : ℕ) → length ss ≡ workers → 1 ≤ workers → s.at_scripts ≡ b →
      past_scripts ss b ≡ Ok c →
      Stopped file c (stage.Schedule workers) f → Stopped file b (stage.Script 0 workers) f
  behind_scripts workers b c all some there is later =
      by_list ss all (subst (λ at. Stands (scripts_spelling 0 ss) file at s.at_schedule) there s.scripts_stand) is
    where
      by_list : (ss : List Script) → length ss ≡ workers →
          Stands (scripts_spelling 0 ss) file b s.at_schedule → past_scripts ss b ≡ Ok c →
          Stopped file b (stage.Script 0 workers) f
      by_list [] all stands is = absurd (omega arith)
      by_list (t ∷ ts) all stands is =
          let k = scripts_come 0 workers t ts b c (omega arith) is in
          let here : s.at_schedule ≡ c = omega (arith, stands.ends, scripts_reach 0 (t ∷ ts) b c is) in
          stopped_later file b (stage.Script 0 workers) (script_records 0 (t ∷ ts)) c (stage.Schedule workers) f k
          (subst (Stands (scripts_spelling 0 (t ∷ ts)) file b) here stands) later

  pub schedule_stops : (workers c : ℕ) → AllByRecursion Word es → Word (length es) → s.at_schedule ≡ c →
      past_entries workers es (past (length es) c) ≡ Err f → Stopped file c (stage.Schedule workers) f
  schedule_stops workers c words few there is =
      stopped_here file c (stage.Schedule workers) f
      (ap in_order (stop _ (schedule_refused file workers es c (length file) f words few
      (subst (λ at. Stands (spell (length es) ++ flat_map spell es) file at (length file)) there s.schedule_stands)
      is)))
