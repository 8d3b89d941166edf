-- A plan whose file has a length: all its records come in order, and the file is their spelling.
use Rattle.std.proofs.Common.{◌≡◌, ℕ, ◌+◌, ◌<◌, ◌≤◌, ltb, List, [], ◌∷◌, length, Ok, Err, Result, sym, refl, ap, ◌∙◌, arith}
use Rattle.std.proofs.lemmas.List.{length-take}
use Rattle.std.proofs.lemmas.Bool.{ltb-false}
use Rattle.std.proofs.lemmas.Bool.Decides.{nat_tests}
use Rattle.std.specs.List.{flat_map, AllByRecursion}
use Rattle.turn_file.specs.declared.fault.FileFault.{FileFault}
use Rattle.turn_file.specs.declared.fault.FileFault.TheVariants.{TooLong}
use Rattle.turn_file.specs.declared.fault.RecordFault.{RecordFault}
use Rattle.turn_file.specs.declared.field.Field.TheVariants.{LevelCount}
use Rattle.turn_file.specs.declared.plan.Level.{Level}
use Rattle.turn_file.specs.declared.plan.Script.{Script}
use Rattle.turn_file.specs.declared.step.Stage.TheVariants as stage
use Rattle.turn_file.specs.Fault.{longest_file}
use Rattle.turn_file.specs.Order.{InOrder, spelling}
use Rattle.turn_file.specs.Plan.{PlanNumbers, used_levels, workers_of, used_scripts}
use Rattle.turn_file.specs.Spelling.{spell}
use Rattle.turn_file.proofs.Fields.{bind_ok}
use Rattle.turn_file.proofs.Sound.{entries_short}
use Rattle.turn_writer.specs.Judgement.{past, past_field, past_levels, past_scripts, past_header, past_entries, in_file_order, past_entry_count, within_file, past_schedule, file_length}
use Rattle.turn_writer.specs.Records.{level_records, script_records, records_from, IsPlain}
use Rattle.turn_writer.specs.Shape.{Shape}
use Rattle.turn_writer.proofs.AcceptedRecords.{in_order_both, product, levels_reach, levels_come, workers_few, scripts_reach, scripts_come, entries_come}
use Rattle.turn_writer.proofs.Parts.{sizes}
use Rattle.turn_writer.proofs.Sizes.{field_fits}
use Rattle.turn_file.proofs.Refusals.{kept}

-- what was judged first, and what came of it
pub header_ok : (r : Result ℕ RecordFault) (next : ℕ → Result ℕ FileFault) (n : ℕ) → in_file_order r next ≡ Ok n →
    (a : ℕ) × (r ≡ Ok a) × (next a ≡ Ok n)
header_ok (Ok a) next n is = (a, refl, is)
header_ok (Err f) next n is = cc

-- a length that is not refused
within_longest : (n m : ℕ) → within_file n ≡ Ok m → (n ≤ longest_file) × (m ≡ n)
within_longest n m is = let k = kept (ltb longest_file n) TooLong n m is in (ltb-false longest_file n k.0, sym k.1)

-- a count of entries that is not refused
count_within : (es : List ℕ) (at next : ℕ) → past_entry_count es at ≡ Ok next →
    (length es ≤ longest_file) × (next ≡ past (length es) at)
count_within es at next is =
    let b = bind_ok (within_file (length es)) (λ n. Ok (past n at)) next is in
    let w = within_longest (length es) b.0 b.1 in
    let there : past b.0 at ≡ next = let e = b.2 in cc in
    (w.0, sym there ∙ ap (λ n. past n at) w.1)

-- what holds of a plan that is accepted
pub record Accepted (count : ℕ) (ls : List Level) (ss : List Script) (es : List ℕ) (n : ℕ) : Type 0 where
  pub ordered : InOrder stage.Levels (records_from count ls ss es) stage.End
  pub long : n ≡ length (spelling (records_from count ls ss es))
  pub short : n ≤ longest_file
  pub few : length es ≤ longest_file
  pub plain : IsPlain es

-- a schedule that is not refused
schedule_accepted : (workers : ℕ) (es : List ℕ) (at n : ℕ) → past_schedule workers es at ≡ Ok n →
    AllByRecursion (λ e. e < workers) es × (n ≡ at + (length (spell (length es)) + length (flat_map spell es)))
    × (n ≤ longest_file) × (length es ≤ longest_file)
schedule_accepted workers es at n is =
    let c = bind_ok (past_entry_count es at) _ n is in
    let k = count_within es at c.0 c.1 in
    let b = header_ok (past_entries workers es c.0) within_file n c.2 in
    let w = within_longest b.0 n b.2 in
    let m = entries_come workers es c.0 b.0 b.1 in
    (m.0, omega (arith, m.1, k.1, w.1), omega (arith, w.0, w.1), k.0)

parts_accepted : (count : ℕ) (ls : List Level) (ss : List Script) (es : List ℕ) (a b c n : ℕ) → length ls ≡ count →
    length ss ≡ product 1 ls →
    past_field LevelCount count 0 ≡ Ok a → past_levels 0 1 ls a ≡ Ok b → past_scripts ss b ≡ Ok c →
    past_schedule (product 1 ls) es c ≡ Ok n → Accepted count ls ss es n
parts_accepted count [] ss es a b c n all_levels all_scripts first second third last =
    let k = field_fits LevelCount count 0 a first in
    let fits = k.0 in
    let some : 1 ≤ count = grind (arith, nat_tests) in
    absurd (omega arith)
parts_accepted count (l ∷ ls) [] es a b c n all_levels all_scripts first second third last =
    let w = workers_few 0 1 (l ∷ ls) a b (omega arith) (omega arith) second in absurd (omega (arith, w.0))
parts_accepted count (l ∷ ls) (s ∷ ss) es a b c n all_levels all_scripts first second third last =
    let k = field_fits LevelCount count 0 a first in
    let fits = k.0 in
    let some : 1 ≤ count = grind (arith, nat_tests) in
    let most : count ≤ 4 = grind (arith, nat_tests) in
    let workers : ℕ = product 1 (l ∷ ls) in
    let w = workers_few 0 1 (l ∷ ls) a b (omega arith) (omega arith) second in
    let levels = levels_come 0 count 1 l ls a b (omega (arith, all_levels)) second in
    let scripts = scripts_come 0 workers s ss b c (omega (arith, all_scripts)) third in
    let entries = schedule_accepted workers es c n last in
    let plain = entries_short workers es w.1 entries.0 in
    record {
      ordered = (
        stage.Level 0 count 1,
        (count, refl, some, most, refl),
        in_order_both (stage.Level 0 count 1) (level_records 0 (l ∷ ls)) _ (stage.Script 0 workers) stage.End levels
            (in_order_both (stage.Script 0 workers) (script_records 0 (s ∷ ss)) _ (stage.Schedule workers) stage.End
            scripts (stage.End, (es, refl, omega (arith, entries.3), entries.0, refl), refl)),
      );
      long = omega (
        arith,
        k.1,
        levels_reach 0 1 (l ∷ ls) a b second,
        scripts_reach 0 (s ∷ ss) b c third,
        entries.1,
        sizes count (l ∷ ls) (s ∷ ss) es,
      );
      short = entries.2;
      few = entries.3;
      plain = record { own = plain; counted = omega (arith, entries.3) };
    }

-- how many levels a plan uses, where their count is not refused
pub count_used : (p : PlanNumbers) (a : ℕ) → Shape p → past_field LevelCount p.count 0 ≡ Ok a →
    (length (used_levels p) ≡ p.count) × (1 ≤ p.count) × (p.count ≤ 4) × (a ≡ past p.count 0)
count_used p a shape first =
    let k = field_fits LevelCount p.count 0 a first in
    let fits = k.0 in
    let some : 1 ≤ p.count = grind (arith, nat_tests) in
    let most : p.count ≤ 4 = grind (arith, nat_tests) in
    (omega (arith, shape.four, length-take p.count p.levels), some, most, k.1)

-- how many workers and scripts, where its levels are not refused
pub used_sizes : (p : PlanNumbers) (a b : ℕ) → Shape p → past_levels 0 1 (used_levels p) a ≡ Ok b →
    (workers_of p ≡ product 1 (used_levels p)) × (length (used_scripts p) ≡ product 1 (used_levels p))
used_sizes p a b shape second =
    let w = workers_few 0 1 (used_levels p) a b (omega arith) (omega arith) second in (
      w.2,
      omega (arith, w.1, w.2, shape.sixty_four, length-take (workers_of p) p.scripts),
    )

pub plan_accepted : (p : PlanNumbers) (n : ℕ) → Shape p → file_length p ≡ Ok n →
    Accepted p.count (used_levels p) (used_scripts p) p.entries n
plan_accepted p n shape is =
    let h = header_ok (past_header p) _ n is in
    let a = bind_ok (past_field LevelCount p.count 0) _ h.0 h.1 in
    let b = bind_ok (past_levels 0 1 (used_levels p) a.0) _ h.0 a.2 in
    let counted = count_used p a.0 shape a.1 in
    let used = used_sizes p a.0 b.0 shape b.1 in
    parts_accepted p.count (used_levels p) (used_scripts p) p.entries a.0 b.0 h.0 n counted.0
    used.1 a.1 b.1 b.2 (ap (λ w. past_schedule w p.entries h.0) (sym used.0) ∙ h.2)
