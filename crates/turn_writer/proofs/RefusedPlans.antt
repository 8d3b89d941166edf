-- Why a plan is refused: by one of its records, or by its length.
use Rattle.std.proofs.Common.{◌≡◌, ℕ, ◌+◌, ◌<◌, ◌≤◌, ltb, ◌⊎◌, List, [], ◌∷◌, length, take, Ok, Err, Result, sym, refl, ap, ◌∙◌, inl, inr, arith, length-append}
use Rattle.std.proofs.lemmas.Bool.{cases_lt, lt-ltb, le-ltb, ltb-true}
use Rattle.std.proofs.lemmas.List.Elements.{All-take, All-from_recursion, recursion_from_All}
use Rattle.std.specs.List.{flat_map, AllByRecursion}
use Rattle.turn_file.specs.declared.fault.FileFault.{FileFault}
use Rattle.turn_file.specs.declared.fault.FileFault.TheVariants.{TooLong}
use Rattle.turn_file.specs.declared.fault.RecordFault.{RecordFault}
use Rattle.turn_file.specs.declared.field.Field.TheVariants.{LevelCount}
use Rattle.turn_file.specs.declared.step.Stage.TheVariants as stage
use Rattle.turn_file.specs.Fault.{in_file, longest_file}
use Rattle.turn_file.specs.Plan.{PlanNumbers, used_levels, workers_of, used_scripts}
use Rattle.turn_file.specs.Record.{bind}
use Rattle.turn_file.specs.Spelling.{spell}
use Rattle.turn_file.proofs.Refused.{bind_err}
use Rattle.turn_file.proofs.Fields.{bind_ok}
use Rattle.turn_writer.specs.Judgement.{past, past_field, past_levels, past_scripts, past_header, past_entries, in_file_order, within_file, past_schedule, file_length}
use Rattle.turn_writer.specs.Records.{plan_spelling, levels_spelling, scripts_spelling}
use Rattle.turn_writer.specs.Shape.{Word, Shape, Known}
use Rattle.turn_writer.proofs.AcceptedRecords.{product, levels_reach, workers_few, scripts_reach, entries_come}
use Rattle.turn_writer.proofs.Standing.{standing, count_stops, behind_count, levels_stops, behind_levels, scripts_stops, behind_scripts, schedule_stops}
use Rattle.turn_writer.proofs.Parts.{sizes}
use Rattle.turn_writer.proofs.Stops.{Stopped}
use Rattle.turn_writer.proofs.AcceptedPlans.{count_used, used_sizes}
use Rattle.turn_file.proofs.Refusals.{refused}
use Rattle.std.proofs.lemmas.Bool.Decides.{nat_tests}

every_take : {X : Type 0} (P : X → Type 0) (n : ℕ) (xs : List X) → AllByRecursion P xs → AllByRecursion P (take n xs)
every_take P n xs each = recursion_from_All P _ (All-take P n xs (All-from_recursion P xs each))

-- a header that is refused
header_stops : (p : PlanNumbers) (f : RecordFault) → Shape p → past_header p ≡ Err f →
    Stopped (plan_spelling p) 0 stage.Levels f
header_stops p f shape is =
    let s = standing p.count (used_levels p) (used_scripts p) p.entries in
    elim (bind_err (past_field LevelCount p.count 0) _ f is) [
      | inl e ↦ count_stops s f shape.count e
      | inr a ↦
          let counted = count_used p a.0 shape a.1 in
          let from_there = ap (λ n. bind (past_levels 0 1 (used_levels p) n) (λ b. past_scripts (used_scripts p) b))
          (sym counted.3) ∙ a.2 in
          behind_count s f counted.1 counted.2
          (elim (bind_err (past_levels 0 1 (used_levels p) (past p.count 0)) _ f from_there) [
            | inl e ↦
                levels_stops s f (every_take _ p.count p.levels shape.levels) counted.0 counted.1 e
            | inr b ↦
                let used = used_sizes p (past p.count 0) b.0 shape b.1 in
                let w = workers_few 0 1 (used_levels p) (past p.count 0) b.0 (omega arith) (omega arith) b.1 in
                behind_levels s f b.0 counted.0 counted.1 b.1
                (scripts_stops s f (product 1 (used_levels p)) b.0
                (every_take _ (workers_of p) p.scripts shape.scripts) used.1 w.0
                (omega (
                  arith,
                  s.levels_stand.ends,
                  levels_reach 0 1 (used_levels p) (past p.count 0) b.0 b.1,
                )) b.2)
          ])
    ]

-- what was refused in the order of the file
in_order_err : (r : Result ℕ RecordFault) (next : ℕ → Result ℕ FileFault) (g : FileFault) →
    in_file_order r next ≡ Err g →
    ((f : RecordFault) × (r ≡ Err f) × (g ≡ in_file f)) ⊎ ((a : ℕ) × (r ≡ Ok a) × (next a ≡ Err g))
in_order_err (Ok a) next g is = inr (a, refl, is)
in_order_err (Err f) next g is = inl (f, refl, cc)

-- why a schedule is refused: it has too many entries, an entry is no worker, or the file ends too late
data ScheduleFault (workers : ℕ) (es : List ℕ) (at : ℕ) (g : FileFault) : Type 0 where
  too_many : longest_file < length es → g ≡ TooLong → ScheduleFault workers es at g
  no_worker : (f : RecordFault) → length es ≤ longest_file → past_entries workers es (past (length es) at) ≡ Err f →
      g ≡ in_file f → ScheduleFault workers es at g
  ends_late : (end : ℕ) → past_entries workers es (past (length es) at) ≡ Ok end → longest_file < end → g ≡ TooLong →
      ScheduleFault workers es at g

schedule_fault : (workers : ℕ) (es : List ℕ) (at : ℕ) (g : FileFault) → past_schedule workers es at ≡ Err g →
    ScheduleFault workers es at g
schedule_fault workers es at g is =
    elim (cases_lt longest_file (length es)) [
      | inl many ↦ let e = simp (lt-ltb longest_file (length es) many) at is in too_many many cc
      | inr few ↦
          elim (in_order_err (past_entries workers es (past (length es) at)) within_file g
          (simp (le-ltb longest_file (length es) few) at is)) [
            | inl e ↦ no_worker e.0 few e.1 e.2
            | inr e ↦
                let k = refused (ltb longest_file e.0) TooLong g e.0 e.2 in
                ends_late e.0 e.1 (ltb-true longest_file e.0 k.0) (sym k.1)
          ]
    ]

-- what holds of a plan whose header is not refused
record Header (p : PlanNumbers) (at : ℕ) : Type 0 where
  at_scripts : ℕ
  counted : (length (used_levels p) ≡ p.count) × (1 ≤ p.count) × (p.count ≤ 4)
  levels_fit : past_levels 0 1 (used_levels p) (past p.count 0) ≡ Ok at_scripts
  scripts_fit : past_scripts (used_scripts p) at_scripts ≡ Ok at
  workers : workers_of p ≡ product 1 (used_levels p)
  all_scripts : length (used_scripts p) ≡ product 1 (used_levels p)
  some_workers : 1 ≤ product 1 (used_levels p)
  ends_levels : at_scripts ≡ past p.count 0 + length (levels_spelling 0 (used_levels p))
  ends_scripts : at ≡ at_scripts + length (scripts_spelling 0 (used_scripts p))

header : (p : PlanNumbers) (at : ℕ) → Shape p → past_header p ≡ Ok at → Header p at
header p at shape is =
    let a = bind_ok (past_field LevelCount p.count 0) _ at is in
    let counted = count_used p a.0 shape a.1 in
    let from_there = ap (λ n. bind (past_levels 0 1 (used_levels p) n) (λ b. past_scripts (used_scripts p) b))
    (sym counted.3) ∙ a.2 in
    let b = bind_ok (past_levels 0 1 (used_levels p) (past p.count 0)) _ at from_there in
    let used = used_sizes p (past p.count 0) b.0 shape b.1 in
    let w = workers_few 0 1 (used_levels p) (past p.count 0) b.0 (omega arith) (omega arith) b.1 in
    record {
      at_scripts = b.0;
      counted = (counted.0, counted.1, counted.2);
      levels_fit = b.1;
      scripts_fit = b.2;
      workers = used.0;
      all_scripts = used.1;
      some_workers = w.0;
      ends_levels = levels_reach 0 1 (used_levels p) (past p.count 0) b.0 b.1;
      ends_scripts = scripts_reach 0 (used_scripts p) b.0 at b.2;
    }

-- a record that is refused: a reader of the plan's spelling stops at it, with the same fault
pub plan_stops : (p : PlanNumbers) (f : RecordFault) → Known p → file_length p ≡ Err (in_file f) →
    Stopped (plan_spelling p) 0 stage.Levels f
plan_stops p f known is =
    let s = standing p.count (used_levels p) (used_scripts p) p.entries in
    elim (in_order_err (past_header p) _ (in_file f) is) [
      | inl e ↦
          let same : e.0 ≡ f = let q = e.2 in cc in
          header_stops p f known.shape (e.1 ∙ ap Err same)
      | inr e ↦
          let h = header p e.0 known.shape e.1 in
          behind_count s f h.counted.1 h.counted.2
          (behind_levels s f h.at_scripts h.counted.0 h.counted.1 h.levels_fit
          (behind_scripts s f (product 1 (used_levels p)) h.at_scripts e.0 h.all_scripts h.some_workers
          (omega (arith, s.levels_stand.ends, h.ends_levels)) h.scripts_fit
          (by_fault h (schedule_fault (workers_of p) p.entries e.0 (in_file f) e.2)
          (known.entries e.0 e.1))))
    ]
  where
    by_fault : {at : ℕ} → Header p at → ScheduleFault (workers_of p) p.entries at (in_file f) →
        AllByRecursion Word p.entries → Stopped (plan_spelling p) at (stage.Schedule (product 1 (used_levels p))) f
    by_fault {at} h (too_many many wrong) words = absurd (cc wrong)
    by_fault {at} h (no_worker g few is same) words =
        let s = standing p.count (used_levels p) (used_scripts p) p.entries in
        let one : g ≡ f = cc in
        schedule_stops s f (product 1 (used_levels p)) at words (omega arith)
        (omega (arith, s.levels_stand.ends, s.scripts_stand.ends, h.ends_levels, h.ends_scripts))
        (ap (λ w. past_entries w p.entries (past (length p.entries) at)) (sym h.workers) ∙ is ∙ ap Err one)
    by_fault {at} h (ends_late end is late wrong) words = absurd (cc wrong)

spell_some : (v : ℕ) → 1 ≤ length (spell v)
spell_some v = grind (arith, nat_tests)

-- each entry takes a byte at least
entries_long : (es : List ℕ) → length es ≤ length (flat_map spell es)
entries_long [] = omega arith
entries_long (e ∷ es) = omega (arith, spell_some e, entries_long es, length-append {A = ℕ})

-- a plan that is too long: its spelling is
pub plan_too_long : (p : PlanNumbers) → Shape p → file_length p ≡ Err TooLong → longest_file < length (plan_spelling p)
plan_too_long p shape is =
    elim (in_order_err (past_header p) _ TooLong is) [
      | inl e ↦ absurd (cc e.2)
      | inr e ↦
          by_fault (header p e.0 shape e.1) (schedule_fault (workers_of p) p.entries e.0 TooLong e.2)
    ]
  where
    by_fault : {at : ℕ} → Header p at → ScheduleFault (workers_of p) p.entries at TooLong →
        longest_file < length (plan_spelling p)
    by_fault {at} h (too_many many same) =
        omega (
          arith,
          many,
          entries_long p.entries,
          sizes p.count (used_levels p) (used_scripts p) p.entries,
        )
    by_fault {at} h (no_worker g few is wrong) = absurd (cc wrong)
    by_fault {at} h (ends_late end is late same) =
        let m = entries_come (workers_of p) p.entries (past (length p.entries) at) end is in
        omega (
          arith,
          late,
          m.1,
          h.ends_levels,
          h.ends_scripts,
          sizes p.count (used_levels p) (used_scripts p) p.entries,
        )

-- a plan is refused by one of its records, or by its length
pub plan_fault : (p : PlanNumbers) (g : FileFault) → file_length p ≡ Err g →
    ((f : RecordFault) × (g ≡ in_file f)) ⊎ (g ≡ TooLong)
plan_fault p g is =
    elim (in_order_err (past_header p) _ g is) [
      | inl e ↦ inl (e.0, e.2)
      | inr e ↦ by_fault (schedule_fault (workers_of p) p.entries e.0 g e.2)
    ]
  where
    by_fault : {at : ℕ} → ScheduleFault (workers_of p) p.entries at g →
        ((f : RecordFault) × (g ≡ in_file f)) ⊎ (g ≡ TooLong)
    by_fault (too_many many same) = inr same
    by_fault (no_worker f few is same) = inl (f, same)
    by_fault (ends_late end is late same) = inr same
