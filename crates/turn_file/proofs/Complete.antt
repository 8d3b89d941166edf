-- A record that may come is handed out where its spelling stands.
use Rattle.std.proofs.Common.{◌≡◌, ℕ, ◌+◌, ◌*◌, ◌^◌, ◌<◌, ◌≤◌, true, false, cond, eqb, ◌⊎◌, List, [], ◌∷◌, length, Some, Ok, Result, sym, refl, ap, ◌∙◌, subst, inl, inr, mul_comm, le-mul_of_pos_right, arith}
use Rattle.std.proofs.lemmas.Bool.Decides.{nat_tests}
use Rattle.std.specs.List.{between, flat_map, AllByRecursion}
use Rattle.turn_file.specs.declared.field.Field.TheVariants as field
use Rattle.turn_file.specs.declared.fault.RecordFault.{RecordFault}
use Rattle.turn_file.specs.declared.fault.RecordKind.TheVariants as kind
use Rattle.turn_file.specs.declared.plan.Algorithm.{Algorithm}
use Rattle.turn_file.specs.declared.plan.Algorithm.TheVariants.{Ticket, Mcs}
use Rattle.turn_file.specs.declared.plan.Level.{Level}
use Rattle.turn_file.specs.declared.plan.Script.{Script}
use Rattle.turn_file.specs.declared.step.Stage.{Stage}
use Rattle.turn_file.specs.declared.step.Stage.TheVariants as stage
use Rattle.turn_file.specs.Order.{record_spelling, LevelFits, ScriptFits, Comes}
use Rattle.turn_file.specs.Reading.{Item, level, script, schedule, Stepped, in_order, next_step}
use Rattle.turn_file.specs.Algorithm.{algorithm_number}
use Rattle.turn_file.specs.Record.{bind, with_kind, levels_at}
use Rattle.turn_file.specs.Record.{fan_out_at, limit_at, level_at}
use Rattle.turn_file.specs.Record.{script_number_at, script_at, entries_end, schedule_at}
use Rattle.turn_file.specs.Spelling.{spell, Stands}
use Rattle.turn_file.proofs.Fields.{field_is, algorithm_is}
use Rattle.turn_file.proofs.Sound.{Few, entries_short, stands_cut}
use Rattle.turn_file.proofs.Spelled.{spelled_number, stands_split}

pub algorithm_small : (a : Algorithm) → algorithm_number a < 2 ^ 32
algorithm_small Ticket = omega arith
algorithm_small Mcs = omega arith

small_factor : (p n : ℕ) → 1 ≤ p → p * n ≤ 64 → n ≤ 64
small_factor p n some few = omega (arith, le-mul_of_pos_right n some, mul_comm n p)

-- what comes of what was read first
pub bind_is : {A B : Type 0} (next : A → Result B RecordFault) {r : Result A RecordFault} {a : A}
    {b : Result B RecordFault} → r ≡ Ok a → next a ≡ b → bind r next ≡ b
bind_is next e k = ap (λ r. bind r next) e ∙ k

module _ (file : List ℕ) where
  levels_complete : (n at to : ℕ) → 1 ≤ n → n ≤ 4 → Stands (spell n) file at to → levels_at file at ≡ Ok (n, to)
  levels_complete n at to some few s =
      field_is field.LevelCount file at (n, to)
      (spelled_number file at n to (omega arith) s) (grind (arith, nat_tests))

  fan_out_complete : (parties n at to : ℕ) → 1 ≤ n → parties * n ≤ 64 → n < 2 ^ 32 → Stands (spell n) file at to →
      fan_out_at parties file at ≡ Ok (n, to)
  fan_out_complete parties n at to some few small s =
      field_is (field.FanOut parties) file at (n, to)
      (spelled_number file at n to small s) (grind (arith, nat_tests))

  limit_complete : (rank n at to : ℕ) → ((rank ≡ 0) × (n ≡ 0)) ⊎ ((rank ≡ 0 → ⊥) × (1 ≤ n) × (n ≤ 65535)) →
      Stands (cond (eqb rank 0) [] (spell n)) file at to → limit_at rank file at ≡ Ok (n, to)
  limit_complete rank n at to (inl t) s =
      let top : eqb rank 0 ≡ true = grind (arith, nat_tests) in
      let here = (simp top at s).ends in
      let same : ◌≡◌ {A = ℕ × ℕ} (0, at) (n, to) = λ i. (sym t.1 i, let there : at ≡ to = omega arith in there i) in
      simp top (ap Ok same)
  limit_complete rank n at to (inr t) s =
      let below : eqb rank 0 ≡ false = grind (arith, nat_tests) in
      simp below (field_is field.HandoffLimit file at (n, to)
      (spelled_number file at n to (omega arith) (simp below at s)) (grind (arith, nat_tests)))

  level_complete : (rank parties at to : ℕ) (l : Level) → 1 ≤ parties → LevelFits rank parties l →
      Stands (record_spelling (level rank l)) file at to → level_at rank parties file at ≡ Ok (l, to)
  level_complete rank parties at to l some fits s =
      let first = stands_split (spell (algorithm_number l.algorithm)) _ file at to s in
      let second = stands_split (spell l.fan_out) _ file _ to first.1 in
      let few = small_factor parties l.fan_out some fits.few in
      bind_is _ (algorithm_is file at l.algorithm _
      (spelled_number file at _ _ (algorithm_small l.algorithm) first.0))
      (bind_is _ (fan_out_complete parties l.fan_out _ _ fits.some fits.few (omega arith) second.0)
      (bind_is _ (limit_complete rank l.handoff_limit _ to fits.limit second.1) refl))

  script_number_complete : (n at to : ℕ) → n ≤ 65535 → Stands (spell n) file at to →
      script_number_at file at ≡ Ok (n, to)
  script_number_complete n at to few s =
      field_is field.ScriptNumber file at (n, to)
      (spelled_number file at n to (omega arith) s) (grind (arith, nat_tests))

  script_complete : (worker at to : ℕ) (t : Script) → ScriptFits t →
      Stands (record_spelling (script worker t)) file at to → script_at file at ≡ Ok (t, to)
  script_complete worker at to t fits s =
      let first = stands_split (spell t.turns) _ file at to s in
      let second = stands_split (spell t.rest) _ file _ to first.1 in
      bind_is _ (script_number_complete t.turns at _ fits.turns first.0)
      (bind_is _ (script_number_complete t.rest _ _ fits.rest second.0)
      (bind_is _ (script_number_complete t.hold _ to fits.hold second.1) refl))

  entries_complete : (workers at to : ℕ) (es : List ℕ) → workers ≤ 64 → AllByRecursion (λ e. e < workers) es →
      Stands (flat_map spell es) file at to → entries_end (length es) workers file at ≡ Ok to
  entries_complete workers at to [] few all s = let here = s.ends in let same : at ≡ to = omega arith in ap Ok same
  entries_complete workers at to (e ∷ es) few all s =
      let first = stands_split (spell e) (flat_map spell es) file at to s in
      let fits = all.0 in
      bind_is _
      (field_is (field.Entry workers) file at (e, at + length (spell e))
      (spelled_number file at e _ (omega arith) first.0) (grind (arith, nat_tests)))
      (entries_complete workers (at + length (spell e)) to es few all.1 first.1)

  -- the part of the entries is cut out where they stand
  schedule_complete : (workers at to : ℕ) (es : List ℕ) → workers ≤ 64 → length es < 2 ^ 32 →
      AllByRecursion (λ e. e < workers) es →
      Stands (record_spelling (schedule es)) file at to →
      (first : ℕ) × (schedule_at workers file at ≡ Ok (first, to)) × (between first to file ≡ es)
  schedule_complete workers at to es few counted all s =
      let split = stands_split (spell (length es)) (flat_map spell es) file at to s in
      let first : ℕ = at + length (spell (length es)) in
      let found = spelled_number file at (length es) first counted split.0 in
      let ends = entries_complete workers first to es few all split.1 in (
        first,
        ap (λ r. bind (with_kind kind.Schedule r)
            (λ n. bind (entries_end n.0 workers file n.1) (λ end. Ok (n.1, end)))) found ∙ bind_is _ ends refl,
        stands_cut es file first to
            (subst (λ xs. Stands xs file first to) (entries_short workers es few all) split.1),
      )

-- a record that is handed out, up to a place, before a stage
pub record Reached (file : List ℕ) (at : ℕ) (from : Stage) (item : Item) (to : ℕ) (after : Stage) : Type 0 where
  pub stepped : Stepped
  pub found : next_step file at from ≡ Ok (Some stepped)
  pub item_is : stepped.handed.item ≡ item
  pub place_is : stepped.next ≡ to
  pub stage_is : stepped.stage ≡ after

pub next_complete : (file : List ℕ) (at : ℕ) (from : Stage) (item : Item) (to : ℕ) (after : Stage) → Few from →
    Comes from item after → Stands (record_spelling item) file at to → Reached file at from item to after
next_complete file at stage.Levels item to after few (n, is, some, most, then) s =
    let e = levels_complete file n at to some most (subst (λ i. Stands (record_spelling i) file at to) is s) in
    record {
      stepped = _;
      found = ap in_order (bind_is _ e refl);
      item_is = sym is;
      place_is = refl;
      stage_is = sym then;
    }
next_complete file at (stage.Level rank count parties) item to after few (l, is, fits, then) s =
    let e = level_complete file rank parties at to l few fits
    (subst (λ i. Stands (record_spelling i) file at to) is s) in
    record {
      stepped = _;
      found = ap in_order (bind_is _ e refl);
      item_is = sym is;
      place_is = refl;
      stage_is = sym then;
    }
next_complete file at (stage.Script worker workers) item to after few (t, is, fits, then) s =
    let e = script_complete file worker at to t fits (subst (λ i. Stands (record_spelling i) file at to) is s) in
    record {
      stepped = _;
      found = ap in_order (bind_is _ e refl);
      item_is = sym is;
      place_is = refl;
      stage_is = sym then;
    }
next_complete file at (stage.Schedule workers) item to after few (es, is, counted, all, then) s =
    let e = schedule_complete file workers at to es few counted all
    (subst (λ i. Stands (record_spelling i) file at to) is s) in
    record {
      stepped = _;
      found = ap in_order (bind_is _ e.1 refl);
      item_is = ap schedule e.2 ∙ sym is;
      place_is = refl;
      stage_is = sym then;
    }
next_complete file at stage.End item to after few none s = absurd none
