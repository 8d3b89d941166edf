-- A record that is handed out may come there, and its spelling stands there.
use Rattle.std.proofs.Common.{◌≡◌, ℕ, zero, suc, ◌+◌, ◌-◌, ◌*◌, ◌^◌, ◌<◌, ◌≤◌, Bool, true, false, cond, eqb, ltb, ◌⊎◌, List, [], ◌∷◌, ◌++◌, length, take, drop, Some, Ok, sym, refl, ap, ◌∙◌, subst, inl, inr, arith}
use native.Mathlib.Nat.{one-le-mul}
use Rattle.std.proofs.lemmas.List.{take_at}
use Rattle.std.proofs.lemmas.Bool.Decides.{nat_tests}
use Rattle.std.specs.List.{between, flat_map, AllByRecursion}
use Rattle.turn_file.specs.declared.plan.Level.{Level}
use Rattle.turn_file.specs.declared.plan.Script.{Script}
use Rattle.turn_file.specs.declared.step.Stage.{Stage}
use Rattle.turn_file.specs.declared.step.Stage.TheVariants as stage
use Rattle.turn_file.specs.Order.{record_spelling, LevelFits, ScriptFits, Comes}
use Rattle.turn_file.specs.Reading.{level, script, schedule, Stepped, after_level, after_script}
use Rattle.turn_file.specs.Reading.{levels_step, level_step, script_step, schedule_step, next_step}
use Rattle.turn_file.specs.Field.{bad_script_number}
use Rattle.turn_file.specs.Record.{limit_at, levels_at, level_at, script_at, entry_at, entries_end, schedule_at}
use Rattle.turn_file.specs.Spelling.{spell, Bytes, Stands}
use Rattle.turn_file.proofs.Fields.{bind_ok, fan_out_fits}
use Rattle.turn_file.proofs.Spelled.{number_spelled, spell_short, stands_none, stands_both}
use Rattle.turn_file.proofs.Steps.{in_order_ok, of_step, no_step}
use Rattle.turn_file.proofs.Accepted.{limit_ok, LevelFields, level_ok, ScriptFields, script_ok, levels_ok, entry_ok}
use Rattle.turn_file.proofs.Accepted.{ScheduleFields, schedule_ok}

module _ (file : List ℕ) (each : Bytes file) where
  limit_sound : (rank at : ℕ) (n : ℕ × ℕ) → limit_at rank file at ≡ Ok n →
      Stands (cond (eqb rank 0) [] (spell n.0)) file at n.1
      × (((rank ≡ 0) × (n.0 ≡ 0)) ⊎ ((rank ≡ 0 → ⊥) × (1 ≤ n.0) × (n.0 ≤ 65535)))
  limit_sound rank at n e =
      elim (limit_ok rank file at n e) [
        | inl t ↦
            let top : eqb rank 0 ≡ true = grind (arith, nat_tests) in
            let zero_limit = ap (λ (m : ℕ × ℕ). m.0) t.1 in
            let here = ap (λ (m : ℕ × ℕ). m.1) t.1 in
            (simp (top, here) (stands_none file at), inl (t.0, zero_limit))
        | inr t ↦
            let below : eqb rank 0 ≡ false = grind (arith, nat_tests) in
            let fits = t.2 in (
              simp below (number_spelled file at n each t.1).1,
              inr (t.0, grind (arith, nat_tests), grind (arith, nat_tests)),
            )
      ]

  level_sound : (rank parties at to : ℕ) (l : Level) → LevelFields rank parties file at l to →
      LevelFits rank parties l × Stands (record_spelling (level rank l)) file at to
  level_sound rank parties at to l f =
      let fan = fan_out_fits parties l.fan_out f.fits in
      let limit = limit_sound rank f.at_limit _ f.limit in (
        record { some = fan.0; few = fan.1; limit = limit.1 },
        stands_both (number_spelled file at _ each f.algorithm).1
            (stands_both (number_spelled file f.at_fan_out _ each f.fan_out).1 limit.0),
      )

  script_fits : (n : ℕ) → bad_script_number n ≡ false → n ≤ 65535
  script_fits n e = grind (arith, nat_tests)

  script_sound : (worker at to : ℕ) (s : Script) → ScriptFields file at s to →
      ScriptFits s × Stands (record_spelling (script worker s)) file at to
  script_sound worker at to s f = (
    record {
      turns = script_fits _ f.turns.1;
      rest = script_fits _ f.rest.1;
      hold = script_fits _ f.hold.1;
    },
    stands_both (number_spelled file at _ each f.turns.0).1
        (stands_both (number_spelled file f.at_rest _ each f.rest.0).1
        (number_spelled file f.at_hold _ each f.hold.0).1),
  )

  entries_sound : (count workers at to : ℕ) → entries_end count workers file at ≡ Ok to →
      (es : List ℕ) × (length es ≡ count) × AllByRecursion (λ e. e < workers) es × Stands (flat_map spell es) file at to
  entries_sound zero workers at to e =
      let here : at ≡ to = cc in ([], refl, tt, subst (Stands [] file at) here (stands_none file at))
  entries_sound (suc count) workers at to e =
      let b = bind_ok (entry_at workers file at) _ to e in
      let k = entry_ok workers file at b.0 b.1 in
      let fits = k.1 in
      let more = entries_sound count workers b.0.1 to b.2 in (
        b.0.0 ∷ more.0,
        ap suc more.1,
        (grind (arith, nat_tests), more.2),
        stands_both (number_spelled file at b.0 each k.0).1 more.3,
      )

-- an entry is spelled as one byte
pub entries_short : (workers : ℕ) (es : List ℕ) → workers ≤ 64 → AllByRecursion (λ e. e < workers) es →
    flat_map spell es ≡ es
entries_short workers [] few all = refl
entries_short workers (e ∷ es) few all =
    ap (λ xs. xs ++ flat_map spell es) (spell_short e (let k = all.0 in omega arith))
    ∙ ap (λ xs. e ∷ xs) (entries_short workers es few all.1)

-- what stands between two places is what is cut out there
pub stands_cut : (xs file : List ℕ) (at to : ℕ) → Stands xs file at to → between at to file ≡ xs
stands_cut xs file at to s =
    let long : to - at ≡ length xs = omega (arith, s.ends) in
    ap (λ n. take n (drop at file)) long ∙ ap (take (length xs)) s.begins
    ∙ take_at xs (drop to file) (length xs) refl

module _ (file : List ℕ) (each : Bytes file) where
  schedule_sound : (workers at first to : ℕ) → workers ≤ 64 → ScheduleFields workers file at first to →
      (length (between first to file) < 2 ^ 32) × AllByRecursion (λ e. e < workers) (between first to file)
      × Stands (record_spelling (schedule (between first to file))) file at to
  schedule_sound workers at first to few f =
      let counted = number_spelled file at _ each f.counted in
      let k = entries_sound file each f.count workers first to f.entries in
      let short = entries_short workers k.0 few k.2 in
      let cut = stands_cut k.0 file first to (subst (λ xs. Stands xs file first to) short k.3) in
      let said = subst (λ n. Stands (spell n) file at first) (sym k.1) counted.1 in
      subst (λ es. (length es < 2 ^ 32) × AllByRecursion (λ e. e < workers) es
      × Stands (record_spelling (schedule es)) file at to) (sym cut)
      (omega (arith, counted.0, k.1), k.2, stands_both said k.3)

-- there are workers, and few, at every stage that is reached
abbrev pub Few : Stage → Type 0
Few stage.Levels = Unit {0}
Few (stage.Level rank count parties) = 1 ≤ parties
Few (stage.Script worker workers) = workers ≤ 64
Few (stage.Schedule workers) = workers ≤ 64
Few stage.End = Unit {0}

few_after_level : (rank count parties : ℕ) → 1 ≤ parties → parties ≤ 64 → Few (after_level rank count parties)
few_after_level rank count parties some few = at_test (ltb rank (count - 1))
  where
    at_test : (t : Bool) → Few (cond t (stage.Level (rank + 1) count parties) (stage.Script 0 parties))
    at_test true = some
    at_test false = few

few_after_script : (worker workers : ℕ) → workers ≤ 64 → Few (after_script worker workers)
few_after_script worker workers few = at_test (ltb worker (workers - 1))
  where
    at_test : (t : Bool) → Few (cond t (stage.Script (worker + 1) workers) (stage.Schedule workers))
    at_test true = few
    at_test false = few

-- the record that a step hands out
pub record SoundStep (file : List ℕ) (at : ℕ) (from : Stage) (s : Stepped) : Type 0 where
  pub comes : Comes from s.handed.item s.stage
  pub stands : Stands (record_spelling s.handed.item) file at s.next
  pub few : Few s.stage

pub next_sound : (file : List ℕ) (at : ℕ) (from : Stage) (s : Stepped) → Bytes file → Few from →
    next_step file at from ≡ Ok (Some s) → SoundStep file at from s
next_sound file at stage.Levels s each few e =
    let b = bind_ok (levels_at file at) _ s (in_order_ok (levels_step file at) s e) in
    let k = levels_ok file at b.0 b.1 in
    let fits = k.1 in
    of_step (SoundStep file at stage.Levels) _ s b.2 (record {
      comes = (b.0.0, refl, grind (arith, nat_tests), grind (arith, nat_tests), refl);
      stands = (number_spelled file at b.0 each k.0).1;
      few = omega arith;
    })
next_sound file at (stage.Level rank count parties) s each few e =
    let b = bind_ok (level_at rank parties file at) _ s (in_order_ok (level_step rank count parties file at) s e) in
    let k = level_sound file each rank parties at b.0.1 b.0.0 (level_ok rank parties file at b.0 b.1) in
    of_step (SoundStep file at (stage.Level rank count parties)) _ s b.2 (record {
      comes = (b.0.0, refl, k.0, refl);
      stands = k.1;
      few = few_after_level rank count (parties * b.0.0.fan_out) (one-le-mul few k.0.some)
          k.0.few;
    })
next_sound file at (stage.Script worker workers) s each few e =
    let b = bind_ok (script_at file at) _ s (in_order_ok (script_step worker workers file at) s e) in
    let k = script_sound file each worker at b.0.1 b.0.0 (script_ok file at b.0 b.1) in
    of_step (SoundStep file at (stage.Script worker workers)) _ s b.2 (record {
      comes = (b.0.0, refl, k.0, refl);
      stands = k.1;
      few = few_after_script worker workers few;
    })
next_sound file at (stage.Schedule workers) s each few e =
    let b = bind_ok (schedule_at workers file at) _ s (in_order_ok (schedule_step workers file at) s e) in
    let k = schedule_sound file each workers at b.0.0 b.0.1 few (schedule_ok workers file at b.0 b.1) in
    of_step (SoundStep file at (stage.Schedule workers)) _ s b.2 (record {
      comes = (between b.0.0 b.0.1 file, refl, k.0, k.1, refl);
      stands = k.2;
      few = tt;
    })
next_sound file at stage.End s each few e = absurd (no_step (ltb at (length file)) _ s e)
