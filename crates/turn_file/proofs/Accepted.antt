-- The numbers of an accepted record, and that their values fit.
use Rattle.std.proofs.Common.{◌≡◌, ℕ, false, ◌⊎◌, List, Ok, subst, inl, inr}
use Rattle.std.proofs.lemmas.Bool.Decides.{eqb_tells}
use Rattle.turn_file.specs.declared.field.Field.TheVariants as field
use Rattle.turn_file.specs.declared.fault.RecordKind.TheVariants as kind
use Rattle.turn_file.specs.declared.plan.Level.{Level}
use Rattle.turn_file.specs.declared.plan.Script.{Script}
use Rattle.turn_file.specs.Number.{number_at}
use Rattle.turn_file.specs.Algorithm.{algorithm_number}
use Rattle.turn_file.specs.Field.{bad_levels, bad_fan_out, bad_limit, bad_script_number, bad_entry}
use Rattle.turn_file.specs.Record.{levels_at, algorithm_at}
use Rattle.turn_file.specs.Record.{fan_out_at, limit_at, level_at, script_number_at}
use Rattle.turn_file.specs.Record.{script_at, entry_at, entries_end, schedule_at}
use Rattle.turn_file.proofs.Fields.{bind_ok, number_ok, field_ok, algorithm_ok}

-- the top level has no limit
pub limit_ok : (rank : ℕ) (file : List ℕ) (at : ℕ) (n : ℕ × ℕ) → limit_at rank file at ≡ Ok n →
    ((rank ≡ 0) × (n ≡ (0, at))) ⊎ ((rank ≡ 0 → ⊥) × (number_at file at ≡ Ok n) × (bad_limit n.0 ≡ false))
limit_ok rank file at n e =
    elim (eqb_tells rank 0) [
      | inl t ↦ inl (t.1, let s = simp t.0 at e in cc)
      | inr t ↦ inr (let f = field_ok field.HandoffLimit file at n (simp t.0 at e) in
          (t.1, f.0, f.1))
    ]

pub fan_out_ok : (parties : ℕ) (file : List ℕ) (at : ℕ) (n : ℕ × ℕ) → fan_out_at parties file at ≡ Ok n →
    (number_at file at ≡ Ok n) × (bad_fan_out parties n.0 ≡ false)
fan_out_ok parties file at n e = field_ok (field.FanOut parties) file at n e

-- the numbers of an accepted level
pub record LevelFields (rank parties : ℕ) (file : List ℕ) (at : ℕ) (l : Level) (to : ℕ) : Type 0 where
  pub at_fan_out : ℕ
  pub at_limit : ℕ
  pub algorithm : number_at file at ≡ Ok (algorithm_number l.algorithm, at_fan_out)
  pub fan_out : number_at file at_fan_out ≡ Ok (l.fan_out, at_limit)
  pub fits : bad_fan_out parties l.fan_out ≡ false
  pub limit : limit_at rank file at_limit ≡ Ok (l.handoff_limit, to)

pub level_ok : (rank parties : ℕ) (file : List ℕ) (at : ℕ) (l : Level × ℕ) → level_at rank parties file at ≡ Ok l →
    LevelFields rank parties file at l.0 l.1
level_ok rank parties file at l e =
    let a = bind_ok (algorithm_at file at) _ l e in
    let f = bind_ok (fan_out_at parties file a.0.1) _ l a.2 in
    let h = bind_ok (limit_at rank file f.0.1) _ l f.2 in
    let read : Level × ℕ = (record { algorithm = a.0.0; fan_out = f.0.0; handoff_limit = h.0.0 }, h.0.1) in
    let same : read ≡ l = let s = h.2 in cc in
    let fan = fan_out_ok parties file a.0.1 f.0 f.1 in
    subst (λ m. LevelFields rank parties file at m.0 m.1) same (record {
      at_fan_out = a.0.1;
      at_limit = f.0.1;
      algorithm = algorithm_ok file at a.0 a.1;
      fan_out = fan.0;
      fits = fan.1;
      limit = h.1;
    })

-- the numbers of an accepted script
pub record ScriptFields (file : List ℕ) (at : ℕ) (s : Script) (to : ℕ) : Type 0 where
  pub at_rest : ℕ
  pub at_hold : ℕ
  pub turns : (number_at file at ≡ Ok (s.turns, at_rest)) × (bad_script_number s.turns ≡ false)
  pub rest : (number_at file at_rest ≡ Ok (s.rest, at_hold)) × (bad_script_number s.rest ≡ false)
  pub hold : (number_at file at_hold ≡ Ok (s.hold, to)) × (bad_script_number s.hold ≡ false)

pub script_number_ok : (file : List ℕ) (at : ℕ) (n : ℕ × ℕ) → script_number_at file at ≡ Ok n →
    (number_at file at ≡ Ok n) × (bad_script_number n.0 ≡ false)
script_number_ok file at n e = field_ok field.ScriptNumber file at n e

pub script_ok : (file : List ℕ) (at : ℕ) (s : Script × ℕ) → script_at file at ≡ Ok s →
    ScriptFields file at s.0 s.1
script_ok file at s e =
    let t = bind_ok (script_number_at file at) _ s e in
    let r = bind_ok (script_number_at file t.0.1) _ s t.2 in
    let h = bind_ok (script_number_at file r.0.1) _ s r.2 in
    let read : Script × ℕ = (record { turns = t.0.0; rest = r.0.0; hold = h.0.0 }, h.0.1) in
    let same : read ≡ s = let q = h.2 in cc in
    subst (λ m. ScriptFields file at m.0 m.1) same (record {
      at_rest = t.0.1;
      at_hold = r.0.1;
      turns = script_number_ok file at t.0 t.1;
      rest = script_number_ok file t.0.1 r.0 r.1;
      hold = script_number_ok file r.0.1 h.0 h.1;
    })

pub levels_ok : (file : List ℕ) (at : ℕ) (n : ℕ × ℕ) → levels_at file at ≡ Ok n →
    (number_at file at ≡ Ok n) × (bad_levels n.0 ≡ false)
levels_ok file at n e = field_ok field.LevelCount file at n e

pub entry_ok : (workers : ℕ) (file : List ℕ) (at : ℕ) (n : ℕ × ℕ) → entry_at workers file at ≡ Ok n →
    (number_at file at ≡ Ok n) × (bad_entry workers n.0 ≡ false)
entry_ok workers file at n e = field_ok (field.Entry workers) file at n e

-- the count and the entries of an accepted schedule
pub record ScheduleFields (workers : ℕ) (file : List ℕ) (at first to : ℕ) : Type 0 where
  pub count : ℕ
  pub counted : number_at file at ≡ Ok (count, first)
  pub entries : entries_end count workers file first ≡ Ok to

pub schedule_ok : (workers : ℕ) (file : List ℕ) (at : ℕ) (e : ℕ × ℕ) → schedule_at workers file at ≡ Ok e →
    ScheduleFields workers file at e.0 e.1
schedule_ok workers file at e h =
    let j = number_ok kind.Schedule (number_at file at) _ e h in
    let b = bind_ok (entries_end j.0.0 workers file j.0.1) _ e j.2 in
    let same : (j.0.1, b.0) ≡ e = let s = b.2 in cc in
    subst (λ m. ScheduleFields workers file at m.0 m.1) same
    (record { count = j.0.0; counted = j.1; entries = b.1 })
