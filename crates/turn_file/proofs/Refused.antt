-- A fault lies at a number of the record that is refused.
use Rattle.std.proofs.Common.{◌≡◌, ℕ, zero, suc, ◌+◌, ◌≤◌, Bool, true, false, cond, ltb, ◌⊎◌, List, [], ◌∷◌, length, drop, None, Ok, Err, Option, Result, sym, refl, ap, ◌∙◌, subst, inl, inr, arith}
use Rattle.std.proofs.lemmas.Bool.Decides.{nat_tests, eqb_tells}
use Rattle.turn_file.specs.declared.field.Field.{Field}
use Rattle.turn_file.specs.Field.{field_kind, field_refuses, field_fault}
use Rattle.turn_file.proofs.Refusals.{refused}
use Rattle.turn_file.specs.declared.field.Field.TheVariants as field
use Rattle.turn_file.specs.declared.fault.FileFault.{FileFault}
use Rattle.turn_file.specs.declared.fault.FileFault.TheVariants.{TrailingByte}
use Rattle.turn_file.specs.declared.fault.NumberFault.{NumberFault}
use Rattle.turn_file.specs.declared.fault.NumberFault.TheVariants.{Ends, TooLarge}
use Rattle.turn_file.specs.declared.fault.RecordFault.{RecordFault}
use Rattle.turn_file.specs.declared.fault.RecordFault.TheVariants as fault
use Rattle.turn_file.specs.declared.fault.RecordKind.{RecordKind}
use Rattle.turn_file.specs.declared.fault.RecordKind.TheVariants as kind
use Rattle.turn_file.specs.declared.step.Stage.{Stage}
use Rattle.turn_file.specs.declared.step.Stage.TheVariants as stage
use Rattle.turn_file.specs.Fault.{in_file, in_record, number_place, record_place, fault_place}
use Rattle.turn_file.specs.declared.number.Group.{Group}
use Rattle.turn_file.specs.declared.number.Group.TheVariants.{Last, More}
use Rattle.turn_file.specs.Number.{group_of, group_before, judged, groups, number_at}
use Rattle.turn_file.specs.Reading.{Stepped, in_order, next_step, levels_step, level_step, script_step, schedule_step}
use Rattle.turn_file.specs.Record.{bind, with_kind, value_at, levels_at, algorithm_of, algorithm_at, fan_out_at}
use Rattle.turn_file.specs.Record.{limit_at, level_at, script_number_at, script_at, entry_at, entries_end, schedule_at}
use Rattle.turn_file.proofs.Accepted.{fan_out_ok, script_number_ok, entry_ok}
use Rattle.turn_file.proofs.Fields.{algorithm_ok}
use Rattle.turn_file.proofs.Spelled.{number_within}

-- a faulty number: the place is that of its first byte
before_err : (b : ℕ) (r : Result (ℕ × ℕ) NumberFault) (e : NumberFault) → group_before b r ≡ Err e → r ≡ Err e
before_err b (Ok n) e is = cc
before_err b (Err f) e is = let same : f ≡ e = cc in ap Err same

group_place : (at b left : ℕ) (e : NumberFault) → Err e ≡ group_of at b left → number_place e ≡ at
group_place at b left e is = grind (arith, nat_tests)

judged_place : (at left next b : ℕ) (g : Result Group NumberFault) (r : Result (ℕ × ℕ) NumberFault) (e : NumberFault) →
    g ≡ group_of at b left → ((f : NumberFault) → r ≡ Err f → number_place f ≡ at) → judged next b g r ≡ Err e →
    number_place e ≡ at
judged_place at left next b (Ok Last) r e of behind is = cc
judged_place at left next b (Ok More) r e of behind is = behind e (before_err b r e is)
judged_place at left next b (Err f) r e of behind is =
    let same : f ≡ e = cc in ap number_place (sym same) ∙ group_place at b left f of

groups_place : (at left next : ℕ) (bytes : List ℕ) (e : NumberFault) → groups at left next bytes ≡ Err e →
    number_place e ≡ at
groups_place at zero next bytes e is = let same : TooLarge at ≡ e = cc in ap number_place (sym same)
groups_place at (suc left) next [] e is = let same : Ends at ≡ e = cc in ap number_place (sym same)
groups_place at (suc left) next (b ∷ bytes) e is =
    judged_place at left (next + 1) b (group_of at b left) (groups at left (next + 1) bytes) e refl
    (λ f. groups_place at left (next + 1) bytes f) is

number_err : {B : Type 0} (k : RecordKind) (r : Result (ℕ × ℕ) NumberFault) (value : ℕ × ℕ → Result B RecordFault)
    (f : RecordFault) → bind (with_kind k r) value ≡ Err f →
    ((e : NumberFault) × (r ≡ Err e) × (f ≡ in_record k e)) ⊎ ((n : ℕ × ℕ) × (r ≡ Ok n) × (value n ≡ Err f))
number_err k (Ok n) value f is = inr (n, refl, is)
number_err k (Err e) value f is = inl (e, refl, cc)

pub bind_err : {A B : Type 0} (r : Result A RecordFault) (next : A → Result B RecordFault) (f : RecordFault) →
    bind r next ≡ Err f → (r ≡ Err f) ⊎ ((a : A) × (r ≡ Ok a) × (next a ≡ Err f))
bind_err (Ok a) next f is = inr (a, refl, is)
bind_err (Err g) next f is = let same : g ≡ f = cc in inl (ap Err same)

-- the place of a field's fault, and so of a field that is refused, is that of its number
here : (field : Field) (at : ℕ) → record_place (field_fault field at) ≡ at
here field.LevelCount at = refl
here (field.FanOut parties) at = refl
here field.HandoffLimit at = refl
here field.ScriptNumber at = refl
here (field.Entry workers) at = refl

field_place : (field : Field) (file : List ℕ) (at : ℕ) (g : RecordFault) → value_at field file at ≡ Err g →
    record_place g ≡ at
field_place field file at g is =
    elim (number_err (field_kind field) (number_at file at)
    (λ n. cond (field_refuses field n.0) (Err (field_fault field at)) (Ok n)) g is) [
      | inl p ↦ ap record_place p.2 ∙ groups_place at 5 at (drop at file) p.0 p.1
      | inr p ↦
          let r = refused (field_refuses field p.0.0) (field_fault field at) g p.0 p.2 in
          sym (ap record_place r.1) ∙ here field at
    ]

no_algorithm : (n : ℕ) (f g : RecordFault) → algorithm_of n f ≡ Err g → f ≡ g
no_algorithm n f g is = grind (arith, nat_tests)

algorithm_place : (file : List ℕ) (at : ℕ) (g : RecordFault) → algorithm_at file at ≡ Err g → record_place g ≡ at
algorithm_place file at g is =
    elim (number_err kind.Level (number_at file at) _ g is) [
      | inl p ↦ ap record_place p.2 ∙ groups_place at 5 at (drop at file) p.0 p.1
      | inr p ↦
          elim (bind_err (algorithm_of p.0.0 (fault.Algorithm at)) _ g p.2) [
            | inl q ↦ sym (ap record_place (no_algorithm p.0.0 (fault.Algorithm at) g q))
            | inr q ↦ cc
          ]
    ]

limit_place : (rank : ℕ) (file : List ℕ) (at : ℕ) (g : RecordFault) → limit_at rank file at ≡ Err g →
    record_place g ≡ at
limit_place rank file at g is =
    elim (eqb_tells rank 0) [
      | inl t ↦ let wrong = simp t.0 at is in cc
      | inr t ↦ field_place field.HandoffLimit file at g (simp t.0 at is)
    ]

-- a place at `at` or behind it, and not past the file's end
abbrev pub Lies : List ℕ → ℕ → ℕ → Type 0
Lies file at place = (at ≤ place) × (place ≤ length file)

level_lies : (rank parties : ℕ) (file : List ℕ) (at : ℕ) (g : RecordFault) → at ≤ length file →
    level_at rank parties file at ≡ Err g → Lies file at (record_place g)
level_lies rank parties file at g before is =
    elim (bind_err (algorithm_at file at) _ g is) [
      | inl p ↦ let e = algorithm_place file at g p in (omega arith, omega arith)
      | inr a ↦
          let w = number_within file at _ (algorithm_ok file at a.0 a.1) in
          elim (bind_err (fan_out_at parties file a.0.1) _ g a.2) [
            | inl p ↦
                let e = field_place (field.FanOut parties) file a.0.1 g p in
                (omega arith, omega arith)
            | inr f ↦
                let v = number_within file a.0.1 f.0 (fan_out_ok parties file a.0.1 f.0 f.1).0 in
                elim (bind_err (limit_at rank file f.0.1) _ g f.2) [
                  | inl p ↦ let e = limit_place rank file f.0.1 g p in (omega arith, omega arith)
                  | inr h ↦ cc
                ]
          ]
    ]

module _ (file : List ℕ) where
  script_number_place : (at : ℕ) (g : RecordFault) → script_number_at file at ≡ Err g → record_place g ≡ at
  script_number_place at g is = field_place field.ScriptNumber file at g is

  script_lies : (at : ℕ) (g : RecordFault) → at ≤ length file → script_at file at ≡ Err g →
      Lies file at (record_place g)
  script_lies at g before is =
      elim (bind_err (script_number_at file at) _ g is) [
        | inl p ↦ let e = script_number_place at g p in (omega arith, omega arith)
        | inr t ↦
            let w = number_within file at t.0 (script_number_ok file at t.0 t.1).0 in
            elim (bind_err (script_number_at file t.0.1) _ g t.2) [
              | inl p ↦ let e = script_number_place t.0.1 g p in (omega arith, omega arith)
              | inr r ↦
                  let v = number_within file t.0.1 r.0 (script_number_ok file t.0.1 r.0 r.1).0 in
                  elim (bind_err (script_number_at file r.0.1) _ g r.2) [
                    | inl p ↦ let e = script_number_place r.0.1 g p in (omega arith, omega arith)
                    | inr h ↦ cc
                  ]
            ]
      ]

  entries_lie : (count workers at : ℕ) (g : RecordFault) → at ≤ length file →
      entries_end count workers file at ≡ Err g → Lies file at (record_place g)
  entries_lie zero workers at g before is = cc
  entries_lie (suc count) workers at g before is =
      elim (bind_err (entry_at workers file at) _ g is) [
        | inl p ↦
            let e = field_place (field.Entry workers) file at g p in
            (omega arith, omega arith)
        | inr n ↦
            let w = number_within file at n.0 (entry_ok workers file at n.0 n.1).0 in
            let m = entries_lie count workers n.0.1 g w.1 n.2 in
            (omega arith, m.1)
      ]

  schedule_lies : (workers at : ℕ) (g : RecordFault) → at ≤ length file →
      schedule_at workers file at ≡ Err g → Lies file at (record_place g)
  schedule_lies workers at g before is =
      elim (number_err kind.Schedule (number_at file at) _ g is) [
        | inl p ↦
            let e = ap record_place p.2 ∙ groups_place at 5 at (drop at file) p.0 p.1 in
            (omega arith, omega arith)
        | inr n ↦
            let w = number_within file at n.0 n.1 in
            elim (bind_err (entries_end n.0.0 workers file n.0.1) _ g n.2) [
              | inl p ↦ let m = entries_lie n.0.0 workers n.0.1 g w.1 p in (omega arith, m.1)
              | inr h ↦ cc
            ]
      ]

-- a step that fails fails in its record
in_order_err : (r : Result Stepped RecordFault) (f : FileFault) → in_order r ≡ Err f →
    (g : RecordFault) × (r ≡ Err g) × (fault_place f ≡ record_place g)
in_order_err (Ok s) f is = cc
in_order_err (Err g) f is = let same : in_file g ≡ f = cc in (g, refl, sym (ap fault_place same))

record_err : {A : Type 0} (r : Result A RecordFault) (made : A → Result Stepped RecordFault) (g : RecordFault) →
    ((a : A) → made a ≡ Err g → ⊥) → bind r made ≡ Err g → r ≡ Err g
record_err r made g always is = elim (bind_err r made g is) [ inl p ↦ p | inr p ↦ absurd (always p.0 p.2) ]

trailing : (later : Bool) (at : ℕ) (f : FileFault) →
    ◌≡◌ {A = Result (Option Stepped) FileFault} (cond later (Err (TrailingByte at)) (Ok None)) (Err f) →
    fault_place f ≡ at
trailing true at f is = let same : TrailingByte at ≡ f = cc in ap fault_place (sym same)
trailing false at f is = cc

pub next_lies : (file : List ℕ) (at : ℕ) (from : Stage) (f : FileFault) → at ≤ length file →
    next_step file at from ≡ Err f → Lies file at (fault_place f)
next_lies file at stage.Levels f before is =
    let k = in_order_err (levels_step file at) f is in
    let p = record_err (levels_at file at) _ k.0 (λ a is. cc) k.1 in
    let e = k.2 ∙ field_place field.LevelCount file at k.0 p in
    (omega arith, omega arith)
next_lies file at (stage.Level rank count parties) f before is =
    let k = in_order_err (level_step rank count parties file at) f is in
    let p = record_err (level_at rank parties file at) _ k.0 (λ a is. cc) k.1 in
    subst (Lies file at) (sym k.2) (level_lies rank parties file at k.0 before p)
next_lies file at (stage.Script worker workers) f before is =
    let k = in_order_err (script_step worker workers file at) f is in
    let p = record_err (script_at file at) _ k.0 (λ a is. cc) k.1 in
    subst (Lies file at) (sym k.2) (script_lies file at k.0 before p)
next_lies file at (stage.Schedule workers) f before is =
    let k = in_order_err (schedule_step workers file at) f is in
    let p = record_err (schedule_at workers file at) _ k.0 (λ a is. cc) k.1 in
    subst (Lies file at) (sym k.2) (schedule_lies file workers at k.0 before p)
next_lies file at stage.End f before is =
    let e = trailing (ltb at (length file)) at f is in (omega arith, omega arith)
