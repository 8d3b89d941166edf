-- A record that is refused: a reader refuses it where its spelling stands, with the same fault.
use Rattle.std.proofs.Common.{◌≡◌, ℕ, cond, eqb, List, [], ◌∷◌, length, Ok, Err, Result, sym, ap, ◌∙◌, inl, inr}
use Rattle.std.proofs.lemmas.Bool.Decides.{eqb_tells}
use Rattle.std.specs.List.{flat_map, AllByRecursion}
use Rattle.turn_file.specs.declared.fault.RecordFault.{RecordFault}
use Rattle.turn_file.specs.declared.field.Field.{Field}
use Rattle.turn_file.specs.declared.field.Field.TheVariants.{FanOut, HandoffLimit, ScriptNumber, Entry}
use Rattle.turn_file.specs.declared.fault.RecordKind.TheVariants as kind
use Rattle.turn_file.specs.declared.plan.Level.{Level}
use Rattle.turn_file.specs.declared.plan.Script.{Script}
use Rattle.turn_file.specs.Order.{record_spelling}
use Rattle.turn_file.specs.Reading.{schedule}
use Rattle.turn_file.specs.Algorithm.{algorithm_number}
use Rattle.turn_file.specs.Field.{field_kind, field_refuses, field_fault}
use Rattle.turn_file.specs.Record.{bind, with_kind, value_at, limit_at, level_at, script_at, entries_end, schedule_at}
use Rattle.turn_file.specs.Spelling.{spell, Stands}
use Rattle.turn_file.proofs.Complete.{algorithm_small, bind_is}
use Rattle.turn_file.proofs.Fields.{field_is, algorithm_is}
use Rattle.turn_file.proofs.Refused.{bind_err}
use Rattle.turn_file.proofs.Spelled.{spelled_number, stands_split}
use Rattle.turn_writer.specs.Judgement.{past, past_field, past_limit, past_level, past_script, past_entries}
use Rattle.turn_writer.specs.Records.{level_spelling, script_spelling}
use Rattle.turn_writer.specs.Shape.{Word, LevelWords, ScriptWords}
use Rattle.turn_writer.proofs.Sizes.{field_fits}
use Rattle.turn_file.proofs.Refusals.{refused}

-- nothing comes of what was refused
pub stop : {A B : Type 0} (next : A → Result B RecordFault) {r : Result A RecordFault} {f : RecordFault} → r ≡ Err f →
    bind r next ≡ Err f
stop next e = ap (λ r. bind r next) e

module _ (file : List ℕ) where
  -- a reader refuses a number where it stands
  pub field_refused : (field : Field) (n at to : ℕ) (g : RecordFault) → Word n → Stands (spell n) file at to →
      past_field field n at ≡ Err g → value_at field file at ≡ Err g
  field_refused field n at to g small s is =
      let k = refused (field_refuses field n) (field_fault field at) g (past n at) is in
      let judged : ℕ × ℕ → Result (ℕ × ℕ) RecordFault =
      λ m. cond (field_refuses field m.0) (Err (field_fault field at)) (Ok m) in
      ap (λ r. bind (with_kind (field_kind field) r) judged) (spelled_number file at n to small s)
      ∙ ap (λ bad. cond bad (Err (field_fault field at)) (Ok (n, to))) k.0 ∙ ap Err k.1

  -- or reads it
  field_read : (field : Field) (n at to next : ℕ) → Word n → Stands (spell n) file at to →
      past_field field n at ≡ Ok next → value_at field file at ≡ Ok (n, to)
  field_read field n at to next small s is =
      field_is field file at (n, to)
      (spelled_number file at n to small s) (field_fits field n at next is).0

  limit_refused : (rank n at to : ℕ) (g : RecordFault) → Word n →
      Stands (cond (eqb rank 0) [] (spell (cond (eqb rank 0) 0 n))) file at to → past_limit rank n at ≡ Err g →
      limit_at rank file at ≡ Err g
  limit_refused rank n at to g small s is =
      elim (eqb_tells rank 0) [
        | inl t ↦ let wrong = simp t.0 at is in cc
        | inr t ↦ simp t.0 (field_refused HandoffLimit n at to g small (simp t.0 at s) (simp t.0 at is))
      ]

  pub level_refused : (rank parties : ℕ) (l : Level) (at to : ℕ) (g : RecordFault) → LevelWords l →
      Stands (level_spelling rank l) file at to → past_level rank parties l at ≡ Err g →
      level_at rank parties file at ≡ Err g
  level_refused rank parties l at to g small s is =
      let a : ℕ = algorithm_number l.algorithm in
      let n : ℕ = l.fan_out in
      let first = stands_split (spell a) _ file at to s in
      let second = stands_split (spell n) _ file (past a at) to first.1 in
      bind_is _ (algorithm_is file at l.algorithm (past a at)
      (spelled_number file at a (past a at) (algorithm_small l.algorithm) first.0))
      (elim (bind_err (past_field (FanOut parties) n (past a at)) _ g is) [
        | inl e ↦ stop _ (field_refused (FanOut parties) n (past a at) _ g small.0 second.0 e)
        | inr e ↦
            let k = field_fits (FanOut parties) n (past a at) e.0 e.1 in
            bind_is _ (field_read (FanOut parties) n (past a at) _ e.0 small.0 second.0 e.1)
            (stop _ (limit_refused rank l.handoff_limit (past n (past a at)) to g small.1 second.1
            (ap (past_limit rank l.handoff_limit) (sym k.1) ∙ e.2)))
      ])

  pub script_refused : (t : Script) (at to : ℕ) (g : RecordFault) → ScriptWords t →
      Stands (script_spelling t) file at to → past_script t at ≡ Err g → script_at file at ≡ Err g
  script_refused t at to g small s is =
      let first = stands_split (spell t.turns) _ file at to s in
      let second = stands_split (spell t.rest) _ file (past t.turns at) to first.1 in
      elim (bind_err (past_field ScriptNumber t.turns at) _ g is) [
        | inl e ↦ stop _ (field_refused ScriptNumber t.turns at _ g small.0 first.0 e)
        | inr e ↦
            let k = field_fits ScriptNumber t.turns at e.0 e.1 in
            let onward = ap (λ n. bind (past_field ScriptNumber t.rest n) (λ m. past_field ScriptNumber t.hold m))
            (sym k.1) ∙ e.2 in
            bind_is _ (field_read ScriptNumber t.turns at _ e.0 small.0 first.0 e.1)
            (elim (bind_err (past_field ScriptNumber t.rest (past t.turns at)) _ g onward) [
              | inl f ↦ stop _ (field_refused ScriptNumber t.rest (past t.turns at) _ g small.1 second.0 f)
              | inr f ↦
                  let m = field_fits ScriptNumber t.rest (past t.turns at) f.0 f.1 in
                  bind_is _ (field_read ScriptNumber t.rest (past t.turns at) _ f.0 small.1 second.0 f.1)
                  (stop _ (field_refused ScriptNumber t.hold (past t.rest (past t.turns at)) to g small.2
                  second.1 (ap (past_field ScriptNumber t.hold) (sym m.1) ∙ f.2)))
            ])
      ]

  entries_refused : (workers : ℕ) (es : List ℕ) (at to : ℕ) (g : RecordFault) → AllByRecursion Word es →
      Stands (flat_map spell es) file at to → past_entries workers es at ≡ Err g →
      entries_end (length es) workers file at ≡ Err g
  entries_refused workers [] at to g small s is = cc
  entries_refused workers (e ∷ es) at to g small s is =
      let first = stands_split (spell e) (flat_map spell es) file at to s in
      elim (bind_err (past_field (Entry workers) e at) _ g is) [
        | inl f ↦ stop _ (field_refused (Entry workers) e at _ g small.0 first.0 f)
        | inr f ↦
            let k = field_fits (Entry workers) e at f.0 f.1 in
            bind_is _ (field_read (Entry workers) e at _ f.0 small.0 first.0 f.1)
            (entries_refused workers es (past e at) to g small.1 first.1
            (ap (past_entries workers es) (sym k.1) ∙ f.2))
      ]

  pub schedule_refused : (workers : ℕ) (es : List ℕ) (at to : ℕ) (g : RecordFault) → AllByRecursion Word es →
      Word (length es) → Stands (record_spelling (schedule es)) file at to →
      past_entries workers es (past (length es) at) ≡ Err g → schedule_at workers file at ≡ Err g
  schedule_refused workers es at to g small counted s is =
      let split = stands_split (spell (length es)) (flat_map spell es) file at to s in
      ap (λ r. bind (with_kind kind.Schedule r)
      (λ n. bind (entries_end n.0 workers file n.1) (λ end. Ok (n.1, end))))
      (spelled_number file at (length es) (past (length es) at) counted split.0)
      ∙ stop _ (entries_refused workers es (past (length es) at) to g small split.1 is)
