-- Where a reader of a refused plan's spelling stops: behind records in order, at the record that is refused.
use Rattle.std.proofs.Common.{◌≡◌, ℕ, ◌+◌, ◌*◌, List, [], ◌∷◌, ◌++◌, length, Err, sym, refl, ap, ◌∙◌, subst, inl, inr, append-nil, arith}
use Rattle.std.specs.List.{AllByRecursion}
use Rattle.std.proofs.lemmas.Grind.{flat_map-append}
use Rattle.turn_file.specs.declared.fault.RecordFault.{RecordFault}
use Rattle.turn_file.specs.declared.plan.Level.{Level}
use Rattle.turn_file.specs.declared.plan.Script.{Script}
use Rattle.turn_file.specs.declared.step.Stage.{Stage}
use Rattle.turn_file.specs.declared.step.Stage.TheVariants as stage
use Rattle.turn_file.specs.Fault.{in_file}
use Rattle.turn_file.specs.Order.{record_spelling, spelling, InOrder}
use Rattle.turn_file.specs.Reading.{Item, level, script, after_level, after_script, in_order, next_step}
use Rattle.turn_file.specs.Spelling.{Stands}
use Rattle.turn_file.proofs.Refused.{bind_err}
use Rattle.turn_file.proofs.Spelled.{stands_none, stands_both, stands_split}
use Rattle.turn_writer.specs.Judgement.{past_level, past_levels, past_script, past_scripts}
use Rattle.turn_writer.specs.Records.{used_level, level_spelling, script_spelling, levels_spelling, scripts_spelling}
use Rattle.turn_writer.specs.Shape.{LevelWords, ScriptWords}
use Rattle.turn_writer.proofs.AcceptedRecords.{in_order_both, level_comes, script_fits}
use Rattle.turn_writer.proofs.RefusedRecords.{stop, level_refused, script_refused}
use Rattle.turn_writer.proofs.Stages.{after_level_more, after_script_more}

-- records in order stand from a place on, and the record behind them is refused
pub record Stopped (file : List ℕ) (at : ℕ) (from : Stage) (f : RecordFault) : Type 0 where
  pub items : List Item
  pub place : ℕ
  pub next : Stage
  pub ordered : InOrder from items next
  pub stands : Stands (spelling items) file at place
  pub refused : next_step file place next ≡ Err (in_file f)

pub stopped_here : (file : List ℕ) (at : ℕ) (from : Stage) (f : RecordFault) →
    next_step file at from ≡ Err (in_file f) → Stopped file at from f
stopped_here file at from f is = record {
  items = [];
  place = at;
  next = from;
  ordered = refl;
  stands = stands_none file at;
  refused = is;
}

pub stopped_later : (file : List ℕ) (at : ℕ) (from : Stage) (xs : List Item) (to : ℕ) (mid : Stage) (f : RecordFault) →
    InOrder from xs mid → Stands (spelling xs) file at to → Stopped file to mid f → Stopped file at from f
stopped_later file at from xs to mid f order stands s = record {
  items = xs ++ s.items;
  place = s.place;
  next = s.next;
  ordered = in_order_both from xs s.items mid s.next order s.ordered;
  stands = subst (λ bytes. Stands bytes file at s.place) (sym (flat_map-append _ xs s.items))
      (stands_both stands s.stands);
  refused = s.refused;
}

-- the bytes of one record
pub one_stands : (x : Item) (file : List ℕ) (at to : ℕ) → Stands (record_spelling x) file at to →
    Stands (spelling (x ∷ [])) file at to
one_stands x file at to s = subst (λ bytes. Stands bytes file at to) (sym (append-nil (record_spelling x))) s

module _ (file : List ℕ) where
  pub levels_stop : (rank count parties : ℕ) (l : Level) (ls : List Level) (at to : ℕ) (f : RecordFault) →
      AllByRecursion LevelWords (l ∷ ls) → rank + length (l ∷ ls) ≡ count →
      Stands (levels_spelling rank (l ∷ ls)) file at to → past_levels rank parties (l ∷ ls) at ≡ Err f →
      Stopped file at (stage.Level rank count parties) f
  levels_stop rank count parties l [] at to f words counted s is =
      let split = stands_split (level_spelling rank l) [] file at to s in
      elim (bind_err (past_level rank parties l at) _ f is) [
        | inl e ↦
            stopped_here file at (stage.Level rank count parties) f
            (ap in_order (stop _ (level_refused file rank parties l at _ f words.0 split.0 e)))
        | inr e ↦ cc
      ]
  levels_stop rank count parties l (m ∷ ms) at to f words counted s is =
      let split = stands_split (level_spelling rank l) (levels_spelling (rank + 1) (m ∷ ms)) file at to s in
      elim (bind_err (past_level rank parties l at) _ f is) [
        | inl e ↦
            stopped_here file at (stage.Level rank count parties) f
            (ap in_order (stop _ (level_refused file rank parties l at _ f words.0 split.0 e)))
        | inr e ↦
            let k = level_comes rank count parties l at e.0 e.1 in
            let below : ℕ = parties * l.fan_out in
            let then = after_level_more rank count below (omega arith) in
            stopped_later file at _ (level rank (used_level rank l) ∷ []) (at + length (level_spelling rank l))
            (stage.Level (rank + 1) count below) f
            (after_level rank count below, k.0, then)
            (one_stands (level rank (used_level rank l)) file at _ split.0)
            (levels_stop (rank + 1) count below m ms _ to f words.1 (omega arith) split.1
            (ap (past_levels (rank + 1) below (m ∷ ms)) (sym k.1) ∙ e.2))
      ]

  pub scripts_stop : (worker workers : ℕ) (t : Script) (ts : List Script) (at to : ℕ) (f : RecordFault) →
      AllByRecursion ScriptWords (t ∷ ts) → worker + length (t ∷ ts) ≡ workers →
      Stands (scripts_spelling worker (t ∷ ts)) file at to → past_scripts (t ∷ ts) at ≡ Err f →
      Stopped file at (stage.Script worker workers) f
  scripts_stop worker workers t [] at to f words counted s is =
      let split = stands_split (script_spelling t) [] file at to s in
      elim (bind_err (past_script t at) _ f is) [
        | inl e ↦
            stopped_here file at (stage.Script worker workers) f
            (ap in_order (stop _ (script_refused file t at _ f words.0 split.0 e)))
        | inr e ↦ cc
      ]
  scripts_stop worker workers t (u ∷ us) at to f words counted s is =
      let split = stands_split (script_spelling t) (scripts_spelling (worker + 1) (u ∷ us)) file at to s in
      elim (bind_err (past_script t at) _ f is) [
        | inl e ↦
            stopped_here file at (stage.Script worker workers) f
            (ap in_order (stop _ (script_refused file t at _ f words.0 split.0 e)))
        | inr e ↦
            let k = script_fits t at e.0 e.1 in
            let then = after_script_more worker workers (omega arith) in
            stopped_later file at _ (script worker t ∷ []) (at + length (script_spelling t))
            (stage.Script (worker + 1) workers) f
            (after_script worker workers, (t, refl, k.0, refl), then)
            (one_stands (script worker t) file at _ split.0)
            (scripts_stop (worker + 1) workers u us _ to f words.1 (omega arith) split.1
            (ap (past_scripts (u ∷ us)) (sym k.1) ∙ e.2))
      ]
