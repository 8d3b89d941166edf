-- Records in file order are the number of levels, the levels, a script for each worker, and the schedule.
use Rattle.std.proofs.Common.{◌≡◌, ℕ, ◌+◌, ◌-◌, ◌<◌, ◌≤◌, List, [], ◌∷◌, ◌++◌, length, fold, sym, refl, ap, ◌∙◌, subst, inl, inr, arith}
use Rattle.std.proofs.lemmas.Bool.{cases_lt}
use Rattle.turn_file.specs.declared.plan.Level.{Level}
use Rattle.turn_file.specs.declared.plan.Script.{Script}
use Rattle.turn_file.specs.declared.step.Stage.TheVariants as stage
use Rattle.turn_file.specs.Order.{InOrder}
use Rattle.turn_file.specs.Plan.{lanes_below}
use Rattle.turn_file.specs.Reading.{Item, levels, script, schedule}
use Rattle.turn_writer.specs.Records.{level_records, script_records, records_from}
use Rattle.turn_writer.proofs.LevelSection.{LevelsFirst, levels_first}
use Rattle.turn_writer.proofs.Stages.{after_script_more, after_script_last}

-- records that begin with a row of scripts
record ScriptsFirst (worker workers : ℕ) (items : List Item) : Type 0 where
  row : List Script
  rest : List Item
  are : items ≡ script_records worker row ++ rest
  long : worker + length row ≡ workers
  ordered : InOrder (stage.Schedule workers) rest stage.End

one_more_script : (worker workers : ℕ) (s : Script) (items : List Item) → ScriptsFirst (worker + 1) workers items →
    ScriptsFirst worker workers (script worker s ∷ items)
one_more_script worker workers s items k = record {
  row = s ∷ k.row;
  rest = k.rest;
  are = ap (λ xs. script worker s ∷ xs) k.are;
  long = omega arith;
  ordered = k.ordered;
}

scripts_first : (worker workers : ℕ) (items : List Item) → worker < workers →
    InOrder (stage.Script worker workers) items stage.End → ScriptsFirst worker workers items
scripts_first worker workers [] within same = absurd (cc same)
scripts_first worker workers (item ∷ items) within (next, (s, is, fits, after), order) =
    subst (λ i. ScriptsFirst worker workers (i ∷ items)) (sym is) (elim (cases_lt worker (workers - 1)) [
      | inl more ↦
          let then = after ∙ after_script_more worker workers more in
          one_more_script worker workers s items
          (scripts_first (worker + 1) workers items (omega arith) (subst (λ g. InOrder g items stage.End) then order))
      | inr last ↦
          let then = after ∙ after_script_last worker workers last in
          record {
            row = s ∷ [];
            rest = items;
            are = refl;
            long = omega arith;
            ordered = subst (λ g. InOrder g items stage.End) then order;
          }
    ])

-- records that are a schedule
none_after_end : (items : List Item) → InOrder stage.End items stage.End → items ≡ []
none_after_end [] order = refl
none_after_end (item ∷ items) (next, comes, order) = absurd comes

schedule_only : (workers : ℕ) (items : List Item) → InOrder (stage.Schedule workers) items stage.End →
    (es : List ℕ) × (items ≡ schedule es ∷ [])
schedule_only workers [] same = absurd (cc same)
schedule_only workers (item ∷ items) (next, (es, is, few, each, after), order) =
    let none = none_after_end items (subst (λ g. InOrder g items stage.End) after order) in
    (es, ap (λ i. i ∷ items) is ∙ ap (λ xs. schedule es ∷ xs) none)

-- records that have these parts
pub record InParts (items : List Item) : Type 0 where
  pub count : ℕ
  pub ls : List Level
  pub ss : List Script
  pub es : List ℕ
  pub are : items ≡ records_from count ls ss es
  pub counted : length ls ≡ count
  pub four : count ≤ 4
  pub scripted : length ss ≡ fold lanes_below 1 ls
  pub sixty_four : length ss ≤ 64

joined_parts : (count : ℕ) (items : List Item) → count ≤ 4 → (l : LevelsFirst 0 count 1 items) →
    (s : ScriptsFirst 0 (fold lanes_below 1 l.row) l.rest) (es : List ℕ) → s.rest ≡ schedule es ∷ [] →
    InParts (levels count ∷ items)
joined_parts count items four l s es last = record {
  count = count;
  ls = l.row;
  ss = s.row;
  es = es;
  are = ap (λ xs. levels count ∷ xs) (l.are ∙ ap (λ xs. level_records 0 l.row ++ xs) (s.are
      ∙ ap (λ xs. script_records 0 s.row ++ xs) last));
  counted = omega arith;
  four = four;
  scripted = omega arith;
  sixty_four = omega arith;
}

pub in_parts : (items : List Item) → InOrder stage.Levels items stage.End → InParts items
in_parts [] same = absurd (cc same)
in_parts (item ∷ items) (next, (count, is, some, four, after), order) =
    let l = levels_first 0 count 1 items some (omega arith) (subst (λ g. InOrder g items stage.End) after order) in
    let s = scripts_first 0 (fold lanes_below 1 l.row) l.rest l.some l.ordered in
    let e = schedule_only (fold lanes_below 1 l.row) s.rest s.ordered in
    subst (λ i. InParts (i ∷ items)) (sym is) (joined_parts count items four l s e.0 e.1)
