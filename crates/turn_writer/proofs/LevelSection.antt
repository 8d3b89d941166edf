-- The levels of records in file order.
use Rattle.std.proofs.Common.{◌≡◌, ℕ, ◌+◌, ◌-◌, ◌*◌, ◌<◌, ◌≤◌, cond, eqb, ◌⊎◌, List, [], ◌∷◌, ◌++◌, length, fold, sym, ap, ◌∙◌, subst, inl, inr, arith}
use native.Mathlib.Nat.{one-le-mul}
use Rattle.std.proofs.lemmas.Bool.{cases_lt}
use Rattle.std.proofs.lemmas.Bool.Decides.{nat_tests}
use Rattle.turn_file.specs.declared.plan.Level.{Level}
use Rattle.turn_file.specs.declared.step.Stage.TheVariants as stage
use Rattle.turn_file.specs.Order.{LevelFits, InOrder}
use Rattle.turn_file.specs.Plan.{lanes_below}
use Rattle.turn_file.specs.Reading.{Item, level, after_level}
use Rattle.turn_writer.specs.Records.{used_level, level_records}
use Rattle.turn_writer.proofs.Stages.{after_level_more, after_level_last}

-- a level that fits uses all of its numbers
used_fits : (rank lanes : ℕ) (l : Level) → LevelFits rank lanes l → used_level rank l ≡ l
used_fits rank lanes l fits =
    ap (λ n. record { algorithm = l.algorithm; fan_out = l.fan_out; handoff_limit = n }) (limit fits.limit)
  where
    limit : ((rank ≡ 0) × (l.handoff_limit ≡ 0))
        ⊎ ((rank ≡ 0 → ⊥) × (1 ≤ l.handoff_limit) × (l.handoff_limit ≤ 65535)) →
        cond (eqb rank 0) 0 l.handoff_limit ≡ l.handoff_limit
    limit (inl top) = grind (arith, nat_tests)
    limit (inr below) = grind (arith, nat_tests)

-- the lanes below a level that fits
lanes_fit : (rank lanes : ℕ) (l : Level) → LevelFits rank lanes l → lanes * l.fan_out ≡ lanes_below lanes l
lanes_fit rank lanes l fits = let few = fits.few in omega arith

some_below : (lanes : ℕ) (l : Level) → 1 ≤ lanes → 1 ≤ l.fan_out → 1 ≤ lanes_below lanes l
some_below lanes l some each = let product = one-le-mul some each in omega arith

-- records that begin with a row of levels, below so many lanes
pub record LevelsFirst (rank count lanes : ℕ) (items : List Item) : Type 0 where
  pub row : List Level
  pub rest : List Item
  pub are : items ≡ level_records rank row ++ rest
  pub long : rank + length row ≡ count
  pub some : 1 ≤ fold lanes_below lanes row
  pub few : fold lanes_below lanes row ≤ 64
  pub ordered : InOrder (stage.Script 0 (fold lanes_below lanes row)) rest stage.End

one_more_level : (rank count lanes : ℕ) (l : Level) (items : List Item) → LevelFits rank lanes l →
    LevelsFirst (rank + 1) count (lanes_below lanes l) items → LevelsFirst rank count lanes (level rank l ∷ items)
one_more_level rank count lanes l items fits k = record {
  row = l ∷ k.row;
  rest = k.rest;
  are = ap (λ m. level rank m ∷ items) (sym (used_fits rank lanes l fits))
      ∙ ap (λ xs. level rank (used_level rank l) ∷ xs) k.are;
  long = omega arith;
  some = k.some;
  few = k.few;
  ordered = k.ordered;
}

last_level : (rank count lanes : ℕ) (l : Level) (items : List Item) → rank + 1 ≡ count → 1 ≤ lanes →
    LevelFits rank lanes l → InOrder (stage.Script 0 (lanes_below lanes l)) items stage.End →
    LevelsFirst rank count lanes (level rank l ∷ items)
last_level rank count lanes l items long some fits order = record {
  row = l ∷ [];
  rest = items;
  are = ap (λ m. level rank m ∷ items) (sym (used_fits rank lanes l fits));
  long = omega arith;
  some = some_below lanes l some fits.some;
  few = omega arith;
  ordered = order;
}

pub levels_first : (rank count lanes : ℕ) (items : List Item) → rank < count → 1 ≤ lanes →
    InOrder (stage.Level rank count lanes) items stage.End → LevelsFirst rank count lanes items
levels_first rank count lanes [] within some same = absurd (cc same)
levels_first rank count lanes (item ∷ items) within some (next, (l, is, fits, after), order) =
    let here = after ∙ ap (after_level rank count) (lanes_fit rank lanes l fits) in
    let below = some_below lanes l some fits.some in
    subst (λ i. LevelsFirst rank count lanes (i ∷ items)) (sym is) (elim (cases_lt rank (count - 1)) [
      | inl more ↦
          let then = here ∙ after_level_more rank count (lanes_below lanes l) more in
          one_more_level rank count lanes l items fits
          (levels_first (rank + 1) count (lanes_below lanes l) items (omega arith) below
          (subst (λ g. InOrder g items stage.End) then order))
      | inr last ↦
          let then = here ∙ after_level_last rank count (lanes_below lanes l) last in
          last_level rank count lanes l items (omega arith) some fits
          (subst (λ g. InOrder g items stage.End) then order)
    ])
