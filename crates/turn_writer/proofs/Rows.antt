-- Rows of levels and of scripts, entered into the tables of a plan.
use Rattle.std.proofs.Common.{◌≡◌, ℕ, ◌+◌, ◌≤◌, cond, List, [], ◌∷◌, ◌++◌, length, take, set, fold, sym, refl, ap, ◌∙◌, inl, inr, arith}
use Rattle.std.proofs.lemmas.List.{append-nil, append_assoc, length-set, take_more_set}
use Rattle.std.proofs.lemmas.Bool.{lt-ltb}
use Rattle.std.proofs.lemmas.Bool.Decides.{eqb_tells}
use Rattle.turn_file.specs.declared.plan.Level.{Level}
use Rattle.turn_file.specs.declared.plan.Script.{Script}
use Rattle.turn_file.specs.Plan.{PlanNumbers, lanes_below, put, with_item}
use Rattle.turn_file.specs.Reading.{level, script}
use Rattle.turn_writer.specs.Records.{used_level, level_records, script_records}

-- a table of so many places, with a row of values from one of them on
abbrev pub put_row : {X : Type 0} → ℕ → List X → ℕ → List X → List X
put_row places t i [] = t
put_row places t i (x ∷ xs) = put_row places (put places t i x) (i + 1) xs

-- the table up to the end of the row
take_put_row : {X : Type 0} (places : ℕ) (t : List X) (i : ℕ) (xs : List X) → length t ≡ places →
    i + length xs ≤ places → take (i + length xs) (put_row places t i xs) ≡ take i t ++ xs
take_put_row places t i [] long fits = ap (λ n. take n t) (omega arith) ∙ sym (append-nil (take i t))
take_put_row places t i (x ∷ xs) long fits =
    let now : put places t i x ≡ set t i x = ap (λ b. cond b (set t i x) t) (lt-ltb i places (omega arith)) in
    let as_long : length (put places t i x) ≡ places = ap length now ∙ length-set t i x ∙ long in
    let onward : i + length (x ∷ xs) ≡ i + 1 + length xs = omega arith in
    ap (λ n. take n (put_row places t i (x ∷ xs))) onward
    ∙ take_put_row places (put places t i x) (i + 1) xs as_long (omega arith)
    ∙ ap (λ u. take (i + 1) u ++ xs) now
    ∙ ap (λ u. u ++ xs) (take_more_set t i x (omega arith))
    ∙ append_assoc (take i t) (x ∷ []) xs

pub take_whole_row : {X : Type 0} (places : ℕ) (t xs : List X) → length t ≡ places → length xs ≤ places →
    take (length xs) (put_row places t 0 xs) ≡ xs
take_whole_row places t xs long fits =
    let here : length xs ≡ 0 + length xs = omega arith in
    ap (λ n. take n (put_row places t 0 xs)) here ∙ take_put_row places t 0 xs long (omega arith)

-- the used numbers of a row of levels from this rank on
abbrev pub used_row : ℕ → List Level → List Level
used_row rank [] = []
used_row rank (l ∷ ls) = used_level rank l ∷ used_row (rank + 1) ls

pub length_used_row : (rank : ℕ) (ls : List Level) → length (used_row rank ls) ≡ length ls
length_used_row rank [] = refl
length_used_row rank (l ∷ ls) = omega (arith, length_used_row (rank + 1) ls)

used_level_twice : (rank : ℕ) (l : Level) → used_level rank (used_level rank l) ≡ used_level rank l
used_level_twice rank l = elim (eqb_tells rank 0) [ inl t ↦ simp t.0 | inr t ↦ simp t.0 ]

-- they have the same records and the same workers
pub records_used_row : (rank : ℕ) (ls : List Level) → level_records rank (used_row rank ls) ≡ level_records rank ls
records_used_row rank [] = refl
records_used_row rank (l ∷ ls) = simp (used_level_twice, records_used_row (rank + 1) ls)

pub workers_used_row : (rank lanes : ℕ) (ls : List Level) →
    fold lanes_below lanes (used_row rank ls) ≡ fold lanes_below lanes ls
workers_used_row rank lanes [] = refl
workers_used_row rank lanes (l ∷ ls) = workers_used_row (rank + 1) (lanes_below lanes l) ls

-- a plan that a row of levels is entered into, and one that a row of scripts is entered into
pub levels_entered : (p : PlanNumbers) (rank : ℕ) (ls : List Level) →
    fold with_item p (level_records rank ls)
    ≡ record {
      count = p.count;
      levels = put_row 4 p.levels rank (used_row rank ls);
      scripts = p.scripts;
      entries = p.entries;
    }
levels_entered p rank [] = refl
levels_entered p rank (l ∷ ls) = levels_entered (with_item p (level rank (used_level rank l))) (rank + 1) ls

pub scripts_entered : (p : PlanNumbers) (worker : ℕ) (ss : List Script) →
    fold with_item p (script_records worker ss)
    ≡ record {
      count = p.count;
      levels = p.levels;
      scripts = put_row 64 p.scripts worker ss;
      entries = p.entries;
    }
scripts_entered p worker [] = refl
scripts_entered p worker (s ∷ ss) = scripts_entered (with_item p (script worker s)) (worker + 1) ss
