-- The spelling of records is of bytes.
use Rattle.std.proofs.Common.{ℕ, zero, suc, Bool, true, false, cond, eqb, List, [], ◌∷◌, ◌++◌, length, arith}
use Rattle.std.specs.List.{flat_map}
use Rattle.turn_file.specs.Order.{record_spelling, spelling}
use Rattle.turn_file.specs.Reading.{Item, levels, level, script, schedule}
use Rattle.turn_file.specs.Algorithm.{algorithm_number}
use Rattle.turn_file.specs.Spelling.{spell, Bytes}
use Rattle.turn_file.proofs.Spelled.{one_spelling}

bytes_both : (xs ys : List ℕ) → Bytes xs → Bytes ys → Bytes (xs ++ ys)
bytes_both [] ys x y i = y i
bytes_both (b ∷ xs) ys x y zero = x 0
bytes_both (b ∷ xs) ys x y (suc i) = bytes_both xs ys (λ j. x (suc j)) y i

spell_bytes : (v : ℕ) → Bytes (spell v)
spell_bytes v = one_spelling.bytes v

joined_bytes : {X : Type 0} (f : X → List ℕ) → ((x : X) → Bytes (f x)) → (xs : List X) → Bytes (flat_map f xs)
joined_bytes f each [] = λ i. omega arith
joined_bytes f each (x ∷ xs) = bytes_both (f x) (flat_map f xs) (each x) (joined_bytes f each xs)

record_bytes : (item : Item) → Bytes (record_spelling item)
record_bytes (levels n) = spell_bytes n
record_bytes (level rank l) =
    bytes_both (spell (algorithm_number l.algorithm)) _ (spell_bytes _)
    (bytes_both (spell l.fan_out) _ (spell_bytes _) (limit_bytes (eqb rank 0)))
  where
    limit_bytes : (top : Bool) → Bytes (cond top [] (spell l.handoff_limit))
    limit_bytes true = λ i. omega arith
    limit_bytes false = spell_bytes _
record_bytes (script worker s) =
    bytes_both (spell s.turns) _ (spell_bytes _) (bytes_both (spell s.rest) _ (spell_bytes _) (spell_bytes _))
record_bytes (schedule es) = bytes_both (spell (length es)) _ (spell_bytes _) (joined_bytes spell spell_bytes es)

pub spelling_bytes : (items : List Item) → Bytes (spelling items)
spelling_bytes items = joined_bytes record_spelling record_bytes items
