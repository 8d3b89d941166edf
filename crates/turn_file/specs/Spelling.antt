-- The one spelling of a value, and the laws of what a reader finds at a place.
use Rattle.std.specs.Prelude.{◌≡◌, ℕ, zero, suc, ◌+◌, ◌/◌, ◌%◌, ◌<◌, cond, List, [], ◌∷◌, ◌++◌, length, drop, Ok, Err, Result, nat_lt, slice_index}
use Rattle.turn_file.specs.declared.fault.NumberFault.{NumberFault}
use Rattle.turn_file.specs.Number.{number_at}

-- a value in at most `left` groups: its lowest seven bits first, and the top bit set where more follows
abbrev pub spell_in : ℕ → ℕ → List ℕ
spell_in zero v = []
spell_in (suc left) v = cond (nat_lt v 128) (v ∷ []) ((128 + v % 128) ∷ spell_in left (v / 128))

-- the spelling of a value
abbrev pub spell : ℕ → List ℕ
spell v = spell_in 5 v

-- each element is a byte
abbrev pub Bytes : List ℕ → Type 0
Bytes file = (i : ℕ) → slice_index file i < 256

-- the bytes `xs` stand in the file from the place `at` up to the place `to`
pub record Stands (xs file : List ℕ) (at to : ℕ) : Type 0 where
  pub begins : drop at file ≡ xs ++ drop to file
  pub ends : to ≡ at + length xs

-- What a reader answers at the place `at`, where values below `limit` are numbers: the value whose spelling stands
-- there, with the place after it, wherever one stands; and a fault only where none stands.
pub record Spelled (limit : ℕ) (file : List ℕ) (at : ℕ) (r : Result (ℕ × ℕ) NumberFault) : Type 0 where
  pub accepted : (n : ℕ × ℕ) → r ≡ Ok n → (n.0 < limit) × Stands (spell n.0) file at n.1
  pub accepts : (v to : ℕ) → v < limit → Stands (spell v) file at to → r ≡ Ok (v, to)
  pub refused : (fault : NumberFault) → r ≡ Err fault → (v to : ℕ) → v < limit → Stands (spell v) file at to → ⊥

-- Each value below `limit` has one spelling that is accepted, and what is accepted at a place is that spelling.
pub record OneSpelling (limit : ℕ) : Type 0 where
  -- a spelling is of bytes
  pub bytes : (v : ℕ) → Bytes (spell v)
  -- a reader goes by the spellings, at each place of each file
  pub read : (file : List ℕ) (at : ℕ) → Bytes file → Spelled limit file at (number_at file at)
  -- the spellings of two values never stand at one place
  pub one : (file : List ℕ) (at v to w end : ℕ) → v < limit → w < limit →
      Stands (spell v) file at to → Stands (spell w) file at end → v ≡ w
