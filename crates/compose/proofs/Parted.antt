-- The two parts of a list, where the second begins with the first element that passes.
use Rattle.std.proofs.Common.{◌≡◌, ℕ, ◌<◌, List, length, get_or, take, drop, Option, Some, None, All, MatchOption, sym, subst, arith, add-zero, length-take, length-drop, get_or-take, get_or-drop}
use Rattle.std.specs.List.{AllWithin, HoldsAt}
use Rattle.std.specs.Option.{unwrap_or}

module _ (Yes No : ℕ → Type 0) (xs : List ℕ) where
  -- none of the first part passes, and the second is empty or begins with one that does
  abbrev pub Parted : List ℕ → List ℕ → Type 0
  Parted front back = All No front × (0 < length back → Yes (get_or back 0 0))

  -- the place of the first that passes, or `None` where none does
  abbrev pub IsFirst : Option ℕ → Type 0
  IsFirst place =
      MatchOption place (AllWithin No xs 0 (length xs)) (λ i. (i < length xs) × HoldsAt Yes xs i × AllWithin No xs 0 i)

  parted_at : (i : ℕ) → AllWithin No xs 0 i → (i < length xs → HoldsAt Yes xs i) → Parted (take i xs) (drop i xs)
  parted_at i before at = (
    λ k d some.
        let below : k < i = omega (arith, length-take i xs) in
        subst No (sym (get_or-take i xs k d below)) (before k d (omega arith) below),
    λ some. rw (get_or-drop i xs 0 0, add-zero) (at (omega (arith, length-drop i xs)) 0),
  )

  parted_first : (place : Option ℕ) → IsFirst place →
      Parted (take (unwrap_or place (length xs)) xs) (drop (unwrap_or place (length xs)) xs)
  parted_first None none = parted_at (length xs) none (λ few. absurd (omega arith))
  parted_first (Some i) first = parted_at i first.2 (λ _. first.1)

  pub parted : (place : Option ℕ) (i : ℕ) (front back : List ℕ) → IsFirst place →
      i ≡ unwrap_or place (length xs) → front ≡ take i xs → back ≡ drop i xs → Parted front back
  parted place i front back first at is_front is_back = rw (is_front, is_back, at) (parted_first place first)
