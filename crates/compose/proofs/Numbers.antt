-- A fold that adds a digit for each byte gives the number that the bytes write.
use Rattle.std.proofs.Common.{◌≡◌, ℕ, ◌+◌, ◌*◌, ◌^◌, ◌<◌, ◌≤◌, List, [], ◌∷◌, length, Option, Some, None, Iter, MatchOption, SomeIff, sym, ap, ◌∙◌, subst, refl, arith}
use Rattle.std.specs.Char.{digit_value}
use Rattle.std.specs.Iterator.{YieldsThen}
use Rattle.std.specs.List.{FoldsTo}
use Rattle.std.specs.Slice.Iter.{iter_rest, iter_steps}
use Rattle.std.specs.Str.Parse.{AllDigits, digits_value_after}
use denote.Param.Members.{Mut, Called}
use denote.Ref.{Bor}

-- r is the number that the digits ds write behind those of n, if they are digits and 32 bits hold it
abbrev pub Reads : ℕ → List ℕ → Option ℕ → Type 0
Reads n ds r = SomeIff r (AllDigits 10 ds × (digits_value_after 10 n ds < 2 ^ 32)) (digits_value_after 10 n ds)

-- the same of a single digit
abbrev pub ReadsDigit : ℕ → ℕ → Option ℕ → Type 0
ReadsDigit n d r = SomeIff r ((digit_value d < 10) × (n * 10 + digit_value d < 2 ^ 32)) (n * 10 + digit_value d)

-- no further digit makes a number smaller
digits_value_after-ge : (n : ℕ) (ds : List ℕ) → n ≤ digits_value_after 10 n ds
digits_value_after-ge n [] = omega arith
digits_value_after-ge n (d ∷ ds) = omega (arith, digits_value_after-ge (n * 10 + digit_value d) ds)

reads_nothing : (n : ℕ) (ds : List ℕ) (r : Option ℕ) → n < 2 ^ 32 → length ds ≡ 0 → r ≡ Some n → Reads n ds r
reads_nothing n [] r small none is = rw is ((tt, small), refl)
reads_nothing n (d ∷ ds) r small none is = absurd (omega (arith, none))

reads_none : (n d : ℕ) (ds : List ℕ) (r : Option ℕ) → ReadsDigit n d None → r ≡ None → Reads n (d ∷ ds) r
reads_none n d ds r stops is =
    rw is (λ fits. stops (fits.0.0, omega (arith, fits.1, digits_value_after-ge (n * 10 + digit_value d) ds)))

reads_more : (n d m : ℕ) (ds : List ℕ) (r : Option ℕ) → ReadsDigit n d (Some m) → Reads m ds r → Reads n (d ∷ ds) r
reads_more n d m ds None digit read = λ fits. read (fits.0.1, rw digit.1 fits.1)
reads_more n d m ds (Some k) digit read = rw (← digit.1) (((digit.0.0, read.0.0), read.0.1), read.1)

module _ {F : Type 0} (g : Mut F (ℕ × (Bor ℕ × Unit {0})) (Option ℕ)) (f : F) where
  -- each call reads a digit, and leaves f as it was
  abbrev pub CallsRead : Type 0
  CallsRead = (n : ℕ) (x : Bor ℕ) (v : Option ℕ) (q : F) → Called g f (n, (x, tt)) v q → (q ≡ f) × ReadsDigit n x.now v

  -- a turn of `try_fold` that goes on, and one that stops
  abbrev pub GoesOn : F × ℕ → Bor ℕ → F × ℕ → Type 0
  GoesOn p x q = (v : Option ℕ) × Called g p.0 (p.1, (x, tt)) v q.0 × (v ≡ Some q.1)

  abbrev pub Stops : (E : Type 0) → F × ℕ → Option ℕ → Bor ℕ → Type 0
  Stops E p r x = (v : Option ℕ) × (h : F) × (e : E) × Called g p.0 (p.1, (x, tt)) v h × (v ≡ None) × (r ≡ None)

  module _ (calls : CallsRead) (E : Type 0) where
    pub reads_number : (xs : List (Bor ℕ)) (o : Option (Bor ℕ)) (s u : Iter ℕ) (n a : ℕ) (j : F) (r : Option ℕ)
        → n < 2 ^ 32 → YieldsThen iter_steps s xs o u → FoldsTo {P = F × ℕ} GoesOn (f, n) xs (j, a)
        → MatchOption o (r ≡ Some a) (Stops E (j, a) r) → Reads n (iter_rest s) r
    reads_number [] None s u n a j r small yields folds ends =
        let none_left = ap (λ t. length (iter_rest t)) yields.1 ∙ yields.2.0 in
        reads_nothing n (iter_rest s) r small none_left (ends ∙ ap Some (sym (ap (λ (p : F × ℕ). p.1) folds)))
    reads_number [] (Some x) s u n a j r small yields folds ends =
        let stops = subst (λ (p : F × ℕ). Stops E p r x) (sym folds) ends in
        let read = calls n x stops.0 stops.1 stops.3 in
        let none = reads_none n x.now (iter_rest u) r (subst (ReadsDigit n x.now) stops.4 read.1) stops.5 in
        subst (λ ds. Reads n ds r) (sym (ap iter_rest yields.1 ∙ yields.2)) none
    reads_number (x ∷ xs) o s u n a j r small yields folds ends =
        let next = folds.0 in
        let read = calls n x folds.1.0 next.0 folds.1.1 in
        let digit = subst (ReadsDigit n x.now) folds.1.2 read.1 in
        let left = subst (λ h. FoldsTo {P = F × ℕ} GoesOn (h, next.1) xs (j, a)) read.0 folds.2 in
        let more = reads_number xs o yields.1.0 u next.1 a j r (omega (arith, digit.0.1, digit.1))
        (yields.0, yields.1.2, yields.2) left ends in
        subst (λ ds. Reads n ds r) (sym yields.1.1) (reads_more n x.now next.1 (iter_rest yields.1.0) r digit more)
