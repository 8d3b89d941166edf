-- What is accepted is the spelling of its value, and each spelling is accepted.
use Rattle.std.proofs.Common.{◌≡◌, ℕ, zero, suc, ◌+◌, ◌-◌, ◌*◌, ◌/◌, ◌%◌, ◌^◌, ◌<◌, ◌≤◌, ◌⊎◌, List, [], ◌∷◌, ◌++◌, length, drop, Ok, Err, Result, sym, refl, ap, ◌∙◌, inl, inr, arith}
use Rattle.std.proofs.lemmas.List.{append_assoc, append_cancel_left, length-append, length-drop, drop-drop, drop_at, get_or-drop}
use Rattle.std.proofs.lemmas.Bool.{cases_lt}
use Rattle.std.proofs.lemmas.Bool.Decides.{nat_tests}
use Rattle.turn_file.specs.declared.fault.NumberFault.{NumberFault}
use Rattle.turn_file.specs.declared.number.Group.{Group}
use Rattle.turn_file.specs.declared.number.Group.TheVariants.{Last, More}
use Rattle.turn_file.specs.Number.{group_of, group_before, judged, groups, number_at}
use Rattle.turn_file.specs.Spelling.{spell_in, spell, Bytes, Stands, Spelled, OneSpelling}
use Rattle.turn_file.proofs.Groups.{last_holds, more_holds, is_last, is_more}

abbrev Read : Type 0
Read = Result (ℕ × ℕ) NumberFault

-- what `left` groups hold is below this: the last of five holds four bits
abbrev pub limit : ℕ → ℕ
limit zero = 0
limit (suc zero) = 16
limit (suc (suc left)) = 128 * limit (suc left)

pub limit_more : (left : ℕ) → 0 < left → limit (suc left) ≡ 128 * limit left
limit_more zero some = absurd (omega arith)
limit_more (suc left) some = refl

limit_some : (left : ℕ) → 0 < left → 16 ≤ limit left
limit_some zero some = absurd (omega arith)
limit_some (suc zero) some = omega arith
limit_some (suc (suc left)) some = omega (arith, limit_some (suc left) (omega arith))

pub limit_wide : (left : ℕ) → 128 < limit (suc left) → 0 < left
limit_wide zero wide = absurd (omega arith)
limit_wide (suc left) wide = omega arith

-- a spelling of one group, and one of more
pub spell_last : (left v : ℕ) → v < 128 → spell_in (suc left) v ≡ v ∷ []
spell_last left v last = grind (arith, nat_tests)

pub spell_more : (left v : ℕ) → 128 ≤ v → spell_in (suc left) v ≡ (128 + v % 128) ∷ spell_in left (v / 128)
spell_more left v more = grind (arith, nat_tests)

-- a byte before the spelling of what stands behind it
spell_before : (left b v : ℕ) → 128 ≤ b → b < 256 → 0 < v →
    spell_in (suc left) (b - 128 + 128 * v) ≡ b ∷ spell_in left v
spell_before left b v more byte some =
    let low : 128 + (b - 128 + 128 * v) % 128 ≡ b = omega arith in
    let high : (b - 128 + 128 * v) / 128 ≡ v = omega arith in
    spell_more left (b - 128 + 128 * v) (omega arith)
    ∙ ap (λ x. x ∷ spell_in left ((b - 128 + 128 * v) / 128)) low
    ∙ ap (λ x. b ∷ spell_in left x) high

-- the two ways to accept a byte: it is the last, or others follow
judged_ok : (at left next b : ℕ) (g : Result Group NumberFault) (r : Read) (n : ℕ × ℕ) → g ≡ group_of at b left →
    judged next b g r ≡ Ok n →
    ((b < 128) × (b ≡ 0 → 4 ≤ left) × (left ≡ 0 → b < 16) × (n ≡ (b, next)))
    ⊎ ((128 ≤ b) × (0 < left) × (group_before b r ≡ Ok n))
judged_ok at left next b (Ok Last) r n is ok = let h = last_holds at b left is in inl (h.0, h.1, h.2, cc)
judged_ok at left next b (Ok More) r n is ok = let h = more_holds at b left is in inr (h.0, h.1, ok)
judged_ok at left next b (Err e) r n is ok = cc

-- the bytes begin with the spelling of what was read of them in at most `left` groups
record ReadAs (left next : ℕ) (bytes : List ℕ) (n : ℕ × ℕ) : Type 0 where
  below : n.0 < limit left
  some : left < 5 → 0 < n.0
  rest : List ℕ
  spelled : bytes ≡ spell_in left n.0 ++ rest
  after : n.1 ≡ next + length (spell_in left n.0)

-- the last group, and a group before others
read_last : (left next b : ℕ) (bytes : List ℕ) → b < 128 → (b ≡ 0 → 4 ≤ left) → (left ≡ 0 → b < 16) →
    ReadAs (suc left) next (b ∷ bytes) (b, next + 1)
read_last left next b bytes last shortest fits =
    let one : spell_in (suc left) b ≡ b ∷ [] = spell_last left b last in
    record {
      below = under left fits;
      some = λ later. grind arith;
      rest = bytes;
      spelled = ap (λ xs. xs ++ bytes) (sym one);
      after = ap (λ xs. next + length xs) (sym one);
    }
  where
    under : (left : ℕ) → (left ≡ 0 → b < 16) → b < limit (suc left)
    under zero fits = fits refl
    under (suc left) fits = omega (arith, limit_some (suc left) (omega arith))

read_more : (left next b : ℕ) (bytes : List ℕ) (m : ℕ × ℕ) → left < 5 → 0 < left → 128 ≤ b → b < 256 →
    ReadAs left (next + 1) bytes m → ReadAs (suc left) next (b ∷ bytes) (b - 128 + 128 * m.0, m.1)
read_more left next b bytes m most behind more byte read =
    let some : 0 < m.0 = read.some most in
    let spells = spell_before left b m.0 more byte some in
    record {
      below = omega (arith, limit_more left behind);
      some = λ later. omega arith;
      rest = read.rest;
      spelled = ap (λ xs. b ∷ xs) read.spelled ∙ ap (λ xs. xs ++ read.rest) (sym spells);
      after = omega (arith, ap length spells);
    }

before_ok : (b : ℕ) (r : Read) (n : ℕ × ℕ) → group_before b r ≡ Ok n →
    (m : ℕ × ℕ) × (r ≡ Ok m) × (n ≡ (b - 128 + 128 * m.0, m.1))
before_ok b (Ok m) n ok = (m, refl, cc)
before_ok b (Err e) n ok = cc

-- what at most `left` groups are read as
groups_read : (at left next : ℕ) (bytes : List ℕ) (n : ℕ × ℕ) → left ≤ 5 → Bytes bytes →
    groups at left next bytes ≡ Ok n → ReadAs left next bytes n
groups_read at zero next bytes n most each ok = cc
groups_read at (suc left) next [] n most each ok = cc
groups_read at (suc left) next (b ∷ bytes) n most each ok =
    elim (judged_ok at left (next + 1) b (group_of at b left) (groups at left (next + 1) bytes) n refl ok) [
      | inl h ↦ rw h.3 (read_last left next b bytes h.0 h.1 h.2)
      | inr h ↦
          let p = before_ok b (groups at left (next + 1) bytes) n h.2 in
          let read : ReadAs left (next + 1) bytes p.0 =
          groups_read at left (next + 1) bytes p.0 (omega arith) (λ i. each (suc i)) p.1 in
          rw p.2 (read_more left next b bytes p.0 (omega arith) h.1 h.0 (each 0) read)
    ]

-- a spelling in at most `left` groups is read: its last group, and one that others follow
spelled_last : (at left next v : ℕ) (r : Read) → v < 128 → v < limit (suc left) → (suc left < 5 → 0 < v) →
    judged next v (group_of at v left) r ≡ Ok (v, next)
spelled_last at left next v r last below some =
    ap (λ g. judged next v g r)
    (is_last at v left last (shortest left some) (λ fifth. fifth_holds left below fifth))
  where
    shortest : (left : ℕ) → (suc left < 5 → 0 < v) → v ≡ 0 → 4 ≤ left
    shortest left some zero_value =
        elim (cases_lt left 4) [ inl few ↦ absurd (let k = some (omega arith) in omega arith) | inr enough ↦ enough ]

    fifth_holds : (left : ℕ) → v < limit (suc left) → left ≡ 0 → v < 16
    fifth_holds zero below fifth = below
    fifth_holds (suc left) below fifth = absurd (omega arith)

spelled_more : (at left next v to : ℕ) (r : Read) → 0 < left → r ≡ Ok (v / 128, to) →
    judged next (128 + v % 128) (group_of at (128 + v % 128) left) r ≡ Ok (v, to)
spelled_more at left next v to r behind is =
    let whole : 128 + v % 128 - 128 + 128 * (v / 128) ≡ v = omega arith in
    ap (λ g. judged next (128 + v % 128) g r) (is_more at (128 + v % 128) left (omega arith) behind)
    ∙ ap (group_before (128 + v % 128)) is
    ∙ ap (λ x. Ok (x, to)) whole

groups_spelled : (at left next v : ℕ) (rest : List ℕ) → left ≤ 5 → v < limit left → (left < 5 → 0 < v) →
    groups at left next (spell_in left v ++ rest) ≡ Ok (v, next + length (spell_in left v))
groups_spelled at zero next v rest most below some = absurd (omega arith)
groups_spelled at (suc left) next v rest most below some =
    elim (cases_lt v 128) [
      | inl last ↦
          rw (spell_last left v last)
          (spelled_last at left (next + 1) v (groups at left (next + 1) rest) last below some)
      | inr more ↦
          let high : ℕ = v / 128 in
          let size : ℕ = length (spell_in left high) in
          let behind : 0 < left = limit_wide left (omega arith) in
          let below_high : high < limit left = omega (arith, limit_more left behind) in
          let some_high : left < 5 → 0 < high = λ later. omega arith in
          let read = groups_spelled at left (next + 1) high rest (omega arith) below_high some_high in
          let after : next + 1 + size ≡ next + suc size = omega arith in
          rw (spell_more left v more)
          (spelled_more at left (next + 1) v (next + suc size) _ behind (read ∙ ap (λ to. Ok (high, to)) after))
    ]

-- what is read ends past its first place, and within the bytes
groups_within : (at left next : ℕ) (bytes : List ℕ) (n : ℕ × ℕ) → groups at left next bytes ≡ Ok n →
    (next < n.1) × (n.1 ≤ next + length bytes)
groups_within at zero next bytes n ok = cc
groups_within at (suc left) next [] n ok = cc
groups_within at (suc left) next (b ∷ bytes) n ok =
    elim (judged_ok at left (next + 1) b (group_of at b left) (groups at left (next + 1) bytes) n refl ok) [
      | inl h ↦ (omega (arith, ap (λ m. m.1) h.3), omega (arith, ap (λ m. m.1) h.3))
      | inr h ↦
          let p = before_ok b (groups at left (next + 1) bytes) n h.2 in
          let w = groups_within at left (next + 1) bytes p.0 p.1 in
          (omega (arith, ap (λ m. m.1) p.2, w.0), omega (arith, ap (λ m. m.1) p.2, w.1))
    ]

pub number_within : (file : List ℕ) (at : ℕ) (n : ℕ × ℕ) → number_at file at ≡ Ok n →
    (at < n.1) × (n.1 ≤ length file)
number_within file at n ok =
    let w = groups_within at 5 at (drop at file) n ok in
    (w.0, omega (arith, w.0, w.1, length-drop at file))

pub spell_short : (v : ℕ) → v < 128 → spell v ≡ v ∷ []
spell_short v small = spell_last 4 v small

-- nothing stands at each place, and what stands side by side stands together
pub stands_none : (file : List ℕ) (a : ℕ) → Stands [] file a a
stands_none file a = record { begins = refl; ends = omega arith }

pub stands_both : {xs ys file : List ℕ} {a b c : ℕ} → Stands xs file a b → Stands ys file b c →
    Stands (xs ++ ys) file a c
stands_both {xs} {ys} {file} {a} {b} {c} x y = record {
  begins = x.begins ∙ ap (λ zs. xs ++ zs) y.begins ∙ sym (append_assoc xs ys (drop c file));
  ends = omega (arith, length-append xs ys);
}

-- what the bytes from a place on begin with stands at that place
stands_from : (xs rest file : List ℕ) (at to : ℕ) → drop at file ≡ xs ++ rest → to ≡ at + length xs →
    Stands xs file at to
stands_from xs rest file at to is after =
    let past : drop to file ≡ rest =
    ap (λ k. drop k file) after
    ∙ sym (drop-drop (length xs) at file)
    ∙ ap (drop (length xs)) is
    ∙ drop_at xs rest (length xs) refl in
    record { begins = is ∙ ap (λ zs. xs ++ zs) (sym past); ends = after }

-- what stands together stands side by side
pub stands_split : (xs ys file : List ℕ) (a c : ℕ) → Stands (xs ++ ys) file a c →
    Stands xs file a (a + length xs) × Stands ys file (a + length xs) c
stands_split xs ys file a c s =
    let first = stands_from xs (ys ++ drop c file) file a (a + length xs)
    (s.begins ∙ append_assoc xs ys (drop c file)) refl in
    let behind = append_cancel_left xs (drop (a + length xs) file) (ys ++ drop c file)
    (sym first.begins ∙ s.begins ∙ append_assoc xs ys (drop c file)) in
    (first, record { begins = behind; ends = omega (arith, s.ends, length-append xs ys) })

-- what is accepted is the spelling of its value
pub number_spelled : (file : List ℕ) (at : ℕ) (n : ℕ × ℕ) → Bytes file → number_at file at ≡ Ok n →
    (n.0 < 2 ^ 32) × Stands (spell n.0) file at n.1
number_spelled file at n each ok =
    let bytes : Bytes (drop at file) = λ i. rw (get_or-drop at file i 0) (each (at + i)) in
    let read : ReadAs 5 at (drop at file) n = groups_read at 5 at (drop at file) n (omega arith) bytes ok in
    (omega (arith, read.below), stands_from (spell n.0) read.rest file at n.1 read.spelled read.after)

-- a spelling is accepted where it stands
pub spelled_number : (file : List ℕ) (at v to : ℕ) → v < 2 ^ 32 → Stands (spell v) file at to →
    number_at file at ≡ Ok (v, to)
spelled_number file at v to small stands =
    ap (groups at 5 at) stands.begins
    ∙ groups_spelled at 5 at v (drop to file) (omega arith) (omega arith) (λ later. absurd (omega arith))
    ∙ ap (λ x. Ok (v, x)) (sym stands.ends)

-- where a number is refused, no spelling stands
pub refused_unspelled : (file : List ℕ) (at : ℕ) (fault : NumberFault) → number_at file at ≡ Err fault →
    (v to : ℕ) → v < 2 ^ 32 → Stands (spell v) file at to → ⊥
refused_unspelled file at fault err v to small stands =
    cc (spelled_number file at v to small stands)

-- a spelling is of bytes
bytes_more : (b : ℕ) (xs : List ℕ) → b < 256 → Bytes xs → Bytes (b ∷ xs)
bytes_more b xs byte each zero = byte
bytes_more b xs byte each (suc i) = each i

spell_bytes : (left v : ℕ) → Bytes (spell_in left v)
spell_bytes zero v = λ i. omega arith
spell_bytes (suc left) v =
    elim (cases_lt v 128) [
      | inl last ↦ rw (spell_last left v last) (bytes_more v [] (omega arith) (λ i. omega arith))
      | inr more ↦ rw (spell_more left v more) (bytes_more _ _ (omega arith) (spell_bytes left (v / 128)))
    ]

-- so what a reader answers is told by what stands there
pub read_spelled : (file : List ℕ) (at : ℕ) (r : Read) → Bytes file → r ≡ number_at file at → Spelled (2 ^ 32) file at r
read_spelled file at r each is = record {
  accepted = λ n ok. number_spelled file at n each (sym is ∙ ok);
  accepts = λ v to small stands. is ∙ spelled_number file at v to small stands;
  refused = λ fault err. refused_unspelled file at fault (sym is ∙ err);
}

pub one_spelling : OneSpelling (2 ^ 32)
one_spelling = record {
  bytes = λ v. spell_bytes 5 v;
  read = λ file at each. read_spelled file at (number_at file at) each refl;
  one = λ file at v to w end small_v small_w stands_v stands_w.
      let is_v = spelled_number file at v to small_v stands_v in
      let is_w = spelled_number file at w end small_w stands_w in
      let same : ◌≡◌ {A = ℕ × ℕ} (v, to) (w, end) = cc in
      ap (λ n. n.0) same;
}
