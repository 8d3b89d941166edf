-- One turn of the loop that reads a number's groups.
use Rattle.std.proofs.Common.{inl, ◌≡◌, ℕ, zero, suc, ◌+◌, ◌-◌, ◌*◌, ◌<◌, ◌≤◌, ◌⊎◌, List, length, get_or, drop, Ok, Err, Result, sym, refl, ap, ◌∙◌, mul_assoc, mul_comm, add-mul, mul-add, arith}
use Rattle.std.proofs.lemmas.List.{drop_more, drop_all}
use Rattle.std.proofs.lemmas.Bool.Decides.{nat_tests}
use Rattle.turn_file.specs.declared.fault.NumberFault.{NumberFault}
use Rattle.turn_file.specs.declared.fault.NumberFault.TheVariants.{Ends}
use Rattle.turn_file.specs.declared.number.Group.{Group}
use Rattle.turn_file.specs.declared.number.Group.TheVariants.{Last, More}
use Rattle.turn_file.specs.Number.{group_of, group_before, judged, groups}

abbrev Read : Type 0
Read = Result (ℕ × ℕ) NumberFault

-- what was read of the groups behind, over a value whose groups so far fill places below `weight`
abbrev pub behind : ℕ → ℕ → Read → Read
behind value weight (Ok n) = Ok (value + n.0 * weight, n.1)
behind value weight (Err e) = Err e

pub behind_more : (value weight b : ℕ) (r : Read) →
    behind value weight (group_before b r) ≡ behind (value + (b - 128) * weight) (weight * 128) r
behind_more value weight b (Ok n) = ap (λ v. Ok (v, n.1)) (same (b - 128) n.0)
  where
    same : (x y : ℕ) → value + (x + 128 * y) * weight ≡ value + x * weight + y * (weight * 128)
    same x y = grind (arith, mul-add, add-mul, mul_assoc, mul_comm)
behind_more value weight b (Err e) = refl

-- how much the next group weighs where `left` groups may still come
abbrev pub Weighs : ℕ → ℕ → Type 0
Weighs left weight =
    ((left ≡ 5) × (weight ≡ 1))
    ⊎ (((left ≡ 4) × (weight ≡ 128))
    ⊎ (((left ≡ 3) × (weight ≡ 16384))
    ⊎ (((left ≡ 2) × (weight ≡ 2097152)) ⊎ ((left ≡ 1) × (weight ≡ 268435456)))))

weighs_more : (left weight : ℕ) → 1 < left → Weighs left weight → Weighs (left - 1) (weight * 128)
weighs_more left weight some weighs = grind arith

below_more : {value weight : ℕ} (x : ℕ) → x < 128 → value < weight → value + x * weight < weight * 128
below_more {value} {weight} x small below = grind (arith, mul-add, add-mul, mul_comm)

-- what a last group and a group before others hold
pub last_holds : (at b left : ℕ) → Ok Last ≡ group_of at b left → (b < 128) × (b ≡ 0 → 4 ≤ left) × (left ≡ 0 → b < 16)
last_holds at b left is =
    (grind (arith, nat_tests), λ zero_byte. grind (arith, nat_tests), λ fifth. grind (arith, nat_tests))

pub more_holds : (at b left : ℕ) → Ok More ≡ group_of at b left → (128 ≤ b) × (0 < left)
more_holds at b left is = (grind (arith, nat_tests), grind (arith, nat_tests))

pub is_last : (at b left : ℕ) → b < 128 → (b ≡ 0 → 4 ≤ left) → (left ≡ 0 → b < 16) → group_of at b left ≡ Ok Last
is_last at b left last shortest fits = grind (arith, nat_tests)

pub is_more : (at b left : ℕ) → 128 ≤ b → 0 < left → group_of at b left ≡ Ok More
is_more at b left more some = grind (arith, nat_tests)

-- The number is what its first groups hold, up to the byte at `index`, over what is read of the others.
pub record SoFar (number : Read) (at index value weight : ℕ) (bytes : List ℕ) : Type 0 where
  pub left : ℕ
  pub five : left + index ≡ 5
  pub number_is : number ≡ behind value weight (groups at left (at + index) (drop index bytes))
  pub below : value < weight
  pub weighs : Weighs left weight

pub at_first : (at : ℕ) (bytes : List ℕ) → SoFar (groups at 5 at bytes) at 0 0 1 bytes
at_first at bytes = record {
  left = 5;
  five = refl;
  number_is = ap (λ next. groups at 5 next bytes) (omega arith) ∙ same (groups at 5 (at + 0) bytes);
  below = omega arith;
  weighs = inl (refl, refl);
}
  where
    same : (r : Read) → r ≡ behind 0 1 r
    same (Ok n) = ap (λ v. Ok (v, n.1)) (omega arith)
    same (Err e) = refl

module _ {number : Read} {at index value weight : ℕ} {bytes : List ℕ} (s : SoFar number at index value weight bytes)
  where
    -- a byte is there, and is judged
    turn : (left : ℕ) → 0 < left → index < length bytes →
        groups at left (at + index) (drop index bytes)
        ≡ judged (at + index + 1) (get_or bytes index 0) (group_of at (get_or bytes index 0) (left - 1))
        (groups at (left - 1) (at + index + 1) (drop (index + 1) bytes))
    turn zero some within = absurd (omega arith)
    turn (suc left) some within =
        let less : suc left - 1 ≡ left = omega arith in rw (drop_more bytes index 0 within, less) refl

    -- a turn of the loop: what its byte is tells what the number is
    pub by_turn : (g : Result Group NumberFault) → index < length bytes →
        g ≡ group_of at (get_or bytes index 0) (4 - index) →
        number
        ≡ behind value weight (judged (at + index + 1) (get_or bytes index 0) g
        (groups at (s.left - 1) (at + index + 1) (drop (index + 1) bytes)))
    by_turn g within is =
        let weighs = s.weighs in
        let some : 0 < s.left = omega arith in
        let less : 4 - index ≡ s.left - 1 = omega (arith, s.five) in
        s.number_is ∙ ap (behind value weight) (turn s.left some within
        ∙ ap (λ h. judged (at + index + 1) (get_or bytes index 0) h
        (groups at (s.left - 1) (at + index + 1) (drop (index + 1) bytes)))
        (ap (group_of at (get_or bytes index 0)) (sym less) ∙ sym is))

    -- no byte is there
    turn_ends : (left : ℕ) → 0 < left → length bytes ≤ index →
        groups at left (at + index) (drop index bytes) ≡ Err (Ends at)
    turn_ends zero some past = absurd (omega arith)
    turn_ends (suc left) some past = rw (drop_all index bytes past) refl

    pub by_end : length bytes ≤ index → number ≡ Err (Ends at)
    by_end past =
        let weighs = s.weighs in
        s.number_is ∙ ap (behind value weight) (turn_ends s.left (omega arith) past)

    -- a group before others: the number is told by what is behind it
    pub so_far_more : get_or bytes index 0 < 256 → index < length bytes →
        Ok More ≡ group_of at (get_or bytes index 0) (4 - index) →
        SoFar number at (index + 1) (value + (get_or bytes index 0 - 128) * weight) (weight * 128) bytes
    so_far_more byte within is =
        let five = s.five in
        let weighs = s.weighs in
        let more = more_holds at (get_or bytes index 0) (4 - index) is in
        let next : at + index + 1 ≡ at + (index + 1) = omega arith in
        record {
          left = s.left - 1;
          five = omega arith;
          number_is = by_turn (Ok More) within is
              ∙ behind_more value weight (get_or bytes index 0) _
              ∙ ap (λ n. behind (value + (get_or bytes index 0 - 128) * weight) (weight * 128)
              (groups at (s.left - 1) n (drop (index + 1) bytes))) next;
          below = below_more (get_or bytes index 0 - 128) (omega arith) s.below;
          weighs = weighs_more s.left weight (omega arith) weighs;
        }
