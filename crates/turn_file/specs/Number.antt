-- The number that a reader finds at a place of the file.
use Rattle.std.specs.Prelude.{ℕ, zero, suc, ◌+◌, ◌-◌, ◌*◌, cond, ◌&&◌, List, [], ◌∷◌, drop, Ok, Err, Result, ◌==◌, nat_le, nat_lt}
use Rattle.turn_file.specs.declared.number.Group.{Group}
use Rattle.turn_file.specs.declared.number.Group.TheVariants.{Last, More}
use Rattle.turn_file.specs.declared.fault.NumberFault.{NumberFault}
use Rattle.turn_file.specs.declared.fault.NumberFault.TheVariants.{Ends, Padded, TooLarge}

-- What a byte is, behind which at most `left` groups may come, in a number that begins at `at`: only a number of one
-- group may end in 00, the fifth group holds four bits, and the top bit is set where another group follows.
abbrev pub group_of : ℕ → ℕ → ℕ → Result Group NumberFault
group_of at b left =
    cond (b == 0 && nat_lt left 4) (Err (Padded at))
    (cond (nat_le 16 b && left == 0) (Err (TooLarge at))
    (cond (nat_lt b 128) (Ok Last) (Ok More)))

-- a group before what was read of the groups behind it
abbrev pub group_before : ℕ → Result (ℕ × ℕ) NumberFault → Result (ℕ × ℕ) NumberFault
group_before b (Ok n) = Ok (b - 128 + 128 * n.0, n.1)
group_before b (Err e) = Err e

-- a byte before the place `next`, and what was read of the groups behind it
abbrev pub judged : ℕ → ℕ → Result Group NumberFault → Result (ℕ × ℕ) NumberFault → Result (ℕ × ℕ) NumberFault
judged next b (Ok Last) behind = Ok (b, next)
judged next b (Ok More) behind = group_before b behind
judged next b (Err e) behind = Err e

-- at most `left` groups, from the place `next` on, of a number that begins at `at`: each byte is judged as it comes
abbrev pub groups : ℕ → ℕ → ℕ → List ℕ → Result (ℕ × ℕ) NumberFault
groups at zero next bytes = Err (TooLarge at)
groups at (suc left) next [] = Err (Ends at)
groups at (suc left) next (b ∷ bytes) = judged (next + 1) b (group_of at b left) (groups at left (next + 1) bytes)

-- the number that begins at the place `at`: its value, and the place after it
abbrev pub number_at : List ℕ → ℕ → Result (ℕ × ℕ) NumberFault
number_at file at = groups at 5 at (drop at file)
