-- What is accepted lies within the file.
use Rattle.std.proofs.Common.{◌≡◌, ℕ, zero, suc, ◌<◌, ◌≤◌, List, length, Ok, ap, inl, inr, arith}
use Rattle.turn_file.specs.declared.plan.Level.{Level}
use Rattle.turn_file.specs.declared.plan.Script.{Script}
use Rattle.turn_file.specs.Record.{levels_at, limit_at, level_at, script_at, entry_at, entries_end, schedule_at}
use Rattle.turn_file.proofs.Fields.{bind_ok}
use Rattle.turn_file.proofs.Spelled.{number_within}
use Rattle.turn_file.proofs.Accepted.{limit_ok, level_ok, script_ok, levels_ok, entry_ok, schedule_ok}

limit_within : (rank : ℕ) (file : List ℕ) (at : ℕ) (n : ℕ × ℕ) → limit_at rank file at ≡ Ok n → at ≤ length file →
    (at ≤ n.1) × (n.1 ≤ length file)
limit_within rank file at n e before =
    elim (limit_ok rank file at n e) [
      | inl t ↦ let same = ap (λ (m : ℕ × ℕ). m.1) t.1 in (omega arith, omega arith)
      | inr t ↦ let w = number_within file at n t.1 in (omega arith, w.1)
    ]

-- something accepted takes a byte at least, and ends within the file
abbrev pub Takes : ℕ → ℕ → List ℕ → Type 0
Takes from to file = (from < to) × (to ≤ length file)

pub levels_take : (file : List ℕ) (at : ℕ) (n : ℕ × ℕ) → levels_at file at ≡ Ok n → Takes at n.1 file
levels_take file at n e = number_within file at n (levels_ok file at n e).0

pub level_takes : (rank parties : ℕ) (file : List ℕ) (at : ℕ) (l : Level × ℕ) → level_at rank parties file at ≡ Ok l →
    Takes at l.1 file
level_takes rank parties file at l e =
    let f = level_ok rank parties file at l e in
    let a = number_within file at _ f.algorithm in
    let w = number_within file f.at_fan_out _ f.fan_out in
    let h = limit_within rank file f.at_limit _ f.limit w.1 in
    (omega arith, h.1)

pub script_takes : (file : List ℕ) (at : ℕ) (s : Script × ℕ) → script_at file at ≡ Ok s → Takes at s.1 file
script_takes file at s e =
    let f = script_ok file at s e in
    let t = number_within file at _ f.turns.0 in
    let r = number_within file f.at_rest _ f.rest.0 in
    let h = number_within file f.at_hold _ f.hold.0 in
    (omega arith, h.1)

entries_within : (count workers : ℕ) (file : List ℕ) (at to : ℕ) → entries_end count workers file at ≡ Ok to →
    at ≤ length file → (at ≤ to) × (to ≤ length file)
entries_within zero workers file at to e before = let same : at ≡ to = cc in (omega arith, omega arith)
entries_within (suc count) workers file at to e before =
    let b = bind_ok (entry_at workers file at) _ to e in
    let w = number_within file at b.0 (entry_ok workers file at b.0 b.1).0 in
    let m = entries_within count workers file b.0.1 to b.2 w.1 in
    (omega arith, m.1)

-- the entries begin after the count
pub schedule_takes : (workers : ℕ) (file : List ℕ) (at : ℕ) (e : ℕ × ℕ) → schedule_at workers file at ≡ Ok e →
    (at < e.0) × (e.0 ≤ e.1) × (e.1 ≤ length file)
schedule_takes workers file at e h =
    let f = schedule_ok workers file at e h in
    let w = number_within file at _ f.counted in
    let m = entries_within f.count workers file e.0 e.1 f.entries w.1 in
    (w.0, m.0, m.1)
