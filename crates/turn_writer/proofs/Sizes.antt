-- How far a number, a level and a script reach.
use Rattle.std.proofs.Common.{◌≡◌, ℕ, zero, suc, ◌+◌, ◌*◌, ◌/◌, ◌≤◌, false, List, [], ◌∷◌, length, Ok, sym, inl, inr, arith}
use Rattle.std.proofs.lemmas.Bool.Decides.{nat_tests, eqb_tells}
use Rattle.std.proofs.lemmas.List.{length-take}
use Rattle.turn_file.specs.declared.field.Field.{Field}
use Rattle.turn_file.specs.declared.field.Field.TheVariants.{LevelCount, FanOut, HandoffLimit, ScriptNumber}
use Rattle.turn_file.specs.declared.plan.Level.{Level}
use Rattle.turn_file.specs.declared.plan.Script.{Script}
use Rattle.turn_file.specs.Plan.{PlanNumbers, used_levels, workers_of, used_scripts}
use Rattle.turn_file.specs.Algorithm.{algorithm_number}
use Rattle.turn_file.specs.Field.{field_refuses, field_fault}
use Rattle.turn_file.specs.Spelling.{spell_in, spell}
use Rattle.turn_file.proofs.Fields.{bind_ok, fan_out_fits}
use Rattle.turn_file.proofs.Refusals.{kept}
use Rattle.turn_writer.specs.Judgement.{past, past_field, past_limit, past_level, past_levels, past_script, past_scripts, past_header}

groups_few : (left v : ℕ) → length (spell_in left v) ≤ left
groups_few zero v = omega arith
groups_few (suc left) v = grind (arith, nat_tests, groups_few left (v / 128))

-- a number takes at most five bytes
pub spell_few : (v : ℕ) → length (spell v) ≤ 5
spell_few v = groups_few 5 v

-- a number that was not refused
pub field_fits : (field : Field) (n at next : ℕ) → past_field field n at ≡ Ok next →
    (field_refuses field n ≡ false) × (next ≡ past n at)
field_fits field n at next e =
    let k = kept (field_refuses field n) (field_fault field at) (past n at) next e in (k.0, sym k.1)

-- it takes at most five bytes
pub field_near : (field : Field) (n at next : ℕ) → past_field field n at ≡ Ok next → next ≤ at + 5
field_near field n at next is = omega (arith, (field_fits field n at next is).1, spell_few n)

limit_near : (rank n at next : ℕ) → past_limit rank n at ≡ Ok next → next ≤ at + 5
limit_near rank n at next e =
    elim (eqb_tells rank 0) [
      | inl t ↦ let is = simp t.0 at e in let same : at ≡ next = cc in omega arith
      | inr t ↦ field_near HandoffLimit n at next (simp t.0 at e)
    ]

-- a level that was not refused
pub level_near : (rank parties : ℕ) (l : Level) (at next : ℕ) → past_level rank parties l at ≡ Ok next →
    (next ≤ at + 15) × (parties * l.fan_out ≤ 64)
level_near rank parties l at next e =
    let b = bind_ok (past_field (FanOut parties) l.fan_out (past (algorithm_number l.algorithm) at)) _ next e in
    let f = field_fits (FanOut parties) l.fan_out _ b.0 b.1 in
    let fits = fan_out_fits parties l.fan_out f.0 in
    let h = limit_near rank l.handoff_limit b.0 next b.2 in (
      omega (arith, f.1, h, spell_few (algorithm_number l.algorithm), spell_few l.fan_out),
      fits.1,
    )

pub script_near : (s : Script) (at next : ℕ) → past_script s at ≡ Ok next → next ≤ at + 15
script_near s at next e =
    let t = bind_ok (past_field ScriptNumber s.turns at) _ next e in
    let r = bind_ok (past_field ScriptNumber s.rest t.0) _ next t.2 in
    omega (
      arith,
      field_near ScriptNumber s.turns at t.0 t.1,
      field_near ScriptNumber s.rest t.0 r.0 r.1,
      field_near ScriptNumber s.hold r.0 next r.2,
    )

pub levels_near : (rank parties : ℕ) (ls : List Level) (at next : ℕ) → past_levels rank parties ls at ≡ Ok next →
    next ≤ at + 15 * length ls
levels_near rank parties [] at next is = let same : at ≡ next = cc in omega arith
levels_near rank parties (l ∷ ls) at next is =
    let b = bind_ok (past_level rank parties l at) _ next is in
    let one = level_near rank parties l at b.0 b.1 in
    omega (arith, one.0, levels_near (rank + 1) (parties * l.fan_out) ls b.0 next b.2)

scripts_near : (ss : List Script) (at next : ℕ) → past_scripts ss at ≡ Ok next → next ≤ at + 15 * length ss
scripts_near [] at next is = let same : at ≡ next = cc in omega arith
scripts_near (s ∷ ss) at next is =
    let b = bind_ok (past_script s at) _ next is in
    omega (arith, script_near s at b.0 b.1, scripts_near ss b.0 next b.2)

-- all that stands before the count of entries
pub header_near : (p : PlanNumbers) (next : ℕ) → length p.levels ≡ 4 → length p.scripts ≡ 64 →
    past_header p ≡ Ok next → next ≤ 1025
header_near p next four sixty_four is =
    let a = bind_ok (past_field LevelCount p.count 0) _ next is in
    let b = bind_ok (past_levels 0 1 (used_levels p) a.0) _ next a.2 in
    omega (
      arith,
      four,
      sixty_four,
      field_near LevelCount p.count 0 a.0 a.1,
      levels_near 0 1 (used_levels p) a.0 b.0 b.1,
      scripts_near (used_scripts p) b.0 next b.2,
      length-take p.count p.levels,
      length-take (workers_of p) p.scripts,
    )
