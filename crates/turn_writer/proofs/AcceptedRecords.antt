-- Records that are not refused come in order, and reach as far as their spelling.
use Rattle.std.proofs.Common.{◌≡◌, ℕ, ◌+◌, ◌*◌, ◌<◌, ◌≤◌, cond, eqb, ◌⊎◌, List, [], ◌∷◌, ◌++◌, length, Ok, fold, sym, refl, ap, ◌∙◌, subst, inl, inr, arith, length-append}
use native.Mathlib.Nat.{one-le-mul}
use Rattle.std.proofs.lemmas.Bool.Decides.{nat_tests, eqb_tells}
use Rattle.std.specs.List.{flat_map, AllByRecursion}
use Rattle.turn_file.specs.declared.field.Field.TheVariants.{FanOut, HandoffLimit, ScriptNumber, Entry}
use Rattle.turn_file.specs.declared.plan.Level.{Level}
use Rattle.turn_file.specs.declared.plan.Script.{Script}
use Rattle.turn_file.specs.declared.step.Stage.{Stage}
use Rattle.turn_file.specs.declared.step.Stage.TheVariants as stage
use Rattle.turn_file.specs.Plan.{lanes_below}
use Rattle.turn_file.specs.Order.{ScriptFits, Comes, InOrder}
use Rattle.turn_file.specs.Reading.{Item, level, after_level, after_script}
use Rattle.turn_file.specs.Algorithm.{algorithm_number}
use Rattle.turn_file.specs.Spelling.{spell}
use Rattle.turn_file.proofs.Fields.{bind_ok, fan_out_fits}
use Rattle.turn_writer.specs.Judgement.{past, past_field, past_limit, past_level, past_levels, past_script, past_scripts, past_entries}
use Rattle.turn_writer.specs.Records.{used_level, level_records, script_records, level_spelling, script_spelling, levels_spelling, scripts_spelling}
use Rattle.turn_writer.proofs.Sizes.{field_fits}
use Rattle.turn_writer.proofs.Stages.{after_level_more, after_level_last, after_script_more, after_script_last}

pub in_order_both : (from : Stage) (xs ys : List Item) (mid to : Stage) → InOrder from xs mid → InOrder mid ys to →
    InOrder from (xs ++ ys) to
in_order_both from [] ys mid to same order = subst (λ g. InOrder g ys to) (sym same) order
in_order_both from (x ∷ xs) ys mid to (next, comes, rest) order =
    (next, comes, in_order_both next xs ys mid to rest order)

limit_fits : (rank n at next : ℕ) → past_limit rank n at ≡ Ok next →
    (((rank ≡ 0) × (cond (eqb rank 0) 0 n ≡ 0))
    ⊎ ((rank ≡ 0 → ⊥) × (1 ≤ cond (eqb rank 0) 0 n) × (cond (eqb rank 0) 0 n ≤ 65535)))
    × (next ≡ at + length (cond (eqb rank 0) [] (spell (cond (eqb rank 0) 0 n))))
limit_fits rank n at next is =
    elim (eqb_tells rank 0) [
      | inl t ↦
          let e = simp t.0 at is in
          let here : at ≡ next = cc in
          simp t.0 (inl (t.1, refl), omega arith)
      | inr t ↦
          let k = field_fits HandoffLimit n at next (simp t.0 at is) in
          let fits = k.0 in
          let some : 1 ≤ n = grind (arith, nat_tests) in
          let few : n ≤ 65535 = grind (arith, nat_tests) in
          simp t.0 (inr (t.1, some, few), k.1)
    ]

-- a level that is not refused
pub level_comes : (rank count parties : ℕ) (l : Level) (at next : ℕ) → past_level rank parties l at ≡ Ok next →
    Comes (stage.Level rank count parties) (level rank (used_level rank l))
    (after_level rank count (parties * l.fan_out))
    × (next ≡ at + length (level_spelling rank l)) × (1 ≤ l.fan_out) × (parties * l.fan_out ≤ 64)
level_comes rank count parties l at next is =
    let b = bind_ok (past_field (FanOut parties) l.fan_out (past (algorithm_number l.algorithm) at)) _ next is in
    let f = field_fits (FanOut parties) l.fan_out _ b.0 b.1 in
    let fits = fan_out_fits parties l.fan_out f.0 in
    let h = limit_fits rank l.handoff_limit b.0 next b.2 in (
      (used_level rank l, refl, record { some = fits.0; few = fits.1; limit = h.0 }, refl),
      omega (arith, f.1, h.1, length-append {A = ℕ}),
      fits.0,
      fits.1,
    )

-- the workers of levels below so many parties
abbrev pub product : ℕ → List Level → ℕ
product parties ls = fold (λ n l. n * l.fan_out) parties ls

-- levels that are not refused reach as far as their spelling
pub levels_reach : (rank parties : ℕ) (ls : List Level) (at next : ℕ) → past_levels rank parties ls at ≡ Ok next →
    next ≡ at + length (levels_spelling rank ls)
levels_reach rank parties [] at next is = let here : at ≡ next = cc in omega arith
levels_reach rank parties (l ∷ ls) at next is =
    let b = bind_ok (past_level rank parties l at) _ next is in
    let k = level_comes rank 0 parties l at b.0 b.1 in
    omega (arith, k.1, levels_reach (rank + 1) (parties * l.fan_out) ls b.0 next b.2, length-append {A = ℕ})

-- they come in order, and the scripts of their workers after them
pub levels_come : (rank count parties : ℕ) (l : Level) (ls : List Level) (at next : ℕ) →
    rank + length (l ∷ ls) ≡ count → past_levels rank parties (l ∷ ls) at ≡ Ok next →
    InOrder (stage.Level rank count parties) (level_records rank (l ∷ ls)) (stage.Script 0 (product parties (l ∷ ls)))
levels_come rank count parties l [] at next counted is =
    let b = bind_ok (past_level rank parties l at) _ next is in
    let k = level_comes rank count parties l at b.0 b.1 in
    let below : ℕ = parties * l.fan_out in
    let then = after_level_last rank count below (omega arith) in
    (after_level rank count below, k.0, then)
levels_come rank count parties l (m ∷ ms) at next counted is =
    let b = bind_ok (past_level rank parties l at) _ next is in
    let k = level_comes rank count parties l at b.0 b.1 in
    let below : ℕ = parties * l.fan_out in
    let then = after_level_more rank count below (omega arith) in
    let rest = levels_come (rank + 1) count below m ms b.0 next (omega arith) b.2 in (
      after_level rank count below,
      k.0,
      subst (λ g. InOrder g (level_records (rank + 1) (m ∷ ms)) (stage.Script 0 (product parties (l ∷ m ∷ ms))))
          (sym then) rest,
    )

-- what levels that are not refused have of workers
pub workers_few : (rank parties : ℕ) (ls : List Level) (at next : ℕ) → 1 ≤ parties → parties ≤ 64 →
    past_levels rank parties ls at ≡ Ok next →
    (1 ≤ product parties ls) × (product parties ls ≤ 64) × (fold lanes_below parties ls ≡ product parties ls)
workers_few rank parties [] at next some few is = (some, few, refl)
workers_few rank parties (l ∷ ls) at next some few is =
    let b = bind_ok (past_level rank parties l at) _ next is in
    let k = level_comes rank 0 parties l at b.0 b.1 in
    let now : lanes_below parties l ≡ parties * l.fan_out = omega (arith, k.3) in
    let rest = workers_few (rank + 1) (parties * l.fan_out) ls b.0 next (one-le-mul some k.2) k.3 b.2 in
    (rest.0, rest.1, ap (λ n. fold lanes_below n ls) now ∙ rest.2)

script_number_fits : (n at next : ℕ) → past_field ScriptNumber n at ≡ Ok next → (n ≤ 65535) × (next ≡ past n at)
script_number_fits n at next is =
    let k = field_fits ScriptNumber n at next is in
    let fits = k.0 in
    (grind (arith, nat_tests), k.1)

-- a script that is not refused
pub script_fits : (s : Script) (at next : ℕ) → past_script s at ≡ Ok next → ScriptFits s
    × (next ≡ at + length (script_spelling s))
script_fits s at next is =
    let t = bind_ok (past_field ScriptNumber s.turns at) _ next is in
    let r = bind_ok (past_field ScriptNumber s.rest t.0) _ next t.2 in
    let turns = script_number_fits s.turns at t.0 t.1 in
    let rest = script_number_fits s.rest t.0 r.0 r.1 in
    let hold = script_number_fits s.hold r.0 next r.2 in (
      record { turns = turns.0; rest = rest.0; hold = hold.0 },
      omega (arith, turns.1, rest.1, hold.1, length-append {A = ℕ}),
    )

-- scripts that are not refused reach as far as their spelling
pub scripts_reach : (worker : ℕ) (ss : List Script) (at next : ℕ) → past_scripts ss at ≡ Ok next →
    next ≡ at + length (scripts_spelling worker ss)
scripts_reach worker [] at next is = let here : at ≡ next = cc in omega arith
scripts_reach worker (s ∷ ss) at next is =
    let b = bind_ok (past_script s at) _ next is in
    let k = script_fits s at b.0 b.1 in
    omega (arith, k.1, scripts_reach (worker + 1) ss b.0 next b.2, length-append {A = ℕ})

-- they come in order, and the schedule after them
pub scripts_come : (worker workers : ℕ) (s : Script) (ss : List Script) (at next : ℕ) →
    worker + length (s ∷ ss) ≡ workers → past_scripts (s ∷ ss) at ≡ Ok next →
    InOrder (stage.Script worker workers) (script_records worker (s ∷ ss)) (stage.Schedule workers)
scripts_come worker workers s [] at next counted is =
    let b = bind_ok (past_script s at) _ next is in
    let k = script_fits s at b.0 b.1 in
    let then = after_script_last worker workers (omega arith) in
    (after_script worker workers, (s, refl, k.0, refl), then)
scripts_come worker workers s (t ∷ ts) at next counted is =
    let b = bind_ok (past_script s at) _ next is in
    let k = script_fits s at b.0 b.1 in
    let then = after_script_more worker workers (omega arith) in
    let rest = scripts_come (worker + 1) workers t ts b.0 next (omega arith) b.2 in (
      after_script worker workers,
      (s, refl, k.0, refl),
      subst (λ g. InOrder g (script_records (worker + 1) (t ∷ ts)) (stage.Schedule workers)) (sym then) rest,
    )

-- entries that are not refused
pub entries_come : (workers : ℕ) (es : List ℕ) (at next : ℕ) → past_entries workers es at ≡ Ok next →
    AllByRecursion (λ e. e < workers) es × (next ≡ at + length (flat_map spell es))
entries_come workers [] at next is = let done : at ≡ next = cc in (tt, omega arith)
entries_come workers (e ∷ es) at next is =
    let b = bind_ok (past_field (Entry workers) e at) _ next is in
    let k = field_fits (Entry workers) e at b.0 b.1 in
    let fits = k.0 in
    let rest = entries_come workers es b.0 next b.2 in (
      (grind (arith, nat_tests), rest.0),
      omega (arith, k.1, rest.1, length-append {A = ℕ}),
    )
