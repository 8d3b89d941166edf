-- What an accepted field says: which number stands there, and that its value fits.
use Rattle.std.proofs.Common.{◌≡◌, ℕ, ◌*◌, ◌≤◌, false, cond, List, Ok, Err, Result, sym, refl, ap, ◌∙◌, arith}
use Rattle.std.proofs.lemmas.Bool.Decides.{nat_tests}
use Rattle.turn_file.specs.declared.field.Field.{Field}
use Rattle.turn_file.specs.Field.{field_kind, field_refuses, field_fault}
use Rattle.turn_file.proofs.Refusals.{kept}
use Rattle.turn_file.specs.declared.fault.NumberFault.{NumberFault}
use Rattle.turn_file.specs.declared.fault.RecordFault.{RecordFault}
use Rattle.turn_file.specs.declared.fault.RecordFault.TheVariants as fault
use Rattle.turn_file.specs.declared.fault.RecordKind.{RecordKind}
use Rattle.turn_file.specs.declared.fault.RecordKind.TheVariants as kind
use Rattle.turn_file.specs.declared.plan.Algorithm.{Algorithm}
use Rattle.turn_file.specs.declared.plan.Algorithm.TheVariants.{Ticket, Mcs}
use Rattle.turn_file.specs.Number.{number_at}
use Rattle.turn_file.specs.Algorithm.{algorithm_number}
use Rattle.turn_file.specs.Record.{bind, with_kind, value_at, algorithm_of, algorithm_at}
use Rattle.turn_file.specs.Field.{bad_fan_out}

-- what was read first, and what came of it
pub bind_ok : {A B E : Type 0} (r : Result A E) (next : A → Result B E) (b : B) →
    bind r next ≡ Ok b → (a : A) × (r ≡ Ok a) × (next a ≡ Ok b)
bind_ok (Ok a) next b e = (a, refl, e)
bind_ok (Err f) next b e = cc

pub number_ok : {B : Type 0} (k : RecordKind) (r : Result (ℕ × ℕ) NumberFault) (value : ℕ × ℕ → Result B RecordFault)
    (b : B) → bind (with_kind k r) value ≡ Ok b → (n : ℕ × ℕ) × (r ≡ Ok n) × (value n ≡ Ok b)
number_ok k (Ok n) value b e = (n, refl, e)
number_ok k (Err f) value b e = cc

module _ (field : Field) (file : List ℕ) (at : ℕ) (n : ℕ × ℕ) where
  pub field_ok : value_at field file at ≡ Ok n → (number_at file at ≡ Ok n) × (field_refuses field n.0 ≡ false)
  field_ok e =
      let j = number_ok (field_kind field) (number_at file at)
      (λ m. cond (field_refuses field m.0) (Err (field_fault field at)) (Ok m)) n e in
      let s = kept (field_refuses field j.0.0) (field_fault field at) j.0 n j.2 in
      (j.1 ∙ ap Ok s.1, ap (λ m. field_refuses field m.0) (sym s.1) ∙ s.0)

  pub field_is : number_at file at ≡ Ok n → field_refuses field n.0 ≡ false → value_at field file at ≡ Ok n
  field_is found fits =
      ap (λ r. bind (with_kind (field_kind field) r)
      (λ m. cond (field_refuses field m.0) (Err (field_fault field at)) (Ok m))) found
      ∙ ap (λ t. cond t (Err (field_fault field at)) (Ok n)) fits

algorithm_of_ok : (n : ℕ) (f : RecordFault) (a : Algorithm) → algorithm_of n f ≡ Ok a → n ≡ algorithm_number a
algorithm_of_ok n f Ticket e = grind (arith, nat_tests)
algorithm_of_ok n f Mcs e = grind (arith, nat_tests)

algorithm_of_is : (a : Algorithm) (f : RecordFault) → algorithm_of (algorithm_number a) f ≡ Ok a
algorithm_of_is Ticket f = refl
algorithm_of_is Mcs f = refl

module _ (file : List ℕ) (at : ℕ) where
  pub algorithm_ok : (a : Algorithm × ℕ) → algorithm_at file at ≡ Ok a →
      number_at file at ≡ Ok (algorithm_number a.0, a.1)
  algorithm_ok a e =
      let j = number_ok kind.Level (number_at file at)
      (λ n. bind (algorithm_of n.0 (fault.Algorithm at)) (λ b. Ok (b, n.1))) a e in
      let b = bind_ok (algorithm_of j.0.0 (fault.Algorithm at)) (λ b. Ok (b, j.0.1)) a j.2 in
      let same : (b.0, j.0.1) ≡ a = let s = b.2 in cc in
      j.1 ∙ ap Ok ((λ i. (algorithm_of_ok j.0.0 (fault.Algorithm at) b.0 b.1 i, j.0.1))
      ∙ ap (λ (x : Algorithm × ℕ). (algorithm_number x.0, x.1)) same)

  pub algorithm_is : (a : Algorithm) (to : ℕ) → number_at file at ≡ Ok (algorithm_number a, to) →
      algorithm_at file at ≡ Ok (a, to)
  algorithm_is a to found =
      ap (λ r. bind (with_kind kind.Level r)
      (λ n. bind (algorithm_of n.0 (fault.Algorithm at)) (λ b. Ok (b, n.1)))) found
      ∙ ap (λ x. bind x (λ b. Ok (b, to))) (algorithm_of_is a (fault.Algorithm at))

pub fan_out_fits : (parties n : ℕ) → bad_fan_out parties n ≡ false → (1 ≤ n) × (parties * n ≤ 64)
fan_out_fits parties n e = (grind (arith, nat_tests), grind (arith, nat_tests))
