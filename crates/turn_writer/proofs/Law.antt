-- The law of a writer.
use Rattle.std.proofs.Common.{◌≡◌, ℕ, ◌<◌, ◌≤◌, ltb, ◌⊎◌, List, length, Ok, Err, fold, Result, sym, refl, ap, ◌∙◌, subst, inl, inr, arith}
use Rattle.std.proofs.lemmas.Bool.{cases_lt, lt-ltb, le-ltb, ltb-false}
use Rattle.turn_file.specs.declared.fault.FileFault.{FileFault}
use Rattle.turn_file.specs.declared.fault.FileFault.TheVariants.{TooLong, OutputTooShort, TrailingByte}
use Rattle.turn_file.specs.declared.fault.RecordFault.{RecordFault}
use Rattle.turn_file.specs.Reading.{Item}
use Rattle.turn_file.specs.declared.step.Stage.TheVariants as stage
use Rattle.turn_file.specs.Fault.{in_file, longest_file}
use Rattle.turn_file.specs.Order.{spelling, InOrder, FirstFault}
use Rattle.turn_file.specs.Plan.{PlanNumbers, with_item, blank_plan, plan_of}
use Rattle.turn_file.specs.Spelling.{Bytes}
use Rattle.turn_file.proofs.Orders.{too_long, read_accepted, read_refused, first_fault}
use Rattle.turn_writer.specs.Judgement.{file_length}
use Rattle.turn_writer.specs.Records.{records_of, plan_spelling}
use Rattle.turn_writer.specs.Shape.{Known}
use Rattle.turn_writer.specs.Writing.{with_space, written_length, ReadsAs, Writes}
use Rattle.turn_writer.proofs.Again.{records_again}
use Rattle.turn_writer.proofs.Bytes.{spelling_bytes}
use Rattle.turn_writer.proofs.RefusedPlans.{plan_stops, plan_too_long, plan_fault}
use Rattle.turn_writer.proofs.AcceptedPlans.{plan_accepted}
use Rattle.turn_file.proofs.Refusals.{kept}

-- what a reader says of records in order that are not too long: it accepts their spelling, and reads what they say
pub reads_records : (items : List Item) → InOrder stage.Levels items stage.End →
    length (spelling items) ≤ longest_file →
    (q : PlanNumbers) × (plan_of (spelling items) ≡ Ok q) × (records_of q ≡ items)
reads_records items order short = by_answer (plan_of (spelling items)) refl
  where
    by_answer : (x : Result PlanNumbers FileFault) → plan_of (spelling items) ≡ x →
        (q : PlanNumbers) × (plan_of (spelling items) ≡ Ok q) × (records_of q ≡ items)
    by_answer (Ok q) is =
        let w = read_accepted (spelling items) (spelling_bytes items) q short is in
        let same : items ≡ w.records = w.only items order refl in
        (q, is, ap records_of (w.says ∙ ap (fold with_item blank_plan) (sym same)) ∙ records_again items order)
    by_answer (Err f) is =
        absurd ((read_refused (spelling items) (spelling_bytes items) f short is).none items order refl)

-- what a file that a reader accepts says of the plan's records
pub read_records : (file : List ℕ) (q : PlanNumbers) → Bytes file → plan_of file ≡ Ok q →
    (length file ≤ longest_file) × InOrder stage.Levels (records_of q) stage.End × (file ≡ plan_spelling q)
read_records file q each is =
    elim (cases_lt longest_file (length file)) [
      | inl long ↦ cc (too_long file long)
      | inr short ↦
          let w = read_accepted file each q short is in
          let same : w.records ≡ records_of q =
          sym (ap records_of w.says ∙ records_again w.records w.ordered) in (
            short,
            subst (λ items. InOrder stage.Levels items stage.End) same w.ordered,
            w.spelled ∙ ap spelling same,
          )
    ]

-- an answer, where the output has so much space
spaced_ok : (space : ℕ) (x : Result ℕ FileFault) (n : ℕ) → with_space space x ≡ Ok n → (x ≡ Ok n) × (n ≤ space)
spaced_ok space (Ok m) n is =
    let k = kept (ltb space m) OutputTooShort m n is in (ap Ok k.1, omega (arith, k.1, ltb-false space m k.0))
spaced_ok space (Err f) n is = cc

spaced_err : (space : ℕ) (x : Result ℕ FileFault) (g : FileFault) → with_space space x ≡ Err g →
    (x ≡ Err g) ⊎ ((n : ℕ) × (x ≡ Ok n) × (space < n) × (g ≡ OutputTooShort))
spaced_err space (Ok m) g is =
    elim (cases_lt space m) [
      | inl short ↦ let e = simp (lt-ltb space m short) at is in inr (m, refl, short, cc)
      | inr fits ↦ inl (simp (le-ltb space m fits) at is)
    ]
spaced_err space (Err f) g is = inl is

module _ (p : PlanNumbers) (known : Known p) where
  -- a plan whose file has a length is read back
  length_reads : (n : ℕ) → file_length p ≡ Ok n → (n ≡ length (plan_spelling p)) × ReadsAs (plan_spelling p) p
  length_reads n is =
      let a = plan_accepted p n known.shape is in
      (a.long, reads_records (records_of p) a.ordered (omega (arith, a.long, a.short)))

  -- a record that is refused is the first fault of the plan's spelling
  fault_first : (f : RecordFault) → file_length p ≡ Err (in_file f) → FirstFault (plan_spelling p) (in_file f)
  fault_first f is =
      let s = plan_stops p f known is in
      first_fault (plan_spelling p) (spelling_bytes (records_of p)) s.items s.place s.next (in_file f)
      s.ordered s.stands s.refused

  -- a plan that is read from a file has that file's length
  read_length : (file : List ℕ) → Bytes file → ReadsAs file p →
      (file ≡ plan_spelling p) × (file_length p ≡ Ok (length file))
  read_length file each (q, is, same) =
      let r = read_records file q each is in
      let spelled : file ≡ plan_spelling p = r.2 ∙ ap spelling same in
      let order = subst (λ items. InOrder stage.Levels items stage.End) same r.1 in
      (spelled, by_length (file_length p) refl spelled order r.0)
    where
      by_length : (x : Result ℕ FileFault) → file_length p ≡ x → file ≡ plan_spelling p →
          InOrder stage.Levels (records_of p) stage.End → length file ≤ longest_file →
          file_length p ≡ Ok (length file)
      by_length (Ok n) is spelled order short = is ∙ ap Ok ((length_reads n is).0 ∙ sym (ap length spelled))
      by_length (Err g) is spelled order short =
          absurd (elim (plan_fault p g is) [
            | inl e ↦ (fault_first e.0 (is ∙ ap Err e.1)).none (records_of p) order refl
            | inr e ↦ omega (arith, short, ap length spelled, plan_too_long p known.shape (is ∙ ap Err e))
          ])

  pub writes : (space : ℕ) → Writes p space (written_length p space)
  writes space = record {
    accepted = λ n is.
        let k = spaced_ok space (file_length p) n is in
        let r = length_reads n k.0 in
        (r.0, k.1, r.1);
    accepts = λ file each reads.
        let r = read_length file each reads in (
          r.0,
          λ fits.
              ap (with_space space) r.1
              ∙ simp (le-ltb space (length file) fits),
        );
    refused = λ f is.
        elim (spaced_err space (file_length p) (in_file f) is) [
          | inl e ↦ fault_first f e
          | inr e ↦ absurd (cc e.3)
        ];
    too_long = λ is.
        elim (spaced_err space (file_length p) TooLong is) [
          | inl e ↦ plan_too_long p known.shape e
          | inr e ↦ absurd (cc e.3)
        ];
    too_short = λ is.
        elim (spaced_err space (file_length p) OutputTooShort is) [
          | inl e ↦
              absurd (elim (plan_fault p OutputTooShort e) [
                | inl f ↦ cc f.1
                | inr f ↦ cc f
              ])
          | inr e ↦ let r = length_reads e.0 e.1 in (omega (arith, e.2, r.0), r.1)
        ];
    never_trailing = λ place is.
        elim (spaced_err space (file_length p) (TrailingByte place) is) [
          | inl e ↦
              elim (plan_fault p (TrailingByte place) e) [
                | inl f ↦ cc f.1
                | inr f ↦ cc f
              ]
          | inr e ↦ cc e.3
        ];
  }

  pub writes_as : {space : ℕ} {r : Result ℕ FileFault} → r ≡ written_length p space → Writes p space r
  writes_as {space} answer = subst (Writes p space) (sym answer) (writes space)
