-- One turn of the loop that reads a plan, record by record.
use Rattle.std.proofs.Common.{◌≡◌, ℕ, zero, suc, ◌-◌, ◌<◌, ◌≤◌, List, length, Some, None, Ok, Err, Option, Result, sym, refl, ap, ◌∙◌, subst, arith}
use Rattle.turn_file.specs.declared.fault.FileFault.{FileFault}
use Rattle.turn_file.specs.Plan.{PlanNumbers, with_item, on_next, plan_from}
use Rattle.turn_file.specs.Reading.{Handed, Stepped, Cursor, next_from, handed_out, moved_on}
use Rattle.turn_file.proofs.Steps.{next_takes}

-- what was answered tells what the step was
pub handed_some : (x : Result (Option Stepped) FileFault) (h : Handed) → Ok (Some h) ≡ handed_out x → (s : Stepped)
    × (x ≡ Ok (Some s)) × (s.handed ≡ h)
handed_some (Ok (Some s)) h e = (s, refl, cc)
handed_some (Ok None) h e = cc
handed_some (Err f) h e = cc

pub handed_none : (x : Result (Option Stepped) FileFault) → Ok None ≡ handed_out x → x ≡ Ok None
handed_none (Ok (Some s)) e = cc
handed_none (Ok None) e = refl
handed_none (Err f) e = cc

pub handed_fault : (x : Result (Option Stepped) FileFault) (f : FileFault) → Err f ≡ handed_out x → x ≡ Err f
handed_fault (Ok (Some s)) f e = cc
handed_fault (Ok None) f e = cc
handed_fault (Err g) f e = let q : g ≡ f = cc in ap Err q

module _ (c : Cursor) (p : PlanNumbers) where
  -- the next step tells how the plan goes on
  one_step : (most : ℕ) (x : Result (Option Stepped) FileFault) → next_from c ≡ x →
      plan_from (suc most) c p
      ≡ on_next p x (λ s. plan_from most (moved_on c (Ok (Some s))) (with_item p s.handed.item))
  one_step most x e =
      ap (λ y. on_next p y (λ s. plan_from most (moved_on c (Ok (Some s))) (with_item p s.handed.item))) e

  pub plan_goes_on : (most : ℕ) (s : Stepped) → next_from c ≡ Ok (Some s) →
      plan_from (suc most) c p ≡ plan_from most (moved_on c (Ok (Some s))) (with_item p s.handed.item)
  plan_goes_on most s e = one_step most (Ok (Some s)) e

  pub plan_ends : (most : ℕ) → 0 < most → next_from c ≡ Ok None → plan_from most c p ≡ Ok p
  plan_ends zero some e = absurd (omega arith)
  plan_ends (suc most) some e = one_step most (Ok None) e

  pub plan_refused : (most : ℕ) (f : FileFault) → 0 < most → next_from c ≡ Err f → plan_from most c p ≡ Err f
  plan_refused zero f some e = absurd (omega arith)
  plan_refused (suc most) f some e = one_step most (Err f) e

-- the records from a cursor on complete a plan of the file
abbrev pub Completes : List ℕ → Cursor → PlanNumbers → Result PlanNumbers FileFault → Type 0
Completes file c p whole =
    (c.file ≡ file) × ((most : ℕ) × (length file - c.place < most) × (plan_from most c p ≡ whole))

module _ (file : List ℕ) (c : Cursor) (p : PlanNumbers) (whole : Result PlanNumbers FileFault)
    (h : Completes file c p whole) where
  pub completed : next_from c ≡ Ok None → whole ≡ Ok p
  completed e = sym h.1.2 ∙ plan_ends c p h.1.0 (let k = h.1.1 in omega arith) e

  pub refused : (f : FileFault) → next_from c ≡ Err f → whole ≡ Err f
  refused f e = sym h.1.2 ∙ plan_refused c p h.1.0 f (let k = h.1.1 in omega arith) e

  pub takes : (s : Stepped) → next_from c ≡ Ok (Some s) → (c.place < s.next) × (s.next ≤ length file)
  takes s e = let t = next_takes c.file c.place c.stage s e in
      (t.0, subst (λ f. s.next ≤ length f) h.0 t.1)

  pub goes_on : (s : Stepped) (d : Cursor) (q : PlanNumbers) → next_from c ≡ Ok (Some s) →
      d ≡ moved_on c (Ok (Some s)) → q ≡ with_item p s.handed.item → Completes file d q whole
  goes_on s d q e there more =
      let t = takes s e in
      let k = h.1.1 in
      let less : ℕ = h.1.0 - 1 in
      let one : h.1.0 ≡ suc less = omega arith in
      let at : d.place ≡ s.next = ap (λ (x : Cursor). x.place) there in
      let onward = ap (λ x. plan_from less x q) there ∙ ap (plan_from less (moved_on c (Ok (Some s)))) more in (
        ap (λ (x : Cursor). x.file) there ∙ h.0,
        (less, omega arith, onward ∙ sym (plan_goes_on c p less s e) ∙ ap (λ n. plan_from n c p) (sym one) ∙ h.1.2),
      )
