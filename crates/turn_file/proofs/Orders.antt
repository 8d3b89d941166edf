-- The records that a reader hands out one after another, and the laws of a whole file.
use Rattle.std.proofs.Common.{◌≡◌, ℕ, zero, suc, ◌+◌, ◌-◌, ◌<◌, ◌≤◌, Bool, true, false, cond, ltb, ◌⊎◌, List, [], ◌∷◌, ◌++◌, length, drop, Some, None, Ok, Err, fold, Option, Result, sym, refl, ap, ◌∙◌, subst, inl, inr, arith}
use Rattle.std.proofs.lemmas.List.{append-nil, length-append, drop_all}
use Rattle.std.proofs.lemmas.Bool.{true≢false, cases_lt, lt-ltb, le-ltb, ltb-false}
use Rattle.turn_file.specs.declared.fault.FileFault.{FileFault}
use Rattle.turn_file.specs.declared.fault.FileFault.TheVariants.{TooLong}
use Rattle.turn_file.specs.declared.fault.RecordFault.{RecordFault}
use Rattle.turn_file.specs.declared.plan.Plan.{Plan}
use Rattle.turn_file.specs.declared.step.Stage.{Stage}
use Rattle.turn_file.specs.declared.step.Stage.TheVariants as stage
use Rattle.turn_file.specs.Fault.{longest_file}
use Rattle.turn_file.specs.Order.{record_spelling, spelling, Comes, InOrder, Whole, FirstFault, ReadWhole}
use Rattle.turn_file.specs.Plan.{PlanNumbers, with_item, blank_plan, plan_from, plan_of, on_open, judgement, filled}
use Rattle.turn_file.specs.Reading.{Item, Stepped, Cursor, in_order, levels_step, level_step, script_step}
use Rattle.turn_file.specs.Reading.{schedule_step, next_step, next_from, moved_on}
use Rattle.turn_file.specs.Spelling.{Bytes, Stands}
use Rattle.turn_file.proofs.Complete.{next_complete}
use Rattle.turn_file.proofs.Plans.{plan_ends, plan_refused, plan_goes_on}
use Rattle.turn_file.proofs.Refused.{next_lies}
use Rattle.turn_file.proofs.Sound.{Few, next_sound}
use Rattle.turn_file.proofs.Spelled.{stands_none, stands_both, stands_split}
use Rattle.turn_file.proofs.Steps.{next_takes, no_step}

-- the reader handed out these records, from one place and stage to another
abbrev Ran : List ℕ → ℕ → Stage → List Item → ℕ → Stage → Type 0
Ran file at from [] to after = (at ≡ to) × (from ≡ after)
Ran file at from (item ∷ items) to after =
    (s : Stepped) × (next_step file at from ≡ Ok (Some s)) × (s.handed.item ≡ item)
    × Ran file s.next s.stage items to after

module _ (file : List ℕ) (each : Bytes file) where
  -- what was handed out is in order, and is spelled in the file
  ran_sound : (at : ℕ) (from : Stage) (items : List Item) (to : ℕ) (after : Stage) → Few from →
      Ran file at from items to after → InOrder from items after × Stands (spelling items) file at to
  ran_sound at from [] to after few (here, same) = (same, subst (Stands [] file at) here (stands_none file at))
  ran_sound at from (item ∷ items) to after few (s, found, is, more) =
      let k = next_sound file at from s each few found in
      let m = ran_sound s.next s.stage items to after k.few more in (
        (s.stage, subst (λ i. Comes from i s.stage) is k.comes, m.0),
        stands_both (subst (λ i. Stands (record_spelling i) file at s.next) is k.stands) m.1,
      )

  -- what is in order and spelled in the file is handed out
  ran_complete : (at : ℕ) (from : Stage) (items : List Item) (to : ℕ) (after : Stage) → Few from →
      InOrder from items after → Stands (spelling items) file at to → Ran file at from items to after
  ran_complete at from [] to after few same s = let e = s.ends in (omega arith, same)
  ran_complete at from (item ∷ items) to after few (next, comes, rest) s =
      let split = stands_split (record_spelling item) (spelling items) file at to s in
      let r = next_complete file at from item (at + length (record_spelling item)) next few comes split.0 in
      let k = next_sound file at from r.stepped each few r.found in
      let order = subst (λ g. InOrder g items after) (sym r.stage_is) rest in
      let stands = subst (λ n. Stands (spelling items) file n to) (sym r.place_is) split.1 in (
        r.stepped,
        r.found,
        r.item_is,
        ran_complete r.stepped.next r.stepped.stage items to after
            k.few order stands,
      )

-- one answer, one step
one_step : (x : Result (Option Stepped) FileFault) (s t : Stepped) → x ≡ Ok (Some s) → x ≡ Ok (Some t) → s ≡ t
one_step x s t e f = cc

no_fault : (x : Result (Option Stepped) FileFault) (s : Stepped) (f : FileFault) → x ≡ Ok (Some s) → x ≡ Err f → ⊥
no_fault x s f e g = cc

-- records that are handed out from one place on are some of those that are handed out before a fault
before_fault : (file : List ℕ) (at : ℕ) (from : Stage) (items : List Item) (to : ℕ) (after : Stage) (f : FileFault) →
    Ran file at from items to after → next_step file to after ≡ Err f →
    (others : List Item) (end : ℕ) (last : Stage) → Ran file at from others end last →
    (more : List Item) × (items ≡ others ++ more) × Ran file end last more to after
before_fault file at from items to after f r e [] end last q = (
  items,
  refl,
  subst (λ n. Ran file n last items to after) q.0
      (subst (λ g. Ran file at g items to after) q.1 r),
)
before_fault file at from [] to after f r e (o ∷ others) end last q =
    absurd (no_fault (next_step file at from) q.0 f q.1
    (ap (λ n. next_step file n from) r.0 ∙ ap (next_step file to) r.1 ∙ e))
before_fault file at from (i ∷ items) to after f r e (o ∷ others) end last q =
    let same = one_step (next_step file at from) q.0 r.0 q.1 r.1 in
    let onward = subst (λ u. Ran file u.next u.stage others end last) same q.3 in
    let k = before_fault file r.0.next r.0.stage items to after f r.3 e others end last onward in
    let one = sym r.2 ∙ ap (λ (u : Stepped). u.handed.item) (sym same) ∙ q.2 in
    (k.0, ap (λ x. x ∷ items) one ∙ ap (λ xs. o ∷ xs) k.1, k.2)

-- no record comes after the end
at_end : (file : List ℕ) (at : ℕ) (from : Stage) (s : Stepped) → next_step file at from ≡ Ok (Some s) →
    from ≡ stage.End → ⊥
at_end file at from s found end =
    no_step (ltb at (length file)) _ s (ap (next_step file at) (sym end) ∙ found)

-- two ways to the end hand out the same
one_way : (file : List ℕ) (at : ℕ) (from : Stage) (items others : List Item) (to end : ℕ) →
    Ran file at from items to stage.End → Ran file at from others end stage.End → others ≡ items
one_way file at from [] [] to end r q = refl
one_way file at from [] (o ∷ others) to end (here, same) (s, found, is, q) = absurd (at_end file at from s found same)
one_way file at from (i ∷ items) [] to end (s, found, is, r) (here, same) = absurd (at_end file at from s found same)
one_way file at from (i ∷ items) (o ∷ others) to end (t, first, is_i, r) (s, found, is_o, q) =
    let same = one_step (next_step file at from) s t found first in
    let q_on = subst (λ u. Ran file u.next u.stage others end stage.End) same q in
    let one = sym is_o ∙ ap (λ (u : Stepped). u.handed.item) same ∙ is_i in
    ap (λ x. x ∷ others) one ∙ ap (λ xs. i ∷ xs) (one_way file t.next t.stage items others to end r q_on)

-- what a step may be
step_is : (x : Result (Option Stepped) FileFault) →
    ((s : Stepped) × (x ≡ Ok (Some s))) ⊎ ((x ≡ Ok None) ⊎ ((f : FileFault) × (x ≡ Err f)))
step_is (Ok (Some s)) = inl (s, refl)
step_is (Ok None) = inr (inl refl)
step_is (Err f) = inr (inr (f, refl))

in_order_some : (r : Result Stepped RecordFault) → in_order r ≡ Ok None → ⊥
in_order_some (Ok s) e = cc
in_order_some (Err f) e = cc

ended : (later : Bool) (f : FileFault) →
    ◌≡◌ {A = Result (Option Stepped) FileFault} (cond later (Err f) (Ok None)) (Ok None) → later ≡ false
ended true f e = cc
ended false f e = refl

no_end_fault : (later : Bool) (f g : FileFault) → later ≡ false →
    ◌≡◌ {A = Result (Option Stepped) FileFault} (cond later (Err f) (Ok None)) (Err g) → ⊥
no_end_fault true f g e h = true≢false e
no_end_fault false f g e h = cc

-- there is no record only at the end of the file
none_left : (file : List ℕ) (at : ℕ) (from : Stage) → next_step file at from ≡ Ok None → (from ≡ stage.End)
    × (length file ≤ at)
none_left file at stage.Levels e = absurd (in_order_some (levels_step file at) e)
none_left file at (stage.Level rank count parties) e = absurd (in_order_some (level_step rank count parties file at) e)
none_left file at (stage.Script worker workers) e = absurd (in_order_some (script_step worker workers file at) e)
none_left file at (stage.Schedule workers) e = absurd (in_order_some (schedule_step workers file at) e)
none_left file at stage.End e = (refl, ltb-false at (length file) (ended (ltb at (length file)) _ e))

-- a plan that was read: the records that were handed out say it
plan_ran : (most : ℕ) (c : Cursor) (p q : PlanNumbers) → c.place ≤ length c.file →
    length c.file - c.place < most →
    plan_from most c p ≡ Ok q →
    (items : List Item) × Ran c.file c.place c.stage items (length c.file) stage.End
    × (q ≡ fold with_item p items)
plan_ran zero c p q within enough e = absurd (omega arith)
plan_ran (suc most) c p q within enough e =
    elim (step_is (next_from c)) [
      | inl k ↦
          let t = next_takes c.file c.place c.stage k.0 k.1 in
          let m = plan_ran most (moved_on c (Ok (Some k.0))) (with_item p k.0.handed.item) q t.1
          (omega arith) (sym (plan_goes_on c p most k.0 k.1) ∙ e) in
          (k.0.handed.item ∷ m.0, (k.0, k.1, refl, m.1), m.2)
      | inr (inl k) ↦
          let n = none_left c.file c.place c.stage k in
          let same : p ≡ q = let s = sym (plan_ends c p (suc most) (omega arith) k) ∙ e in cc in
          ([], (let l = n.1 in omega arith, n.0), sym same)
      | inr (inr k) ↦ cc (plan_refused c p (suc most) k.0 (omega arith) k.1)
    ]

-- a plan that was refused: the records before the fault were handed out
plan_stopped : (most : ℕ) (c : Cursor) (p : PlanNumbers) (f : FileFault) → c.place ≤ length c.file →
    length c.file - c.place < most →
    plan_from most c p ≡ Err f →
    (items : List Item) × (at : ℕ) × (g : Stage) × Ran c.file c.place c.stage items at g
    × (next_step c.file at g ≡ Err f) × (at ≤ length c.file)
plan_stopped zero c p f within enough e = absurd (omega arith)
plan_stopped (suc most) c p f within enough e =
    elim (step_is (next_from c)) [
      | inl k ↦
          let t = next_takes c.file c.place c.stage k.0 k.1 in
          let m = plan_stopped most (moved_on c (Ok (Some k.0))) (with_item p k.0.handed.item) f t.1
          (omega arith) (sym (plan_goes_on c p most k.0 k.1) ∙ e) in
          (k.0.handed.item ∷ m.0, m.1, m.2, (k.0, k.1, refl, m.3), m.4, m.5)
      | inr (inl k) ↦ cc (plan_ends c p (suc most) (omega arith) k)
      | inr (inr k) ↦
          let same : k.0 ≡ f = let s = sym (plan_refused c p (suc most) k.0 (omega arith) k.1) ∙ e in cc in
          ([], c.place, c.stage, (refl, refl), k.1 ∙ ap Err same, within)
    ]

abbrev start : List ℕ → Cursor
start file = record { file = file; place = 0; stage = stage.Levels }

pub too_long : (file : List ℕ) → longest_file < length file → plan_of file ≡ Err TooLong
too_long file long =
    ap (λ t. on_open (cond t (Err TooLong) (Ok (start file))) (λ c. plan_from (suc (length file)) c blank_plan))
    (lt-ltb longest_file (length file) long)

not_too_long : (file : List ℕ) → length file ≤ longest_file →
    plan_of file ≡ plan_from (suc (length file)) (start file) blank_plan
not_too_long file short =
    ap (λ t. on_open (cond t (Err TooLong) (Ok (start file))) (λ c. plan_from (suc (length file)) c blank_plan))
    (le-ltb longest_file (length file) short)

-- a file is what stands in it from its beginning to its end
pub stands_whole : (xs file : List ℕ) → file ≡ xs → Stands xs file 0 (length file)
stands_whole xs file e = record {
  begins = e ∙ sym (append-nil xs) ∙ ap (λ ys. xs ++ ys) (sym (drop_all (length file) file (omega arith)));
  ends = omega (arith, ap length e);
}

whole_stands : (xs file : List ℕ) → Stands xs file 0 (length file) → file ≡ xs
whole_stands xs file s = s.begins ∙ ap (λ ys. xs ++ ys) (drop_all (length file) file (omega arith)) ∙ append-nil xs

-- what stands in a file from its beginning on is no longer than the file
stands_short : (xs file : List ℕ) (to : ℕ) → Stands xs file 0 to → to ≤ length file
stands_short xs file to s = omega (arith, s.ends, ap length s.begins, length-append xs (drop to file))

module _ (file : List ℕ) (each : Bytes file) where
  pub read_accepted : (p : PlanNumbers) → length file ≤ longest_file → plan_of file ≡ Ok p → Whole file p
  read_accepted p short e =
      let r = plan_ran (suc (length file)) (start file) blank_plan p (omega arith) (omega arith)
      (sym (not_too_long file short) ∙ e) in
      let k = ran_sound file each 0 stage.Levels r.0 (length file) stage.End tt r.1 in
      record {
        records = r.0;
        ordered = k.0;
        spelled = whole_stands (spelling r.0) file k.1;
        says = r.2;
        only = λ others order spelled.
            one_way file 0 stage.Levels r.0 others (length file) (length file) r.1
            (ran_complete file each 0 stage.Levels others (length file) stage.End tt order
            (stands_whole (spelling others) file spelled));
      }

  -- a record that is refused behind records in order is the first fault
  pub first_fault : (items : List Item) (at : ℕ) (g : Stage) (f : FileFault) → InOrder stage.Levels items g →
      Stands (spelling items) file 0 at → next_step file at g ≡ Err f → FirstFault file f
  first_fault items at g f order stands e =
      let r = ran_complete file each 0 stage.Levels items at g tt order stands in
      record {
        records = items;
        place = at;
        next = g;
        ordered = order;
        spelled = stands;
        refused = e;
        lies = next_lies file at g f (stands_short (spelling items) file at stands) e;
        stops = λ others to after order spelled.
            let q = ran_complete file each 0 stage.Levels others to after tt order spelled in
            let m = before_fault file 0 stage.Levels items at g f r e others to after q in
            (m.0, m.1);
        none = λ others order spelled.
            let q = ran_complete file each 0 stage.Levels others (length file) stage.End tt order
            (stands_whole (spelling others) file spelled) in
            let m = before_fault file 0 stage.Levels items at g f r e others (length file) stage.End q in
            past_end m.0 at g m.2 e;
      }
    where
      -- at the end of the file there is neither a record nor a fault
      past_end : (more : List Item) (at : ℕ) (g : Stage) → Ran file (length file) stage.End more at g →
          next_step file at g ≡ Err f → ⊥
      past_end [] at g m refused =
          no_end_fault (ltb (length file) (length file)) _ f (le-ltb (length file) (length file) (omega arith))
          (ap (λ n. next_step file n stage.End) m.0 ∙ ap (next_step file at) m.1 ∙ refused)
      past_end (item ∷ more) at g m refused = at_end file (length file) stage.End m.0 m.1 refl

  pub read_refused : (f : FileFault) → length file ≤ longest_file → plan_of file ≡ Err f → FirstFault file f
  read_refused f short e =
      let r = plan_stopped (suc (length file)) (start file) blank_plan f (omega arith) (omega arith)
      (sym (not_too_long file short) ∙ e) in
      let k = ran_sound file each 0 stage.Levels r.0 r.1 r.2 tt r.3 in
      first_fault r.0 r.1 r.2 f k.0 k.1 r.4

-- what the reader of whole files answers
judged_whole : (x : Result PlanNumbers FileFault) → judgement x ≡ Ok tt → (p : PlanNumbers) × (x ≡ Ok p)
judged_whole (Ok p) e = (p, refl)
judged_whole (Err f) e = cc

judged_fault : (x : Result PlanNumbers FileFault) (f : FileFault) → judgement x ≡ Err f → x ≡ Err f
judged_fault (Ok p) f e = cc
judged_fault (Err g) f e = let q : g ≡ f = cc in ap Err q

read_whole : (file : List ℕ) (was : Plan) (p : PlanNumbers) (r : Result (Unit {0}) FileFault) → Bytes file →
    r ≡ judgement (plan_of file) → p ≡ filled was (plan_of file) → ReadWhole file r p
read_whole file was p r each answer plan = record {
  accepted = λ ok.
      let k = judged_whole (plan_of file) (sym answer ∙ ok) in
      let said = plan ∙ ap (filled was) k.1 in
      elim (cases_lt longest_file (length file)) [
        | inl long ↦ cc (too_long file long)
        | inr short ↦ (short, subst (Whole file) (sym said) (read_accepted file each k.0 short k.1))
      ];
  refused = λ fault err.
      let k = judged_fault (plan_of file) fault (sym answer ∙ err) in
      elim (cases_lt longest_file (length file)) [
        | inl long ↦ inl (long, let l = too_long file long in cc)
        | inr short ↦ inr (short, read_refused file each fault short k)
      ];
}

-- what is told of a file whose plan is known: the answer, the lent plan, and the law
pub told : (file : List ℕ) (was : Plan) (p : PlanNumbers) (r : Result (Unit {0}) FileFault)
    (x : Result PlanNumbers FileFault) → Bytes file → plan_of file ≡ x → r ≡ judgement x → p ≡ filled was x →
    (r ≡ judgement (plan_of file)) × (p ≡ filled was (plan_of file)) × ReadWhole file r p
told file was p r x each known answer plan =
    let answered = answer ∙ sym (ap judgement known) in
    let held = plan ∙ sym (ap (filled was) known) in
    (answered, held, read_whole file was p r each answered held)
