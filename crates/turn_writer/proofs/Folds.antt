-- A `try_fold` that takes a place past the items of a slice, one behind the other.
use Rattle.std.proofs.Common.{◌≡◌, ℕ, ◌+◌, ◌*◌, ◌<◌, ◌≤◌, List, [], ◌∷◌, length, Some, None, Ok, Err, IsErr, Result, Bor, Iter, sym, refl, ap, ◌∙◌, subst, arith}
use Rattle.std.specs.Fn.{Called, Takes}
use Rattle.std.specs.Iterator.{Yields, TryFoldTurn, TryFoldsItems, CallableAtEachTurn}
use Rattle.std.specs.List.{FoldsTo}
use Rattle.std.specs.Result.{IsErrAnd, result_from_control_flow}
use Rattle.std.proofs.lemmas.Fn.{fronts}
use Rattle.std.proofs.lemmas.Iterator.{YieldsList-from_slice}
use Rattle.std.proofs.lemmas.Iterator.Adapters.{serves_from_total}
use Rattle.std.proofs.lemmas.List.{nil_from_length}
use Rattle.std.proofs.lemmas.List.Sums.{sum_by-le}
use Rattle.std.proofs.lemmas.Result.{err_from_is_err_and}
use denote.Param.Members.{Mut}
use Rattle.turn_file.specs.declared.fault.RecordFault.{RecordFault}
use Rattle.turn_file.specs.Record.{bind}
use Rattle.turn_writer.specs.Judgement.{past_each}

-- an answer, and how `?` goes on at it
abbrev pub FlowsBy : {Flow : Type 0} → (Flow → Result ℕ RecordFault) → Result ℕ RecordFault → Flow → Type 0
FlowsBy answer r flow = r ≡ answer flow

-- each call takes the place past its item, and leaves the closure as it was
module _ {A F : Type 0} (g : Mut F (ℕ × (Bor A × Unit {0})) (Result ℕ RecordFault)) (f : F)
    (one : A → ℕ → Result ℕ RecordFault)
    (calls : (h : F) (at : ℕ) (x : Bor A) (r : Result ℕ RecordFault) → Called g f (at, (x, tt)) r h →
    (h ≡ f) × (r ≡ one x.now at)) where
  abbrev pub Turn : F × ℕ → Bor A → F × ℕ → Type 0
  Turn = TryFoldTurn g (FlowsBy result_from_control_flow)

  along : (xs : List (Bor A)) (s t : Iter A) (at : ℕ) (last : F × ℕ) → Yields fronts s xs t →
      FoldsTo Turn (f, at) xs last →
      (last.0 ≡ f) × (past_each one s.rest.now at ≡ past_each one t.rest.now last.1)
  along [] s t at last y c =
      (sym (ap (λ p. p.0) c), ap (λ s. past_each one s.rest.now at) y ∙ ap (λ p. past_each one t.rest.now p.1) c)
  along (x ∷ xs) s t at last (i, first, y) (m, (r, called, on), c) =
      let k = calls m.0 at x r called in
      let rest = along xs i t m.1 last y (subst (λ h. FoldsTo Turn (h, m.1) xs last) k.0 c) in (
        rest.0,
        ap (λ items. past_each one items at) first
            ∙ ap (λ r. bind r (past_each one i.rest.now)) (sym k.1 ∙ on)
            ∙ rest.1,
      )

  pub folded : (s u : Iter A) (at : ℕ) (r : Result ℕ RecordFault) →
      TryFoldsItems fronts g (FlowsBy result_from_control_flow) (λ e r. IsErr r × IsErrAnd r (λ k. k ≡ e.0))
      s f at r u →
      r ≡ past_each one s.rest.now at
  folded s u at r (xs, None, h, b, (t, y, last), c, ends) =
      ends
      ∙ ap (λ items. past_each one items b) (sym (nil_from_length t.rest.now last.0))
      ∙ sym (along xs s t at (h, b) y c).1
  folded s u at r (xs, Some x, h, b, (t, y, last), c, (v, k, e, called, broke, resumed)) =
      let stop = err_from_is_err_and r resumed.1 in
      let so_far = along xs s t at (h, b) y c in
      let again = subst (λ h. Called g h (b, (x, tt)) v k) so_far.0 called in
      stop.1 ∙ ap Err stop.2
      ∙ ap (λ w. bind w (past_each one u.rest.now)) (sym broke ∙ (calls k b x v again).1)
      ∙ ap (λ items. past_each one items b) (sym last)
      ∙ sym so_far.1

  -- where each call goes on by so many places at most, and needs the place to be low
  module _ (size high : ℕ) (near : (x : A) (at next : ℕ) → one x at ≡ Ok next → next ≤ at + size)
      (takes : (at : ℕ) (x : Bor A) → at < high → Takes g f (at, (x, tt))) where
    raises : (at : ℕ) (x : Bor A) (p : F × ℕ) → Turn (f, at) x p → (p.0 ≡ f) × (p.1 ≤ at + size)
    raises at x p (r, called, on) = let k = calls p.0 at x r called in (k.0, near x.now at p.1 (sym k.1 ∙ on))

    pub served : (s : Iter A) (at : ℕ) → at + length s.rest.now * size < high →
        CallableAtEachTurn {P = F × ℕ} fronts Turn (λ p x. Takes g p.0 (p.1, (x, tt))) s (f, at)
    served s at low =
        let most = sum_by-le (λ x. size) size s.rest.now (λ k d within. omega arith) in
        serves_from_total (YieldsList-from_slice s.rest.now refl) (λ x. size) raises
        (λ n x within. takes n x (omega (arith, low, most, within)))
