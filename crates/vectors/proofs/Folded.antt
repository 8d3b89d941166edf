-- What a fold over the elements of a slice comes to.
use Rattle.std.proofs.Common.{◌≡◌, List, refl, subst, Bor}
use Rattle.std.specs.declared.slice.Iter.{Iter}
use denote.Param.Members.{Mut}
use Rattle.std.specs.Fn.{Called}
use Rattle.std.specs.Iterator.{FoldsItems}
use Rattle.std.specs.List.{FoldsTo}
use Rattle.std.proofs.lemmas.Fn.{FoldsTo-push, fold_over, slice_gives, fronts}

-- each call of the closure is a step of R, so the whole fold is the steps
pub folds_each : {A F C : Type 0} (g : Mut F (C × (Bor A × Unit {0})) C) (R : C → A → C → Type 0) (f : F) →
    ((a : C) (x : Bor A) (b : C) (f' : F) → Called g f (a, (x, tt)) b f' → R a x.now b × (f' ≡ f)) →
    (s : Iter A) (xs : List A) → s.rest.now ≡ xs → (a r : C) → FoldsItems fronts g s f a r → FoldsTo R a xs r
folds_each g R f steps s xs all a r ran =
    subst (λ l. FoldsTo R a l r) all
    (fold_over fronts (λ y. y.now) g (λ l c. FoldsTo R a l c) f
    (λ ys b x c f' so_far called. let step = steps b x c f' called in (FoldsTo-push R a ys b x.now c so_far step.0, step.1))
    s s.rest.now a r (slice_gives s) refl ran)
