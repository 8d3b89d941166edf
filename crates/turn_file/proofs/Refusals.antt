-- An answer that a test may refuse.
use Rattle.std.proofs.Common.{◌≡◌, Bool, true, false, cond, Ok, Err, refl}

pub refused : {A E : Type 0} (bad : Bool) (f g : E) (a : A) → cond bad (Err f) (Ok a) ≡ Err g → (bad ≡ true) × (f ≡ g)
refused true f g a is = (refl, cc)
refused false f g a is = cc

pub kept : {A E : Type 0} (bad : Bool) (f : E) (a b : A) → cond bad (Err f) (Ok a) ≡ Ok b → (bad ≡ false) × (a ≡ b)
kept true f a b is = cc
kept false f a b is = (refl, cc)
