use Rattle.std.proofs.Common.{Bool, ℕ, true, false, rules}
use Rattle.std.specs.Fn.{FnReturnsAt}
use Rattle.std.proofs.lemmas.Iterator.{IsFirst-from_position, YieldsList-from_slice}
use Rattle.compose.proofs.Parted.{parted}
use Rattle.compose.proofs.words.split_before.Goals as goal
use borrow.Author.Tests.{tests}

pub returns : goal.returns
returns g c =
    let answers : Bool → ℕ → Type 0 = λ met byte. FnReturnsAt g.P.Fn c.args.passes byte met in
    let first = IsFirst-from_position _ _ _ (answers true) (answers false) c.position.ensures.ran
    (YieldsList-from_slice _ c.iter.ensures.rest) (λ x q k. search (rules, tests)) (λ x q k. search (rules, tests)) in
    let parts = parted (answers true) (answers false) _ _ _ _ _ first c.unwrap_or-place.ensures
    c.split_at.ensures.front c.split_at.ensures.back in
    record { whole = search rules; before = parts.0; from = parts.1 }
