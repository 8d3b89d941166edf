use Rattle.std.proofs.Common.{subst, rules, arith}
use Rattle.compose.proofs.Numbers.{Reads, reads_number}
use Rattle.compose.proofs.number.parse_number.Goals as goal

-- the bytes are those of the word
pub returns : goal.returns
returns c =
    let ran = c.try_fold.ensures.ran in
    subst (λ ds. Reads 0 ds c.try_fold.result) c.iter.ensures.rest
    (reads_number _ _ (λ n x v q call. search rules) _ ran.0 ran.1 _ _ 0 ran.3 ran.2 _ (omega arith) ran.4 ran.5 ran.6)
