use Rattle.std.proofs.Common.{refl, rules}
use Rattle.vectors.proofs.Folded.{folds_each}
use Rattle.vectors.proofs.checksum.mix_all.Goals as goal

pub returns : goal.returns
returns g c =
    folds_each _ _ _ (λ a x b f' called. (search rules, refl)) _ _ c.iter.ensures.rest _ _ c.fold.ensures.ran
