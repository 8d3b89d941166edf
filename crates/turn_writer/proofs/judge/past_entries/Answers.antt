use Rattle.std.proofs.Common.{◌^◌, length, ap, ◌∙◌, arith, rules}
use Rattle.turn_file.specs.declared.field.Field.TheVariants.{Entry}
use Rattle.turn_writer.specs.Judgement.{past_field, past_each}
use Rattle.turn_writer.proofs.Folds.{folded, served}
use Rattle.turn_writer.proofs.Sizes.{field_near}
use Rattle.turn_writer.proofs.judge.past_entries.Goals as goal

pub try_fold-requires-clause-callable : goal.try_fold-requires-clause-callable
try_fold-requires-clause-callable c =
    served _ _ (past_field (Entry c.args.workers)) (λ h at x r k. search rules) 5 (2 ^ 32)
    (field_near (Entry c.args.workers)) (λ at x low. search rules) _ _
    (omega (arith, c.requires.0, c.requires.1, ap length c.iter.ensures.rest))

pub returns : goal.returns
returns c =
    folded _ _ (past_field (Entry c.args.workers)) (λ h at x r k. search rules) _ _ _ _ c.try_fold.ensures.ran
    ∙ ap (λ items. past_each (past_field (Entry c.args.workers)) items c.args.at) c.iter.ensures.rest
