use Rattle.std.proofs.Common.{◌^◌, length, ap, ◌∙◌, arith, rules}
use Rattle.turn_writer.specs.Judgement.{past_script, past_each}
use Rattle.turn_writer.proofs.Folds.{folded, served}
use Rattle.turn_writer.proofs.Sizes.{script_near}
use Rattle.turn_writer.proofs.judge.past_scripts.Goals as goal

pub try_fold-requires-clause-callable : goal.try_fold-requires-clause-callable
try_fold-requires-clause-callable c =
    served _ _ past_script (λ h at x r k. search rules) 15 (2 ^ 31) script_near (λ at x low. search rules) _ _
    (omega (arith, c.requires.0, c.requires.1, ap length c.iter.ensures.rest))

pub returns : goal.returns
returns c =
    folded _ _ past_script (λ h at x r k. search rules) _ _ _ _ c.try_fold.ensures.ran
    ∙ ap (λ items. past_each past_script items c.args.at) c.iter.ensures.rest
