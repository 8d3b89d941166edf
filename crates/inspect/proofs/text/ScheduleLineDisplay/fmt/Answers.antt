use Rattle.std.proofs.Common.{refl}
use Rattle.std.specs.List.{flat_map}
use Rattle.std.proofs.Output.{has_written_append}
use Rattle.std.proofs.lemmas.List.{at_drop_all}
use Rattle.inspect.specs.Text.{entry_text}
use Rattle.inspect.proofs.Printed.{nothing_yet, one_element, all}
use Rattle.inspect.proofs.text.ScheduleLineDisplay.fmt.Goals as goal

pub loop-entry-init : goal.loop-entry-init
loop-entry-init g c plain = nothing_yet plain

pub loop-entry-preserved : goal.loop-entry-preserved
loop-entry-preserved g c plain =
    one_element entry_text (flat_map entry_text) (λ e. flat_map entry_text) _ _ (λ e es. refl) c.loop-entry-test.true
    (c.loop-entry.invariant plain) c.in_ok-write.ensures.writes

pub returns-clause-writes : goal.returns-clause-writes
returns-clause-writes g c plain ok =
    let word = c.in_ok-write_str.ensures.writes plain refl in
    let entries = all (c.loop-entry.invariant word.plain)
    (at_drop_all (flat_map entry_text) _ _ c.loop-entry-test.false) in
    has_written_append _ _ _ _ _ _ word entries
