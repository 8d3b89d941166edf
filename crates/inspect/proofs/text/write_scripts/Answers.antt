use Rattle.std.proofs.Common.{◌+◌, ◌++◌, codes, refl}
use Rattle.inspect.specs.Text.{script_text, script_lines}
use Rattle.inspect.proofs.Printed.{one_element}
use Rattle.inspect.proofs.text.write_scripts.Goals as goal

pub loop-worker-preserved : goal.loop-worker-preserved
loop-worker-preserved g c plain =
    let worker = c.loop-worker.worker in
    one_element (λ s. script_text worker s ++ codes "\n") (script_lines worker) (λ s. script_lines (worker + 1))
    _ _ (λ s ss. refl) c.loop-worker-test.true (c.loop-worker.invariant plain) c.in_ok-writeln.ensures.writes
