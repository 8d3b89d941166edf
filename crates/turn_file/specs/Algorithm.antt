-- The number and the name of each algorithm.
use Rattle.std.specs.Prelude.{ℕ, cond, List, ◌++◌, codes, decimal, Ok, Err, Result, ◌==◌}
use Rattle.turn_file.specs.declared.plan.Algorithm.{Algorithm}
use Rattle.turn_file.specs.declared.plan.Algorithm.TheVariants.{Ticket, Mcs}
use Rattle.turn_file.specs.declared.plan.UnknownAlgorithm.{UnknownAlgorithm}

abbrev pub algorithm_number : Algorithm → ℕ
algorithm_number Ticket = 1
algorithm_number Mcs = 2

abbrev pub algorithm_from : ℕ → Result Algorithm UnknownAlgorithm
algorithm_from n =
    cond (n == algorithm_number Ticket) (Ok Ticket)
    (cond (n == algorithm_number Mcs) (Ok Mcs) (Err (record { number = n })))

abbrev pub algorithm_text : Algorithm → List ℕ
algorithm_text Ticket = codes "ticket"
algorithm_text Mcs = codes "mcs"

abbrev pub unknown_algorithm_text : ℕ → List ℕ
unknown_algorithm_text n = decimal n ++ codes " is no algorithm"
