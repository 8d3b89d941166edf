use Rattle.turn_file.proofs.Spelled.{one_spelling}
use Rattle.turn_file.proofs.number.one_spelling_for_each_number.Goals as goal

pub returns : goal.returns
returns c = one_spelling
