use Rattle.move_table.proofs.Numbers.{told}
use Rattle.move_table.proofs.laws.moves_are_told_by_their_numbers.Goals as goal

pub returns : goal.returns
returns c opened flights table k d within = told flights k d table.ascend within
