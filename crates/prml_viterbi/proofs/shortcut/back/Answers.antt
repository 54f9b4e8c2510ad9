-- A place within the word is three places on with those before it.
use Rattle.std.proofs.Common.{◌+◌, ◌-◌, pos, get_or, FitsSigned, w8, ◌∙◌, arith, rules}
use Rattle.std.proofs.lemmas.Int.{to_z-of_z}
use Rattle.prml_viterbi.proofs.CleanPlaces.{level_in_word}
use Rattle.prml_viterbi.proofs.shortcut.back.Goals as goal

pub returns-else-k-places : goal.returns-else-k-places
returns-else-k-places c =
    let j = c.args.k - c.args.places in
    let fits : FitsSigned w8 (get_or c.args.word.now j (pos 0)) = search rules in
    to_z-of_z w8 (get_or c.args.word.now j (pos 0)) fits ∙ level_in_word c.args.word.now (c.args.k + 3 - c.args.places) j (omega arith) (omega arith)
