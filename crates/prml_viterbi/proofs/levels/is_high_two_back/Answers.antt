-- Behind the two first places, the level two places before stands in the word.
use Rattle.std.proofs.Common.{◌≡◌, suc, ◌+◌, ◌-◌, get_or, pos, ap, ◌∙◌, arith}
use Rattle.std.proofs.lemmas.List.{get_or_default}
use Rattle.prml_viterbi.specs.Levels.{level_at, is_high}
use Rattle.prml_viterbi.proofs.LevelWords.{above_zero-is_high}
use Rattle.prml_viterbi.proofs.levels.is_high_two_back.Goals as goal

pub returns-else-k-lt2 : goal.returns-else-k-lt2
returns-else-k-lt2 c =
    let w = c.args.levels.now in
    let j = c.args.k - 2 in
    let there : suc (suc (suc j)) ≡ c.args.k + 1 = omega arith in
    let same : get_or w j (pos 0) ≡ level_at w (c.args.k + 1) =
    get_or_default w j (pos 0) (pos 1) (omega arith) ∙ ap (level_at w) there in
    above_zero-is_high (get_or w j (pos 0)) (c.requires.levels j (pos 0) (omega arith)) ∙ ap is_high same
