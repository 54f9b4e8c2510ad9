-- One place more, the levels before the word counted.
use Rattle.std.proofs.Common.{◌≡◌, suc, ◌+◌, ◌-◌, pos, get_or, FitsSigned, w8, refl, ap, ◌∙◌, arith, rules}
use Rattle.std.proofs.lemmas.Int.{to_z-of_z}
use Rattle.std.proofs.lemmas.Bool.Decides.{Decides-like}
use Rattle.prml_viterbi.specs.Levels.{level_at}
use Rattle.prml_viterbi.proofs.CleanPlaces.{level_in_word, Decides-place, Decides-places_more}
use Rattle.prml_viterbi.proofs.shortcut.starts_clean.Goals as goal

pub loop-k-init : goal.loop-k-init
loop-k-init c = (λ _ j a b c. absurd (omega arith), λ _. refl)

pub loop-k-preserved : goal.loop-k-preserved
loop-k-preserved c =
    let w = c.args.word.now in
    let k = c.loop-k.k in
    let sample : FitsSigned w8 (get_or c.args.samples.now k (pos 0)) = search rules in
    let level : FitsSigned w8 (get_or w k (pos 0)) = search rules in
    let one : FitsSigned w8 c.back.result = search rules in
    let two : FitsSigned w8 c.back-in-loop-k.result = search rules in
    let three : FitsSigned w8 c.back-in-loop-k-2.result = search rules in
    let one_on : k + 3 - 1 ≡ suc (suc k) = omega arith in
    let two_on : k + 3 - 2 ≡ suc k = omega arith in
    let three_on : k + 3 - 3 ≡ k = omega arith in
    Decides-places_more c.args.samples.now w 0 k c.loop-k.clean c.follows-clean.result (omega arith) (omega arith) c.loop-k.invariant
    (Decides-place c.args.samples.now w k c.follows-clean.result _ _ _ _ _
    (to_z-of_z w8 (get_or c.args.samples.now k (pos 0)) sample)
    (to_z-of_z w8 (get_or w k (pos 0)) level ∙ level_in_word w (suc (suc (suc k))) k refl (omega arith))
    (to_z-of_z w8 c.back.result one ∙ c.back.ensures ∙ ap (level_at w) one_on)
    (to_z-of_z w8 c.back-in-loop-k.result two ∙ c.back-in-loop-k.ensures ∙ ap (level_at w) two_on)
    (to_z-of_z w8 c.back-in-loop-k-2.result three ∙ c.back-in-loop-k-2.ensures ∙ ap (level_at w) three_on)
    c.follows-clean.ensures)

pub returns : goal.returns
returns c = Decides-like c.loop-k.clean (λ f k a b. f k (omega arith) (omega arith) b) (λ f k _ a b. f k (omega arith) b) c.loop-k.invariant
