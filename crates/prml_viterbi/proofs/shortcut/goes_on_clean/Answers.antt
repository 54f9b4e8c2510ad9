-- One place more.
use Rattle.std.proofs.Common.{suc, ◌-◌, pos, get_or, FitsSigned, w8, refl, ◌∙◌, arith, rules}
use Rattle.std.proofs.lemmas.Int.{to_z-of_z}
use Rattle.std.proofs.lemmas.Bool.Decides.{Decides-like}
use Rattle.prml_viterbi.proofs.CleanPlaces.{level_in_word, Decides-place, Decides-places_more}
use Rattle.prml_viterbi.proofs.shortcut.goes_on_clean.Goals as goal

pub loop-k-init : goal.loop-k-init
loop-k-init c = (λ _ j a b c. absurd (omega arith), λ _. refl)

pub loop-k-preserved : goal.loop-k-preserved
loop-k-preserved c =
    let w = c.args.word.now in
    let k = c.loop-k.k in
    let sample : FitsSigned w8 (get_or c.args.samples.now k (pos 0)) = search rules in
    let level : FitsSigned w8 (get_or w k (pos 0)) = search rules in
    let one : FitsSigned w8 (get_or w (k - 1) (pos 0)) = search rules in
    let two : FitsSigned w8 (get_or w (k - 2) (pos 0)) = search rules in
    let three : FitsSigned w8 (get_or w (k - 3) (pos 0)) = search rules in
    Decides-places_more c.args.samples.now w 3 k c.loop-k.clean c.follows-clean.result (omega arith) (omega arith) c.loop-k.invariant
    (Decides-place c.args.samples.now w k c.follows-clean.result _ _ _ _ _
    (to_z-of_z w8 (get_or c.args.samples.now k (pos 0)) sample)
    (to_z-of_z w8 (get_or w k (pos 0)) level ∙ level_in_word w (suc (suc (suc k))) k refl (omega arith))
    (to_z-of_z w8 (get_or w (k - 1) (pos 0)) one ∙ level_in_word w (suc (suc k)) (k - 1) (omega arith) (omega arith))
    (to_z-of_z w8 (get_or w (k - 2) (pos 0)) two ∙ level_in_word w (suc k) (k - 2) (omega arith) (omega arith))
    (to_z-of_z w8 (get_or w (k - 3) (pos 0)) three ∙ level_in_word w k (k - 3) (omega arith) (omega arith))
    c.follows-clean.ensures)

pub returns : goal.returns
returns c = Decides-like c.loop-k.clean (λ f k a b. f k a (omega arith) b) (λ f k a _ b. f k a b) c.loop-k.invariant
