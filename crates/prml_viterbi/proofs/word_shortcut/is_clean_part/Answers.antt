use Rattle.std.proofs.Common.{◌≡◌, ◌+◌, ◌*◌, ◌/◌, ◌%◌, eqb, get_or, pos, FitsSigned, of_z, w8, refl, ap, ◌∙◌, Decides, subst, arith, rules}
use Rattle.prml_viterbi.specs.LevelBits.{sample_by}
use Rattle.prml_viterbi.proofs.CleanPlaces.{Decides-same_bits}
use Rattle.prml_viterbi.proofs.LevelNumbers.{sample_cut}
use Rattle.prml_viterbi.proofs.Spaced.{same_more}
use Rattle.prml_viterbi.proofs.word_shortcut.is_clean_part.Goals as goal

pub loop-k-init : goal.loop-k-init
loop-k-init c = (λ _ j h. absurd (omega arith), λ _. refl)

pub loop-k-preserved : goal.loop-k-preserved
loop-k-preserved c =
    let t = 4 * c.args.levels + c.args.before in
    let k = c.loop-k.k in
    let a = c.args.samples.now in
    let sample = c.sample_in_row.result in
    let place : 8 * (k / 8) + k % 8 ≡ k = omega arith in
    let here : sample ≡ sample_by t k =
    c.sample_in_row.ensures ∙ ap (λ l. sample_by l (k % 8)) c.ten_levels.ensures.value ∙ sample_cut t (8 * (k / 8)) (k % 8) (omega arith) ∙ ap (sample_by t) place in
    let first : FitsSigned w8 (get_or a k (pos 0)) = search rules in
    let second : FitsSigned w8 sample = search rules in
    same_more a (sample_by t) k c.loop-k.clean _ c.loop-k.invariant (subst (λ z. Decides (eqb (of_z w8 (get_or a k (pos 0))) (of_z w8 sample)) (get_or a k (pos 0) ≡ z)) here (Decides-same_bits w8 (get_or a k (pos 0)) sample first second))
