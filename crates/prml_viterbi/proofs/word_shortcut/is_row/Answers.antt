use Rattle.std.proofs.Common.{◌≡◌, eqb, get_or, pos, FitsSigned, of_z, w8, refl, subst, Decides, arith, rules}
use Rattle.prml_viterbi.specs.LevelBits.{AreSamplesBy, sample_by}
use Rattle.prml_viterbi.proofs.CleanPlaces.{Decides-same_bits}
use Rattle.prml_viterbi.proofs.Spaced.{same_more}
use Rattle.prml_viterbi.proofs.word_shortcut.is_row.Goals as goal

pub loop-k-init : goal.loop-k-init
loop-k-init c = (λ _ j h. absurd (omega arith), λ _. refl)

pub loop-k-preserved : goal.loop-k-preserved
loop-k-preserved c =
    let k = c.loop-k.k in
    let a = c.args.samples.now in
    let sample = c.sample_in_row.result in
    let first : FitsSigned w8 (get_or a k (pos 0)) = search rules in
    let second : FitsSigned w8 sample = search rules in
    same_more a (sample_by c.args.levels) k c.loop-k.same _ c.loop-k.invariant (subst (λ z. Decides (eqb (of_z w8 (get_or a k (pos 0))) (of_z w8 sample)) (get_or a k (pos 0) ≡ z)) c.sample_in_row.ensures (Decides-same_bits w8 (get_or a k (pos 0)) sample first second))

pub returns : goal.returns
returns c = let e : c.loop-k.k ≡ 8 = omega arith in subst (λ n. Decides c.loop-k.same (AreSamplesBy c.args.samples.now c.args.levels n)) e c.loop-k.invariant
