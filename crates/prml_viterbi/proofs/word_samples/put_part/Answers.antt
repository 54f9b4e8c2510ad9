use Rattle.std.proofs.Common.{◌≡◌, ◌≢◌, ℕ, ◌+◌, ◌*◌, ◌/◌, ◌%◌, ◌<◌, set, get_or, pos, FitsSigned, w8, ap, ◌∙◌, below_more, get_or-set_same, get_or-set_other, arith, rules}
use Rattle.std.proofs.lemmas.Int.{to_z-of_z}
use Rattle.prml_viterbi.specs.LevelBits.{sample_by}
use Rattle.prml_viterbi.proofs.LevelNumbers.{sample_cut}
use Rattle.prml_viterbi.proofs.word_samples.put_part.Goals as goal

pub loop-k-preserved : goal.loop-k-preserved
loop-k-preserved c =
    let t = 4 * c.args.levels + c.args.before in
    let k = c.loop-k.k in
    let place : 8 * (k / 8) + k % 8 ≡ k = omega arith in
    let fits : FitsSigned w8 c.sample_in_row.result = search rules in
    let here : c.sample_in_row.result ≡ sample_by t k =
    c.sample_in_row.ensures ∙ ap (λ l. sample_by l (k % 8)) c.ten_levels.ensures.value ∙ sample_cut t (8 * (k / 8)) (k % 8) (omega arith) ∙ ap (sample_by t) place in
    let more : (m : ℕ) → m < k + 1 → get_or (set c.loop-k.places k c.sample_in_row.result) m (pos 0) ≡ sample_by t m =
    below_more _ _
    (λ m h. let ne : m ≢ k = omega arith in get_or-set_other c.loop-k.places k m c.sample_in_row.result (pos 0) ne ∙ c.loop-k.invariant m h)
    (get_or-set_same c.loop-k.places k c.sample_in_row.result (pos 0) (omega arith) ∙ here) in
    rw (to_z-of_z w8 c.sample_in_row.result fits) more
