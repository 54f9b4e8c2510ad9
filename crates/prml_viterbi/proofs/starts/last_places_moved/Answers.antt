use Rattle.std.proofs.Common.{◌∙◌, ap, length, get_or, pos}
use Rattle.std.specs.Prelude.{replicate}
use borrow.Rule.Slice.PartMut.{put_mid}
use Rattle.prml_viterbi.specs.Starts.{is_moved}
use Rattle.prml_viterbi.proofs.WordStarts.{padded}
use Rattle.prml_viterbi.proofs.starts.last_places_moved.Goals as goal

pub returns : goal.returns
returns c = λ k below.
    let n = length c.args.samples.now in
    c.places_moved.ensures k below
    ∙ ap (λ ys. is_moved (get_or (put_mid 0 n (replicate 64 (pos 0)) ys) k (pos 0))) c.copy_from_slice.ensures.after
    ∙ ap is_moved (padded c.args.samples.now 64 n k)
