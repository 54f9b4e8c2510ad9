-- What stands behind the bytes is what is left of the zeros.
use Rattle.std.proofs.Common.{ℕ, List, ◌++◌, length, drop, replicate, ap, ◌∙◌}
use Rattle.std.proofs.lemmas.List.{drop-replicate}
use Rattle.map_generations.proofs.record.zero_filled.Goals as goal

pub returns : goal.returns
returns c =
    ap (λ (front : List ℕ). front ++ drop (length c.args.bytes.now) (replicate 512 0)) c.copy_from_slice.ensures.after
    ∙ ap (λ (behind : List ℕ). c.args.bytes.now ++ behind) (drop-replicate (length c.args.bytes.now) 512 0)
