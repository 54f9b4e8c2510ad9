use Rattle.std.proofs.lemmas.List.{drop-drop}
use Rattle.map_generations.proofs.reading.pair_at.Goals as goal

pub returns : goal.returns
returns c =
    let behind = drop-drop 4 c.args.at c.args.block.now in
    rw behind (cc)
