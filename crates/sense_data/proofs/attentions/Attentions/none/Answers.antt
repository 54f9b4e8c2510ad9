use Rattle.std.proofs.Common.{rules, []}
use Rattle.sense_data.proofs.Alike.{replicate-alike}
use Rattle.sense_data.proofs.attentions.Attentions.none.Goals as goal

pub returns : goal.returns
returns c =
    replicate-alike [] 8 _ c.from_fn.ensures.items.long
    (λ i d lt. let called = (c.from_fn.ensures.items.at i d lt).2 in search rules)
