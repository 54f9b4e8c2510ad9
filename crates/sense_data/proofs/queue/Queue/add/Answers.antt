use Rattle.std.proofs.Common.{◌∙◌, sym, ap}
use Rattle.sense_data.specs.Attentions.{waits_in}
use Rattle.sense_data.proofs.Twice.{none_twice-push}
use Rattle.sense_data.proofs.queue.Queue.add.Goals as goal

pub invariant_of-self : goal.invariant_of-self
invariant_of-self c =
    rw c.push.ensures.items (none_twice-push c.args.attention c.self.inside.attentions.items
    (ap (waits_in c.args.attention) (sym c.as_slice.ensures.value) ∙ sym c.contains.ensures.value ∙ c.if-not-contains.true) c.self.invariant)
