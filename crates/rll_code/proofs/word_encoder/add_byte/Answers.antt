use Rattle.std.proofs.Common.{◌+◌, ◌*◌, ap}
use Rattle.rll_code.proofs.WordCoding.{byte_more}
use Rattle.rll_code.proofs.word_encoder.add_byte.Goals as goal

pub returns-clause-goes_on : goal.returns-clause-goes_on
returns-clause-goes_on c = λ message written so_far.
    byte_more message written c.args.state c.args.carry c.args.byte c.look_up-found.result.placed c.look_up-found.result.state _
    (ap (λ n. c.args.carry + 1024 * n) c.from.ensures) so_far c.look_up-found.ensures.places

pub returns-clause-state : goal.returns-clause-state
returns-clause-state c = c.look_up-found.ensures.places.known
