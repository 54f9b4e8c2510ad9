use Rattle.rll_code.proofs.Packing.{packed_bits}
use Rattle.rll_code.proofs.decoder.packed.Goals as goal

pub returns : goal.returns
returns c =
    packed_bits c.args.channel.now _ _ _ _ _ _ _ _ c.requires c.from.ensures c.from-2.ensures c.from-3.ensures c.from-4.ensures c.from-5.ensures c.from-6.ensures c.from-7.ensures c.from-8.ensures
