use Rattle.std.proofs.Common.{◌≡◌, map, take}
use Rattle.sense_data.specs.Attentions.{attention_sense}
use Rattle.sense_data.proofs.attentions.Attentions.all.Given as goal

-- the attentions looked at so far were added, in order
abbrev pub invariant-loop-attention : goal.invariant-loop-attention
invariant-loop-attention l = l.all.items ≡ map attention_sense (take l.attention-index l.attention-items)
