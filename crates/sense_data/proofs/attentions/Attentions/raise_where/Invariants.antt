-- The initiators before this one were told where they are marked.
use Rattle.std.proofs.Common.{◌≡◌, take}
use Rattle.sense_data.specs.Attentions.{raised_where}
use Rattle.sense_data.proofs.attentions.Attentions.raise_where.Given as goal

abbrev pub invariant-loop-place : goal.invariant-loop-place
invariant-loop-place l = l.self ≡ raised_where (take l.place l.marks) l.attention l.initial.self
