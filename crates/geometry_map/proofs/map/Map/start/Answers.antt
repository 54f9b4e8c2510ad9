-- Block b starts where 16 + b slips to.
use Rattle.std.proofs.Common.{◌∙◌, ◌+◌, ap, sym}
use Rattle.geometry_map.specs.DefectMap.{sector}
use Rattle.geometry_map.specs.Slips.{slipped}
use Rattle.geometry_map.proofs.SpareLemmas.{slip_place-slipped}
use Rattle.geometry_map.proofs.map.Map.start.Goals as goal

pub returns : goal.returns
returns c =
    let start = slip_place-slipped c.args.self.now.size c.args.self.now.primary c.args.b.0 c.lists_are_valid.ensures.primary c.requires in
    ap sector (c.slip.ensures ∙ ap (slipped (16 + c.args.b.0)) c.primary.ensures ∙ sym start)
