use Rattle.std.proofs.Common.{◌∙◌, ap}
use Rattle.geometry_map.specs.DefectMap.{DefectMap}
use Rattle.geometry_map.proofs.Numbering.{LiesAt-divided}
use Rattle.geometry_map.proofs.map.Map.cylinder_head_sector.Goals as goal

pub returns : goal.returns
returns c =
    LiesAt-divided c.args.self.now.size c.args.p.0 c.from-heads.result c.from-sectors.result
    (c.from-heads.ensures ∙ ap (λ (m : DefectMap). m.size.heads) c.self.view_is)
    (c.from-sectors.ensures ∙ ap (λ (m : DefectMap). m.size.sectors) c.self.view_is)
