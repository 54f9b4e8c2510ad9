-- The block that the gaps tell is one of the drive's, or there is none.
use Rattle.std.proofs.Common.{◌≡◌, ◌≢◌, ◌+◌, ◌∙◌, ℕ}
use Rattle.geometry_map.specs.Size.{total_of}
use Rattle.geometry_map.specs.Slips.{slipped}
use Rattle.geometry_map.proofs.PlacerLemmas.{start-told, no-start-told}
use Rattle.geometry_map.proofs.placer.Placer.starts_a_block.Goals as goal

pub returns-in-Some : goal.returns-in-Some
returns-in-Some c m is =
    let at : slipped (16 + c.in-Some.b) m.primary ≡ c.args.p.0 = c.in-Some.ensures m.primary (total_of m.size) is.valid.primary.ascending (c.deref.ensures.0 ∙ is.gaps) in
    start-told m c.args.p c.in-Some.b c.args.self.now.blocks is.valid is.blocks at

pub returns-in-None : goal.returns-in-None
returns-in-None c m is =
    let none : (b : ℕ) → slipped (16 + b) m.primary ≢ c.args.p.0 = c.in-None.ensures m.primary (total_of m.size) is.valid.primary.ascending (c.deref.ensures.0 ∙ is.gaps) in
    no-start-told m c.args.p is.valid none
