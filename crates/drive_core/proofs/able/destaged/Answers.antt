use Rattle.std.proofs.Common.{◌∙◌, ap}
use Rattle.std.specs.List.{list_any}
use Rattle.write_cache.specs.Contents.{is_at, oldest_but}
use Rattle.drive_core.specs.Claims.{is_held_by}
use Rattle.drive_core.proofs.Destaged.{destaged-is}
use Rattle.drive_core.proofs.able.destaged.Goals as goal

pub returns : goal.returns
returns c s fits =
    destaged-is s c.args.server.now c.as_slice-2.result.now c.oldest_dirty.result fits
    (λ b. ap (list_any (is_at b)) c.as_slice-2.ensures.value
    ∙ (c.held_blocks-held.ensures b ∙ ap (list_any (is_held_by b)) (c.as_slice.ensures.value ∙ c.claims-claims.ensures.claims s fits)))
    (c.oldest_dirty.ensures ∙ ap (oldest_but c.as_slice-2.result.now) c.cached.ensures)
