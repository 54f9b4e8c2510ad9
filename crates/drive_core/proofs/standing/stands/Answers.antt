use Rattle.sector_store.specs.Maps.{meant_on}
use Rattle.drive_core.proofs.standing.stands.Goals as goal

pub returns-clause-finds : goal.returns-clause-finds
returns-clause-finds c ready taken may q =
    c.recovery_finds_what_is_stored.ensures c.args.store.now.map taken c.args.store.now.platter.ops (c.stands.ensures.there ready) may q

pub returns-clause-may : goal.returns-clause-may
returns-clause-may c ready number =
    let there = c.stands.ensures.there ready in
    c.present_maps_may_be_taken.ensures (meant_on c.args.store.now.platter.ops) c.args.store.now.map there.present there.valid there.in_use number
