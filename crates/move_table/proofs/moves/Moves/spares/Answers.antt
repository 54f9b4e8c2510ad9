use Rattle.move_table.proofs.Numbers.{next-has_room}
use Rattle.move_table.proofs.moves.Moves.spares.Goals as goal

pub add_spares-requires : goal.add_spares-requires
add_spares-requires c =
    next-has_room c.args.self.now.flights c.as_slice-flight-items.result.now c.loop-flight.spares.items c.loop-flight.flight-index c.flight-item.result _
    (rw (← c.self.view_is) c.as_slice-flight-items.ensures.value) c.loop-flight.invariant c.loop-flight-test.true c.flight-item.is c.requires
