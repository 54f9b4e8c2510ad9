use Rattle.std.proofs.Common.{ℕ, List, [], refl, sym, subst}
use Rattle.geometry_map.specs.Size.{capacity_of}
use Rattle.block_machine.specs.declared.turn.Turn.{Turn}
use Rattle.drive_scene.specs.declared.made.Made.{Made}
use Rattle.drive_core.specs.declared.server.Server.{Server}
use Rattle.drive_scene.specs.Run.{run_of}
use Rattle.drive_core.specs.Starting.{KnowsStart}
use Rattle.drive_core.specs.Kept.{Kept}
use Rattle.drive_core.proofs.Fresh.{kept-fresh}
use Rattle.drive_core.proofs.drive.Drive.factory.Goals as goal

pub invariant_of-result : goal.invariant_of-result
invariant_of-result c =
    let d : Server = record {
      store = c.in_ok-store.store;
      set = c.new.result;
      commands = c.new-2.result;
      arrived = 0;
      known = c.in_ok-known_at_start.field-0;
    } in
    let knows : KnowsStart (capacity_of c.args.size) c.in_ok-known_at_start.field-0 =
    subst (λ (n : ℕ). KnowsStart n c.in_ok-known_at_start.field-0) c.capacity.ensures.value c.in_ok-known_at_start.ensures in
    subst (λ (ts : List Turn). Kept (run_of c.in_ok-told.field-0 c.in_ok-store.store ts 0) d) (sym c.new-3.ensures.items)
    (subst (λ (m : Made). Kept (run_of m c.in_ok-store.store [] 0) d) (sym c.in_ok-told.ensures)
    (kept-fresh (record { size = c.args.size; primary = c.args.primary.now }) d c.in_ok-store.ensures.0 c.factories_leave_zeros.ensures
    (record { there = c.stands.ensures.there; finds = c.stands.ensures.finds; may = c.stands.ensures.may }) c.new.ensures c.new-2.ensures.items refl knows))
