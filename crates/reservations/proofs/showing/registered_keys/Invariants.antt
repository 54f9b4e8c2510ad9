-- The keys so far that are of registered initiators were added, in order.
use Rattle.std.proofs.Common.{◌≡◌, ◌≤◌, length, take}
use Rattle.reservations.specs.Pages.{registered_keys}
use Rattle.reservations.proofs.showing.registered_keys.Given as goal

abbrev pub invariant-loop-key : goal.invariant-loop-key
invariant-loop-key l = record {
  added : l.registered.items ≡ registered_keys (take l.key-index l.keys);
  room : length l.registered.items ≤ l.key-index;
}
