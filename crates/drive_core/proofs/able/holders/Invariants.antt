-- Those of the claims so far by which a block is held.
use Rattle.std.proofs.Common.{◌≡◌, ◌≤◌, length, filter, take}
use Rattle.drive_core.specs.Claims.{is_holder}
use Rattle.drive_core.proofs.able.holders.Given as goal

abbrev pub invariant-loop-claim : goal.invariant-loop-claim
invariant-loop-claim l = record {
  found : l.holders.items ≡ filter is_holder (take l.claim-index l.claims);
  few : length l.holders.items ≤ l.claim-index;
}
