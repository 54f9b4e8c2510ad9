-- The blocks that the claims so far hold.
use Rattle.std.proofs.Common.{◌≡◌, ◌≤◌, length, take}
use Rattle.std.specs.List.{list_any}
use Rattle.disk_base.specs.declared.address.Lba.{Lba}
use Rattle.write_cache.specs.Contents.{is_at}
use Rattle.drive_core.specs.Claims.{is_held_by}
use Rattle.drive_core.proofs.able.held_blocks.Given as goal

abbrev pub invariant-loop-claim : goal.invariant-loop-claim
invariant-loop-claim l = record {
  found : (b : Lba) → list_any (is_at b) l.held.items ≡ list_any (is_held_by b) (take l.claim-index l.claims);
  few : length l.held.items ≤ l.claim-index;
}
