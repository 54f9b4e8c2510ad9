-- What the commands so far claim; so many accepted commands are older than those behind.
use Rattle.std.proofs.Common.{◌≡◌, ◌≤◌, length, map, take}
use Rattle.drive_scene.specs.Scene.{Scene}
use Rattle.drive_core.specs.Fits.{Fits}
use Rattle.drive_core.specs.Claims.{claim_of}
use Rattle.drive_core.proofs.Claimed.{IsOlder}
use Rattle.drive_core.proofs.able.claims.Given as goal

abbrev pub invariant-loop-member : goal.invariant-loop-member
invariant-loop-member l = record {
  claims : (s : Scene) → Fits s l.server → l.claims.items ≡ map (λ m. claim_of s m.task.c) (take l.member-index s.hist.set);
  each : length l.claims.items ≡ l.member-index;
  few : l.older ≤ l.member-index;
  older : IsOlder l.server.commands.items l.server.set l.older l.member-index;
}
