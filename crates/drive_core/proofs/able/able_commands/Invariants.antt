-- The commands so far on which work may come.
use Rattle.std.proofs.Common.{◌≡◌, ◌≤◌, length, filter, map, take, None}
use Rattle.std.specs.Prelude.{All}
use Rattle.drive_scene.specs.Scene.{Scene}
use Rattle.drive_core.specs.Fits.{Fits}
use Rattle.drive_scene.specs.Able.{is_able, refusal_of_work}
use Rattle.drive_core.proofs.able.able_commands.Given as goal

abbrev pub invariant-loop-i : goal.invariant-loop-i
invariant-loop-i l = record {
  able : (s : Scene) → Fits s l.server → l.able.items ≡ map (λ m. m.task.c) (filter (is_able s) (take l.i s.hist.set));
  free : (s : Scene) → Fits s l.server → All (λ c. refusal_of_work s 0 c ≡ None) l.able.items;
  few : length l.able.items ≤ l.i;
}
