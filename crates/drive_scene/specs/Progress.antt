-- Why somebody is able: a command that waits for a block waits for one that can go on.
use Rattle.std.specs.Prelude.{◌⊎◌, ◌<◌, length}
use Rattle.drive_scene.specs.Scene.{Scene}
use Rattle.drive_scene.specs.Able.{able, nothing_waiting}

-- while commands are in or moves are in flight, work on one of them may come
abbrev pub SomebodyIsAble : Scene → Type 0
SomebodyIsAble s = (0 < length s.hist.set) ⊎ (0 < length s.back.flights) → 0 < length (able s nothing_waiting)
