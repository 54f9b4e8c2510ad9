-- What a turn of a sync needs.
use Rattle.std.specs.Prelude.{◌≡◌, ℕ, List, Some}
use Rattle.std.specs.Option.{option_map}
use Rattle.command_engine.specs.declared.need.Need.{Need}
use Rattle.command_engine.specs.Need.{need_of}
use Rattle.drive_core.specs.declared.accepted.Accepted.{Accepted}
use Rattle.drive_core.specs.Accepting.{under_way}

-- a started command needs this next
abbrev pub Needs : List Accepted → ℕ → Need → Type 0
Needs commands c need = option_map (λ w. need_of w) (under_way commands c) ≡ Some need
