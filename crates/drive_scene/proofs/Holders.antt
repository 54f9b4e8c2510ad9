-- Where nobody holds a block, no command and no move does.
use Rattle.std.proofs.Common.{◌≡◌, ℕ, Option, Some, None, refl}
use Rattle.std.specs.Option.{option_map, option_or}
use Rattle.block_machine.specs.declared.turn.Label.{Label}
use Rattle.drive_scene.specs.declared.event.Holder.TheVariants as holder
use Rattle.drive_scene.specs.Scene.{Scene}
use Rattle.drive_scene.specs.Holds.{command_besides, move_besides, holder_besides}

-- of two that aren't there
second_none : (o p : Option ℕ) → option_or (option_map holder.Job o) (option_map holder.Command p) ≡ None → p ≡ None
second_none None None is = refl
second_none None (Some c) is = absurd (cc)
second_none (Some j) p is = absurd (cc)

first_none : (o p : Option ℕ) → option_or (option_map holder.Job o) (option_map holder.Command p) ≡ None → o ≡ None
first_none None p is = refl
first_none (Some j) p is = absurd (cc)

pub no_command : (s : Scene) (label : Label) (b : ℕ) → holder_besides s label b ≡ None → command_besides s label b ≡ None
no_command s label b free = second_none (move_besides s label b) (command_besides s label b) free

pub no_move : (s : Scene) (label : Label) (b : ℕ) → holder_besides s label b ≡ None → move_besides s label b ≡ None
no_move s label b free = first_none (move_besides s label b) (command_besides s label b) free
