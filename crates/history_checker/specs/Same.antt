-- When what a turn tells is what a line asks for.
use Rattle.std.specs.Prelude.{◌==◌, ◌&&◌, Bool, true, false, bytes_eq}
use Rattle.std.specs.Ordering.{int_eq}
use Rattle.disk_base.specs.declared.command.Attribute.{Attribute}
use Rattle.disk_base.specs.declared.command.Attribute.TheVariants.{Simple, Ordered, Head}
use Rattle.disk_base.specs.declared.command.DataOut.{DataOut}
use Rattle.disk_base.specs.declared.command.DataOut.TheVariants.{Nothing, Fill, Given}
use Rattle.disk_base.specs.declared.command.Function.{Function}
use Rattle.disk_base.specs.declared.command.Function.TheVariants.{Abort, AbortSet, Clear, Reset}
use Rattle.platter_model.specs.declared.damage.Damage.{Damage}
use Rattle.platter_model.specs.declared.damage.Effect.{Effect}
use Rattle.platter_model.specs.declared.damage.Effect.TheVariants.{Add, Drop}
use Rattle.platter_model.specs.declared.damage.Lasting.{Lasting}
use Rattle.platter_model.specs.declared.damage.Lasting.TheVariants.{Hard, Soft, Plus, Minus}
use Rattle.platter_model.specs.declared.damage.Left.{Left}
use Rattle.platter_model.specs.declared.damage.Left.TheVariants.{Old, New, Nothing as Neither}
use Rattle.platter_model.specs.declared.damage.Tear.{Tear}
use Rattle.platter_model.specs.declared.world.World.{World}
use Rattle.platter_model.specs.declared.world.World.TheVariants as world
use Rattle.block_machine.specs.declared.entry.Entry.{Entry}
use Rattle.block_machine.specs.declared.entry.Entry.TheVariants.{Arrived, Asked}
use Rattle.script_text.specs.declared.script.Line.{Line}
use Rattle.script_text.specs.declared.script.Line.TheVariants as script

abbrev pub same_attribute : Attribute → Attribute → Bool
same_attribute Simple Simple = true
same_attribute Ordered Ordered = true
same_attribute Head Head = true
same_attribute a b = false

abbrev pub same_data : DataOut → DataOut → Bool
same_data Nothing Nothing = true
same_data (Fill a) (Fill b) = a == b
same_data (Given a) (Given b) = bytes_eq a b
same_data a b = false

abbrev pub same_function : Function → Function → Bool
same_function (Abort a) (Abort b) = a.0 == b.0
same_function AbortSet AbortSet = true
same_function Clear Clear = true
same_function Reset Reset = true
same_function a b = false

-- the entry of an arrival tells the command or function of a line: who sends it, and all that is sent
abbrev pub tells : Entry → Line → Bool
tells (Arrived c i t a cdb sent) (script.Command j u b bytes given) =
    i == j && t.0 == u.0 && same_attribute a b && bytes_eq cdb bytes && same_data sent given
tells (Asked i what) (script.Function j asked) = i == j && same_function what asked
tells entry line = false

abbrev pub same_lasting : Lasting → Lasting → Bool
same_lasting Hard Hard = true
same_lasting (Soft m) (Soft n) = m == n
same_lasting Plus Plus = true
same_lasting Minus Minus = true
same_lasting a b = false

abbrev pub same_effect : Effect → Effect → Bool
same_effect Drop Drop = true
same_effect (Add m) (Add n) = int_eq m n
same_effect a b = false

abbrev pub same_damage : Damage → Damage → Bool
same_damage a b =
    a.p.0 == b.p.0 && a.first == b.first && a.count == b.count && same_lasting a.lasting b.lasting && same_effect a.effect b.effect

abbrev pub same_left : Left → Left → Bool
same_left Old Old = true
same_left New New = true
same_left Neither Neither = true
same_left a b = false

abbrev pub same_tear : Tear → Tear → Bool
same_tear a b = same_left a.left b.left && a.scar == b.scar

-- the same happens from outside
abbrev pub same_world : World → World → Bool
same_world (world.Damage a) (world.Damage b) = same_damage a b
same_world (world.Fault p) (world.Fault q) = p.0 == q.0
same_world world.Cut world.Cut = true
same_world (world.Arm k a) (world.Arm l b) = k == l && same_tear a b
same_world world.Power world.Power = true
same_world (world.Minutes m) (world.Minutes n) = m == n
same_world a b = false
