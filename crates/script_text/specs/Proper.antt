-- Which lines there are: their numbers are in the ranges of their forms.
use Rattle.std.specs.Prelude.{ℕ, ◌+◌, ◌<◌, ◌≤◌, ⊤, nat_abs, List}
use Rattle.hex.specs.Hex.{IsBytes}
use Rattle.disk_base.specs.Cdb.{IsCommandBlock}
use Rattle.disk_base.specs.declared.command.DataOut.{DataOut}
use Rattle.disk_base.specs.declared.command.DataOut.TheVariants.{Nothing, Fill, Given}
use Rattle.disk_base.specs.declared.command.Function.{Function as Asked}
use Rattle.disk_base.specs.declared.command.Function.TheVariants.{Abort, AbortSet, Clear, Reset}
use Rattle.platter_model.specs.declared.damage.Lasting.{Lasting}
use Rattle.platter_model.specs.declared.damage.Lasting.TheVariants.{Hard, Soft, Plus, Minus}
use Rattle.platter_model.specs.declared.damage.Effect.{Effect}
use Rattle.platter_model.specs.declared.damage.Effect.TheVariants.{Drop, Add}
use Rattle.platter_model.specs.declared.damage.Damage.{Damage as Harm}
use Rattle.platter_model.specs.declared.world.World.{World as Event}
use Rattle.platter_model.specs.declared.world.World.TheVariants.{Damage, Fault, Cut, Arm, Power, Minutes}
use Rattle.script_text.specs.declared.script.Line.{Line}
use Rattle.script_text.specs.declared.script.Line.TheVariants.{Command, Function, Scan, Destage, Go, World}

-- data are bytes
abbrev pub IsSent : DataOut → Type 0
IsSent Nothing = ⊤
IsSent (Fill byte) = byte < 256
IsSent (Given bytes) = IsBytes bytes

abbrev pub IsAsked : Asked → Type 0
IsAsked (Abort t) = t.0 ≤ 65535
IsAsked AbortSet = ⊤
IsAsked Clear = ⊤
IsAsked Reset = ⊤

abbrev pub IsLasting : Lasting → Type 0
IsLasting Hard = ⊤
IsLasting (Soft n) = (1 ≤ n) × (n ≤ 255)
IsLasting Plus = ⊤
IsLasting Minus = ⊤

abbrev pub IsEffect : Effect → Type 0
IsEffect Drop = ⊤
IsEffect (Add d) = (1 ≤ nat_abs d) × (nat_abs d ≤ 127)

-- the samples are those of a sector
pub record IsHarm (total : ℕ) (d : Harm) : Type 0 where
  pub sector : d.p.0 < total
  pub some : 1 ≤ d.count
  pub within : d.first + d.count ≤ 9478
  pub lasting : IsLasting d.lasting
  pub effect : IsEffect d.effect

-- what may happen to a drive of so many sectors
abbrev pub IsEvent : ℕ → Event → Type 0
IsEvent total (Damage d) = IsHarm total d
IsEvent total (Fault p) = (16 ≤ p.0) × (p.0 < total)
IsEvent total Cut = ⊤
IsEvent total (Arm k tear) = (1 ≤ k) × (k ≤ 4294967295) × (tear.scar ≤ 9478)
IsEvent total Power = ⊤
IsEvent total (Minutes n) = n ≤ 65535

-- a command of one of the eight initiators
pub record IsCommand (i tag : ℕ) (cdb : List ℕ) (sent : DataOut) : Type 0 where
  pub from_one : 1 ≤ i
  pub to_eight : i ≤ 8
  pub tag_fits : tag ≤ 65535
  pub bytes : IsBytes cdb
  pub block : IsCommandBlock cdb
  pub data_are_bytes : IsSent sent

-- a line of the body on a drive of so many sectors
abbrev pub IsProper : ℕ → Line → Type 0
IsProper total (Command i t a cdb sent) = IsCommand i t.0 cdb sent
IsProper total (Function i what) = (1 ≤ i) × (i ≤ 8) × IsAsked what
IsProper total (Scan n) = (1 ≤ n) × (n ≤ 60000)
IsProper total (Destage n) = (1 ≤ n) × (n ≤ 60000)
IsProper total Go = ⊤
IsProper total (World event) = IsEvent total event
