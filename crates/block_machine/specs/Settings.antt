-- Mode values (SPC-4, MODE SELECT (6) and (10) commands).
use Rattle.std.specs.Prelude.{ℕ, ◌==◌, ◌&&◌, Bool, not, if◌then◌else◌, List, [], replicate, Result}
use Rattle.disk_base.specs.declared.command.DataOut.{DataOut}
use Rattle.disk_base.specs.declared.command.DataOut.TheVariants.{Nothing, Fill, Given}
use Rattle.sense_data.specs.declared.sense.Sense.{Sense}
use Rattle.mode_pages.specs.declared.settings.Settings.{Settings}
use Rattle.mode_pages.specs.ModeSelect.{selected}

-- two flags are the same
abbrev pub same_flag : Bool → Bool → Bool
same_flag a b = if a then b else not b

-- all seven mode values are the same
abbrev pub same_settings : Settings → Settings → Bool
same_settings s t = same_flag s.awre t.awre && same_flag s.arre t.arre && same_flag s.per t.per && s.retry == t.retry
    && same_flag s.wce t.wce && same_flag s.rcd t.rcd && same_flag s.bms t.bms

-- the parameter list that came with a MODE SELECT that states this length
abbrev pub parameter_list : DataOut → ℕ → List ℕ
parameter_list Nothing count = []
parameter_list (Fill byte) count = replicate count byte
parameter_list (Given bytes) count = bytes

-- the mode values that a MODE SELECT makes of those that hold, or why it is refused
abbrev pub settings_made : ℕ → Settings → Bool → ℕ → DataOut → Result Settings Sense
settings_made capacity settings ten count sent = selected settings capacity ten (parameter_list sent count)
