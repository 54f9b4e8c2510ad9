-- What the laws' words say of a few entries.
use Rattle.std.proofs.Common.{◌≡◌, true, false, refl, [], ◌∷◌}
use Rattle.std.specs.Prelude.{Ok}
use Rattle.disk_base.specs.declared.command.Function.TheVariants.{AbortSet, Reset}
use Rattle.mode_pages.specs.declared.settings.Settings.{Settings}
use Rattle.mode_pages.specs.Settings.{default_settings}
use Rattle.cdb_reader.specs.Request as request
use Rattle.block_machine.specs.declared.entry.Recovered.TheVariants.{Ready}
use Rattle.block_machine.specs.declared.entry.Entry.TheVariants.{Started, Ended, Aborted, Asked, Mode, Cut, PoweredOn}
use Rattle.block_machine.specs.Turns.{task_set_full}
use Rattle.block_machine.specs.Laws.{settings_left, AsksToForce, is_status, is_end_of}

-- the mode values without a write cache
abbrev uncached : Settings
uncached = record default_settings { wce = false }

-- mode values hold until others come, or a reset or the power on
settings_hold : (settings_left [] ≡ default_settings)
    × (settings_left (Mode uncached ∷ Started 2 ∷ Asked 1 AbortSet ∷ Cut ∷ []) ≡ uncached)
    × (settings_left (Mode uncached ∷ Mode default_settings ∷ []) ≡ default_settings)
    × (settings_left (Mode uncached ∷ Asked 1 Reset ∷ []) ≡ default_settings)
    × (settings_left (Mode uncached ∷ Cut ∷ PoweredOn (Ready 1) ∷ []) ≡ default_settings)
settings_hold = (refl, refl, refl, refl, refl)

-- a write without the cache goes through, and one with FUA; with the cache and without FUA none has to
through_without_cache : AsksToForce (Ok (request.Write 5 1 false)) uncached 5 1
through_without_cache = (refl, refl, refl)

through_with_fua : AsksToForce (Ok (request.Write 5 1 true)) default_settings 5 1
through_with_fua = (refl, refl, refl)

not_through : AsksToForce (Ok (request.Write 5 1 false)) default_settings 5 1 → ⊥
not_through h = let no : false ≡ true = h.2 in absurd (cc)

-- statuses of ends, and of none: RESERVATION CONFLICT, BUSY
statuses : (is_status 0x00 ≡ true) × (is_status 0x02 ≡ true) × (is_status 0x28 ≡ true) × (is_status 0x18 ≡ false) × (is_status 0x08 ≡ false)
statuses = (refl, refl, refl, refl, refl)

-- ends of a command, and what is none
ends : (is_end_of 1 (Ended 1 task_set_full) ≡ true) × (is_end_of 1 (Aborted 1) ≡ true) × (is_end_of 1 (Aborted 2) ≡ false) × (is_end_of 1 (Started 1) ≡ false)
ends = (refl, refl, refl, refl)
