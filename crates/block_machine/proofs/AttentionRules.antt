-- Whom attentions are told, and which mode values hold: for each rule two histories that break it alone.
use Rattle.std.proofs.Common.{◌≡◌, true, [], ◌∷◌, ◌++◌, refl}
use Rattle.std.specs.Prelude.{Some}
use Rattle.disk_base.specs.declared.command.Function.TheVariants.{AbortSet, Clear, Reset}
use Rattle.cdb_reader.specs.Operation.{operation_of}
use Rattle.sense_data.specs.Sense.{sense_of, sense_bytes}
use Rattle.mode_pages.specs.declared.settings.Settings.{Settings}
use Rattle.mode_pages.specs.Settings.{default_settings}
use Rattle.block_machine.specs.declared.entry.Recovered.TheVariants.{Ready, Formatting}
use Rattle.block_machine.specs.declared.entry.Entry.TheVariants.{Page, Logged, Blank, Fresh}
use Rattle.block_machine.specs.declared.turn.Label.TheVariants.{Scan}
use Rattle.block_machine.proofs.Building.{turn, lba, read, test_unit_ready, comes, asks, starts, at_once, works, moves, get, good, fails, recovered, lose, cut, power, told, ready, selects, recovery_page, is_legal, is_legal_on, stops_at, stops_on_at}

-- PER 1
reporting : Settings
reporting = record default_settings { per = true }

-- an attention is told once, and each initiator its own
told_once : (is_legal_on (told 1 1 0x29 0x01 ++ ready 2 1 ++ told 3 2 0x29 0x01) ≡ true) × (stops_on_at (told 1 1 0x29 0x01 ++ told 2 1 0x29 0x01) ≡ Some 4)
    × (stops_on_at (told 1 1 0x29 0x01 ++ ready 2 2) ≡ Some 4)
unfolding operation_of
told_once = (refl, refl, refl)

-- REQUEST SENSE shows the first attention and takes it; a refused one takes none
sense_shown : (is_legal_on (comes 1 1 (0x03 ∷ 0 ∷ 0 ∷ 0 ∷ 0x12 ∷ 0 ∷ []) ∷ at_once 1 (Page 1 (sense_bytes (sense_of 6 0x29 0x01)) ∷ good 1 ∷ []) ∷ ready 2 1) ≡ true)
    × (stops_on_at (comes 1 1 (0x03 ∷ 0 ∷ 0 ∷ 0 ∷ 0x12 ∷ 0 ∷ []) ∷ at_once 1 (Page 1 (sense_bytes (sense_of 0 0 0)) ∷ good 1 ∷ []) ∷ []) ≡ Some 2)
    × (stops_on_at (comes 1 1 (0x03 ∷ 1 ∷ 0 ∷ 0 ∷ 0x12 ∷ 0 ∷ []) ∷ at_once 1 (fails 1 5 0x24 0x00 ∷ []) ∷ ready 2 1) ≡ Some 4)
unfolding operation_of
sense_shown = (refl, refl, refl)

-- a mode change is told the others, and not the one that made it
mode_told : (is_legal (selects 1 (recovery_page 0xC4) reporting ++ told 2 2 0x2A 0x01 ++ told 3 8 0x2A 0x01 ++ ready 4 1) ≡ true)
    × (stops_at (selects 1 (recovery_page 0xC4) reporting ++ ready 2 2) ≡ Some 4)
    × (stops_at (selects 1 (recovery_page 0xC4) reporting ++ told 2 1 0x2A 0x01) ≡ Some 4)
unfolding operation_of reporting
mode_told = (refl, refl, refl)

-- what waits already isn't added again, and what came first is told first
told_in_order : (stops_at (selects 1 (recovery_page 0xC4) reporting ++ selects 2 (recovery_page 0xC0) default_settings
    ++ told 3 2 0x2A 0x01 ++ told 4 2 0x2A 0x01) ≡ Some 8)
    × (stops_at (selects 1 (recovery_page 0xC4) reporting ++ asks 1 Reset [] ∷ told 2 2 0x29 0x03) ≡ Some 5)
unfolding operation_of reporting
told_in_order = (refl, refl)

-- CLEAR TASK SET is told those others whose commands it ended
clear_told : (is_legal (comes 1 2 test_unit_ready ∷ asks 1 Clear (1 ∷ []) ∷ told 2 2 0x2F 0x00 ++ ready 3 3 ++ ready 4 1) ≡ true)
    × (stops_at (comes 1 2 test_unit_ready ∷ asks 1 Clear (1 ∷ []) ∷ ready 2 2) ≡ Some 4)
    × (stops_at (comes 1 1 test_unit_ready ∷ asks 1 Clear (1 ∷ []) ∷ told 2 1 0x2F 0x00) ≡ Some 4)
unfolding operation_of
clear_told = (refl, refl, refl)

-- a reset is told everyone; an abort is told nobody
reset_told : (is_legal (asks 1 Reset [] ∷ told 1 1 0x29 0x03 ++ told 2 2 0x29 0x03) ≡ true) × (stops_at (asks 1 Reset [] ∷ ready 1 1) ≡ Some 3)
    × (stops_at (comes 1 1 test_unit_ready ∷ asks 1 AbortSet (1 ∷ []) ∷ told 2 1 0x29 0x03) ≡ Some 4)
unfolding operation_of
reset_told = (refl, refl, refl)

-- power on is told everyone, instead of what waited
power_told : (stops_on_at (told 1 1 0x29 0x01 ++ cut ∷ power (Ready 6) ∷ ready 2 1) ≡ Some 6)
    × (stops_at (asks 1 Reset [] ∷ cut ∷ power (Ready 6) ∷ told 1 1 0x29 0x03) ≡ Some 5)
unfolding operation_of
power_told = (refl, refl)

-- a reset and power on bring the default mode values back
defaults_back : (stops_at (selects 1 (recovery_page 0xC4) reporting ++ asks 1 Reset [] ∷ told 2 1 0x29 0x03
    ++ comes 3 1 (read 5 1) ∷ starts 3 ∷ works 3 (get 3 5 0 ∷ recovered 3 5 ∷ []) ∷ []) ≡ Some 8)
    × (stops_at (selects 1 (recovery_page 0xC4) reporting ++ cut ∷ power (Ready 6) ∷ told 2 1 0x29 0x01
    ++ comes 3 1 (read 5 1) ∷ starts 3 ∷ works 3 (get 3 5 0 ∷ recovered 3 5 ∷ []) ∷ []) ≡ Some 9)
unfolding operation_of reporting
defaults_back = (refl, refl)

-- a command goes by the mode values at its start: it may report where PER was 1 then, and not where it is 1 since
at_its_start : (is_legal (selects 1 (recovery_page 0xC4) reporting ++ comes 2 1 (read 5 1) ∷ starts 2 ∷ selects 3 (recovery_page 0xC0) default_settings
    ++ works 2 (get 2 5 0 ∷ recovered 2 5 ∷ []) ∷ []) ≡ true)
    × (stops_at (comes 1 1 (read 5 1) ∷ starts 1 ∷ selects 2 (recovery_page 0xC4) reporting ++ works 1 (get 1 5 0 ∷ recovered 1 5 ∷ []) ∷ []) ≡ Some 5)
unfolding operation_of reporting
at_its_start = (refl, refl)

-- a finding has a status and a sense key of four bits each
finding_fits : (stops_at (turn Scan (Logged (record { minutes = 0; status = 16; key = 1; asc = 0; ascq = 0; b = lba 0 }) ∷ []) ∷ []) ≡ Some 1)
    × (stops_at (turn Scan (Logged (record { minutes = 0; status = 1; key = 16; asc = 0; ascq = 0; b = lba 0 }) ∷ []) ∷ []) ≡ Some 1)
finding_fits = (refl, refl)

-- a block that is given up is below the capacity
given_up_within : (stops_at (moves 1 (lose 912 ∷ []) ∷ []) ≡ Some 1) × (stops_at (moves 1 (lose 911 ∷ []) ∷ moves 2 (lose 4096 ∷ []) ∷ []) ≡ Some 2)
given_up_within = (refl, refl)

-- nothing formats the medium yet
no_format : (stops_at (comes 1 1 test_unit_ready ∷ works 1 (Blank 1 ∷ []) ∷ []) ≡ Some 2) × (stops_at (works 1 (Fresh 1 ∷ []) ∷ []) ≡ Some 1)
    × (stops_at (cut ∷ power (Formatting 7) ∷ []) ≡ Some 2)
unfolding operation_of
no_format = (refl, refl, refl)
