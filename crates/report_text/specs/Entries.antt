-- The text of an entry of a turn.
use Rattle.std.specs.Prelude.{ℕ, List, [], ◌∷◌, codes, decimal, Bool, true, false, Option, Some, None}
use Rattle.disk_base.specs.declared.command.Function.{Function}
use Rattle.disk_base.specs.declared.command.Function.TheVariants.{Abort, AbortSet, Clear, Reset}
use Rattle.sense_data.specs.declared.sense.Sense.{Sense}
use Rattle.sense_data.specs.Sense.{sense_bytes}
use Rattle.mode_pages.specs.declared.settings.Settings.{Settings}
use Rattle.block_machine.specs.declared.entry.Who.{Who}
use Rattle.block_machine.specs.declared.entry.Who.TheVariants.{Command, Drive}
use Rattle.block_machine.specs.declared.entry.Seen.{Seen}
use Rattle.block_machine.specs.declared.entry.Seen.TheVariants.{Skipped, Light, Heavy, Unread}
use Rattle.block_machine.specs.declared.entry.Recovered.{Recovered}
use Rattle.block_machine.specs.declared.entry.Recovered.TheVariants.{Ready, Corrupt, Formatting}
use Rattle.block_machine.specs.declared.entry.Entry.{Entry}
use Rattle.block_machine.specs.declared.entry.Entry.TheVariants.{Arrived, Started, Get, Put, Harden, Passed, GiveUp, Page, Ended, Aborted, Asked, Mode, Scanned, Logged, Cut, PoweredOn, Tick, Blank, Fresh}
use Rattle.text_words.specs.Digits.{hex_of, byte_word}
use Rattle.text_words.specs.Data.{sent_word, value_word, block_word}
use Rattle.script_text.specs.Spelling.{attribute_word}

-- the command that hardens a block, or the drive on its own
abbrev pub who_word : Who → List ℕ
who_word (Command c) = decimal c
who_word Drive = codes "d"

-- data of a command; none has a word of its own
abbrev pub page_word : List ℕ → List ℕ
page_word [] = codes "-"
page_word (byte ∷ bytes) = hex_of (byte ∷ bytes)

-- sense data, where there are some
abbrev pub sense_words : Option Sense → List (List ℕ)
sense_words None = []
sense_words (Some sense) = hex_of (sense_bytes sense) ∷ []

-- a task management function
abbrev pub function_words : Function → List (List ℕ)
function_words (Abort tag) = codes "abort" ∷ decimal tag.0 ∷ []
function_words AbortSet = codes "abortset" ∷ []
function_words Clear = codes "clear" ∷ []
function_words Reset = codes "reset" ∷ []

abbrev pub flag_word : Bool → List ℕ
flag_word true = codes "1"
flag_word false = codes "0"

-- the mode values, in the order AWRE, ARRE, PER, retry count, WCE, RCD, EN_BMS
abbrev pub settings_words : Settings → List (List ℕ)
settings_words s =
    flag_word s.awre ∷ flag_word s.arre ∷ flag_word s.per ∷ decimal s.retry ∷ flag_word s.wce ∷ flag_word s.rcd ∷ flag_word s.bms ∷ []

abbrev pub seen_word : Seen → List ℕ
seen_word Skipped = codes "skipped"
seen_word Light = codes "light"
seen_word Heavy = codes "heavy"
seen_word Unread = codes "unread"

abbrev pub recovered_words : Recovered → List (List ℕ)
recovered_words (Ready number) = codes "ready" ∷ decimal number ∷ []
recovered_words (Corrupt slot) = codes "corrupt" ∷ decimal slot ∷ []
recovered_words (Formatting number) = codes "formatting" ∷ decimal number ∷ []

-- an entry
abbrev pub entry_words : Entry → List (List ℕ)
entry_words (Arrived c i t a cdb sent) =
    codes "in" ∷ decimal c ∷ decimal i ∷ decimal t.0 ∷ attribute_word a ∷ hex_of cdb ∷ sent_word sent ∷ []
entry_words (Started c) = codes "start" ∷ decimal c ∷ []
entry_words (Get c b value) = codes "get" ∷ decimal c ∷ decimal b.0 ∷ value_word value ∷ []
entry_words (Put c b block) = codes "put" ∷ decimal c ∷ decimal b.0 ∷ block_word block ∷ []
entry_words (Harden who b) = codes "hard" ∷ who_word who ∷ decimal b.0 ∷ []
entry_words (Passed c from to) = codes "pass" ∷ decimal c ∷ decimal from.0 ∷ decimal to.0 ∷ []
entry_words (GiveUp b) = codes "lose" ∷ decimal b.0 ∷ []
entry_words (Page c bytes) = codes "page" ∷ decimal c ∷ page_word bytes ∷ []
entry_words (Ended c reply) = codes "end" ∷ decimal c ∷ byte_word reply.status ∷ sense_words reply.sense
entry_words (Aborted c) = codes "gone" ∷ decimal c ∷ []
entry_words (Asked i what) = codes "func" ∷ decimal i ∷ function_words what
entry_words (Mode settings) = codes "mode" ∷ settings_words settings
entry_words (Scanned b what) = codes "scanned" ∷ decimal b.0 ∷ seen_word what ∷ []
entry_words (Logged finding) = codes "logged" ∷ decimal finding.status ∷ decimal finding.b.0 ∷ []
entry_words Cut = codes "cut" ∷ []
entry_words (PoweredOn outcome) = codes "on" ∷ recovered_words outcome
entry_words (Tick minutes) = codes "tick" ∷ decimal minutes ∷ []
entry_words (Blank c) = codes "blank" ∷ decimal c ∷ []
entry_words (Fresh c) = codes "fresh" ∷ decimal c ∷ []
