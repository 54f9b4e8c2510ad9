-- What the words of an entry are read as.
use Rattle.std.specs.Prelude.{ℕ, if◌then◌else◌, Bool, List, [], ◌∷◌, codes, Option, Some, None, option_map}
use Rattle.std.specs.Map.{lookup}
use Rattle.std.specs.Str.{bytes_eq}
use Rattle.disk_base.specs.Cdb.{is_command_block}
use Rattle.disk_base.specs.declared.block.Value.{Value}
use Rattle.disk_base.specs.declared.block.Value.TheVariants.{Data, Lost}
use Rattle.disk_base.specs.declared.command.Function.{Function}
use Rattle.disk_base.specs.declared.command.Function.TheVariants.{Abort, AbortSet, Clear, Reset}
use Rattle.block_machine.specs.declared.entry.Who.{Who}
use Rattle.block_machine.specs.declared.entry.Who.TheVariants.{Command, Drive}
use Rattle.block_machine.specs.declared.entry.Seen.{Seen}
use Rattle.block_machine.specs.declared.entry.Seen.TheVariants.{Skipped, Light, Heavy, Unread}
use Rattle.block_machine.specs.declared.entry.Recovered.{Recovered}
use Rattle.block_machine.specs.declared.entry.Recovered.TheVariants.{Ready, Corrupt, Formatting}
use Rattle.block_machine.specs.declared.entry.Entry.{Entry}
use Rattle.block_machine.specs.declared.entry.Entry.TheVariants.{Arrived, Started, Get, Put, Harden, Passed, GiveUp, Page, Ended, Aborted, Asked, Mode, Scanned, Logged, Cut, PoweredOn, Tick, Blank, Fresh}
use Rattle.text_words.specs.Digits.{bytes_of, byte_of}
use Rattle.text_words.specs.Data.{value_of}
use Rattle.report_text.specs.declared.form.EntryForm.{EntryForm}
use Rattle.report_text.specs.declared.form.EntryForm.TheVariants.{Arrived as In, Started as Start, Get as Got, Put as PutForm, Harden as Hard, Passed as Pass, GiveUp as Lose, Page as PageForm, Ended as End, Aborted as Gone, Asked as Func, Mode as ModeForm, Scanned as ScannedForm, Logged as LoggedForm, Cut as CutForm, PoweredOn as On, Tick as TickForm, Blank as BlankForm, Fresh as FreshForm}
use Rattle.report_text.specs.Steps.{◌>>=◌, demand, of_none, of_one, of_three, of_two}
use Rattle.report_text.specs.Fields.{number_of, command_of, lone_number, block_of, tag_of, attribute_of, sent_of, page_of, sense_of}
use Rattle.report_text.specs.Findings.{finding_of}

-- the words that entries begin with, and their forms
abbrev pub entry_forms : List (List ℕ × EntryForm)
entry_forms =
    (codes "start", Start) ∷ (codes "get", Got) ∷ (codes "put", PutForm)
    ∷ (codes "hard", Hard) ∷ (codes "end", End) ∷ (codes "in", In)
    ∷ (codes "pass", Pass) ∷ (codes "lose", Lose) ∷ (codes "page", PageForm)
    ∷ (codes "gone", Gone) ∷ (codes "func", Func) ∷ (codes "mode", ModeForm)
    ∷ (codes "scanned", ScannedForm) ∷ (codes "logged", LoggedForm) ∷ (codes "cut", CutForm)
    ∷ (codes "on", On) ∷ (codes "tick", TickForm) ∷ (codes "blank", BlankForm)
    ∷ (codes "fresh", FreshForm) ∷ []

-- the form of an entry, by its first word
unfoldable pub entry_form : List ℕ → Option EntryForm
entry_form first = lookup (bytes_eq first) entry_forms

-- `C I T A CDB DATA` behind `in`
unfoldable pub arrived : List ℕ → List ℕ → List ℕ → List ℕ → List ℕ → List ℕ → Option Entry
arrived c i t a cdb sent = do
  command ← command_of c
  initiator ← number_of 1 8 i
  tag ← tag_of t
  block ← bytes_of cdb
  _ ← demand (is_command_block block)
  given ← sent_of sent
  Some (Arrived command initiator tag (attribute_of a) block given)

abbrev pub arrived_words : List (List ℕ) → Option Entry
arrived_words (c ∷ i ∷ t ∷ a ∷ cdb ∷ sent ∷ []) = arrived c i t a cdb sent
arrived_words other = None

-- `C B V` behind `get`
abbrev pub get_words : List (List ℕ) → Option Entry
get_words = of_three (λ c b v. do
  command ← command_of c
  block ← block_of b
  value ← value_of v
  Some (Get command block value))

-- the data of a value
abbrev pub data_in : Value → Option (List ℕ)
data_in (Data block) = Some block
data_in Lost = None

-- `C B V` behind `put`
abbrev pub put_words : List (List ℕ) → Option Entry
put_words = of_three (λ c b v. do
  command ← command_of c
  block ← block_of b
  value ← value_of v
  bytes ← data_in value
  Some (Put command block bytes))

abbrev pub who_of : List ℕ → Option Who
who_of word = if bytes_eq word (codes "d") then Some Drive else (do
  c ← command_of word
  Some (Command c))

-- `C B` or `d B` behind `hard`
abbrev pub harden_words : List (List ℕ) → Option Entry
harden_words = of_two (λ who b. do
  by ← who_of who
  block ← block_of b
  Some (Harden by block))

-- `C FROM TO` behind `pass`
abbrev pub pass_words : List (List ℕ) → Option Entry
pass_words = of_three (λ c from to. do
  command ← command_of c
  first ← block_of from
  end ← block_of to
  Some (Passed command first end))

-- `B` behind `lose`
abbrev pub lose_words : List (List ℕ) → Option Entry
lose_words = of_one (λ b. do
  block ← block_of b
  Some (GiveUp block))

-- `C HEX` behind `page`
abbrev pub page_words : List (List ℕ) → Option Entry
page_words = of_two (λ c word. do
  command ← command_of c
  bytes ← page_of word
  Some (Page command bytes))

-- `C SS` or `C SS SENSE` behind `end`
abbrev pub end_words : List (List ℕ) → Option Entry
end_words (c ∷ ss ∷ []) = do
  command ← command_of c
  status ← byte_of ss
  Some (Ended command (record { status = status; sense = None }))
end_words (c ∷ ss ∷ word ∷ []) = do
  command ← command_of c
  status ← byte_of ss
  sense ← sense_of word
  Some (Ended command (record { status = status; sense = Some sense }))
end_words other = None

abbrev pub function_of : List ℕ → Function
function_of word =
    if bytes_eq word (codes "abortset") then AbortSet else
    if bytes_eq word (codes "clear") then Clear else Reset

-- `I` and a word, or `I abort T`, behind `func`
abbrev pub func_words : List (List ℕ) → Option Entry
func_words (i ∷ what ∷ []) = do
  initiator ← number_of 1 8 i
  Some (Asked initiator (function_of what))
func_words (i ∷ what ∷ t ∷ []) = do
  initiator ← number_of 1 8 i
  tag ← tag_of t
  Some (Asked initiator (Abort tag))
func_words other = None

abbrev pub flag_of : List ℕ → Bool
flag_of word = bytes_eq word (codes "1")

-- `AWRE ARRE PER RETRY WCE RCD BMS` behind `mode`
abbrev pub mode_words : List (List ℕ) → Option Entry
mode_words (awre ∷ arre ∷ per ∷ retry ∷ wce ∷ rcd ∷ bms ∷ []) = do
  count ← number_of 0 255 retry
  Some (Mode (record { awre = flag_of awre; arre = flag_of arre; per = flag_of per; retry = count; wce = flag_of wce; rcd = flag_of rcd; bms = flag_of bms }))
mode_words other = None

abbrev pub seen_of : List ℕ → Seen
seen_of word =
    if bytes_eq word (codes "skipped") then Skipped else
    if bytes_eq word (codes "light") then Light else
    if bytes_eq word (codes "heavy") then Heavy else Unread

-- `B` and a word behind `scanned`
abbrev pub scanned_words : List (List ℕ) → Option Entry
scanned_words = of_two (λ b what. do
  block ← block_of b
  Some (Scanned block (seen_of what)))

-- `STATUS B` behind `logged`
abbrev pub logged_words : ℕ → List (List ℕ) → Option Entry
logged_words minutes = of_two (λ status b. do
  number ← number_of 0 255 status
  block ← block_of b
  finding ← finding_of minutes number block
  Some (Logged finding))

-- what came of reading the map
abbrev pub recovered_of : List ℕ → List ℕ → Option Recovered
recovered_of what n =
    if bytes_eq what (codes "ready") then (do
      number ← number_of 0 18446744073709551615 n
      Some (Ready number))
    else if bytes_eq what (codes "corrupt") then (do
      slot ← number_of 0 255 n
      Some (Corrupt slot))
    else (do
      number ← number_of 0 18446744073709551615 n
      Some (Formatting number))

-- a word and `N` behind `on`
abbrev pub on_words : List (List ℕ) → Option Entry
on_words = of_two (λ what n. do
  outcome ← recovered_of what n
  Some (PoweredOn outcome))

-- nothing behind `cut`
abbrev pub cut_words : List (List ℕ) → Option Entry
cut_words = of_none Cut

-- `N` behind `tick`
abbrev pub tick_words : List (List ℕ) → Option Entry
tick_words = of_one (λ n. do
  minutes ← number_of 0 65535 n
  Some (Tick minutes))

-- the entry of a form that the words behind the first give
abbrev pub entry_of : ℕ → EntryForm → List (List ℕ) → Option Entry
entry_of minutes In words = arrived_words words
entry_of minutes Start words = option_map Started (lone_number words)
entry_of minutes Got words = get_words words
entry_of minutes PutForm words = put_words words
entry_of minutes Hard words = harden_words words
entry_of minutes Pass words = pass_words words
entry_of minutes Lose words = lose_words words
entry_of minutes PageForm words = page_words words
entry_of minutes End words = end_words words
entry_of minutes Gone words = option_map Aborted (lone_number words)
entry_of minutes Func words = func_words words
entry_of minutes ModeForm words = mode_words words
entry_of minutes ScannedForm words = scanned_words words
entry_of minutes LoggedForm words = logged_words minutes words
entry_of minutes CutForm words = cut_words words
entry_of minutes On words = on_words words
entry_of minutes TickForm words = tick_words words
entry_of minutes BlankForm words = option_map Blank (lone_number words)
entry_of minutes FreshForm words = option_map Fresh (lone_number words)

-- the entry that words give
abbrev pub entry_from : ℕ → List (List ℕ) → Option Entry
entry_from minutes [] = None
entry_from minutes (first ∷ words) = do
  form ← entry_form first
  entry_of minutes form words
