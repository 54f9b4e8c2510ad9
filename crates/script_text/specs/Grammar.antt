-- The meaning of a line's words, behind its first: steps in the order of the refusals.
use Rattle.std.specs.Prelude.{ℕ, ◌+◌, nat_le, List, [], ◌∷◌, codes, Option, None, Some, Result, Ok, Err, if◌then◌else◌}
use Rattle.std.specs.Str.{bytes_eq}
use Rattle.disk_base.specs.declared.address.Psn.{Psn}
use Rattle.disk_base.specs.declared.command.Attribute.{Attribute}
use Rattle.disk_base.specs.declared.command.Attribute.TheVariants.{Simple, Ordered, Head}
use Rattle.disk_base.specs.declared.command.DataOut.{DataOut}
use Rattle.disk_base.specs.declared.command.DataOut.TheVariants.{Nothing as NoData}
use Rattle.disk_base.specs.declared.command.Function.TheVariants.{Abort as AbortTask, AbortSet as AbortTaskSet, Clear as ClearTaskSet, Reset as ResetUnit}
use Rattle.disk_base.specs.declared.command.Function.{Function as Asked}
use Rattle.disk_base.specs.Cdb.{is_command_block}
use Rattle.platter_model.specs.declared.damage.Lasting.{Lasting}
use Rattle.platter_model.specs.declared.damage.Lasting.TheVariants.{Hard, Soft, Plus, Minus}
use Rattle.platter_model.specs.declared.damage.Effect.{Effect}
use Rattle.platter_model.specs.declared.damage.Effect.TheVariants.{Drop, Add}
use Rattle.platter_model.specs.declared.damage.Left.{Left}
use Rattle.platter_model.specs.declared.damage.Left.TheVariants.{Old, New, Nothing}
use Rattle.platter_model.specs.declared.world.World.TheVariants.{Damage as Harmed, Fault as Faulty, Cut as CutNow, Arm, Power as PowerOn, Minutes as Pass}
use Rattle.text_words.specs.declared.number.Numeral.{Numeral}
use Rattle.text_words.specs.declared.number.Numeral.TheVariants.{Malformed, Outside, Within}
use Rattle.text_words.specs.declared.data.Mark.{Mark}
use Rattle.text_words.specs.Number.{number}
use Rattle.text_words.specs.Digits.{bytes_of}
use Rattle.text_words.specs.Data.{mark_of, data_of}
use Rattle.script_text.specs.declared.script.Line.{Line}
use Rattle.script_text.specs.declared.script.Line.TheVariants.{Command as Sent, Function as Ask, Scan as ScanLine, Destage as DestageLine, Go as GoLine, World as Happens}
use Rattle.script_text.specs.declared.form.Form.{Form}
use Rattle.script_text.specs.declared.form.Form.TheVariants.{Command, Abort, AbortSet, Clear, Reset, Scan, Destage, Go, Damage, Fault, Cut, Power, Minutes}
use Rattle.script_text.specs.declared.why.Why.{Why}
use Rattle.script_text.specs.declared.why.Why.TheVariants.{Shape, Number, Hex, Cdb, Disk}
use Rattle.script_text.specs.Steps.{◌>>=◌, demand, or_else}
use Rattle.script_text.specs.Numbers.{number_of, change_of, tag_of, sector_of}
use Rattle.script_text.specs.Measures.{Measures, is_within_limits}

-- a numeral has to be of the right form
abbrev pub well_formed : Numeral → Result (Unit {0}) Why
well_formed Malformed = Err Number
well_formed Outside = Ok tt
well_formed (Within n) = Ok tt

-- a number that is too great for its type can't be a drive's
abbrev pub fitting : Numeral → Result ℕ Why
fitting Malformed = Err Disk
fitting Outside = Err Disk
fitting (Within n) = Ok n

-- there have to be drives of these measures
abbrev pub within_limits : Measures → Result Measures Why
within_limits m = do
  _ ← demand (is_within_limits m) Disk
  Ok m

-- the measures that four numerals give, where there are drives of these measures
unfoldable pub measures_from : Numeral → Numeral → Numeral → Numeral → Result Measures Why
measures_from c h s r = do
  _ ← well_formed c
  _ ← well_formed h
  _ ← well_formed s
  _ ← well_formed r
  cylinders ← fitting c
  heads ← fitting h
  sectors ← fitting s
  reserved ← fitting r
  within_limits (record { cylinders = cylinders; heads = heads; sectors = sectors; reserved = reserved })

-- `disk C H S R`
abbrev pub disk_of : List (List ℕ) → Result Measures Why
disk_of (c ∷ h ∷ s ∷ r ∷ []) = measures_from (number 0 65535 c) (number 0 255 h) (number 0 255 s) (number 0 65535 r)
disk_of other = Err Shape

-- `primary P`, on a drive of so many sectors
abbrev pub primary_of : ℕ → List (List ℕ) → Result Psn Why
primary_of total (p ∷ []) = sector_of 16 total p
primary_of total other = Err Shape

abbrev pub attribute_of : List ℕ → Result Attribute Why
attribute_of word =
    if bytes_eq word (codes "S") then Ok Simple else
    if bytes_eq word (codes "O") then Ok Ordered else
    if bytes_eq word (codes "H") then Ok Head else Err Shape

-- data may be left out; where they are there, they begin with a mark
abbrev pub mark_of_data : Option (List ℕ) → Result (Option Mark) Why
mark_of_data None = Ok None
mark_of_data (Some word) = do
  mark ← or_else Shape (mark_of word)
  Ok (Some mark)

-- what the digits behind the mark give
abbrev pub sent_of : Option Mark → Option (List ℕ) → Result DataOut Why
sent_of None word = Ok NoData
sent_of (Some mark) None = Ok NoData
sent_of (Some mark) (Some word) = or_else Hex (data_of mark word)

-- `cmd I T A CDB` and `cmd I T A CDB DATA`
unfoldable pub command_of : List ℕ → List ℕ → List ℕ → List ℕ → Option (List ℕ) → Result Line Why
command_of i t a cdb sent = do
  attribute ← attribute_of a
  mark ← mark_of_data sent
  initiator ← number_of 1 8 i
  tag ← tag_of t
  block ← or_else Hex (bytes_of cdb)
  given ← sent_of mark sent
  _ ← demand (is_command_block block) Cdb
  Ok (Sent initiator tag attribute block given)

abbrev pub command_line : List (List ℕ) → Result Line Why
command_line (i ∷ t ∷ a ∷ cdb ∷ []) = command_of i t a cdb None
command_line (i ∷ t ∷ a ∷ cdb ∷ sent ∷ []) = command_of i t a cdb (Some sent)
command_line other = Err Shape

-- `abort I T`
abbrev pub abort_line : List (List ℕ) → Result Line Why
abort_line (i ∷ t ∷ []) = do
  initiator ← number_of 1 8 i
  tag ← tag_of t
  Ok (Ask initiator (AbortTask tag))
abort_line other = Err Shape

-- `abortset I`, `clear I` and `reset I`
abbrev pub function_line : Asked → List (List ℕ) → Result Line Why
function_line what (i ∷ []) = do
  initiator ← number_of 1 8 i
  Ok (Ask initiator what)
function_line what other = Err Shape

-- `scan N`
abbrev pub scan_line : List (List ℕ) → Result Line Why
scan_line (n ∷ []) = do
  count ← number_of 1 60000 n
  Ok (ScanLine count)
scan_line other = Err Shape

-- `destage N`
abbrev pub destage_line : List (List ℕ) → Result Line Why
destage_line (n ∷ []) = do
  count ← number_of 1 60000 n
  Ok (DestageLine count)
destage_line other = Err Shape

-- a line that is one word
abbrev pub lone_line : Line → List (List ℕ) → Result Line Why
lone_line line [] = Ok line
lone_line line other = Err Shape

-- how long a damage lasts, where no number is stated
abbrev pub plain_lasting : List ℕ → Result Lasting Why
plain_lasting word =
    if bytes_eq word (codes "hard") then Ok Hard else
    if bytes_eq word (codes "plus") then Ok Plus else
    if bytes_eq word (codes "minus") then Ok Minus else Err Shape

-- this word has to stand here
abbrev pub fixed : List ℕ → List ℕ → Result (Unit {0}) Why
fixed wanted word = demand (bytes_eq word wanted) Shape

abbrev pub soft_lasting : List ℕ → Result Lasting Why
soft_lasting n = do
  below ← number_of 1 255 n
  Ok (Soft below)

abbrev pub added : List ℕ → Result Effect Why
added d = do
  change ← change_of d
  Ok (Add change)

-- which samples of which sector; the samples end within the 9,478 of a sector
unfoldable pub damage_at : ℕ → List ℕ → List ℕ → List ℕ → Lasting → Effect → Result Line Why
damage_at total p f l lasting effect = do
  place ← sector_of 0 total p
  first ← number_of 0 9478 f
  count ← number_of 1 9478 l
  _ ← demand (nat_le (first + count) 9478) Number
  Ok (Happens (Harmed (record { p = place; first = first; count = count; lasting = lasting; effect = effect })))

-- `LASTING drop` behind the samples
unfoldable pub plain_drop : ℕ → List ℕ → List ℕ → List ℕ → List ℕ → List ℕ → Result Line Why
plain_drop total p f l lasting effect = do
  kind ← plain_lasting lasting
  _ ← fixed (codes "drop") effect
  damage_at total p f l kind Drop

-- `soft N drop` behind the samples
unfoldable pub soft_drop : ℕ → List ℕ → List ℕ → List ℕ → List ℕ → List ℕ → Result Line Why
soft_drop total p f l n effect = do
  _ ← fixed (codes "drop") effect
  kind ← soft_lasting n
  damage_at total p f l kind Drop

-- `LASTING add D` behind the samples
unfoldable pub plain_add : ℕ → List ℕ → List ℕ → List ℕ → List ℕ → List ℕ → List ℕ → Result Line Why
plain_add total p f l lasting effect d = do
  kind ← plain_lasting lasting
  _ ← fixed (codes "add") effect
  change ← added d
  damage_at total p f l kind change

-- `soft N add D` behind the samples
unfoldable pub soft_add : ℕ → List ℕ → List ℕ → List ℕ → List ℕ → List ℕ → List ℕ → List ℕ → Result Line Why
soft_add total p f l lasting n effect d = do
  _ ← fixed (codes "soft") lasting
  _ ← fixed (codes "add") effect
  kind ← soft_lasting n
  change ← added d
  damage_at total p f l kind change

-- `damage P F L LASTING EFFECT`
abbrev pub damage_line : ℕ → List (List ℕ) → Result Line Why
damage_line total (p ∷ f ∷ l ∷ a ∷ b ∷ []) = plain_drop total p f l a b
damage_line total (p ∷ f ∷ l ∷ a ∷ b ∷ c ∷ []) =
    if bytes_eq a (codes "soft") then soft_drop total p f l b c else plain_add total p f l a b c
damage_line total (p ∷ f ∷ l ∷ a ∷ b ∷ c ∷ d ∷ []) = soft_add total p f l a b c d
damage_line total other = Err Shape

-- `fault P`
abbrev pub fault_line : ℕ → List (List ℕ) → Result Line Why
fault_line total (p ∷ []) = do
  place ← sector_of 16 total p
  Ok (Happens (Faulty place))
fault_line total other = Err Shape

abbrev pub left_of : List ℕ → Result Left Why
left_of word =
    if bytes_eq word (codes "old") then Ok Old else
    if bytes_eq word (codes "new") then Ok New else
    if bytes_eq word (codes "none") then Ok Nothing else Err Shape

-- `write K LEFT SCAR` behind `cut`
unfoldable pub armed : List ℕ → List ℕ → List ℕ → List ℕ → Result Line Why
armed write k left scar = do
  _ ← fixed (codes "write") write
  kept ← left_of left
  n ← number_of 1 4294967295 k
  dropped ← number_of 0 9478 scar
  Ok (Happens (Arm n (record { left = kept; scar = dropped })))

-- `cut now` and `cut write K LEFT SCAR`
abbrev pub cut_line : List (List ℕ) → Result Line Why
cut_line (now ∷ []) = do
  _ ← fixed (codes "now") now
  Ok (Happens CutNow)
cut_line (write ∷ k ∷ left ∷ scar ∷ []) = armed write k left scar
cut_line other = Err Shape

-- `minutes N`
abbrev pub minutes_line : List (List ℕ) → Result Line Why
minutes_line (n ∷ []) = do
  minutes ← number_of 0 65535 n
  Ok (Happens (Pass minutes))
minutes_line other = Err Shape

-- a line of the body, on a drive of so many sectors, by its form and the words behind the first
abbrev pub line_of : ℕ → Form → List (List ℕ) → Result Line Why
line_of total Command words = command_line words
line_of total Abort words = abort_line words
line_of total AbortSet words = function_line AbortTaskSet words
line_of total Clear words = function_line ClearTaskSet words
line_of total Reset words = function_line ResetUnit words
line_of total Scan words = scan_line words
line_of total Destage words = destage_line words
line_of total Go words = lone_line GoLine words
line_of total Damage words = damage_line total words
line_of total Fault words = fault_line total words
line_of total Cut words = cut_line words
line_of total Power words = lone_line (Happens PowerOn) words
line_of total Minutes words = minutes_line words
