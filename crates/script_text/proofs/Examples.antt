-- Scripts and what they mean: each form of line where it is in order and where it isn't, each reason, and which reason
-- of two comes.
use Rattle.std.proofs.Common.{◌≡◌, ℕ, List, [], ◌∷◌, None, Some, Ok, Err, refl, pos, negsuc}
use Rattle.std.specs.Prelude.{codes, replicate}
use Rattle.text_words.specs.Number.{number}
use Rattle.text_words.specs.Digits.{bytes_of, byte_of}
use Rattle.text_words.specs.Line.{parts_at}
use Rattle.hex.proofs.OnLiterals.{hex_on_literals}
use Rattle.disk_base.specs.declared.command.Attribute.TheVariants.{Simple, Ordered, Head}
use Rattle.disk_base.specs.declared.command.DataOut.TheVariants.{Nothing, Fill, Given}
use Rattle.disk_base.specs.declared.command.Function.TheVariants.{Abort, Reset}
use Rattle.platter_model.specs.declared.damage.Lasting.TheVariants.{Hard, Soft, Plus}
use Rattle.platter_model.specs.declared.damage.Effect.TheVariants.{Drop, Add}
use Rattle.platter_model.specs.declared.world.World.TheVariants.{Damage, Minutes}
use Rattle.script_text.specs.declared.script.Line.{Line}
use Rattle.script_text.specs.declared.script.Line.TheVariants.{Command, Function, Scan, Destage, Go, World}
use Rattle.script_text.specs.declared.why.Why.{Why}
use Rattle.script_text.specs.declared.why.Why.TheVariants.{Bytes, Shape, Number, Hex, Cdb, Disk, Place, Tag, Limit, Later}
use Rattle.script_text.specs.Forms.{form_of}
use Rattle.script_text.specs.Grammar.{measures_from, command_of, damage_at, plain_drop, soft_drop, plain_add, soft_add, armed}
use Rattle.script_text.specs.Phase.{idle}
use Rattle.script_text.specs.Standing.{Reading, at_start, with_measures, with_primary, with_line, with_words, with_text}
use Rattle.script_text.specs.Meaning.{script_of}

-- the script asks for this, without a heading
abbrev Asks : List ℕ → List Line → Type 0
Asks bytes lines = script_of bytes ≡ Ok (record { measures = None; primary = []; lines = lines })

-- this line of the script is the first that is refused, for this reason
abbrev Refuses : List ℕ → ℕ → Why → Type 0
Refuses bytes line why = script_of bytes ≡ Err (record { line = line; why = why })

-- so much of the weight is used up
abbrev weighed : ℕ → Reading
weighed weight = record { measures = None; primary = []; lines = []; waiting = idle; weight = weight }

-- the one read, of 1 block
abbrev read_line : Line
read_line = Command 1 (record { 0 = 7 }) Simple (40 ∷ 0 ∷ 0 ∷ 0 ∷ 0 ∷ 0 ∷ 0 ∷ 0 ∷ 1 ∷ 0 ∷ []) Nothing

-- an empty script asks for nothing
nothing : Asks [] ([])
unfolding script_of with_text with_words with_line with_measures with_primary form_of measures_from command_of damage_at plain_drop soft_drop plain_add soft_add armed number parts_at bytes_of byte_of hex_on_literals
nothing = refl

-- what waits at the end is carried out
one_read : Asks (codes "cmd 1 7 S 28000000000000000100\n") (read_line ∷ Go ∷ [])
unfolding script_of with_text with_words with_line with_measures with_primary form_of measures_from command_of damage_at plain_drop soft_drop plain_add soft_add armed number parts_at bytes_of byte_of hex_on_literals
one_read = refl

-- the last line may lack its end
without_its_end : Asks (codes "cmd 1 7 S 28000000000000000100") (read_line ∷ Go ∷ [])
unfolding script_of with_text with_words with_line with_measures with_primary form_of measures_from command_of damage_at plain_drop soft_drop plain_add soft_add armed number parts_at bytes_of byte_of hex_on_literals
without_its_end = refl

-- a `go` that is given isn't implied again
go_given : Asks (codes "cmd 1 7 S 28000000000000000100\ngo\n") (read_line ∷ Go ∷ [])
unfolding script_of with_text with_words with_line with_measures with_primary form_of measures_from command_of damage_at plain_drop soft_drop plain_add soft_add armed number parts_at bytes_of byte_of hex_on_literals
go_given = refl

-- `go` with nothing waiting stays a line
lone_go : Asks (codes "go\n") (Go ∷ [])
unfolding script_of with_text with_words with_line with_measures with_primary form_of measures_from command_of damage_at plain_drop soft_drop plain_add soft_add armed number parts_at bytes_of byte_of hex_on_literals
lone_go = refl

-- comments and empty lines mean nothing
comments : Asks (codes "# a\n\ncmd 1 7 S 28000000000000000100\n#\n") (read_line ∷ Go ∷ [])
unfolding script_of with_text with_words with_line with_measures with_primary form_of measures_from command_of damage_at plain_drop soft_drop plain_add soft_add armed number parts_at bytes_of byte_of hex_on_literals
comments = refl

-- data of one byte that repeats, in digits of either case
fill : Asks (codes "cmd 1 0 S 2a000000000000000100 *fF\n") (Command 1 (record { 0 = 0 }) Simple (42 ∷ 0 ∷ 0 ∷ 0 ∷ 0 ∷ 0 ∷ 0 ∷ 0 ∷ 1 ∷ 0 ∷ []) (Fill 255) ∷ Go ∷ [])
unfolding script_of with_text with_words with_line with_measures with_primary form_of measures_from command_of damage_at plain_drop soft_drop plain_add soft_add armed number parts_at bytes_of byte_of hex_on_literals
fill = refl

-- data in digits
given : Asks (codes "cmd 1 0 S 2A000000000000000100 =01aB\n") (Command 1 (record { 0 = 0 }) Simple (42 ∷ 0 ∷ 0 ∷ 0 ∷ 0 ∷ 0 ∷ 0 ∷ 0 ∷ 1 ∷ 0 ∷ []) (Given (1 ∷ 171 ∷ [])) ∷ Go ∷ [])
unfolding script_of with_text with_words with_line with_measures with_primary form_of measures_from command_of damage_at plain_drop soft_drop plain_add soft_add armed number parts_at bytes_of byte_of hex_on_literals
given = refl

-- a damage at every attempt
hard_drop : Asks (codes "damage 16 0 9478 hard drop\n") (World (Damage (record { p = record { 0 = 16 }; first = 0; count = 9478; lasting = Hard; effect = Drop })) ∷ [])
unfolding script_of with_text with_words with_line with_measures with_primary form_of measures_from command_of damage_at plain_drop soft_drop plain_add soft_add armed number parts_at bytes_of byte_of hex_on_literals
hard_drop = refl

-- a damage at the first attempts, that adds a number below 0
soft_and_add : Asks (codes "damage 0 5 1 soft 255 add -127\n") (World (Damage (record { p = record { 0 = 0 }; first = 5; count = 1; lasting = Soft 255; effect = Add (negsuc 126) })) ∷ [])
unfolding script_of with_text with_words with_line with_measures with_primary form_of measures_from command_of damage_at plain_drop soft_drop plain_add soft_add armed number parts_at bytes_of byte_of hex_on_literals
soft_and_add = refl

-- a damage but at one head offset
plus_add : Asks (codes "damage 1023 9477 1 plus add 127\n") (World (Damage (record { p = record { 0 = 1023 }; first = 9477; count = 1; lasting = Plus; effect = Add (pos 127) })) ∷ [])
unfolding script_of with_text with_words with_line with_measures with_primary form_of measures_from command_of damage_at plain_drop soft_drop plain_add soft_add armed number parts_at bytes_of byte_of hex_on_literals
plus_add = refl

-- a heading: measures and primary defects
heading : script_of (codes "disk 2 1 32 2\nprimary 16\nprimary 63\n") ≡ Ok (record { measures = Some (record { cylinders = 2; heads = 1; sectors = 32; reserved = 2 }); primary = record { 0 = 16 } ∷ record { 0 = 63 } ∷ []; lines = [] })
unfolding script_of with_text with_words with_line with_measures with_primary form_of measures_from command_of damage_at plain_drop soft_drop plain_add soft_add armed number parts_at bytes_of byte_of hex_on_literals
heading = refl

-- Bytes: a tab
tab : Refuses (103 ∷ 111 ∷ 9 ∷ []) 1 Bytes
unfolding script_of with_text with_words with_line with_measures with_primary form_of measures_from command_of damage_at plain_drop soft_drop plain_add soft_add armed number parts_at bytes_of byte_of hex_on_literals
tab = refl

-- Bytes: a CR before the LF
carriage_return : Refuses (103 ∷ 111 ∷ 13 ∷ 10 ∷ []) 1 Bytes
unfolding script_of with_text with_words with_line with_measures with_primary form_of measures_from command_of damage_at plain_drop soft_drop plain_add soft_add armed number parts_at bytes_of byte_of hex_on_literals
carriage_return = refl

-- Bytes: 7Fh in a comment
past_tilde : Refuses (35 ∷ 127 ∷ 10 ∷ []) 1 Bytes
unfolding script_of with_text with_words with_line with_measures with_primary form_of measures_from command_of damage_at plain_drop soft_drop plain_add soft_add armed number parts_at bytes_of byte_of hex_on_literals
past_tilde = refl

-- Shape: a first word of no form
unknown_word : Refuses (codes "stop\n") 1 Shape
unfolding script_of with_text with_words with_line with_measures with_primary form_of measures_from command_of damage_at plain_drop soft_drop plain_add soft_add armed number parts_at bytes_of byte_of hex_on_literals
unknown_word = refl

-- Shape: two blanks
two_blanks : Refuses (codes "cmd 1  S 000000000000\n") 1 Shape
unfolding script_of with_text with_words with_line with_measures with_primary form_of measures_from command_of damage_at plain_drop soft_drop plain_add soft_add armed number parts_at bytes_of byte_of hex_on_literals
two_blanks = refl

-- Shape: a blank at the end
blank_at_end : Refuses (codes "go \n") 1 Shape
unfolding script_of with_text with_words with_line with_measures with_primary form_of measures_from command_of damage_at plain_drop soft_drop plain_add soft_add armed number parts_at bytes_of byte_of hex_on_literals
blank_at_end = refl

-- Shape: a blank at the start
blank_at_start : Refuses (codes " go\n") 1 Shape
unfolding script_of with_text with_words with_line with_measures with_primary form_of measures_from command_of damage_at plain_drop soft_drop plain_add soft_add armed number parts_at bytes_of byte_of hex_on_literals
blank_at_start = refl

-- Shape: too few words
words_missing : Refuses (codes "go\ngo\ncmd 1 1\n") 3 Shape
unfolding script_of with_text with_words with_line with_measures with_primary form_of measures_from command_of damage_at plain_drop soft_drop plain_add soft_add armed number parts_at bytes_of byte_of hex_on_literals
words_missing = refl

-- Shape: an attribute of no name
no_attribute : Refuses (codes "cmd 1 1 X 000000000000\n") 1 Shape
unfolding script_of with_text with_words with_line with_measures with_primary form_of measures_from command_of damage_at plain_drop soft_drop plain_add soft_add armed number parts_at bytes_of byte_of hex_on_literals
no_attribute = refl

-- Shape: data without a mark
no_mark : Refuses (codes "cmd 1 1 S 000000000000 00\n") 1 Shape
unfolding script_of with_text with_words with_line with_measures with_primary form_of measures_from command_of damage_at plain_drop soft_drop plain_add soft_add armed number parts_at bytes_of byte_of hex_on_literals
no_mark = refl

-- Shape: an effect of no name
no_effect : Refuses (codes "damage 16 0 1 hard keep\n") 1 Shape
unfolding script_of with_text with_words with_line with_measures with_primary form_of measures_from command_of damage_at plain_drop soft_drop plain_add soft_add armed number parts_at bytes_of byte_of hex_on_literals
no_effect = refl

-- Shape: more words than any form has
ninth_word : Refuses (codes "damage 16 0 1 soft 2 add 1 1\n") 1 Shape
unfolding script_of with_text with_words with_line with_measures with_primary form_of measures_from command_of damage_at plain_drop soft_drop plain_add soft_add armed number parts_at bytes_of byte_of hex_on_literals
ninth_word = refl

-- Number: a leading zero
leading_zero : Refuses (codes "cmd 1 07 S 000000000000\n") 1 Number
unfolding script_of with_text with_words with_line with_measures with_primary form_of measures_from command_of damage_at plain_drop soft_drop plain_add soft_add armed number parts_at bytes_of byte_of hex_on_literals
leading_zero = refl

-- Number: a plus sign
plus_sign : Refuses (codes "damage 16 0 1 hard add +5\n") 1 Number
unfolding script_of with_text with_words with_line with_measures with_primary form_of measures_from command_of damage_at plain_drop soft_drop plain_add soft_add armed number parts_at bytes_of byte_of hex_on_literals
plus_sign = refl

-- Number: a minus sign before 0
minus_zero : Refuses (codes "damage 16 0 1 hard add -0\n") 1 Number
unfolding script_of with_text with_words with_line with_measures with_primary form_of measures_from command_of damage_at plain_drop soft_drop plain_add soft_add armed number parts_at bytes_of byte_of hex_on_literals
minus_zero = refl

-- Number: nothing is added
add_zero : Refuses (codes "damage 16 0 1 hard add 0\n") 1 Number
unfolding script_of with_text with_words with_line with_measures with_primary form_of measures_from command_of damage_at plain_drop soft_drop plain_add soft_add armed number parts_at bytes_of byte_of hex_on_literals
add_zero = refl

-- Number: an initiator past the eighth
ninth_initiator : Refuses (codes "cmd 9 1 S 000000000000\n") 1 Number
unfolding script_of with_text with_words with_line with_measures with_primary form_of measures_from command_of damage_at plain_drop soft_drop plain_add soft_add armed number parts_at bytes_of byte_of hex_on_literals
ninth_initiator = refl

-- Number: a tag of 65536
tag_past_its_range : Refuses (codes "cmd 1 65536 S 000000000000\n") 1 Number
unfolding script_of with_text with_words with_line with_measures with_primary form_of measures_from command_of damage_at plain_drop soft_drop plain_add soft_add armed number parts_at bytes_of byte_of hex_on_literals
tag_past_its_range = refl

-- Number: no samples
no_samples : Refuses (codes "damage 16 0 0 hard drop\n") 1 Number
unfolding script_of with_text with_words with_line with_measures with_primary form_of measures_from command_of damage_at plain_drop soft_drop plain_add soft_add armed number parts_at bytes_of byte_of hex_on_literals
no_samples = refl

-- Number: samples past those of a sector
samples_past_the_end : Refuses (codes "damage 16 1 9478 hard drop\n") 1 Number
unfolding script_of with_text with_words with_line with_measures with_primary form_of measures_from command_of damage_at plain_drop soft_drop plain_add soft_add armed number parts_at bytes_of byte_of hex_on_literals
samples_past_the_end = refl

-- Number: a sector past the drive
sector_past_the_end : Refuses (codes "damage 1024 0 1 hard drop\n") 1 Number
unfolding script_of with_text with_words with_line with_measures with_primary form_of measures_from command_of damage_at plain_drop soft_drop plain_add soft_add armed number parts_at bytes_of byte_of hex_on_literals
sector_past_the_end = refl

-- Number: a write fault on a sector of the map
fault_on_a_map_sector : Refuses (codes "fault 15\n") 1 Number
unfolding script_of with_text with_words with_line with_measures with_primary form_of measures_from command_of damage_at plain_drop soft_drop plain_add soft_add armed number parts_at bytes_of byte_of hex_on_literals
fault_on_a_map_sector = refl

-- Hex: an odd number of digits
odd_digits : Refuses (codes "cmd 1 1 S 0000000000000\n") 1 Hex
unfolding script_of with_text with_words with_line with_measures with_primary form_of measures_from command_of damage_at plain_drop soft_drop plain_add soft_add armed number parts_at bytes_of byte_of hex_on_literals
odd_digits = refl

-- Hex: another character
no_digit : Refuses (codes "cmd 1 1 S 00000000000g\n") 1 Hex
unfolding script_of with_text with_words with_line with_measures with_primary form_of measures_from command_of damage_at plain_drop soft_drop plain_add soft_add armed number parts_at bytes_of byte_of hex_on_literals
no_digit = refl

-- Hex: a fill of four digits
long_fill : Refuses (codes "cmd 1 1 S 000000000000 *0000\n") 1 Hex
unfolding script_of with_text with_words with_line with_measures with_primary form_of measures_from command_of damage_at plain_drop soft_drop plain_add soft_add armed number parts_at bytes_of byte_of hex_on_literals
long_fill = refl

-- Cdb: a command block of two bytes
short_block : Refuses (codes "cmd 1 1 S 0000\n") 1 Cdb
unfolding script_of with_text with_words with_line with_measures with_primary form_of measures_from command_of damage_at plain_drop soft_drop plain_add soft_add armed number parts_at bytes_of byte_of hex_on_literals
short_block = refl

-- Disk: no cylinder
no_drive : Refuses (codes "disk 0 1 32 2\n") 1 Disk
unfolding script_of with_text with_words with_line with_measures with_primary form_of measures_from command_of damage_at plain_drop soft_drop plain_add soft_add armed number parts_at bytes_of byte_of hex_on_literals
no_drive = refl

-- Disk: measures too great for their types
great_measure : Refuses (codes "disk 99999999999999999999999 1 32 2\n") 1 Disk
unfolding script_of with_text with_words with_line with_measures with_primary form_of measures_from command_of damage_at plain_drop soft_drop plain_add soft_add armed number parts_at bytes_of byte_of hex_on_literals
great_measure = refl

-- Disk: a primary defect twice
equal_primary : Refuses (codes "primary 20\nprimary 20\n") 2 Disk
unfolding script_of with_text with_words with_line with_measures with_primary form_of measures_from command_of damage_at plain_drop soft_drop plain_add soft_add armed number parts_at bytes_of byte_of hex_on_literals
equal_primary = refl

-- Disk: more primary defects than are kept back
primary_past_reserve : Refuses (codes "disk 2 1 32 1\nprimary 16\nprimary 17\n") 3 Disk
unfolding script_of with_text with_words with_line with_measures with_primary form_of measures_from command_of damage_at plain_drop soft_drop plain_add soft_add armed number parts_at bytes_of byte_of hex_on_literals
primary_past_reserve = refl

-- Place: a second `disk`
second_disk : Refuses (codes "disk 2 1 32 2\ndisk 2 1 32 2\n") 2 Place
unfolding script_of with_text with_words with_line with_measures with_primary form_of measures_from command_of damage_at plain_drop soft_drop plain_add soft_add armed number parts_at bytes_of byte_of hex_on_literals
second_disk = refl

-- Place: `disk` behind `primary`
disk_behind_primary : Refuses (codes "primary 20\ndisk 2 1 32 2\n") 2 Place
unfolding script_of with_text with_words with_line with_measures with_primary form_of measures_from command_of damage_at plain_drop soft_drop plain_add soft_add armed number parts_at bytes_of byte_of hex_on_literals
disk_behind_primary = refl

-- Place: a heading line behind a line of the body
heading_behind_go : Refuses (codes "go\nprimary 20\n") 2 Place
unfolding script_of with_text with_words with_line with_measures with_primary form_of measures_from command_of damage_at plain_drop soft_drop plain_add soft_add armed number parts_at bytes_of byte_of hex_on_literals
heading_behind_go = refl

-- Place: damage while a command waits
world_while_waiting : Refuses (codes "cmd 1 7 S 28000000000000000100\ndamage 16 0 1 hard drop\n") 2 Place
unfolding script_of with_text with_words with_line with_measures with_primary form_of measures_from command_of damage_at plain_drop soft_drop plain_add soft_add armed number parts_at bytes_of byte_of hex_on_literals
world_while_waiting = refl

-- Tag: a tag twice in a phase
tag_twice : Refuses (codes "cmd 1 7 S 28000000000000000100\ncmd 1 7 S 28000000000000000100\n") 2 Tag
unfolding script_of with_text with_words with_line with_measures with_primary form_of measures_from command_of damage_at plain_drop soft_drop plain_add soft_add armed number parts_at bytes_of byte_of hex_on_literals
tag_twice = refl

-- a tag again behind `go`
tag_in_the_next_phase : Asks (codes "cmd 1 7 S 28000000000000000100\ngo\ncmd 1 7 S 28000000000000000100\n") (read_line ∷ Go ∷ read_line ∷ Go ∷ [])
unfolding script_of with_text with_words with_line with_measures with_primary form_of measures_from command_of damage_at plain_drop soft_drop plain_add soft_add armed number parts_at bytes_of byte_of hex_on_literals
tag_in_the_next_phase = refl

-- other initiators, and the other attributes
all_attributes : Asks (codes "cmd 8 1 O 000000000000\ncmd 2 1 H 000000000000\n")
    (Command 8 (record { 0 = 1 }) Ordered (replicate 6 0) Nothing ∷ Command 2 (record { 0 = 1 }) Head (replicate 6 0) Nothing ∷ Go ∷ [])
unfolding script_of with_text with_words with_line with_measures with_primary form_of measures_from command_of damage_at plain_drop soft_drop plain_add soft_add armed number parts_at bytes_of byte_of hex_on_literals
all_attributes = refl

-- functions
abort : Asks (codes "abort 8 65535\n") (Function 8 (Abort (record { 0 = 65535 })) ∷ Go ∷ [])
unfolding script_of with_text with_words with_line with_measures with_primary form_of measures_from command_of damage_at plain_drop soft_drop plain_add soft_add armed number parts_at bytes_of byte_of hex_on_literals
abort = refl

reset : Asks (codes "reset 1\n") (Function 1 Reset ∷ Go ∷ [])
unfolding script_of with_text with_words with_line with_measures with_primary form_of measures_from command_of damage_at plain_drop soft_drop plain_add soft_add armed number parts_at bytes_of byte_of hex_on_literals
reset = refl

-- minutes that pass
minutes : Asks (codes "minutes 65535\n") (World (Minutes 65535) ∷ [])
unfolding script_of with_text with_words with_line with_measures with_primary form_of measures_from command_of damage_at plain_drop soft_drop plain_add soft_add armed number parts_at bytes_of byte_of hex_on_literals
minutes = refl

-- destages wait for `go` as commands do
destage : Asks (codes "destage 60000\n") (Destage 60000 ∷ Go ∷ [])
unfolding script_of with_text with_words with_line with_measures with_primary form_of measures_from command_of damage_at plain_drop soft_drop plain_add soft_add armed number parts_at bytes_of byte_of hex_on_literals
destage = refl

destages_add_up : Asks (codes "destage 2\nabort 8 65535\ndestage 3\ngo\n") (Destage 2 ∷ Function 8 (Abort (record { 0 = 65535 })) ∷ Destage 3 ∷ Go ∷ [])
unfolding script_of with_text with_words with_line with_measures with_primary form_of measures_from command_of damage_at plain_drop soft_drop plain_add soft_add armed number parts_at bytes_of byte_of hex_on_literals
destages_add_up = refl

-- Number: no destage
destage_of_none : Refuses (codes "destage 0\n") 1 Number
unfolding script_of with_text with_words with_line with_measures with_primary form_of measures_from command_of damage_at plain_drop soft_drop plain_add soft_add armed number parts_at bytes_of byte_of hex_on_literals
destage_of_none = refl

-- Place: the world while destages wait
world_while_destages_wait : Refuses (codes "destage 1\nminutes 1\n") 2 Place
unfolding script_of with_text with_words with_line with_measures with_primary form_of measures_from command_of damage_at plain_drop soft_drop plain_add soft_add armed number parts_at bytes_of byte_of hex_on_literals
world_while_destages_wait = refl

-- Later: REASSIGN BLOCKS
reassign_blocks : Refuses (codes "cmd 1 1 S 070000000000\n") 1 Later
unfolding script_of with_text with_words with_line with_measures with_primary form_of measures_from command_of damage_at plain_drop soft_drop plain_add soft_add armed number parts_at bytes_of byte_of hex_on_literals
reassign_blocks = refl

-- not so MODE SELECT in either form
mode_select_6 : Asks (codes "cmd 1 1 S 150000000000\n") (Command 1 (record { 0 = 1 }) Simple (0x15 ∷ 0 ∷ 0 ∷ 0 ∷ 0 ∷ 0 ∷ []) Nothing ∷ Go ∷ [])
unfolding script_of with_text with_words with_line with_measures with_primary form_of measures_from command_of damage_at plain_drop soft_drop plain_add soft_add armed number parts_at bytes_of byte_of hex_on_literals
mode_select_6 = refl

mode_select_10 : Asks (codes "cmd 1 1 S 55000000000000000100 *08\n") (Command 1 (record { 0 = 1 }) Simple (0x55 ∷ 0 ∷ 0 ∷ 0 ∷ 0 ∷ 0 ∷ 0 ∷ 0 ∷ 1 ∷ 0 ∷ []) (Fill 8) ∷ Go ∷ [])
unfolding script_of with_text with_words with_line with_measures with_primary form_of measures_from command_of damage_at plain_drop soft_drop plain_add soft_add armed number parts_at bytes_of byte_of hex_on_literals
mode_select_10 = refl

-- Later: the scan, write faults and the power are in order
scan : Refuses (codes "scan 60000\n") 1 Later
unfolding script_of with_text with_words with_line with_measures with_primary form_of measures_from command_of damage_at plain_drop soft_drop plain_add soft_add armed number parts_at bytes_of byte_of hex_on_literals
scan = refl

cut_now : Refuses (codes "cut now\n") 1 Later
unfolding script_of with_text with_words with_line with_measures with_primary form_of measures_from command_of damage_at plain_drop soft_drop plain_add soft_add armed number parts_at bytes_of byte_of hex_on_literals
cut_now = refl

cut_write : Refuses (codes "cut write 4294967295 none 9478\n") 1 Later
unfolding script_of with_text with_words with_line with_measures with_primary form_of measures_from command_of damage_at plain_drop soft_drop plain_add soft_add armed number parts_at bytes_of byte_of hex_on_literals
cut_write = refl

fault : Refuses (codes "fault 16\n") 1 Later
unfolding script_of with_text with_words with_line with_measures with_primary form_of measures_from command_of damage_at plain_drop soft_drop plain_add soft_add armed number parts_at bytes_of byte_of hex_on_literals
fault = refl

power : Refuses (codes "power\n") 1 Later
unfolding script_of with_text with_words with_line with_measures with_primary form_of measures_from command_of damage_at plain_drop soft_drop plain_add soft_add armed number parts_at bytes_of byte_of hex_on_literals
power = refl

-- of two reasons the first check's comes
bytes_before_shape : Refuses (103 ∷ 111 ∷ 32 ∷ 9 ∷ []) 1 Bytes
unfolding script_of with_text with_words with_line with_measures with_primary form_of measures_from command_of damage_at plain_drop soft_drop plain_add soft_add armed number parts_at bytes_of byte_of hex_on_literals
bytes_before_shape = refl

shape_before_number : Refuses (codes "cmd 9 1 X 000000000000\n") 1 Shape
unfolding script_of with_text with_words with_line with_measures with_primary form_of measures_from command_of damage_at plain_drop soft_drop plain_add soft_add armed number parts_at bytes_of byte_of hex_on_literals
shape_before_number = refl

mark_before_number : Refuses (codes "cmd 9 1 S 000000000000 00\n") 1 Shape
unfolding script_of with_text with_words with_line with_measures with_primary form_of measures_from command_of damage_at plain_drop soft_drop plain_add soft_add armed number parts_at bytes_of byte_of hex_on_literals
mark_before_number = refl

number_before_hex : Refuses (codes "cmd 9 1 S 0\n") 1 Number
unfolding script_of with_text with_words with_line with_measures with_primary form_of measures_from command_of damage_at plain_drop soft_drop plain_add soft_add armed number parts_at bytes_of byte_of hex_on_literals
number_before_hex = refl

hex_before_cdb : Refuses (codes "cmd 1 1 S 0000 *1\n") 1 Hex
unfolding script_of with_text with_words with_line with_measures with_primary form_of measures_from command_of damage_at plain_drop soft_drop plain_add soft_add armed number parts_at bytes_of byte_of hex_on_literals
hex_before_cdb = refl

cdb_before_tag : Refuses (codes "cmd 1 7 S 28000000000000000100\ncmd 1 7 S 0000\n") 2 Cdb
unfolding script_of with_text with_words with_line with_measures with_primary form_of measures_from command_of damage_at plain_drop soft_drop plain_add soft_add armed number parts_at bytes_of byte_of hex_on_literals
cdb_before_tag = refl

disk_before_place : Refuses (codes "go\ndisk 0 0 0 0\n") 2 Disk
unfolding script_of with_text with_words with_line with_measures with_primary form_of measures_from command_of damage_at plain_drop soft_drop plain_add soft_add armed number parts_at bytes_of byte_of hex_on_literals
disk_before_place = refl

number_before_disk : Refuses (codes "disk 99999 x 1 1\n") 1 Number
unfolding script_of with_text with_words with_line with_measures with_primary form_of measures_from command_of damage_at plain_drop soft_drop plain_add soft_add armed number parts_at bytes_of byte_of hex_on_literals
number_before_disk = refl

tag_before_later : Refuses (codes "cmd 1 7 S 28000000000000000100\ncmd 1 7 S 070000000000\n") 2 Tag
unfolding script_of with_text with_words with_line with_measures with_primary form_of measures_from command_of damage_at plain_drop soft_drop plain_add soft_add armed number parts_at bytes_of byte_of hex_on_literals
tag_before_later = refl

first_line_before_second : Refuses (codes "stop\nhalt\n") 1 Shape
unfolding script_of with_text with_words with_line with_measures with_primary form_of measures_from command_of damage_at plain_drop soft_drop plain_add soft_add armed number parts_at bytes_of byte_of hex_on_literals
first_line_before_second = refl

-- Limit: the weight passes 60,000
weight_used_up : with_line 1 (weighed 60000) read_line ≡ Err Limit
unfolding script_of with_text with_words with_line with_measures with_primary form_of measures_from command_of damage_at plain_drop soft_drop plain_add soft_add armed number parts_at bytes_of byte_of hex_on_literals
weight_used_up = refl

-- the weight may reach it
weight_reached : with_line 1 (weighed 59999) Go ≡ Ok (record { measures = None; primary = []; lines = Go ∷ []; waiting = idle; weight = 59999 })
unfolding script_of with_text with_words with_line with_measures with_primary form_of measures_from command_of damage_at plain_drop soft_drop plain_add soft_add armed number parts_at bytes_of byte_of hex_on_literals
weight_reached = refl

-- Limit comes before Later
limit_before_later : with_line 1 (weighed 59999) (Scan 2) ≡ Err Limit
unfolding script_of with_text with_words with_line with_measures with_primary form_of measures_from command_of damage_at plain_drop soft_drop plain_add soft_add armed number parts_at bytes_of byte_of hex_on_literals
limit_before_later = refl

-- Limit: the 65,537th line, a comment or an empty one too
line_too_many : with_text 65537 at_start (codes "# a") ≡ Err Limit
unfolding script_of with_text with_words with_line with_measures with_primary form_of measures_from command_of damage_at plain_drop soft_drop plain_add soft_add armed number parts_at bytes_of byte_of hex_on_literals
line_too_many = refl

empty_line_too_many : with_text 65537 at_start [] ≡ Err Limit
unfolding script_of with_text with_words with_line with_measures with_primary form_of measures_from command_of damage_at plain_drop soft_drop plain_add soft_add armed number parts_at bytes_of byte_of hex_on_literals
empty_line_too_many = refl

go_too_many : with_text 65537 at_start (codes "go") ≡ Err Limit
unfolding script_of with_text with_words with_line with_measures with_primary form_of measures_from command_of damage_at plain_drop soft_drop plain_add soft_add armed number parts_at bytes_of byte_of hex_on_literals
go_too_many = refl

-- the 65,536th is taken
last_line : with_text 65536 at_start [] ≡ Ok at_start
unfolding script_of with_text with_words with_line with_measures with_primary form_of measures_from command_of damage_at plain_drop soft_drop plain_add soft_add armed number parts_at bytes_of byte_of hex_on_literals
last_line = refl

place_before_limit : with_text 65537 (record { measures = None; primary = []; lines = Go ∷ []; waiting = idle; weight = 0 }) (codes "primary 20") ≡ Err Place
unfolding script_of with_text with_words with_line with_measures with_primary form_of measures_from command_of damage_at plain_drop soft_drop plain_add soft_add armed number parts_at bytes_of byte_of hex_on_literals
place_before_limit = refl
