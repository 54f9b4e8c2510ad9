-- How the lines of a script are spelled: as words, parted by one space.
use Rattle.std.specs.Prelude.{ℕ, List, [], ◌∷◌, ◌++◌, codes, decimal}
use Rattle.std.specs.Fmt.{signed_decimal}
use Rattle.text_words.specs.Digits.{hex_of}
use Rattle.text_words.specs.Data.{sent_word}
use Rattle.text_words.specs.Line.{spaced}
use Rattle.disk_base.specs.declared.address.Psn.{Psn}
use Rattle.disk_base.specs.declared.command.Attribute.{Attribute}
use Rattle.disk_base.specs.declared.command.Attribute.TheVariants.{Simple, Ordered, Head}
use Rattle.disk_base.specs.declared.command.DataOut.{DataOut}
use Rattle.disk_base.specs.declared.command.DataOut.TheVariants.{Nothing as NoData, Fill, Given}
use Rattle.disk_base.specs.declared.command.Function.{Function as Asked}
use Rattle.disk_base.specs.declared.command.Function.TheVariants.{Abort, AbortSet, Clear, Reset}
use Rattle.platter_model.specs.declared.damage.Lasting.{Lasting}
use Rattle.platter_model.specs.declared.damage.Lasting.TheVariants.{Hard, Soft, Plus, Minus}
use Rattle.platter_model.specs.declared.damage.Effect.{Effect}
use Rattle.platter_model.specs.declared.damage.Effect.TheVariants.{Drop, Add}
use Rattle.platter_model.specs.declared.damage.Damage.{Damage as Harm}
use Rattle.platter_model.specs.declared.damage.Tear.{Tear}
use Rattle.platter_model.specs.declared.damage.Left.{Left}
use Rattle.platter_model.specs.declared.damage.Left.TheVariants.{Old, New, Nothing}
use Rattle.platter_model.specs.declared.world.World.{World as Event}
use Rattle.platter_model.specs.declared.world.World.TheVariants.{Damage, Fault, Cut, Arm, Power, Minutes}
use Rattle.script_text.specs.declared.script.Line.{Line}
use Rattle.script_text.specs.declared.script.Line.TheVariants.{Command, Function, Scan, Destage, Go, World}
use Rattle.script_text.specs.Measures.{Measures}

-- a text and words behind it, the first right behind it and each other one after a blank
abbrev pub joined : List ℕ → List (List ℕ) → List ℕ
joined text [] = text
joined text (first ∷ words) = spaced (text ++ first) words

-- `disk C H S R`
abbrev pub disk_words : Measures → List (List ℕ)
disk_words m =
    codes "disk" ∷ decimal m.cylinders ∷ decimal m.heads ∷ decimal m.sectors ∷ decimal m.reserved ∷ []

-- `primary P`
abbrev pub primary_words : Psn → List (List ℕ)
primary_words p = codes "primary" ∷ decimal p.0 ∷ []

abbrev pub attribute_word : Attribute → List ℕ
attribute_word Simple = codes "S"
attribute_word Ordered = codes "O"
attribute_word Head = codes "H"

-- data sent with a command: no word, or one byte that repeats, or digits
abbrev pub sent_words : DataOut → List (List ℕ)
sent_words NoData = []
sent_words (Fill byte) = sent_word (Fill byte) ∷ []
sent_words (Given bytes) = sent_word (Given bytes) ∷ []

-- a function of this initiator
abbrev pub function_words : ℕ → Asked → List (List ℕ)
function_words i (Abort t) = codes "abort" ∷ decimal i ∷ decimal t.0 ∷ []
function_words i AbortSet = codes "abortset" ∷ decimal i ∷ []
function_words i Clear = codes "clear" ∷ decimal i ∷ []
function_words i Reset = codes "reset" ∷ decimal i ∷ []

abbrev pub effect_words : Effect → List (List ℕ)
effect_words Drop = codes "drop" ∷ []
effect_words (Add d) = codes "add" ∷ signed_decimal d ∷ []

abbrev pub lasting_words : Lasting → List (List ℕ)
lasting_words Hard = codes "hard" ∷ []
lasting_words (Soft n) = codes "soft" ∷ decimal n ∷ []
lasting_words Plus = codes "plus" ∷ []
lasting_words Minus = codes "minus" ∷ []

-- `damage P F L LASTING EFFECT`
abbrev pub damage_words : Harm → List (List ℕ)
damage_words d =
    codes "damage" ∷ decimal d.p.0 ∷ decimal d.first ∷ decimal d.count ∷ (lasting_words d.lasting ++ effect_words d.effect)

abbrev pub left_word : Left → List ℕ
left_word Old = codes "old"
left_word New = codes "new"
left_word Nothing = codes "none"

-- `cut write K LEFT SCAR`
abbrev pub armed_words : ℕ → Tear → List (List ℕ)
armed_words k tear = codes "cut" ∷ codes "write" ∷ decimal k ∷ left_word tear.left ∷ decimal tear.scar ∷ []

-- a world line
abbrev pub world_words : Event → List (List ℕ)
world_words (Damage d) = damage_words d
world_words (Fault p) = codes "fault" ∷ decimal p.0 ∷ []
world_words Cut = codes "cut" ∷ codes "now" ∷ []
world_words (Arm k tear) = armed_words k tear
world_words Power = codes "power" ∷ []
world_words (Minutes n) = codes "minutes" ∷ decimal n ∷ []

-- a line of the body
abbrev pub line_words : Line → List (List ℕ)
line_words (Command i t a cdb sent) =
    codes "cmd" ∷ decimal i ∷ decimal t.0 ∷ attribute_word a ∷ hex_of cdb ∷ sent_words sent
line_words (Function i what) = function_words i what
line_words (Scan n) = codes "scan" ∷ decimal n ∷ []
line_words (Destage n) = codes "destage" ∷ decimal n ∷ []
line_words Go = codes "go" ∷ []
line_words (World event) = world_words event
