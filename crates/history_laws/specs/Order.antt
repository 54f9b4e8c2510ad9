-- The order in which commands start, in words on entries alone (SAM-4, task attributes).
use Rattle.std.specs.Prelude.{ℕ, ◌==◌, ◌&&◌, ◌||◌, Bool, true, false, not, nat_lt, if◌then◌else◌, IsTrue, List, [], ◌∷◌, ◌++◌, filter, find}
use Rattle.std.specs.List.{list_any}
use Rattle.std.specs.Option.{option_map_or}
use Rattle.disk_base.specs.Along.{all_along}
use Rattle.disk_base.specs.declared.command.Attribute.{Attribute}
use Rattle.disk_base.specs.declared.command.Attribute.TheVariants.{Ordered, Head}
use Rattle.block_machine.specs.declared.entry.Entry.{Entry}
use Rattle.block_machine.specs.declared.entry.Entry.TheVariants.{Arrived, Started, Ended, Aborted, Cut}
use Rattle.block_machine.specs.declared.turn.Turn.{Turn}
use Rattle.block_machine.specs.History.{entries_of}

-- a command that is in: its number and its attribute
pub record Inside : Type 0 where
  pub c : ℕ
  pub attribute : Attribute

-- those of other numbers
abbrev pub others : ℕ → List Inside → List Inside
others c inside = filter (λ x. not (x.c == c)) inside

-- the commands that are in, after an entry: each from its arrival to its end, its abort or a power cut
abbrev pub inside_after : List Inside → Entry → List Inside
inside_after inside (Arrived c i t a cdb sent) = inside ++ record { c = c; attribute = a } ∷ []
inside_after inside (Ended c reply) = others c inside
inside_after inside (Aborted c) = others c inside
inside_after inside Cut = []
inside_after inside other = inside

abbrev pub is_head : Attribute → Bool
is_head Head = true
is_head other = false

abbrev pub is_ordered : Attribute → Bool
is_ordered Ordered = true
is_ordered other = false

-- a command that is in keeps another from its start: nothing does so to a HEAD OF QUEUE one; to any other each HEAD OF QUEUE
-- one besides itself, and each older one where one of the two is ORDERED; later ones have greater numbers
abbrev pub keeps_back : Inside → Inside → Bool
keeps_back other x =
    if is_head x.attribute then false else
    if is_head other.attribute then not (other.c == x.c) else
    (is_ordered other.attribute || is_ordered x.attribute) && nat_lt other.c x.c

-- no command that is in keeps this one back
abbrev pub is_free : List Inside → Inside → Bool
is_free inside x = not (list_any (λ other. keeps_back other x) inside)

-- an entry that starts a command starts one that is in and free
abbrev pub starts_in_order : List Inside → Entry → Bool
starts_in_order inside (Started c) = option_map_or (is_free inside) (find (λ x. x.c == c) inside) false
starts_in_order inside other = true

-- a law: so does each start
abbrev pub TasksStartInOrder : ℕ → List Turn → Type 0
TasksStartInOrder capacity turns = IsTrue (all_along inside_after starts_in_order [] (entries_of turns))
