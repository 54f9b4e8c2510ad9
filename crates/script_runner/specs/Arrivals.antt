-- What arrives at a drive from each initiator: by the lines of a script, and in turns.
use Rattle.std.specs.Prelude.{◌≡◌, ℕ, ◌==◌, List, [], ◌∷◌, ◌++◌, filter, filter_map, flat_map, drop, length, slice_index_or, Option, Some, None}
use Rattle.disk_base.specs.At.{put_at}
use Rattle.disk_base.specs.declared.address.Tag.{Tag}
use Rattle.disk_base.specs.declared.command.Attribute.{Attribute}
use Rattle.disk_base.specs.declared.command.DataOut.{DataOut}
use Rattle.block_machine.specs.declared.entry.Entry.{Entry}
use Rattle.block_machine.specs.declared.entry.Entry.TheVariants as entry
use Rattle.script_text.specs.declared.script.Line.{Line}
use Rattle.script_text.specs.declared.script.Line.TheVariants as line
use Rattle.drive_scene.specs.declared.event.Arrival.{Arrival}
use Rattle.drive_scene.specs.declared.event.Arrival.TheVariants.{Command, Function}
use Rattle.drive_scene.specs.declared.event.Arriving.{Arriving}
use Rattle.drive_scene.specs.Scene.{Beat}
use Rattle.drive_scene.specs.Turning.{initiator_of}

-- what each initiator is to send, in order
abbrev pub Sends : Type 0
Sends = ℕ → List Arrival

-- the same from eight lists, one for each initiator
abbrev pub sends_of : List (List Arrival) → Sends
sends_of queues i = slice_index_or ([] ∷ queues) i []

-- one thing more is to be sent by an initiator
abbrev pub Added : List (List Arrival) → List (List Arrival) → ℕ → Arrival → Type 0
Added old new i a = (j : ℕ) → sends_of new j ≡ put_at i (sends_of old i ++ a ∷ []) (sends_of old) j

-- what an initiator sends next isn't to be sent any more
pub record Taken (old new : List (List Arrival)) (i : ℕ) (a : Arrival) : Type 0 where
  pub rest : List Arrival
  pub first : sends_of old i ≡ a ∷ rest
  pub left : (j : ℕ) → sends_of new j ≡ put_at i rest (sends_of old) j

-- a command of these parts
abbrev pub arriving : ℕ → Tag → Attribute → List ℕ → DataOut → Arriving
arriving i tag attribute cdb sent = record { initiator = i; tag = tag; attribute = attribute; cdb = cdb; sent = sent }

-- what arrives by a line
abbrev pub arrival_of_line : Line → Option Arrival
arrival_of_line (line.Command i tag attribute cdb sent) = Some (Command (arriving i tag attribute cdb sent))
arrival_of_line (line.Function i what) = Some (Function i what)
arrival_of_line other = None

-- what arrived by an entry
abbrev pub arrival_of_entry : Entry → Option Arrival
arrival_of_entry (entry.Arrived c i tag attribute cdb sent) = Some (Command (arriving i tag attribute cdb sent))
arrival_of_entry (entry.Asked i what) = Some (Function i what)
arrival_of_entry other = None

-- those of one initiator
abbrev pub sent_by : ℕ → List Arrival → List Arrival
sent_by i arrivals = filter (λ a. initiator_of a == i) arrivals

-- what lines have each initiator send
abbrev pub lines_of : List Line → Sends
lines_of lines i = sent_by i (filter_map arrival_of_line lines)

-- what arrived from an initiator by entries
abbrev pub arrived_by : ℕ → List Entry → List Arrival
arrived_by i entries = sent_by i (filter_map arrival_of_entry entries)

-- what arrived from an initiator in turns, in order
abbrev pub arrived_in : ℕ → List Beat → List Arrival
arrived_in i turns = flat_map (λ t. arrived_by i t.entries) turns

-- what an initiator is still to send, after turns of a phase
abbrev pub unsent_of : Sends → List Beat → Sends
unsent_of sends came i = drop (length (arrived_in i came)) (sends i)
