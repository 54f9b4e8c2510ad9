-- Sources and sinks over memory, as contracts see them.
use Rattle.std.specs.Prelude.{◌≡◌, ℕ, ◌-◌, List, ◌++◌, length, take, drop, min, Contains}
use Rattle.outside.specs.Faults.{counted}
use Rattle.outside.specs.declared.source.ReadAnswer.{ReadAnswer}
use Rattle.outside.specs.declared.source.ReadAnswer.TheVariants.{Got, End, Failed}
use Rattle.outside.specs.declared.sink.SinkAnswer.{SinkAnswer}
use Rattle.outside.specs.declared.sink.SinkAnswer.TheVariants.{Took, Failed as Refused}

-- bytes to be given, at most so many a call
pub record Supply : Type 0 where
  pub left : List ℕ
  pub most : ℕ

-- the numbers of the calls that are to fail, counted from 1, the calls so far, and how many of these failed
pub record Schedule : Type 0 where
  pub failing : List ℕ
  pub calls : ℕ
  pub faults : ℕ

-- a source in memory: what it gives, and when it fails
pub record SourceState : Type 0 where
  pub supply : Supply
  pub schedule : Schedule

-- a sink in memory: the bytes that it has, how many it can hold, the most that one call takes, and when it fails
pub record SinkState : Type 0 where
  pub held : List ℕ
  pub room : ℕ
  pub most : ℕ
  pub schedule : Schedule

-- no call so far
abbrev pub fresh : List ℕ → Schedule
fresh failing = record { failing = failing; calls = 0; faults = 0 }

-- the next call is to fail
abbrev pub IsDue : Schedule → Type 0
IsDue s = Contains s.failing (counted s.calls)

-- after a call without a fault
abbrev pub passed : Schedule → Schedule
passed s = record s { calls = counted s.calls }

-- after a call with a fault
abbrev pub faulted : Schedule → Schedule
faulted s = record s { calls = counted s.calls; faults = counted s.faults }

-- how many bytes a supply gives into so much room
abbrev pub count_given : Supply → ℕ → ℕ
count_given s room = min (length s.left) (min s.most room)

-- a supply after its answer
abbrev pub supply_after : Supply → ReadAnswer → Supply
supply_after s (Got n) = record s { left = drop n s.left }
supply_after s End = s
supply_after s Failed = s

-- a source after its answer
abbrev pub source_after : SourceState → ReadAnswer → SourceState
source_after s (Got n) = record { supply = supply_after s.supply (Got n); schedule = passed s.schedule }
source_after s End = record s { schedule = passed s.schedule }
source_after s Failed = record s { schedule = faulted s.schedule }

-- how many bytes of a piece of this length a sink takes
abbrev pub count_taken : SinkState → ℕ → ℕ
count_taken s n = min n (min s.most (s.room - length s.held))

-- a sink has no room for another byte
abbrev pub IsFull : SinkState → Type 0
IsFull s = length s.held ≡ s.room

-- a sink after its answer to a piece
abbrev pub sink_after : SinkState → List ℕ → SinkAnswer → SinkState
sink_after s piece (Took n) = record s { held = s.held ++ take n piece; schedule = passed s.schedule }
sink_after s piece Refused = record s { schedule = faulted s.schedule }
