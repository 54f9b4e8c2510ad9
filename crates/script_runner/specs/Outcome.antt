-- What the top call answers, and what it leaves.
use Rattle.std.specs.Prelude.{◌≡◌, ◌+◌, ℕ, ◌≤◌, ⊤, List, [], ◌∷◌, ◌++◌, length, codes, decimal, Option, Some, None, Result, Ok, Err, IsOk}
use Rattle.std.specs.Io.KnownBytes.{Consumes, Appends, Keeps, IsAtEnd}
use Rattle.outside.specs.Pieces.{ConsumesAtMost, ConsumesExactly, AppendsFront}
use Rattle.script_text.specs.declared.why.Why.{Why}
use Rattle.script_text.specs.declared.why.Why.TheVariants.{Bytes, Shape, Number, Hex, Cdb, Disk, Place, Tag, Limit, Later}
use Rattle.script_text.specs.declared.why.ScriptFault.{ScriptFault}
use Rattle.script_text.specs.declared.why.ScriptFault.TheVariants as fault
use Rattle.script_text.specs.Meaning.{script_of, asked_by}
use Rattle.report_text.specs.declared.run.Run.{Run}
use Rattle.report_text.specs.declared.run.Form.TheVariants.{Whole}
use Rattle.report_text.specs.Report.{report_of}
use Rattle.script_runner.specs.declared.outcome.Outcome.{Outcome}
use Rattle.script_runner.specs.declared.outcome.Outcome.TheVariants.{Served, Usage, TooLong, Refused, ReadFault, WriteFault, NoMemory}
use Rattle.script_runner.specs.Run.{IsGoodByOrder}
use Rattle.script_runner.specs.Measure.{turns_by_weight}
use Rattle.script_runner.specs.Script.{blocks_of}

-- the most bytes that a script has
abbrev pub script_limit : ℕ
script_limit = 4194304

-- all bytes left were read, no more than a script may have, and P holds of them
abbrev pub ReadsAll : Option (List ℕ) → Option (List ℕ) → (List ℕ → Type 0) → Type 0
ReadsAll old new P = (bytes : List ℕ) × Consumes old new bytes × IsAtEnd new × (length bytes ≤ script_limit) × P bytes

-- bytes mean the script of a run, and the run is a good one by an order
abbrev pub IsRunOf : Option ℕ → Run → List ℕ → Type 0
IsRunOf order run bytes = (script_of bytes ≡ Ok (asked_by run.script)) × IsGoodByOrder order run

-- what was read of the source, by what the call answers, where the turns are to come by an order
abbrev pub SourceOf : Option ℕ → Option (List ℕ) → Option (List ℕ) → Outcome → Type 0
SourceOf order old new (Served run) = ReadsAll old new (IsRunOf order run)
SourceOf order old new (WriteFault run) = ReadsAll old new (IsRunOf order run)
SourceOf order old new (Refused line why) = ReadsAll old new (λ bytes. script_of bytes ≡ Err (record { line = line; why = why }))
SourceOf order old new TooLong = ConsumesExactly old new (script_limit + 1)
SourceOf order old new ReadFault = ConsumesAtMost old new script_limit
SourceOf order old new NoMemory = ConsumesAtMost old new (script_limit + 1)
SourceOf order old new (Usage word) = ⊤

-- what the sink got, by what the call answers
abbrev pub SinkOf : Option (List ℕ) → Option (List ℕ) → Outcome → Type 0
SinkOf old new (Served run) = Appends old new (report_of Whole run.factory_count run.turns run.ops)
SinkOf old new (WriteFault run) = AppendsFront old new (report_of Whole run.factory_count run.turns run.ops)
SinkOf old new (Refused line why) = Keeps old new
SinkOf old new TooLong = Keeps old new
SinkOf old new ReadFault = Keeps old new
SinkOf old new NoMemory = Keeps old new
SinkOf old new (Usage word) = Keeps old new

-- nothing was to be printed
abbrev pub IsQuiet : Outcome → Type 0
IsQuiet (Served run) = ⊥
IsQuiet (WriteFault run) = ⊥
IsQuiet (Refused line why) = ⊤
IsQuiet TooLong = ⊤
IsQuiet ReadFault = ⊤
IsQuiet NoMemory = ⊤
IsQuiet (Usage word) = ⊤

abbrev pub IsWriteFault : Outcome → Type 0
IsWriteFault (Served run) = ⊥
IsWriteFault (WriteFault run) = ⊤
IsWriteFault (Refused line why) = ⊥
IsWriteFault TooLong = ⊥
IsWriteFault ReadFault = ⊥
IsWriteFault NoMemory = ⊥
IsWriteFault (Usage word) = ⊥

-- what running the bytes of a script by an order answers: a good run of them, or the line that is refused, unless memory ran out
abbrev pub Ran : Option ℕ → Result Run ScriptFault → List ℕ → Type 0
Ran order (Ok run) bytes = IsRunOf order run bytes
Ran order (Err fault.NoMemory) bytes = Unit {0}
Ran order (Err (fault.Refused line why)) bytes = script_of bytes ≡ Err (record { line = line; why = why })

-- a run has at most the turns that its script's lines take by their number and their weight
abbrev pub HasFewTurns : Run → Type 0
HasFewTurns run = length run.turns ≤ turns_by_weight (blocks_of run.script) run.script.lines

-- so has the run of an answer, where there is one
abbrev pub IsBounded : Outcome → Type 0
IsBounded (Served run) = HasFewTurns run
IsBounded (WriteFault run) = HasFewTurns run
IsBounded (Refused line why) = ⊤
IsBounded TooLong = ⊤
IsBounded ReadFault = ⊤
IsBounded NoMemory = ⊤
IsBounded (Usage word) = ⊤

-- served, or there was no memory
abbrev pub IsServedIfMemory : Outcome → Type 0
IsServedIfMemory (Served run) = ⊤
IsServedIfMemory (WriteFault run) = ⊥
IsServedIfMemory (Refused line why) = ⊥
IsServedIfMemory TooLong = ⊥
IsServedIfMemory ReadFault = ⊥
IsServedIfMemory NoMemory = ⊤
IsServedIfMemory (Usage word) = ⊥

-- the bytes left are known, and are a script that is served
abbrev pub HasScript : Option (List ℕ) → Type 0
HasScript (Some bytes) = (length bytes ≤ script_limit) × IsOk (script_of bytes)
HasScript None = ⊥

-- the exit status of the program
abbrev pub status_of : Outcome → ℕ
status_of (Served run) = 0
status_of (Usage word) = 1
status_of TooLong = 2
status_of (Refused line why) = 2
status_of ReadFault = 3
status_of (WriteFault run) = 4
status_of NoMemory = 5

abbrev pub why_word : Why → List ℕ
why_word Bytes = codes "bytes"
why_word Shape = codes "shape"
why_word Number = codes "number"
why_word Hex = codes "hex"
why_word Cdb = codes "cdb"
why_word Disk = codes "disk"
why_word Place = codes "place"
why_word Tag = codes "tag"
why_word Limit = codes "limit"
why_word Later = codes "later"

-- the line that is said of an answer, where it isn't served
abbrev pub said_of : Outcome → List ℕ
said_of (Served run) = []
said_of (Usage word) = codes "usage: word " ++ decimal word ++ 10 ∷ []
said_of TooLong = codes "too long\n"
said_of (Refused line why) = codes "line " ++ decimal line ++ (codes ": " ++ why_word why ++ 10 ∷ [])
said_of ReadFault = codes "read fault\n"
said_of (WriteFault run) = codes "write fault\n"
said_of NoMemory = codes "no memory\n"
