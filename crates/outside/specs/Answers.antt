-- A fact of what an answer brings, where it brings something.
use Rattle.std.specs.Prelude.{ℕ, List, ⊤}
use Rattle.outside.specs.declared.source.ReadAnswer.{ReadAnswer}
use Rattle.outside.specs.declared.source.ReadAnswer.TheVariants.{Got, End, Failed}
use Rattle.outside.specs.declared.sink.SinkAnswer.{SinkAnswer}
use Rattle.outside.specs.declared.sink.SinkAnswer.TheVariants.{Took, Failed as Refused}
use Rattle.outside.specs.declared.reading.Reading.{Reading}
use Rattle.outside.specs.declared.reading.Reading.TheVariants.{Read, TooLong, Failed as Broken, NoMemory}

-- where bytes were got, this holds of their number
abbrev pub IfGot : ReadAnswer → (ℕ → Type 0) → Type 0
IfGot (Got n) P = P n
IfGot End P = ⊤
IfGot Failed P = ⊤

-- where bytes were taken, this holds of their number
abbrev pub IfTook : SinkAnswer → (ℕ → Type 0) → Type 0
IfTook (Took n) P = P n
IfTook Refused P = ⊤

-- where a source was read, this holds of the bytes
abbrev pub IfRead : Reading → (List ℕ → Type 0) → Type 0
IfRead (Read bytes) P = P bytes
IfRead TooLong P = ⊤
IfRead Broken P = ⊤
IfRead NoMemory P = ⊤
