-- What the steps of reading answer.
use Rattle.std.specs.Prelude.{◌≡◌, ℕ, List, [], ◌∷◌, ◌++◌, Option, Some, None, option_map, Result, Ok, Err}
use Rattle.block_machine.specs.declared.entry.Entry.{Entry}
use Rattle.text_words.specs.declared.digits.DigitsFault.{DigitsFault}
use Rattle.text_words.specs.declared.digits.DigitsFault.TheVariants.{NotHex, NoMemory as NoRoom}
use Rattle.report_text.specs.declared.fault.ReportFault.{ReportFault}
use Rattle.report_text.specs.declared.fault.ReportFault.TheVariants.{NoMemory as OutOfMemory, Line}
use Rattle.report_text.specs.declared.fault.LineFault.{LineFault}
use Rattle.report_text.specs.declared.fault.LineFault.TheVariants.{NoMemory, Unreadable}

-- what is wrong with digits is wrong with their line
abbrev pub line_fault_of : DigitsFault → LineFault
line_fault_of NotHex = Unreadable
line_fault_of NoRoom = NoMemory

-- the fault of a report, by that of its line of this number
abbrev pub fault_at : ℕ → LineFault → ReportFault
fault_at n NoMemory = OutOfMemory
fault_at n Unreadable = Line n

-- this is what is read, unless memory ran out
abbrev pub Gives : {A : Type 0} → Result A LineFault → Option A → Type 0
Gives (Ok x) meaning = meaning ≡ Some x
Gives (Err NoMemory) meaning = Unit {0}
Gives (Err Unreadable) meaning = meaning ≡ None

-- the entry that is read stands behind those before, unless memory ran out
abbrev pub Adds : {A : Type 0} → List Entry → List Entry → Result A LineFault → Option Entry → Type 0
Adds before after (Ok done) meaning = option_map (λ e. before ++ e ∷ []) meaning ≡ Some after
Adds before after (Err NoMemory) meaning = Unit {0}
Adds before after (Err Unreadable) meaning = meaning ≡ None
