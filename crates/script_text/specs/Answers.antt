-- What the steps of reading a line answer.
use Rattle.std.specs.Prelude.{◌≡◌, Result, Ok, Err}
use Rattle.geometry_map.specs.declared.size.Size.{Size}
use Rattle.script_text.specs.declared.why.Why.{Why}
use Rattle.script_text.specs.declared.fault.LineFault.{LineFault}
use Rattle.script_text.specs.declared.fault.LineFault.TheVariants.{NoMemory, Refused}
use Rattle.script_text.specs.Measures.{Measures, measures_of}

-- the size has these measures, or the reason is this
abbrev pub IsSizeOf : Result Size Why → Result Measures Why → Type 0
IsSizeOf (Ok size) meaning = meaning ≡ Ok (measures_of size)
IsSizeOf (Err why) meaning = meaning ≡ Err why

-- this is the meaning, unless memory ran out
abbrev pub Gives : {A : Type 0} → Result A LineFault → Result A Why → Type 0
Gives (Ok x) meaning = meaning ≡ Ok x
Gives (Err NoMemory) meaning = Unit {0}
Gives (Err (Refused why)) meaning = meaning ≡ Err why

-- this standing is the meaning, unless memory ran out
abbrev pub Leads : {S : Type 0} → Result (Unit {0}) LineFault → S → Result S Why → Type 0
Leads (Ok done) after meaning = meaning ≡ Ok after
Leads (Err NoMemory) after meaning = Unit {0}
Leads (Err (Refused why)) after meaning = meaning ≡ Err why
