-- The forms of a script's lines, by their first words.
use Rattle.std.specs.Prelude.{ℕ, List, codes, Option, None, Some, if◌then◌else◌}
use Rattle.std.specs.Str.{bytes_eq}
use Rattle.script_text.specs.declared.form.Form.{Form}
use Rattle.script_text.specs.declared.form.Form.TheVariants.{Command, Abort, AbortSet, Clear, Reset, Scan, Destage, Go, Damage, Fault, Cut, Power, Minutes}

-- the form of a line of the body
unfoldable pub form_of : List ℕ → Option Form
form_of first =
    if bytes_eq first (codes "cmd") then Some Command else
    if bytes_eq first (codes "go") then Some Go else
    if bytes_eq first (codes "damage") then Some Damage else
    if bytes_eq first (codes "scan") then Some Scan else
    if bytes_eq first (codes "destage") then Some Destage else
    if bytes_eq first (codes "abort") then Some Abort else
    if bytes_eq first (codes "abortset") then Some AbortSet else
    if bytes_eq first (codes "clear") then Some Clear else
    if bytes_eq first (codes "reset") then Some Reset else
    if bytes_eq first (codes "fault") then Some Fault else
    if bytes_eq first (codes "cut") then Some Cut else
    if bytes_eq first (codes "power") then Some Power else
    if bytes_eq first (codes "minutes") then Some Minutes else None
