-- What a line that is refused, and the end of the lines, say of the meaning of the whole.
use Rattle.std.proofs.Common.{◌≡◌, ℕ, ◌+◌, List, [], ◌∷◌, Result, Ok, Err, refl, sym, ◌∙◌, ap, length, arith}
use Rattle.script_text.specs.declared.fault.LineFault.{LineFault}
use Rattle.script_text.specs.declared.fault.LineFault.TheVariants.{NoMemory, Refused}
use Rattle.script_text.specs.Answers.{Leads}
use Rattle.script_text.specs.Standing.{Reading, with_text}
use Rattle.script_text.specs.Meaning.{Asked, Refusal, behind_lines, goes_on, asked_at_end, ends, fault_at, Reads}

pub none_of_length : (bytes : List ℕ) → length bytes ≡ 0 → bytes ≡ []
none_of_length [] e = refl
none_of_length (b ∷ bs) e = absurd (omega arith)

-- a line that is refused is the meaning's
pub refused_at : (n : ℕ) (s after : Reading) (line : List ℕ) (rest : List (List ℕ)) (fault : LineFault) (meaning : Result Reading Refusal)
    → Leads (Err fault) after (with_text n s line) → behind_lines n s (line ∷ rest) ≡ meaning → Reads (Err (fault_at n fault)) (ends meaning)
refused_at n s after line rest NoMemory meaning leads e = tt
refused_at n s after line rest (Refused why) meaning leads e =
    let here : behind_lines n s (line ∷ rest) ≡ Err (record { line = n; why = why }) = ap (λ r. goes_on n r (λ t. behind_lines (n + 1) t rest)) leads in
    ap ends (sym e ∙ here)

-- without more lines the script ends as it stands
pub ended_at : (n : ℕ) (s : Reading) (asked : Asked) (meaning : Result Reading Refusal)
    → behind_lines n s [] ≡ meaning → asked ≡ asked_at_end s → ends meaning ≡ Ok asked
ended_at n s asked meaning e same = ap ends (sym e) ∙ ap Ok (sym same)
