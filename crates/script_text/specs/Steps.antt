-- Steps of which the first that fails gives the reason.
use Rattle.std.specs.Prelude.{Bool, true, false, Option, None, Some, Result, Ok, Err}
use Rattle.script_text.specs.declared.why.Why.{Why}

infixl 10 ◌>>=◌
abbrev pub ◌>>=◌ : {A B : Type 0} → Result A Why → (A → Result B Why) → Result B Why
Ok x >>= f = f x
Err why >>= f = Err why

-- a test that has to pass, or this is the reason
abbrev pub demand : Bool → Why → Result (Unit {0}) Why
demand true why = Ok tt
demand false why = Err why

-- a value that has to be there, or this is the reason
abbrev pub or_else : {A : Type 0} → Why → Option A → Result A Why
or_else why None = Err why
or_else why (Some x) = Ok x
