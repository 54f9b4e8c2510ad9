-- What holds of the value that steps give, where they give one.
use Rattle.std.proofs.Common.{◌≡◌, Bool, true, false, Result, Ok, Err, IfOk, refl}
use Rattle.std.specs.Prelude.{if◌then◌else◌}
use Rattle.script_text.specs.declared.why.Why.{Why}
use Rattle.script_text.specs.Steps.{◌>>=◌, demand}

-- a step whose value has P, and steps behind it whose value has Q
pub through : {A B : Type 0} (P : A → Type 0) (Q : B → Type 0) (r : Result A Why) (f : A → Result B Why) → IfOk r P → ((x : A) → P x → IfOk (f x) Q) → IfOk (r >>= f) Q
through P Q (Ok x) f first rest = rest x first
through P Q (Err why) f first rest = tt

-- a step of whose value nothing is asked
pub past : {A B : Type 0} (Q : B → Type 0) (r : Result A Why) (f : A → Result B Why) → ((x : A) → IfOk (f x) Q) → IfOk (r >>= f) Q
past Q (Ok x) f rest = rest x
past Q (Err why) f rest = tt

-- behind a test it has passed
pub required : {B : Type 0} (Q : B → Type 0) (b : Bool) (why : Why) (rest : Result B Why) → (b ≡ true → IfOk rest Q) → IfOk (demand b why >>= (λ _. rest)) Q
required Q true why rest passed = passed refl
required Q false why rest passed = tt

-- whichever of two is chosen
pub either_way : {A : Type 0} (P : A → Type 0) (b : Bool) (x y : Result A Why) → (b ≡ true → IfOk x P) → (b ≡ false → IfOk y P) → IfOk (if b then x else y) P
either_way P true x y one other = one refl
either_way P false x y one other = other refl

-- steps within steps are steps after steps
pub bind_assoc : {A B C : Type 0} (r : Result A Why) (f : A → Result B Why) (g : B → Result C Why) → (r >>= (λ x. f x >>= g)) ≡ ((r >>= f) >>= g)
bind_assoc (Ok x) f g = refl
bind_assoc (Err why) f g = refl
