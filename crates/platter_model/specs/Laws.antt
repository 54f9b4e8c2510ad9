-- What holds of the samples that sectors give.
use Rattle.std.specs.Prelude.{◌≡◌, Bool, true, not, ◌||◌, false, ℤ, List, None}
use Rattle.std.specs.List.{list_all}
use Rattle.disk_base.specs.declared.address.Psn.{Psn}
use Rattle.disk_base.specs.declared.payload.Payload.{Payload}
use Rattle.disk_base.specs.declared.stage.How.{How}
use Rattle.channel_path.specs.Sector.{ReadsAs}
use Rattle.platter_model.specs.declared.damage.Attempt.{Attempt}
use Rattle.platter_model.specs.declared.damage.Effect.{Effect}
use Rattle.platter_model.specs.declared.damage.Effect.TheVariants.{Drop, Add}
use Rattle.platter_model.specs.declared.op.Op.{Op}
use Rattle.platter_model.specs.Sector.{Flaw, harm, scar, meant, flaws}
use Rattle.platter_model.specs.Given.{applies, IsGiven}

abbrev pub is_drop : Effect → Bool
is_drop Drop = true
is_drop (Add more) = false

-- a flaw adds nothing at an attempt: it doesn't apply, or it drops samples
abbrev pub adds_nothing : Attempt → Flaw → Bool
adds_nothing attempt (harm damage) = not (applies damage.lasting attempt) || is_drop damage.effect
adds_nothing attempt (scar dropped) = true

-- a sector on which nothing is meant reads as nothing at every attempt to which no damage that adds applies
abbrev pub NothingIsRead : Type 0
NothingIsRead = (ops : List Op) (p : Psn) (attempt : Attempt) (samples : List ℤ) (how : How) (payload : Payload) → meant p ops ≡ None
    → list_all (adds_nothing attempt) (flaws p ops) ≡ true → IsGiven ops p attempt samples → ReadsAs p samples how payload → ⊥

-- after the same operations a sector gives the same samples at the same attempt
abbrev pub GivesOneThing : Type 0
GivesOneThing = (ops : List Op) (p : Psn) (attempt : Attempt) (a b : List ℤ) → IsGiven ops p attempt a → IsGiven ops p attempt b → a ≡ b
