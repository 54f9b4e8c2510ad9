-- Other commands than the one that a turn is about stand as before.
use Rattle.std.proofs.Common.{◌≡◌, ◌≢◌, ℕ, List, Option, sym, subst, ⊎_elim}
use Rattle.std.proofs.lemmas.Bool.{cases_eq}
use Rattle.drive_core.specs.declared.accepted.Accepted.{Accepted}
use Rattle.drive_scene.specs.Scene.{Scene}
use Rattle.drive_core.specs.Accepting.{accepted_of}
use Rattle.drive_scene.specs.View.{View, view}
use Rattle.drive_core.specs.Commands.{IsStaged}
use Rattle.drive_scene.proofs.Elsewhere.{IsAlike, view-alike}

-- so it stands as before
pub staged-alike : (s t : Scene) (q : ℕ) (o p : Option Accepted) → IsAlike s t q → p ≡ o → IsStaged (view s q) o → IsStaged (view t q) p
staged-alike s t q o p alike same staged =
    subst (λ (v : View). IsStaged v p) (sym (view-alike s t q alike)) (subst (λ (x : Option Accepted). IsStaged (view s q) x) (sym same) staged)

-- all commands, from what holds of one and of the others
pub all_staged : (t : Scene) (xs : List Accepted) (c : ℕ) → IsStaged (view t c) (accepted_of xs c)
    → ((q : ℕ) → q ≢ c → IsStaged (view t q) (accepted_of xs q)) → (q : ℕ) → IsStaged (view t q) (accepted_of xs q)
all_staged t xs c own others q = ⊎_elim (λ same. subst (λ (n : ℕ). IsStaged (view t n) (accepted_of xs n)) (sym same) own) (λ other. others q other) (cases_eq q c)
