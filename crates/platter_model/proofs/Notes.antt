-- What is read from a fetch may be noted.
use Rattle.std.proofs.Common.{◌≡◌, ℕ, false, List, [], ◌∷◌, ◌++◌, length, Option, ℤ, sym, ◌∙◌, subst}
use Rattle.disk_base.specs.declared.address.Psn.{Psn}
use Rattle.disk_base.specs.declared.payload.Payload.{Payload}
use Rattle.disk_base.specs.declared.stage.Stage.{Stage}
use Rattle.platter_model.specs.declared.op.Op.{Op}
use Rattle.platter_model.specs.declared.op.Op.TheVariants.{Fetched, Tried}
use Rattle.platter_model.specs.Given.{IsGiven, IsFound}
use Rattle.platter_model.specs.TrueLog.{attempt_of, is_off, IsTrueLog, MayFollow}
use Rattle.platter_model.proofs.Lists.{slice_get-last, take-push}
use Rattle.platter_model.proofs.Logs.{supply-push, is_powered}

pub noted_on : (ops : List Op) (p : Psn) (stage : Stage) (samples : List ℤ) (found : Option Payload) (at : ℕ) → at ≡ length ops → IsTrueLog ops → is_off ops ≡ false
    → IsGiven ops p (attempt_of stage) samples → IsFound p samples stage.how found → MayFollow (ops ++ Fetched p (attempt_of stage) ∷ []) (Tried at p stage found)
noted_on ops p stage samples found at is log on given is_found =
    let P : List Op → Type 0 = λ os. IsGiven os p (attempt_of stage) samples in
    let Q : ℕ → Type 0 = λ n. MayFollow (ops ++ Fetched p (attempt_of stage) ∷ []) (Tried n p stage found) in
    subst Q (sym is) (
      supply-push ops (Fetched p (attempt_of stage)) ∙ is_powered ops log.whole on,
      record {
        fetched = slice_get-last ops (Fetched p (attempt_of stage));
        samples = samples;
        given = subst P (sym (take-push ops (Fetched p (attempt_of stage)))) given;
        is_found = is_found;
      },
    )
