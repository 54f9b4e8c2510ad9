-- What a window shows with one try more.
use Rattle.std.proofs.Common.{◌≡◌, ℕ, suc, ◌+◌, ◌-◌, ◌<◌, ◌≤◌, Bool, true, false, cond, List, [], ◌∷◌, ◌++◌, length, Option, Some, None, refl, ap, ◌∙◌, subst, arith, length-append, append_assoc, ⊎_elim, inl, get_or}
use Rattle.std.specs.Prelude.{slice_get}
use Rattle.std.specs.Option.{is_none, option_and_then}
use Rattle.std.proofs.lemmas.Bool.{cases_lt}
use Rattle.std.proofs.lemmas.Option.{slice_get-get_or, slice_get_within}
use Rattle.std.proofs.lemmas.List.{get_or-append-add}
use Rattle.disk_base.specs.declared.address.Lba.{Lba}
use Rattle.disk_base.specs.declared.address.Psn.{Psn}
use Rattle.disk_base.specs.declared.block.Value.{Value}
use Rattle.disk_base.specs.declared.payload.Payload.{Payload}
use Rattle.disk_base.specs.declared.stage.Stage.{Stage}
use Rattle.disk_base.specs.Payload.{value_for}
use Rattle.platter_model.specs.declared.op.Op.{Op}
use Rattle.platter_model.specs.declared.op.Op.TheVariants.{Fetched, Tried}
use Rattle.platter_model.specs.State.{State, tried}
use Rattle.platter_model.specs.TrueLog.{attempt_of, strays, strays_from}
use Rattle.read_recovery.specs.Stages.{Progress, stages_of, next_stage, answered}
use Rattle.sector_store.specs.Shapes.{try_of}
use Rattle.drive_scene.specs.After.{last_found, stage_that_found}
use Rattle.drive_scene.specs.Evidence.{FailedBelow, FoundByStages, FoundNowhere}

-- operations of a try, behind those before
pub tried_ops : (x : State) (p : Psn) (stage : Stage) (found : Option Payload) → (tried x p stage found).ops ≡ x.ops ++ try_of (length x.ops) p stage found
tried_ops x p stage found = append_assoc x.ops (Fetched p (attempt_of stage) ∷ []) (Tried (length x.ops) p stage found ∷ [])

last_get : {X : Type 0} (xs : List X) (a b : X) → slice_get (xs ++ a ∷ b ∷ []) (length (xs ++ a ∷ b ∷ []) - 1) ≡ Some b
last_get xs a b =
    let place : length (xs ++ a ∷ b ∷ []) - 1 ≡ length xs + 1 = omega (arith, length-append xs (a ∷ b ∷ [])) in
    let within : length xs + 1 < length (xs ++ a ∷ b ∷ []) = omega (arith, length-append xs (a ∷ b ∷ [])) in
    ap (slice_get (xs ++ a ∷ b ∷ [])) place ∙ (slice_get-get_or (xs ++ a ∷ b ∷ []) (length xs + 1) a within ∙ ap Some (get_or-append-add xs (a ∷ b ∷ []) 1 a))

-- the stage that found last
pub last_found-try : (window : List Op) (before : ℕ) (p : Psn) (stage : Stage) (found : Option Payload)
    → last_found (window ++ try_of before p stage found) ≡ stage_that_found (Tried before p stage found)
last_found-try window before p stage found =
    ap (option_and_then stage_that_found) (last_get window (Fetched p (attempt_of stage)) (Tried before p stage found))

-- a window with a try more has two operations more
pub length-try : (window : List Op) (before : ℕ) (p : Psn) (stage : Stage) (found : Option Payload)
    → length (window ++ try_of before p stage found) ≡ length window + 2
length-try window before p stage found = length-append window (try_of before p stage found)

-- one more stage failed
pub failed-next : (window : List Op) (before : ℕ) (p : Psn) (retry n : ℕ) (stage : Stage) → slice_get (stages_of retry) n ≡ Some stage
    → FailedBelow window p retry n → FailedBelow (window ++ try_of before p stage None) p retry (n + 1)
failed-next window before p retry n stage at shown =
    let next : suc n ≡ n + 1 = omega arith in
    subst (FailedBelow (window ++ try_of before p stage None) p retry) next (window, before, stage, at, shown, refl)

-- the stage behind those that failed found a value
pub found-next : (window : List Op) (before : ℕ) (p : Psn) (retry n : ℕ) (stage : Stage) (payload : Payload) (b : Lba) (v : Value)
    → slice_get (stages_of retry) n ≡ Some stage → FailedBelow window p retry n → value_for b payload ≡ v
    → FoundByStages (window ++ try_of before p stage (Some payload)) p retry b v
found-next window before p retry n stage payload b v at shown value = (n, window, before, stage, payload, at, shown, refl, value)

-- so many there are where the last has this place
count-last : {X : Type 0} (xs : List X) (n : ℕ) (x : X) → slice_get xs n ≡ Some x → slice_get xs (n + 1) ≡ None → n + 1 ≡ length xs
count-last xs n x some none =
    let within : n < length xs = slice_get_within xs n x some in
    ⊎_elim (λ (more : n + 1 < length xs). let is : slice_get xs (n + 1) ≡ Some (get_or xs (n + 1) x) = slice_get-get_or xs (n + 1) x more in
    absurd (let never : ⊥ = cc in never))
    (λ (past : length xs ≤ n + 1). omega arith) (cases_lt (n + 1) (length xs))

-- the last stage failed
pub failed-all : (window : List Op) (before : ℕ) (p : Psn) (retry n : ℕ) (stage : Stage) (b : Lba) → slice_get (stages_of retry) n ≡ Some stage
    → slice_get (stages_of retry) (n + 1) ≡ None → FailedBelow window p retry n → FoundNowhere (window ++ try_of before p stage None) p retry b
failed-all window before p retry n stage b at none shown =
    inl (subst (FailedBelow (window ++ try_of before p stage None) p retry) (count-last (stages_of retry) n stage at none)
    (failed-next window before p retry n stage at shown))

-- what was tried is empty where no stage failed
pub none-failed : (window : List Op) (p : Psn) (retry n : ℕ) → n ≡ 0 → FailedBelow window p retry n → window ≡ []
none-failed window p retry n none shown = subst (FailedBelow window p retry) none shown

-- the stage that is tried next is the one behind those that failed
pub next_stage-at : (p : Progress) (stage : Stage) → next_stage p ≡ Some stage → (p.found ≡ false) × (slice_get (stages_of p.retry) p.failed ≡ Some stage)
next_stage-at p stage is = by p.found refl is
  where
    by : (b : Bool) → p.found ≡ b → cond b None (slice_get (stages_of p.retry) p.failed) ≡ Some stage
        → (p.found ≡ false) × (slice_get (stages_of p.retry) p.failed ≡ Some stage)
    by true found e = absurd (cc)
    by false found e = (found, e)

-- no stage is left
pub none_left : (p : Progress) → p.found ≡ false → is_none (next_stage (answered p false)) ≡ true → slice_get (stages_of p.retry) (p.failed + 1) ≡ None
none_left p unfound none = by p.found (slice_get (stages_of p.retry) (p.failed + 1)) unfound none
  where
    by : (b : Bool) (o : Option Stage) → b ≡ false → is_none (cond b None o) ≡ true → o ≡ None
    by true o e n = absurd (cc)
    by false None e n = refl
    by false (Some stage) e n = absurd (cc)

-- another stage is left
pub one_left : (p : Progress) → p.found ≡ false → is_none (next_stage (answered p false)) ≡ false → p.failed + 1 < length (stages_of p.retry)
one_left p unfound some = by p.found (slice_get (stages_of p.retry) (p.failed + 1)) refl unfound some
  where
    by : (b : Bool) (o : Option Stage) → slice_get (stages_of p.retry) (p.failed + 1) ≡ o → b ≡ false → is_none (cond b None o) ≡ false
        → p.failed + 1 < length (stages_of p.retry)
    by true o is e n = absurd (cc)
    by false None is e n = absurd (cc)
    by false (Some stage) is e n = slice_get_within (stages_of p.retry) (p.failed + 1) stage is

-- more operations are no fewer strays
strays_from-append : (before xs ys : List Op) → strays_from before xs ≤ strays_from before (xs ++ ys)
strays_from-append before [] ys = omega arith
strays_from-append before (x ∷ xs) ys = let rest = strays_from-append (before ++ x ∷ []) xs ys in omega (arith, rest)

pub no_strays-before : (ops more : List Op) → strays (ops ++ more) ≡ 0 → strays ops ≡ 0
no_strays-before ops more none = omega (arith, strays_from-append [] ops more)
