-- What the store finds where it seeks a block, as the command is answered.
use Rattle.std.proofs.Common.{◌≡◌, ◌⊎◌, ℕ, Bool, true, false, List, Option, Some, None, sym, ap, ◌∙◌, ⊎_elim, inl, inr}
use Rattle.disk_base.specs.declared.address.Lba.{Lba}
use Rattle.disk_base.specs.declared.block.Value.{Value}
use Rattle.disk_base.specs.declared.block.Value.TheVariants.{Data, Lost}
use Rattle.disk_base.specs.declared.payload.Payload.{Payload}
use Rattle.write_cache.specs.Contents.{Contents, with_clean}
use Rattle.sector_store.specs.declared.answer.TryAnswer.{TryAnswer}
use Rattle.sector_store.specs.declared.answer.TryAnswer.TheVariants.{Found, Nothing, Off}
use Rattle.sector_store.specs.declared.caching.Search.{Search}
use Rattle.sector_store.specs.State.{Contained, try_answer}
use Rattle.sector_store.specs.Caching.{IsLooked, IsUngiven, IsStageTried, IsSought, KeepsFound}
use Rattle.command_engine.specs.declared.answer.Answer.{Answer}
use Rattle.command_engine.specs.declared.answer.Answer.TheVariants.{Got}
use Rattle.drive_core.specs.Taking.{answer_of}

-- the power is on
pub never_off : (old : Contained) (q : Search) (seen : TryAnswer) (new : Contained) → IsSought old q seen new → seen ≡ Off → ⊥
never_off old q seen new is off =
    ⊎_elim (λ (looked : IsLooked old q seen new). let same : Off ≡ Found (Data looked.bytes) = sym off ∙ looked.answered in cc)
    (λ (tried : IsUngiven old.cache q × IsStageTried old q.b q.stage q.keeps seen new). by tried.1.found (sym off ∙ tried.1.answered)) is
  where
    by : (found : Option Payload) → Off ≡ try_answer q.b found → ⊥
    by None same = cc
    by (Some payload) same = cc

-- a value that is got was found
pub found_by : (seen : TryAnswer) (v : Value) → answer_of seen ≡ Got v → seen ≡ Found v
found_by (Found w) v is = let same : w ≡ v = cc in ap Found same
found_by Nothing v is = let never : ⊥ = cc in absurd never
found_by Off v is = let never : ⊥ = cc in absurd never

-- after a stage the cache is as before, or has data that were found
pub kept_or_same : (keeps : Bool) (b : Lba) (seen : TryAnswer) (answer : Answer) (old new : Contents) → answer ≡ answer_of seen → KeepsFound keeps b seen old new
    → (new ≡ old) ⊎ ((bytes : List ℕ) × (answer ≡ Got (Data bytes)) × (new ≡ with_clean b bytes old))
kept_or_same true b (Found (Data bytes)) answer old new is kept = ⊎_elim (λ with_it. inr (bytes, is, with_it)) (λ without. inl without.0) kept
kept_or_same true b (Found Lost) answer old new is kept = inl kept
kept_or_same true b Nothing answer old new is kept = inl kept
kept_or_same true b Off answer old new is kept = inl kept
kept_or_same false b seen answer old new is kept = inl kept
