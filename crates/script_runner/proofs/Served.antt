-- What was read of the source, where a run came of it.
use Rattle.std.proofs.Common.{◌≡◌, ap, sym, subst, ℕ, ◌≤◌, List, length, Result, Ok, Option}
use Rattle.std.specs.Io.KnownBytes.{Consumes, IsAtEnd}
use Rattle.report_text.specs.declared.run.Run.{Run}
use Rattle.script_runner.specs.Outcome.{script_limit, ReadsAll, IsRunOf}
use Rattle.script_runner.specs.Words.{order_or_none}

pub reads_run : (old new : Option (List ℕ)) (asked : Result (Option ℕ) ℕ) (order : Option ℕ) (bytes text : List ℕ) (run : Run) → asked ≡ Ok order → Consumes old new bytes → IsAtEnd new
    → length bytes ≤ script_limit → text ≡ bytes → IsRunOf order run text → ReadsAll old new (IsRunOf (order_or_none asked) run)
reads_run old new asked order bytes text run is consumes ended short same good =
    (bytes, consumes, ended, short, subst (λ (o : Option ℕ). IsRunOf o run bytes) (sym (ap order_or_none is)) (subst (IsRunOf order run) same good))
