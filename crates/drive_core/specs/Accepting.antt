-- The commands that are in, by their numbers.
use Rattle.std.specs.Prelude.{◌≡◌, ◌≢◌, ℕ, ◌==◌, Bool, List, find, Option, Some, None}
use Rattle.std.specs.Option.{option_and_then}
use Rattle.command_engine.specs.Course.{Course}
use Rattle.command_engine.specs.Need.{need_of}
use Rattle.drive_core.specs.declared.accepted.Accepted.{Accepted}
use Rattle.drive_core.specs.declared.accepted.Errand.{Errand}

abbrev pub is_numbered : ℕ → Accepted → Bool
is_numbered c a = a.c == c

-- the command of a number
abbrev pub accepted_of : List Accepted → ℕ → Option Accepted
accepted_of commands c = find (is_numbered c) commands

-- where a command stands, from its start on
abbrev pub under_way : List Accepted → ℕ → Option Course
under_way commands c = option_and_then (λ a. a.work) (accepted_of commands c)

-- what it needs next, and by which settings
abbrev pub errand_of : Course → Errand
errand_of w = record { need = need_of w; settings = w.settings; gives = w.gives }

-- a command stands otherwise, and all others as before
pub record Replaces (old new : List Accepted) (c : ℕ) (a : Accepted) : Type 0 where
  pub own : accepted_of new c ≡ Some a
  pub others : (q : ℕ) → q ≢ c → accepted_of new q ≡ accepted_of old q

-- a command isn't in any more, and all others are as before
pub record Drops (old new : List Accepted) (c : ℕ) : Type 0 where
  pub own : accepted_of new c ≡ None
  pub others : (q : ℕ) → q ≢ c → accepted_of new q ≡ accepted_of old q
