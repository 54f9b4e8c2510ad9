-- The last line of a report.
use Rattle.std.specs.Prelude.{ℕ, ◌+◌, ◌-◌, ◌≤◌, ◌==◌, if◌then◌else◌, List, [], ◌∷◌, codes, decimal, fold, length}
use Rattle.platter_model.specs.declared.op.Op.{Op}
use Rattle.platter_model.specs.TrueLog.{strays}
use Rattle.block_machine.specs.declared.entry.Entry.{Entry}
use Rattle.block_machine.specs.declared.entry.Entry.TheVariants.{Arrived, Ended, Aborted, Cut}
use Rattle.block_machine.specs.declared.turn.Turn.{Turn}
use Rattle.text_words.specs.Line.{spaced}
use Rattle.report_text.specs.declared.counts.Counts.{Counts}
use Rattle.report_text.specs.declared.tally.Tally.{Tally}

-- behind the first word of `turns T commands C good G check K full F aborted A cut X strays S`
abbrev pub summary_words : Counts → List (List ℕ)
summary_words counts =
    decimal counts.turns ∷ codes "commands" ∷ decimal counts.commands ∷ codes "good" ∷ decimal counts.good
    ∷ codes "check" ∷ decimal counts.check ∷ codes "full" ∷ decimal counts.full
    ∷ codes "aborted" ∷ decimal counts.aborted ∷ codes "cut" ∷ decimal counts.cut ∷ codes "strays" ∷ decimal counts.strays ∷ []

-- the summary's line, without its end
abbrev pub summary_text : Counts → List ℕ
summary_text counts = spaced (codes "turns") (summary_words counts)

-- before the first turn
abbrev pub tally_at_start : Tally
tally_at_start = record { commands = 0; good = 0; check = 0; full = 0; aborted = 0; inside = 0; cut = 0 }

-- a command ended with a status: GOOD, CHECK CONDITION or TASK SET FULL (SAM-4, status codes)
abbrev pub with_end : ℕ → Tally → Tally
with_end status t =
    if status == 0 then record t { good = t.good + 1 } else
    if status == 2 then record t { check = t.check + 1 } else
    if status == 40 then record t { full = t.full + 1 } else t

-- no count is above a number
pub record IsWithin (most : ℕ) (t : Tally) : Type 0 where
  pub commands : t.commands ≤ most
  pub good : t.good ≤ most
  pub check : t.check ≤ most
  pub full : t.full ≤ most
  pub aborted : t.aborted ≤ most
  pub inside_or_cut : t.inside + t.cut ≤ most

-- commands that came, ended and were aborted, those that are in, and those that were in when the power went off
abbrev pub tally_after : Tally → Entry → Tally
tally_after t (Arrived c i tag a cdb sent) = record t { commands = t.commands + 1; inside = t.inside + 1 }
tally_after t (Ended c reply) = with_end reply.status (record t { inside = t.inside - 1 })
tally_after t (Aborted c) = record t { aborted = t.aborted + 1; inside = t.inside - 1 }
tally_after t Cut = record t { inside = 0; cut = t.cut + t.inside }
tally_after t other = t

abbrev pub tally_behind : Tally → Turn → Tally
tally_behind t turn = fold tally_after t turn.entries

-- what the turns of a run come to
abbrev pub tally_of : List Turn → Tally
tally_of turns = fold tally_behind tally_at_start turns

-- the summary of a run
abbrev pub counts_of : List Turn → List Op → Counts
counts_of turns ops = record {
  turns = length turns;
  commands = (tally_of turns).commands;
  good = (tally_of turns).good;
  check = (tally_of turns).check;
  full = (tally_of turns).full;
  aborted = (tally_of turns).aborted;
  cut = (tally_of turns).cut;
  strays = strays ops;
}
