-- The report of a good run is the report of its turns.
use Rattle.std.proofs.Common.{◌≡◌, ℕ, ◌≤◌, List, [], ◌∷◌, map, length, arith}
use Rattle.std.proofs.lemmas.List.{length-map}
use Rattle.disk_base.specs.Along.{Along}
use Rattle.block_machine.specs.declared.turn.Turn.{Turn}
use Rattle.drive_scene.specs.Run.{FollowFrom, behind_factory}
use Rattle.report_text.specs.declared.shown.Shown.{Shown}
use Rattle.report_text.specs.Operations.{shown_of}
use Rattle.report_text.specs.Turns.{part_of}
use Rattle.report_text.specs.Lines.{IsTurn, minutes_behind}
use Rattle.report_text.specs.Reading.{Place, first_place, place_after}
use Rattle.report_text.specs.Laws.{MayFollow, ReportsReadAgain}
use Rattle.script_runner.specs.Laws.{OfWholeRuns, ReportsTellTheirRuns}
use Rattle.script_runner.specs.Script.{made_for}
use Rattle.script_runner.proofs.Beats.{forward}

-- turns that follow each other may be reported one after another
follow_on : (shown : List Shown) (p : Place) (turns : List Turn) (to : ℕ) → FollowFrom p.shown turns to → to ≤ length shown
    → Along (λ (minutes : ℕ) (turn : Turn). minutes_behind minutes turn.entries) (λ (minutes : ℕ) (turn : Turn). IsTurn minutes turn (part_of shown turn)) p.minutes turns
    → Along place_after (MayFollow shown) p turns
follow_on shown p [] to follow within fit = tt
follow_on shown p (t ∷ turns) to follow within fit =
    let later = forward t.ops_to turns to follow.2 in
    (record { begins = follow.0; forward = follow.1; within = omega (arith, later); is_turn = fit.0 }, follow_on shown (place_after p t) turns to follow.2 within fit.1)

pub reports_tell : ReportsReadAgain → OfWholeRuns ReportsTellTheirRuns
unfolding behind_factory
reports_tell again order script turns ops good fit small =
    let own = behind_factory (made_for good.size script) ops in
    let long : length (map shown_of own) ≡ length own = length-map own shown_of in
    again turns ops _ (follow_on (map shown_of own) first_place turns (length own) good.history.follow (omega (arith, long)) fit) small
