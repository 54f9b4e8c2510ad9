-- The whole report of a run is the report of its turns.
use Rattle.std.proofs.Common.{◌≡◌, ℕ, ◌+◌, ◌-◌, ◌≤◌, List, [], ◌∷◌, ◌++◌, map, length, drop, refl, append_assoc, arith}
use Rattle.std.proofs.lemmas.List.{length-take-le, length-drop}
use Rattle.disk_base.specs.Along.{Along}
use Rattle.block_machine.specs.declared.turn.Turn.{Turn}
use Rattle.report_text.specs.declared.shown.Shown.{Shown}
use Rattle.report_text.specs.Operations.{shown_of}
use Rattle.report_text.specs.Turns.{part_of, turn_text, turn_lines}
use Rattle.report_text.specs.Summary.{summary_text, counts_of}
use Rattle.report_text.specs.Reading.{Place, first_place, place_after, AreLines}
use Rattle.report_text.specs.Laws.{MayFollow, ReportsReadAgain}

-- a part that is there has as many operations as the turn says
part-length : (shown : List Shown) (turn : Turn) → turn.ops_from ≤ turn.ops_to → turn.ops_to ≤ length shown → length (part_of shown turn) ≡ turn.ops_to - turn.ops_from
part-length shown turn forward within =
    let left : length (drop turn.ops_from shown) ≡ length shown - turn.ops_from = length-drop turn.ops_from shown in
    length-take-le (turn.ops_to - turn.ops_from) (drop turn.ops_from shown) (omega (arith, left))

-- the lines of turns, and what stands behind them
lines_of : (shown : List Shown) (p : Place) (turns : List Turn) (tail : List ℕ) → Along place_after (MayFollow shown) p turns
    → AreLines p (turn_lines p.number shown turns ++ tail) turns tail
lines_of shown p [] tail may = refl
lines_of shown p (t ∷ turns) tail may =
    let here = may.0 in
    let long = part-length shown t (omega (arith, here.begins, here.forward)) here.within in
    let line : List ℕ = turn_text p.number t.label (part_of shown t) t.entries in (
      line,
      turn_lines (p.number + 1) shown turns ++ tail,
      append_assoc line (10 ∷ turn_lines (p.number + 1) shown turns) tail,
      (
        part_of shown t,
        record { label = here.is_turn.label; operations = here.is_turn.operations; entries = here.is_turn.entries },
        record { begins = here.begins; ends = omega (arith, long, here.begins, here.forward); text = refl },
      ),
      lines_of shown (place_after p t) turns tail may.1,
    )

pub report_again : ReportsReadAgain
report_again turns ops before may small =
    let summary : List ℕ = summary_text (counts_of turns ops) ++ 10 ∷ [] in
    (summary, lines_of (map shown_of (drop before ops)) first_place turns summary may, (counts_of turns ops, small, refl))
