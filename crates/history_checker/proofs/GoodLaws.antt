-- Laws on histories that a script allows.
use Rattle.std.proofs.Common.{◌≡◌, ◌∙◌, ap, refl, ℕ, Bool, true, false, List, [], ◌∷◌}
use Rattle.std.specs.Prelude.{◌&&◌, find, Option, Some, None}
use Rattle.std.proofs.lemmas.Bool.{and_parts}
use Rattle.disk_base.specs.Along.{all_along}
use Rattle.block_machine.specs.declared.entry.Entry.{Entry}
use Rattle.block_machine.specs.declared.turn.Label.{Label}
use Rattle.block_machine.specs.declared.turn.Label.TheVariants.{Arrive, Work, Job, Scan, Destage, World}
use Rattle.block_machine.specs.declared.turn.Turn.{Turn}
use Rattle.block_machine.specs.Turns.{turn_after, turn_lawful}
use Rattle.history_checker.specs.Good.{Course, course_after, course_at_start, course_of, is_finished, is_idle, may_come}
use Rattle.history_checker.specs.Laws.{AreLegal, NoneMayFollow, OfGoodHistories, is_of_script}
use Rattle.history_checker.specs.Parts.{Part, capacity_of}
use Rattle.history_checker.specs.Walk.{Place, comes_next, happens_next, is_arrival, is_empty, is_next, next_lines, power_allows, event_of, sender_of, settled, tells_first, walk_allows}

-- turns that may come, along the script and of the history, may come of the history
pub along_history : (capacity : ℕ) (c : Course) (turns : List Turn) → all_along (course_after capacity) (may_come capacity) c turns ≡ true
    → all_along (turn_after capacity) (turn_lawful capacity) c.history turns ≡ true
along_history capacity c [] all = refl
along_history capacity c (turn ∷ turns) all =
    let parts = and_parts (may_come capacity c turn) (all_along (course_after capacity) (may_come capacity) (course_after capacity c turn) turns) all in
    let own = and_parts (walk_allows (is_idle c.history) c.walk turn) (turn_lawful capacity c.history turn) parts.0 in
    ap (λ (b : Bool). b && all_along (turn_after capacity) (turn_lawful capacity) (turn_after capacity c.history turn) turns) own.1
    ∙ along_history capacity (course_after capacity c turn) turns parts.1

pub legal_histories : OfGoodHistories AreLegal
legal_histories script turns is =
    let capacity = capacity_of script in
    let start = course_at_start script.lines in
    let parts = and_parts (all_along (course_after capacity) (may_come capacity) start turns) (is_finished (course_of capacity script.lines turns)) is in
    along_history capacity start turns parts.0

pub nil_is : {X : Type 0} (xs : List X) → is_empty xs ≡ true → xs ≡ []
nil_is [] is = refl
nil_is (x ∷ xs) is = absurd (cc)

none-comes : (place : Place) (found : Option Entry) → place.ahead ≡ [] → comes_next place found ≡ false
none-comes place None none = refl
none-comes place (Some entry) none = ap (λ (p : List Part). tells_first entry (next_lines place.came p (sender_of entry))) none

none-next : (place : Place) (label : Label) (entries : List Entry) → place.ahead ≡ [] → is_of_script label ≡ true → is_next place label entries ≡ false
none-next place (Arrive i) entries none is = none-comes place (find is_arrival entries) none
none-next place (World event) entries none is = ap (λ (p : List Part). happens_next p event) none
none-next place (Work c) entries none is = absurd (cc)
none-next place (Job j) entries none is = absurd (cc)
none-next place Scan entries none is = absurd (cc)
none-next place Destage entries none is = absurd (cc)

pub none_follow : OfGoodHistories NoneMayFollow
none_follow script turns is turn asked =
    let capacity = capacity_of script in
    let start = course_at_start script.lines in
    let c = course_of capacity script.lines turns in
    let parts = and_parts (all_along (course_after capacity) (may_come capacity) start turns) (is_finished c) is in
    let walk = settled (is_idle c.history) c.walk in
    let next = none-next walk.place turn.label turn.entries (nil_is walk.place.ahead parts.1) asked in
    ap (λ (b : Bool). (b && power_allows walk.on walk.armed turn.label (event_of turn.entries)) && turn_lawful capacity c.history turn) next
