-- What is ahead of a walk, by what stands in the script where the lines that wait come to an end.
use Rattle.std.proofs.Common.{◌≡◌, ap, refl, ℕ, Bool, true, false, cond, List, [], ◌∷◌, ◌++◌, drop}
use Rattle.platter_model.specs.declared.world.World.{World as Event}
use Rattle.script_text.specs.declared.script.Line.{Line}
use Rattle.script_text.specs.declared.script.Line.TheVariants.{Command, Function, Scan, Destage, Go, World}
use Rattle.script_text.specs.Standing.{is_world}
use Rattle.history_checker.specs.Parts.{Part, parts_behind}
use Rattle.history_checker.specs.Parts.Part.{Phase, Outside}
use Rattle.history_checker.specs.Standing.{BeginsWith, begins_with, done_first, is_done_first, is_stop, past_first}
use Rattle.history_checker.specs.Walk.{Place, Walk, none_came, place_past, settled}

-- the parts behind a phase
abbrev pub parts_past : List Line → List Part
parts_past [] = []
parts_past (line ∷ lines) = parts_behind [] lines

-- a phase, where no world line stands first
pub phase_first : (waiting lines : List Line) → BeginsWith is_stop lines → begins_with is_world lines ≡ false
    → parts_behind waiting lines ≡ Phase waiting ∷ parts_past lines
phase_first waiting [] stops none = refl
phase_first waiting (Go ∷ lines) stops none = refl
phase_first waiting (World event ∷ lines) stops none = absurd (cc)
phase_first waiting (Command i t a cdb sent ∷ lines) stops none = absurd (cc)
phase_first waiting (Function i what ∷ lines) stops none = absurd (cc)
phase_first waiting (Scan n ∷ lines) stops none = absurd (cc)
phase_first waiting (Destage n ∷ lines) stops none = absurd (cc)

-- else what that line says
pub event_first : (waiting lines : List Line) → begins_with is_world lines ≡ true
    → (event : Event) × (rest : List Line) × (lines ≡ World event ∷ rest) × (parts_behind waiting lines ≡ Outside event ∷ parts_behind waiting rest)
event_first waiting [] is = absurd (cc)
event_first waiting (Go ∷ lines) is = absurd (cc)
event_first waiting (World event ∷ lines) is = (event, lines, refl, refl)
event_first waiting (Command i t a cdb sent ∷ lines) is = absurd (cc)
event_first waiting (Function i what ∷ lines) is = absurd (cc)
event_first waiting (Scan n ∷ lines) is = absurd (cc)
event_first waiting (Destage n ∷ lines) is = absurd (cc)

-- a line that isn't a stop waits
pub one_waits : (waiting : List Line) (line : Line) (lines : List Line) → is_stop line ≡ false
    → parts_behind waiting (line ∷ lines) ≡ parts_behind (waiting ++ line ∷ []) lines
one_waits waiting (Command i t a cdb sent) lines not_so = refl
one_waits waiting (Function i what) lines not_so = refl
one_waits waiting (Scan n) lines not_so = refl
one_waits waiting (Destage n) lines not_so = refl
one_waits waiting Go lines not_so = absurd (cc)
one_waits waiting (World event) lines not_so = absurd (cc)

done-once : (on idle : Bool) (came : ℕ → ℕ) (parts : List Part) → done_first on idle came parts ≡ true
    → place_past on idle came parts ≡ place_past on idle none_came (drop 1 parts)
done-once on idle came [] done = absurd (cc)
done-once on idle came (Outside event ∷ parts) done = absurd (cc)
done-once on idle came (Phase lines ∷ parts) done =
    ap (λ (b : Bool). cond b (place_past on idle none_came parts) (record { ahead = Phase lines ∷ parts; came = came })) done

none-done : (on idle : Bool) (came : ℕ → ℕ) (parts : List Part) → done_first on idle came parts ≡ false
    → place_past on idle came parts ≡ record { ahead = parts; came = came }
none-done on idle came [] not_so = refl
none-done on idle came (Outside event ∷ parts) not_so = refl
none-done on idle came (Phase lines ∷ parts) not_so =
    ap (λ (b : Bool). cond b (place_past on idle none_came parts) (record { ahead = Phase lines ∷ parts; came = came })) not_so

-- a phase that is done is passed
pub settled_past : (idle : Bool) (w : Walk) → is_done_first idle w ≡ true → settled idle w ≡ settled idle (past_first w)
settled_past idle w done = ap (λ (p : Place). record w { place = p }) (done-once w.on idle w.place.came w.place.ahead done)

-- where none is done, the walk stays
pub settled_here : (idle : Bool) (w : Walk) → is_done_first idle w ≡ false → settled idle w ≡ w
settled_here idle w not_so = ap (λ (p : Place). record w { place = p }) (none-done w.on idle w.place.came w.place.ahead not_so)
