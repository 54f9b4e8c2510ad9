-- Laws on good runs.
use Rattle.std.proofs.Common.{◌≡◌, ◌∙◌, ap, sym, refl, subst, ℕ, ◌≤◌, true, List, [], ◌∷◌, ◌++◌, map, length, arith, append_assoc, inl, inr, ⊎_elim}
use Rattle.std.specs.Prelude.{flat_map, fold, Option}
use Rattle.std.proofs.lemmas.List.{append-nil}
use Rattle.std.proofs.lemmas.List.Sums.{fold-append}
use Rattle.disk_base.specs.Along.{Along}
use Rattle.disk_base.specs.declared.address.Lba.{Lba}
use Rattle.disk_base.specs.declared.block.Value.{Value}
use Rattle.disk_base.specs.declared.block.Value.TheVariants.{Data, Lost}
use Rattle.geometry_map.specs.Size.{capacity_of}
use Rattle.platter_model.specs.declared.op.Op.{Op}
use Rattle.platter_model.specs.TrueLog.{strays, strays_from}
use Rattle.script_text.specs.declared.script.Line.{Line}
use Rattle.script_text.specs.declared.script.Line.TheVariants.{Command, Function, Scan, Destage, Go, World}
use Rattle.block_machine.specs.declared.entry.Entry.{Entry}
use Rattle.block_machine.specs.declared.entry.Entry.TheVariants.{Get}
use Rattle.block_machine.specs.declared.turn.Turn.{Turn}
use Rattle.block_machine.specs.Blocks.{Blocks, zeros, hardened_with, blocks_at_start, blocks_after, is_dirty}
use Rattle.block_machine.specs.Attentions.{attentions_at_start}
use Rattle.block_machine.specs.History.{legal_from, task_legal_from, turns_after, state_after, entries_of}
use Rattle.block_machine.specs.Laws.{OfLegalHistories, OfTaskLegalHistories, tally_of}
use Rattle.block_machine.specs.KeptValues.{is_pending}
use Rattle.block_machine.specs.State.{State}
use Rattle.block_machine.specs.Steps.{begun, entry_after}
use Rattle.block_machine.specs.Turns.{turn_after, turn_lawful, tasks_lawful, blocks_lawful}
use Rattle.block_machine.proofs.Alongs.{fold_both}
use Rattle.block_machine.proofs.BlockLaws.{beginnings_are_legal}
use Rattle.block_machine.proofs.Booleans.{and_both}
use Rattle.block_machine.proofs.Counting.{commands_are_accounted_for}
use Rattle.block_machine.proofs.KeptValues.{one_block, pending_along}
use Rattle.block_machine.proofs.Projection.{blocks_of_entries, blocks_begun}
use Rattle.task_set.specs.Members.{numbers}
use Rattle.drive_scene.specs.Scene.{Scene, Beat, capacity, scene_at_start}
use Rattle.drive_scene.specs.After.{scene_after}
use Rattle.drive_scene.specs.Evidence.{IsGotShown, Shows, window_now, settings_now}
use Rattle.drive_scene.specs.GoodTurn.{GoodTurn}
use Rattle.drive_scene.specs.Run.{Run, beat_of, behind_factory, beats_of}
use Rattle.script_runner.specs.Order.{order_after}
use Rattle.script_runner.specs.Phase.{ByOrder}
use Rattle.script_runner.specs.CarriedOut.{CarryOut}
use Rattle.script_runner.specs.Run.{drive_run}
use Rattle.script_runner.specs.Script.{made_for}
use Rattle.script_runner.specs.Laws.{OfWholeRuns, OfGoodRuns, OfRunsWithoutStrays, AreLegal, AreTaskLegal, BeginningsAreLegal, NoneIsLeft, AllThatCameAreGone, EntryIn, entries_before, scene_before, IsFoundOrKnown, GetsAreShown}
use Rattle.script_runner.proofs.PlainReads.{state_before, plain_reads_came}

-- strays of a beginning are some of all
strays_more : (before xs ys : List Op) → strays_from before xs ≤ strays_from before (xs ++ ys)
strays_more before [] ys = omega arith
strays_more before (x ∷ xs) ys = let rest = strays_more (before ++ x ∷ []) xs ys in omega arith

-- the operations so far are a beginning of those at the end
pub ops_begin : (s : Scene) (turns : List Beat) → (more : List Op) × ((fold scene_after s turns).ops ≡ s.ops ++ more)
ops_begin s [] = ([], sym (append-nil s.ops))
ops_begin s (t ∷ turns) = let rest = ops_begin (scene_after s t) turns in (t.ops ++ rest.0, rest.1 ∙ append_assoc s.ops t.ops rest.0)

pub none_before : (s : Scene) (turns : List Beat) → strays (fold scene_after s turns).ops ≡ 0 → strays s.ops ≡ 0
none_before s turns none =
    let rest = ops_begin s turns in
    let some = strays_more [] s.ops rest.0 in
    let all = ap strays rest.1 in
    omega arith

pub legal_along : (ops : List Op) (turns : List Turn) (s : Scene) (blocks : ℕ) → capacity s ≡ blocks → Along scene_after GoodTurn s (map (beat_of ops) turns)
    → strays (fold scene_after s (map (beat_of ops) turns)).ops ≡ 0 → legal_from blocks s.hist turns ≡ true
legal_along ops [] s blocks is all none = refl
legal_along ops (t ∷ turns) s blocks is all none =
    let now = none_before (scene_after s (beat_of ops t)) (map (beat_of ops) turns) none in
    let lawful : turn_lawful (capacity s) s.hist t ≡ true = and_both (tasks_lawful (capacity s) s.hist t) (blocks_lawful (capacity s) s.hist.blocks t.entries) all.0.tasks (all.0.blocks now) in
    let rest = legal_along ops turns (scene_after s (beat_of ops t)) blocks is all.1 none in
    and_both (turn_lawful blocks s.hist t) (legal_from blocks (turn_after blocks s.hist t) turns)
    (subst (λ (n : ℕ). turn_lawful n s.hist t ≡ true) is lawful)
    (subst (λ (n : ℕ). legal_from blocks (turn_after n s.hist t) turns ≡ true) is rest)

pub runs_are_legal : OfRunsWithoutStrays AreLegal
runs_are_legal order script turns ops good none =
    legal_along (behind_factory (made_for good.size script) ops) turns (scene_at_start (made_for good.size script)) (capacity_of good.size) refl good.history.good (ap strays good.history.own ∙ none)

-- as far as commands go, turns are legal whatever was taken for another payload
pub tasks_along : (ops : List Op) (turns : List Turn) (s : Scene) (blocks : ℕ) → capacity s ≡ blocks → Along scene_after GoodTurn s (map (beat_of ops) turns)
    → task_legal_from blocks s.hist turns ≡ true
tasks_along ops [] s blocks is all = refl
tasks_along ops (t ∷ turns) s blocks is all =
    let rest = tasks_along ops turns (scene_after s (beat_of ops t)) blocks is all.1 in
    and_both (tasks_lawful blocks s.hist t) (task_legal_from blocks (turn_after blocks s.hist t) turns)
    (subst (λ (n : ℕ). tasks_lawful n s.hist t ≡ true) is all.0.tasks)
    (subst (λ (n : ℕ). task_legal_from blocks (turn_after n s.hist t) turns ≡ true) is rest)

pub runs_are_task_legal : OfGoodRuns AreTaskLegal
runs_are_task_legal order script turns ops good =
    tasks_along (behind_factory (made_for good.size script) ops) turns (scene_at_start (made_for good.size script)) (capacity_of good.size) refl good.history.good

-- what holds of each legal history holds of each run without strays
pub of_legal : (Fact : ℕ → List Turn → Type 0) → OfLegalHistories Fact → OfRunsWithoutStrays Fact
of_legal Fact law order script turns ops good none = law (capacity_of good.size) attentions_at_start turns (runs_are_legal order script turns ops good none)

-- .. and what holds of each that is legal as far as commands go of each run
pub of_task_legal : (Fact : ℕ → List Turn → Type 0) → OfTaskLegalHistories Fact → OfGoodRuns Fact
of_task_legal Fact law order script turns ops good = law (capacity_of good.size) attentions_at_start turns (runs_are_task_legal order script turns ops good)

pub runs_begin_legally : OfRunsWithoutStrays BeginningsAreLegal
runs_begin_legally order script turns ops good none first more is =
    beginnings_are_legal (capacity_of good.size) attentions_at_start first more
    (subst (λ (ts : List Turn). AreLegal (capacity_of good.size) ts) is (runs_are_legal order script turns ops good none))

-- the state after turns is that of their scene
state_along : (ops : List Op) (turns : List Turn) (s : Scene) (blocks : ℕ) → capacity s ≡ blocks → (fold scene_after s (map (beat_of ops) turns)).hist ≡ turns_after blocks s.hist turns
state_along ops [] s blocks is = refl
state_along ops (t ∷ turns) s blocks is =
    state_along ops turns (scene_after s (beat_of ops t)) blocks is ∙ ap (λ (n : ℕ). turns_after blocks (turn_after n s.hist t) turns) is

-- the last phase leaves no command
empty_at_end : (lines : List Line) (order : Option ℕ) (s : Scene) (waiting : List Line) (turns : List Beat) → CarryOut ByOrder order s waiting lines turns → (fold scene_after s turns).hist.set ≡ []
empty_at_end [] order s waiting turns out = out.phase.idle
empty_at_end (Go ∷ lines) order s waiting turns out =
    subst (λ (ts : List Beat). (fold scene_after s ts).hist.set ≡ []) (sym out.2)
    (subst (λ (k : Scene). k.hist.set ≡ []) (sym (fold-append scene_after s out.0 out.1)) (empty_at_end lines (order_after order out.0) (fold scene_after s out.0) [] out.1 out.4))
empty_at_end (World w ∷ lines) order s waiting turns out =
    subst (λ (ts : List Beat). (fold scene_after s ts).hist.set ≡ []) (sym out.2) (empty_at_end lines order (scene_after s out.0) waiting out.1 out.4)
empty_at_end (Command i tag attribute cdb sent ∷ lines) order s waiting turns out =
    empty_at_end lines order s (waiting ++ Command i tag attribute cdb sent ∷ []) turns out
empty_at_end (Function i what ∷ lines) order s waiting turns out = empty_at_end lines order s (waiting ++ Function i what ∷ []) turns out
empty_at_end (Scan count ∷ lines) order s waiting turns out = absurd out
empty_at_end (Destage count ∷ lines) order s waiting turns out = empty_at_end lines order s (waiting ++ Destage count ∷ []) turns out

-- .. so no command is in the task set when a run is over
abbrev AreIdle : ℕ → List Turn → Type 0
AreIdle blocks turns = (state_after blocks turns).set ≡ []

idle_at_end : OfGoodRuns AreIdle
idle_at_end order script turns ops good =
    let start = scene_at_start (made_for good.size script) in
    subst (λ (h : State). h.set ≡ []) (state_along (behind_factory (made_for good.size script) ops) turns start (capacity_of good.size) refl)
    (empty_at_end script.lines order start [] (beats_of (drive_run good.size script turns ops)) good.carried_out)

pub none_is_left : OfGoodRuns NoneIsLeft
none_is_left order script turns ops good =
    let counts = commands_are_accounted_for (capacity_of good.size) attentions_at_start turns (runs_are_task_legal order script turns ops good) in
    counts.1 ∙ ap numbers (idle_at_end order script turns ops good)

-- and as many came as are gone
pub all_are_gone : OfGoodRuns AllThatCameAreGone
all_are_gone order script turns ops good =
    let counts = commands_are_accounted_for (capacity_of good.size) attentions_at_start turns (runs_are_task_legal order script turns ops good) in
    let none : length (tally_of (entries_of turns)).inside ≡ 0 = ap length (none_is_left order script turns ops good) in
    omega (arith, counts.0, none)

-- the rule of one item among several
pub along_at : {S T : Type 0} (step : S → T → S) (P : S → T → Type 0) (s : S) (xs ys : List T) (x : T) → Along step P s (xs ++ x ∷ ys) → P (fold step s xs) x
along_at step P s [] ys x all = all.0
along_at step P s (z ∷ xs) ys x all = along_at step P (step s z) xs ys x all.1

-- the blocks after turns of a drive are those after all their entries
blocks_along : (s : Scene) (turns : List Beat) → (fold scene_after s turns).hist.blocks ≡ fold blocks_after s.hist.blocks (flat_map (λ t. t.entries) turns)
blocks_along s [] = refl
blocks_along s (t ∷ turns) =
    let later : List Entry = flat_map (λ t. t.entries) turns in
    blocks_along (scene_after s t) turns
    ∙ ap (λ (blocks : Blocks). fold blocks_after blocks later)
    (blocks_of_entries (capacity s) t.label (begun s.hist t.label) t.entries
    ∙ ap (λ (blocks : Blocks). fold blocks_after blocks t.entries) (blocks_begun s.hist t.label))
    ∙ sym (fold_both blocks_after s.hist.blocks t.entries later)

-- before an entry the dirty blocks are those for which something is pending
pub dirty_before : {run : Run} {e : Entry} (place : EntryIn run e) (b : ℕ) → is_dirty ((state_before place).blocks b) ≡ is_pending b (entries_before place)
dirty_before {run} place b =
    let s = scene_before place in
    let front : List Entry = flat_map (λ t. t.entries) place.before in
    let is : (state_before place).blocks ≡ fold blocks_after blocks_at_start (entries_before place) =
    blocks_of_entries (capacity s) place.turn.label (begun s.hist place.turn.label) place.earlier
    ∙ ap (λ (blocks : Blocks). fold blocks_after blocks place.earlier) (blocks_begun s.hist place.turn.label ∙ blocks_along (scene_at_start run.made) place.before)
    ∙ sym (fold_both blocks_after blocks_at_start front place.earlier) in
    ap (λ (blocks : Blocks). is_dirty (blocks b)) is
    ∙ ap is_dirty (one_block b blocks_at_start (entries_before place)) ∙ pending_along b (hardened_with zeros) (entries_before place)

-- what may come from the cache comes to a READ without FUA
found_or_known : {run : Run} {e : Entry} (place : EntryIn run e) (c : ℕ) (b : Lba) (v : Value)
    → IsGotShown (scene_before place) (window_now (scene_before place) place.turn c) (settings_now (scene_before place) place.turn c) (state_before place) c b v
    → IsFoundOrKnown place c b v
found_or_known place c b (Data bytes) shown =
    ⊎_elim inl (λ known. let came = plain_reads_came place c (settings_now (scene_before place) place.turn c) known.1 in inr (known.0, came.0, came.1, known.2)) shown
found_or_known place c b Lost shown = shown

pub gets_are_shown : OfWholeRuns GetsAreShown
gets_are_shown order script turns ops good c b v get quiet =
    let start = scene_at_start (made_for good.size script) in
    let t = get.turn in
    let turn = along_at scene_after GoodTurn start get.before get.behind t (subst (λ (ts : List Beat). Along scene_after GoodTurn start ts) get.among good.history.good) in
    let s = fold scene_after start get.before in
    let shown = along_at (entry_after (capacity s) t.label) (Shows s t) (begun s.hist t.label) get.earlier get.later (Get c b v)
    (subst (λ (es : List Entry). Along (entry_after (capacity s) t.label) (Shows s t) (begun s.hist t.label) es) get.within turn.shown) in
    found_or_known get c b v (shown.1 (dirty_before get b.0 ∙ quiet))
