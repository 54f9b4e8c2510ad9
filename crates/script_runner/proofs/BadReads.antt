-- What a read that is bad shows, where no damage was taken for another payload.
use Rattle.std.proofs.Common.{◌≡◌, ◌∙◌, ap, sym, refl, subst, ℕ, zero, suc, ◌+◌, ◌<◌, Bool, true, false, cond, ◌&&◌, List, [], ◌∷◌, ◌++◌, length, take, arith, append_assoc, append-nil, Option, Some, None, ◌⊎◌, inl, inr, ⊎_elim}
use Rattle.std.specs.Prelude.{◌≢◌, ◌==◌, if◌then◌else◌, fold, All, Contains, slice_index_or}
use Rattle.std.specs.List.{list_any}
use Rattle.std.specs.Str.{bytes_eq}
use Rattle.std.proofs.lemmas.Bool.{eqb-true, not-true, not-false, ltb-true}
use Rattle.std.proofs.lemmas.List.Elements.{All-take, Contains-append_left, Contains-append_right, Contains-append_cases}
use Rattle.std.proofs.lemmas.List.Sums.{fold-append}
use Rattle.disk_base.specs.declared.address.Lba.{Lba}
use Rattle.disk_base.specs.declared.address.Psn.{Psn}
use Rattle.disk_base.specs.declared.block.Value.TheVariants.{Data, Lost}
use Rattle.disk_base.specs.declared.payload.Payload.{Payload}
use Rattle.disk_base.specs.declared.stage.Stage.{Stage}
use Rattle.disk_base.specs.Along.{Along, all_along}
use Rattle.disk_base.specs.Payload.{value_for}
use Rattle.geometry_map.specs.DefectMap.{DefectMap, factory_map, place_of}
use Rattle.geometry_map.specs.Laws.{BlocksHaveOwnSectors, BlocksLieOnUserSectors}
use Rattle.geometry_map.specs.declared.size.Size.{Size}
use Rattle.geometry_map.specs.Size.{capacity_of}
use Rattle.platter_model.specs.declared.op.Op.{Op}
use Rattle.platter_model.specs.declared.op.Op.TheVariants.{Tried}
use Rattle.platter_model.specs.Sector.{meant}
use Rattle.platter_model.specs.TrueLog.{is_same, is_other, is_stray, strays_from, strays}
use Rattle.block_machine.specs.declared.entry.Entry.{Entry}
use Rattle.block_machine.specs.declared.entry.Entry.TheVariants.{Arrived, Get}
use Rattle.block_machine.specs.declared.turn.Label.{Label}
use Rattle.block_machine.specs.declared.turn.Label.TheVariants.{Arrive, Work}
use Rattle.block_machine.specs.Blocks.{Blocks, is_dirty, may_get, blocks_after, block_lawful}
use Rattle.block_machine.specs.Steps.{begun, entries_after}
use Rattle.block_machine.proofs.Alongs.{along_second}
use Rattle.block_machine.proofs.Booleans.{both}
use Rattle.block_machine.proofs.Projection.{blocks_of_entries, blocks_begun}
use Rattle.drive_scene.specs.Scene.{Scene, Beat, capacity, scene_at_start}
use Rattle.drive_scene.specs.After.{scene_after, opens_window, window_after, with_arrival, windows_by, windows_with}
use Rattle.drive_scene.specs.GoodTurn.{GoodTurn}
use Rattle.drive_scene.specs.Evidence.{FoundByStages, window_now, settings_now}
use Rattle.sector_store.specs.Shapes.{try_of}
use Rattle.drive_scene.specs.Laws.{MapsStay}
use Rattle.drive_scene.specs.Run.{beats_of}
use Rattle.script_runner.specs.Laws.{OfWholeRunsWithoutStrays, BadReadsAreShown}
use Rattle.script_runner.specs.Run.{drive_run}
use Rattle.script_runner.specs.Script.{made_for}
use Rattle.drive_scene.proofs.Uncommitted.{stays_flightless}
use Rattle.script_runner.proofs.Unmoved.{windows_then}
use Rattle.script_runner.proofs.OwnData.{IsOwn, WritesOwn, own_meant, own_written}
use Rattle.script_runner.proofs.RunLaws.{ops_begin, none_before, along_at, dirty_before, gets_are_shown}

-- none of a sum of none
no_sum : (stray : Bool) (rest : ℕ) → (if stray then 1 else 0) + rest ≡ 0 → (stray ≡ false) × (rest ≡ 0)
no_sum true rest e = absurd (omega arith)
no_sum false rest e = (refl, omega arith)

-- an operation among some without strays is none
no_stray_at : (before xs : List Op) (k : ℕ) (x : Op) → strays_from before xs ≡ 0 → k < length xs → slice_index_or xs k x ≡ x → is_stray (before ++ take k xs) x ≡ false
no_stray_at before [] k x none low is = absurd (omega (arith, low))
no_stray_at before (y ∷ xs) zero x none low is =
    let now = no_sum (is_stray before y) (strays_from (before ++ y ∷ []) xs) none in
    subst (λ (bs : List Op). is_stray bs x ≡ false) (sym (append-nil before)) (subst (λ (o : Op). is_stray before o ≡ false) is now.0)
no_stray_at before (y ∷ xs) (suc k) x none low is =
    let now = no_sum (is_stray before y) (strays_from (before ++ y ∷ []) xs) none in
    subst (λ (bs : List Op). is_stray bs x ≡ false) (append_assoc before (y ∷ []) (take k xs))
    (no_stray_at (before ++ y ∷ []) xs k x now.1 (omega (arith, low)) is)

-- a value that is lost isn't the block's data
lost_test : (own : Bool) (d : List ℕ) → cond own (Data d) Lost ≡ Lost → own ≡ false
lost_test true d e = absurd (cc)
lost_test false d e = refl

same_test : (k l a c b : ℕ) → k ≡ l → a ≡ c → ((l == 1) && (c == b)) ≡ false → ((k == 1) && (a == b)) ≡ false
same_test k l a c b kl ac differs = rw (kl, ac) differs

-- what is the same as a payload that is lost is lost
same_lost : (b : Lba) (q payload : Payload) → is_same q payload ≡ true → value_for b payload ≡ Lost → value_for b q ≡ Lost
same_lost b q payload same lost =
    let kind = q.kind == payload.kind in
    let index = q.index == payload.index in
    let state = q.state == payload.state in
    let version = q.version == payload.version in
    let psn = q.psn.0 == payload.psn.0 in
    let address = q.address == payload.address in
    let six = both (kind && index && state && version && psn && address) (bytes_eq q.block payload.block) same in
    let five = both (kind && index && state && version && psn) address six.0 in
    let four = both (kind && index && state && version) psn five.0 in
    let three = both (kind && index && state) version four.0 in
    let two = both (kind && index) state three.0 in
    let one = both kind index two.0 in
    let other = lost_test ((payload.kind == 1) && (payload.address == b.0)) payload.block lost in
    ap (λ (own : Bool). cond own (Data q.block) Lost)
    (same_test q.kind payload.kind q.address payload.address b.0 (eqb-true q.kind payload.kind one.0) (eqb-true q.address payload.address five.1) other)

-- what was found is what is meant, or there is a stray
lost_is_meant : (b : Lba) (o : Option Payload) (payload : Payload) → is_other o (Some payload) ≡ false → value_for b payload ≡ Lost
    → (q : Payload) × (o ≡ Some q) × (value_for b q ≡ Lost)
lost_is_meant b None payload e lost = absurd (cc)
lost_is_meant b (Some q) payload e lost = (q, refl, same_lost b q payload (not-false (is_same q payload) e) lost)

-- so where nothing but a block's data is written, no value that is lost is found
none_lost : (ops : List Op) (at : ℕ) (p : Psn) (stage : Stage) (payload : Payload) (b : Lba) → strays ops ≡ 0 → All (WritesOwn b p) ops
    → Contains ops (Tried at p stage (Some payload)) → value_for b payload ≢ Lost
none_lost ops at p stage payload b none all found lost =
    let before : List Op = take found.0 ops in
    let own : IsOwn b (meant p (take at before)) =
    own_meant b p (take at before) (All-take (WritesOwn b p) at before (All-take (WritesOwn b p) found.0 ops all)) in
    let meant_then = lost_is_meant b (meant p (take at before)) payload (no_stray_at [] ops found.0 (Tried at p stage (Some payload)) none found.1 found.2) lost in
    subst (IsOwn b) meant_then.1 own meant_then.2

-- what is among one of two
chosen : (t : Bool) (xs ys : List Op) (x : Op) → Contains (cond t xs ys) x → Contains xs x ⊎ Contains ys x
chosen true xs ys x h = inl h
chosen false xs ys x h = inr h

-- nothing is among none
none_among : (ops : List Op) (x : Op) → Contains [] x → Contains ops x
none_among ops x h = absurd (omega (arith, h.1))

-- windows have operations of all alone
AreWithin : (ℕ → List Op) → List Op → Type 0
AreWithin windows ops = (c : ℕ) (x : Op) → Contains (windows c) x → Contains ops x

arrivals_within : (entries : List Entry) (windows : ℕ → List Op) (ops : List Op) → AreWithin windows ops → AreWithin (fold with_arrival windows entries) ops
unfolding AreWithin
arrivals_within [] windows ops within c x h = within c x h
arrivals_within (Arrived d i t a cdb sent ∷ entries) windows ops within c x h =
    arrivals_within entries (with_arrival windows (Arrived d i t a cdb sent)) ops
    (λ q y k. ⊎_elim (none_among ops y) (within q y) (chosen (q == d) [] (windows q) y k)) c x h
arrivals_within (e ∷ entries) windows ops within c x h = arrivals_within entries windows ops within c x h

-- those of one turn more
turn_within : (label : Label) (windows : ℕ → List Op) (ops : List Op) (t : Beat) → AreWithin windows ops → AreWithin (windows_by label windows t) (ops ++ t.ops)
unfolding AreWithin
turn_within (Work d) windows ops t within c x h =
    ⊎_elim
    (λ own. ⊎_elim (none_among (ops ++ t.ops) x)
    (λ more. ⊎_elim (λ old. Contains-append_left ops t.ops x (within d x old)) (Contains-append_right ops t.ops x) (Contains-append_cases (windows d) t.ops x more))
    (chosen (list_any (opens_window d) t.entries) [] (windows d ++ t.ops) x own))
    (λ old. Contains-append_left ops t.ops x (within c x old))
    (chosen (c == d) (window_after d (windows d) t) (windows c) x h)
turn_within (Arrive i) windows ops t within c x h = Contains-append_left ops t.ops x (arrivals_within t.entries windows ops within c x h)
turn_within other windows ops t within c x h = Contains-append_left ops t.ops x (within c x h)

all_within : (s : Scene) (turns : List Beat) → s.back.flights ≡ [] → AreWithin s.windows s.ops
    → AreWithin (fold scene_after s turns).windows (fold scene_after s turns).ops
all_within s [] none within = within
all_within s (t ∷ turns) none within =
    all_within (scene_after s t) turns (stays_flightless s t none)
    (subst (λ (windows : ℕ → List Op). AreWithin windows (s.ops ++ t.ops)) (sym (windows_then s t none)) (turn_within t.label s.windows s.ops t within))

-- those with the operations of a turn, whole
now_within : (label : Label) (windows : ℕ → List Op) (ops own : List Op) → AreWithin windows ops → AreWithin (windows_with label windows own) (ops ++ own)
unfolding AreWithin
now_within (Work d) windows ops own within c x h =
    ⊎_elim
    (λ here. ⊎_elim (λ old. Contains-append_left ops own x (within d x old)) (Contains-append_right ops own x) (Contains-append_cases (windows d) own x here))
    (λ old. Contains-append_left ops own x (within c x old))
    (chosen (c == d) (windows d ++ own) (windows c) x h)
now_within other windows ops own within c x h = Contains-append_left ops own x (within c x h)

-- a block that is read as lost is one of the drive's, and isn't dirty
lost_is_clean : (n : ℕ) (blocks : Blocks) (earlier rest : List Entry) (c : ℕ) (b : Lba) → all_along blocks_after (block_lawful n) blocks (earlier ++ Get c b Lost ∷ rest) ≡ true
    → (b.0 < n) × (is_dirty (fold blocks_after blocks earlier b.0) ≡ false)
lost_is_clean n blocks earlier rest c b lawful =
    let here = both (block_lawful n (fold blocks_after blocks earlier) (Get c b Lost)) _ (along_second blocks_after (block_lawful n) blocks earlier (Get c b Lost ∷ rest) lawful) in
    let of_block = both _ (may_get (fold blocks_after blocks earlier b.0) Lost) here.0 in
    (ltb-true b.0 n of_block.0, not-true (is_dirty (fold blocks_after blocks earlier b.0)) of_block.1)

pub bad_reads_are_shown : MapsStay → BlocksHaveOwnSectors → BlocksLieOnUserSectors → OfWholeRunsWithoutStrays BadReadsAreShown
unfolding AreWithin
bad_reads_are_shown stay apart on_user order script turns ops good none c b get =
    let before : List Beat = get.before in
    let after : List Beat = get.behind in
    let t : Beat = get.turn in
    let earlier : List Entry = get.earlier in
    let rest : List Entry = get.later in
    let start = scene_at_start (made_for good.size script) in
    let s = fold scene_after start before in
    let more = ops_begin (scene_after s t) after in
    let whole : ops ≡ (s.ops ++ t.ops) ++ more.0 =
    sym good.history.own ∙ ap (λ (ts : List Beat). (fold scene_after start ts).ops) get.among
    ∙ ap (λ (k : Scene). k.ops) (fold-append scene_after start before (t ∷ after)) ∙ more.1 in
    let last : strays (fold scene_after (scene_after s t) after).ops ≡ 0 = ap strays (more.1 ∙ sym whole) ∙ none in
    let turn = along_at scene_after GoodTurn start before after t (subst (λ (ts : List Beat). Along scene_after GoodTurn start ts) get.among good.history.good) in
    let lawful : all_along blocks_after (block_lawful (capacity s)) s.hist.blocks (earlier ++ Get c b Lost ∷ rest) ≡ true =
    ap (λ (es : List Entry). all_along blocks_after (block_lawful (capacity s)) s.hist.blocks es) (sym get.within) ∙ turn.blocks (none_before (scene_after s t) after last) in
    let clean = lost_is_clean (capacity s) s.hist.blocks earlier rest c b lawful in
    let same : (entries_after (capacity s) t.label (begun s.hist t.label) earlier).blocks ≡ fold blocks_after s.hist.blocks earlier =
    blocks_of_entries (capacity s) t.label (begun s.hist t.label) earlier ∙ ap (λ (bs : Blocks). fold blocks_after bs earlier) (blocks_begun s.hist t.label) in
    let undirty : is_dirty ((entries_after (capacity s) t.label (begun s.hist t.label) earlier).blocks b.0) ≡ false =
    ap (λ (bs : Blocks). is_dirty (bs b.0)) same ∙ clean.1 in
    let map_is : (fold scene_after start before).map ≡ factory_map good.size script.primary.items = ((stay start before).0 refl).0 in
    let place : place_of (factory_map good.size script.primary.items) b ≡ place_of s.map b = ap (λ (m : DefectMap). place_of m b) (sym map_is) in
    let below : b.0 < capacity_of good.size = subst (λ (z : Size). b.0 < capacity_of z) (stay start before).1 clean.0 in
    let written : All (WritesOwn b (place_of s.map b)) ops =
    subst (λ (p : Psn). All (WritesOwn b p) ops) place
    (subst (All (WritesOwn b (place_of (factory_map good.size script.primary.items) b))) good.history.own
    (own_written apart on_user (made_for good.size script) (beats_of (drive_run good.size script turns ops)) good.history.valid good.history.good b below)) in
    let within = all_within start before refl (λ q x h. none_among start.ops x h) in
    ⊎_elim (λ failed. failed)
    (λ (found : FoundByStages (window_now s t c) (place_of s.map b) (settings_now s t c).retry b Lost).
    let try = Tried found.2 (place_of s.map b) found.3 (Some found.4) in
    let there : Contains (window_now s t c) try = subst (λ (xs : List Op). Contains xs try) (sym found.7)
    (Contains-append_right found.1 (try_of found.2 (place_of s.map b) found.3 (Some found.4)) try (1, omega arith, refl)) in
    absurd (none_lost ops found.2 (place_of s.map b) found.3 found.4 b none written
    (subst (λ (xs : List Op). Contains xs try) (sym whole)
    (Contains-append_left (s.ops ++ t.ops) more.0 try (now_within t.label s.windows s.ops t.ops within c try there))) found.8))
    (gets_are_shown order script turns ops good c b Lost get (sym (dirty_before get b.0) ∙ undirty))
