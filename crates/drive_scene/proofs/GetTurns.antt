-- A turn in which a read tries a block, or gets it.
use Rattle.std.proofs.Common.{◌≡◌, ◌≢◌, ℕ, ◌<◌, Bool, true, false, eqb, ltb, List, [], ◌∷◌, ◌++◌, length, Option, Some, None, refl, sym, ap, ◌∙◌, subst, ⊎_elim, append-nil}
use Rattle.std.specs.Prelude.{◌&&◌, ◌||◌, fold}
use Rattle.std.specs.List.{list_any}
use Rattle.std.specs.Option.{option_and_then, is_some}
use Rattle.std.proofs.lemmas.Bool.{eq-eqb, eqb-true, lt-ltb, or_cases, cases_eq, true≢false}
use Rattle.std.proofs.lemmas.List.Elements.{All-nil, All-from_recursion}
use Rattle.disk_base.specs.At.{put_at}
use Rattle.disk_base.specs.declared.address.Lba.{Lba}
use Rattle.disk_base.specs.declared.address.Psn.{Psn}
use Rattle.disk_base.specs.declared.block.Value.{Value}
use Rattle.disk_base.specs.declared.block.Value.TheVariants.{Data, Lost}
use Rattle.disk_base.specs.declared.payload.Payload.{Payload}
use Rattle.disk_base.specs.declared.stage.Stage.{Stage}
use Rattle.platter_model.specs.declared.op.Op.{Op}
use Rattle.platter_model.specs.TrueLog.{strays}
use Rattle.geometry_map.specs.DefectMap.{place_of}
use Rattle.task_set.specs.declared.member.Member.{Member}
use Rattle.task_set.specs.Members.{member_of}
use Rattle.sector_store.specs.Shapes.{try_of}
use Rattle.sector_store.specs.Stored.{stored, KeepsBlocks}
use Rattle.cdb_reader.specs.declared.plan.Plan.{Plan}
use Rattle.cdb_reader.specs.declared.plan.Deed.TheVariants as deed
use Rattle.cdb_reader.specs.Plan.{next}
use Rattle.block_machine.specs.declared.entry.Entry.{Entry}
use Rattle.block_machine.specs.declared.entry.Entry.TheVariants.{Get, Started}
use Rattle.block_machine.specs.declared.turn.Label.TheVariants.{Work}
use Rattle.block_machine.specs.Blocks.{is_dirty, after_get, may_get, allowed, same_value}
use Rattle.block_machine.specs.State.{State, Duty, owed_by}
use Rattle.block_machine.specs.Steps.{begun}
use Rattle.block_machine.specs.Turns.{is_start}
use Rattle.mode_pages.specs.declared.settings.Settings.{Settings}
use Rattle.std.specs.Cmp.{signed_Decides}
use Rattle.block_machine.proofs.Booleans.{and_both}
use Rattle.command_engine.specs.declared.step.Recovery.{Recovery}
use Rattle.drive_scene.specs.Scene.{Scene, Beat, capacity, beat}
use Rattle.drive_scene.specs.After.{settings_by, recovered_by, windows_with}
use Rattle.drive_scene.specs.Holds.{holder_besides}
use Rattle.drive_scene.specs.Evidence.{IsGot, window_now, settings_now}
use Rattle.drive_scene.specs.GoodTurn.{IsStood, IsAllowed, WritesBlockData, is_at_sector, is_on}
use Rattle.drive_scene.specs.Present.{IsPresentMap}
use Rattle.drive_scene.proofs.Tables.{put_at-own, put_at-other}
use Rattle.drive_scene.proofs.Gets.{is_dirty-after_get, allowed-after_get}
use Rattle.drive_scene.proofs.Tries.{no_strays-before}
use Rattle.drive_scene.proofs.Doing.{quiet-begun}
use Rattle.drive_scene.specs.Kinds.{AreQuietAt, got_state}
use Rattle.drive_scene.specs.Laws.{GetsAreHalves, TriesAreHalves}

-- the command at work when its turn begins
pub begun-duty : (g : State) (c : ℕ) → (begun g (Work c)).duties c ≡ record (g.duties c) { dirty_then = g.dirty }
begun-duty g c = put_at-own c (record (g.duties c) { dirty_then = g.dirty }) g.duties

pub begun-owes : (g : State) (c : ℕ) (m : Member) (plan : Plan) → member_of g.set c ≡ Some m → (g.duties c).owes ≡ Some plan → owed_by (begun g (Work c)) c ≡ Some plan
begun-owes g c m plan is_in owes =
    ap (λ (o : Option Member). option_and_then (λ (x : Member). ((begun g (Work c)).duties c).owes) o) is_in
    ∙ (ap (λ (d : Duty). d.owes) (begun-duty g c) ∙ owes)

-- no operation at all
pub no_ops : (s : Scene) (b : Lba) → IsPresentMap s.map s.ops → AreQuietAt s b []
no_ops s b present = record {
  step = refl;
  written = λ entries. All-nil (WritesBlockData s.map entries);
  about = λ q below is. absurd (true≢false (sym is));
  keeps = subst (λ (ops : List Op). KeepsBlocks s.map s.ops ops) (sym (append-nil s.ops)) present.finds;
}

-- a try at the block's place, of its own fetch
pub try_ops : (s : Scene) (b : Lba) (before : ℕ) (stage : Stage) (found : Option Payload) → before ≡ length s.ops
    → ((q : Lba) → q.0 < capacity s → place_of s.map q ≡ place_of s.map b → q.0 ≡ b.0)
    → KeepsBlocks s.map s.ops (s.ops ++ try_of before (place_of s.map b) stage found) → AreQuietAt s b (try_of before (place_of s.map b) stage found)
try_ops s b before stage found own_fetch own keeps = record {
  step = and_both _ _ (and_both _ _ (eq-eqb (place_of s.map b).0 (place_of s.map b).0 refl) (eq-eqb before (length s.ops) own_fetch))
      (and_both _ _ (eq-eqb stage.reread stage.reread refl) ((signed_Decides stage.offset stage.offset).1 refl));
  written = λ entries. All-from_recursion (WritesBlockData s.map entries) (try_of before (place_of s.map b) stage found) (tt, (tt, tt));
  about = λ q below is. own q below (sector_is (place_of s.map q) (place_of s.map b) (either (eqb (place_of s.map b).0 (place_of s.map q).0) is));
  keeps = keeps;
}
  where
    either : (x : Bool) → (x || (x || false)) ≡ true → x ≡ true
    either true is = refl
    either false is = is

    sector_is : (p q : Psn) → eqb q.0 p.0 ≡ true → p ≡ q
    sector_is p q is = λ i. record { 0 = sym (eqb-true q.0 p.0 is) i }

-- what is stored stays allowed where blocks don't change
pub stood_quiet : (s : Scene) (b : Lba) (ops : List Op) → IsPresentMap s.map s.ops → AreQuietAt s b ops → IsStood s.map s.ops s.hist.blocks
    → IsStood s.map (s.ops ++ ops) s.hist.blocks
stood_quiet s b ops present quiet stands none taken may q below =
    subst (λ (v : Value). IsAllowed s.hist.blocks q v) (sym (quiet.keeps taken may q)) (stands (no_strays-before s.ops ops none) s.map present.may_be q below)

-- and where a block is got
pub stood_got : (s : Scene) (b : Lba) (v : Value) (ops : List Op) → IsPresentMap s.map s.ops → AreQuietAt s b ops → IsStood s.map s.ops s.hist.blocks
    → (strays (s.ops ++ ops) ≡ 0 → (bytes : List ℕ) → v ≡ Data bytes → is_dirty (s.hist.blocks b.0) ≡ false → v ≡ stored s.map s.ops b)
    → IsStood s.map (s.ops ++ ops) (put_at b.0 (after_get (s.hist.blocks b.0) v) s.hist.blocks)
stood_got s b v ops present quiet stands is none taken may q below =
    let old : list_any (same_value (stored s.map s.ops q)) (allowed (s.hist.blocks q.0)) ≡ true = stands (no_strays-before s.ops ops none) s.map present.may_be q below in
    let here : list_any (same_value (stored s.map s.ops q)) (allowed (put_at b.0 (after_get (s.hist.blocks b.0) v) s.hist.blocks q.0)) ≡ true =
    ⊎_elim (λ (same : q.0 ≡ b.0).
    let one : b ≡ q = λ i. record { 0 = sym same i } in
    let at_b : list_any (same_value (stored s.map s.ops b)) (allowed (s.hist.blocks b.0)) ≡ true =
    subst (λ (x : Lba). list_any (same_value (stored s.map s.ops x)) (allowed (s.hist.blocks x.0)) ≡ true) (sym one) old in
    let got : list_any (same_value (stored s.map s.ops b)) (allowed (after_get (s.hist.blocks b.0) v)) ≡ true =
    allowed-after_get (s.hist.blocks b.0) v (stored s.map s.ops b) (is none) at_b in
    subst (λ (x : Lba). list_any (same_value (stored s.map s.ops x)) (allowed (put_at b.0 (after_get (s.hist.blocks b.0) v) s.hist.blocks x.0)) ≡ true) one
    (ap (λ x. list_any (same_value (stored s.map s.ops b)) (allowed x)) (put_at-own b.0 (after_get (s.hist.blocks b.0) v) s.hist.blocks) ∙ got))
    (λ (other : q.0 ≡ b.0 → ⊥). ap (λ x. list_any (same_value (stored s.map s.ops q)) (allowed x)) (put_at-other b.0 q.0 (after_get (s.hist.blocks b.0) v) s.hist.blocks other) ∙ old)
    (cases_eq q.0 b.0) in
    subst (λ (x : Value). IsAllowed (put_at b.0 (after_get (s.hist.blocks b.0) v) s.hist.blocks) q x) (sym (quiet.keeps taken may q)) here

free_at : (s : Scene) (c : ℕ) (b q : Lba) → holder_besides s (Work c) b.0 ≡ None → q.0 ≡ b.0 → holder_besides s (Work c) q.0 ≡ None
free_at s c b q free same = ap (λ (n : ℕ). holder_besides s (Work c) n) same ∙ free

-- a turn without an entry
pub half_none : TriesAreHalves
half_none s c m plan b ops is_in owes present stands free quiet = record {
  reached = refl;
  quiet = quiet-begun s.hist c;
  unstarted = refl;
  lawful = refl;
  owes = begun-owes s.hist c m plan is_in owes;
  blocks = λ none. refl;
  shown = λ rest none. tt;
  step = quiet.step;
  b = b;
  one_block = refl;
  written = quiet.written;
  own = refl;
  order = λ reply. refl;
  held = λ q below about. free_at s c b q free (quiet.about q below about);
  stands = stood_quiet s b ops present quiet stands;
  settings = refl;
  recovered = λ q other. refl;
  undirtied = λ q n other holds. refl;
}

pub got-duty : (s : Scene) (c : ℕ) (b : Lba) (v : Value) (plan later : Plan) → owed_by (begun s.hist (Work c)) c ≡ Some plan
    → next plan (deed.Got b v (is_dirty (s.hist.blocks b.0))) ≡ Some later → ((got_state s c b v).duties c).owes ≡ Some later
got-duty s c b v plan later owes may =
    let g : State = begun s.hist (Work c) in
    ap (λ (d : Duty). d.owes) (put_at-own c (record (g.duties c) { owes = option_and_then (λ (p : Plan). next p (deed.Got b v (is_dirty (s.hist.blocks b.0)))) (owed_by g c) }) g.duties)
    ∙ (ap (λ (o : Option Plan). option_and_then (λ (p : Plan). next p (deed.Got b v (is_dirty (s.hist.blocks b.0)))) o) owes ∙ may)

left : (x : Bool) → (x || false) ≡ true → x ≡ true
left true is = refl
left false is = is

-- what was recovered after a get
abbrev pub recovered-got : Scene → ℕ → Lba → Value → List Op → ℕ → Option Recovery
recovered-got s c b v ops = recovered_by (windows_with (Work c) s.windows ops) s.recovered (Get c b v)

-- a get changes nothing of what others recovered
recovered-others : (s : Scene) (c : ℕ) (b : Lba) (v : Value) (ops : List Op) (q : ℕ) → q ≢ c → recovered-got s c b v ops q ≡ s.recovered q
recovered-others s c b (Data bytes) ops q other = put_at-other c q _ s.recovered other
recovered-others s c b Lost ops q other = refl

-- mode values stay where no command starts
settings_kept : (now : Settings) (each : ℕ → Settings) (es : List Entry) → list_any is_start es ≡ false → fold (settings_by now) each es ≡ each
settings_kept now each [] none = refl
settings_kept now each (Started c ∷ es) none = absurd (true≢false none)
settings_kept now each (e ∷ es) none = settings_kept now each es none

-- a turn in which the command gets a block
pub half_got : GetsAreHalves
half_got s c m plan later b v ops is_in owes below present stands free quiet may allows is shown =
    let g : State = begun s.hist (Work c) in
    let owing : owed_by (begun s.hist (Work c)) c ≡ Some plan = begun-owes s.hist c m plan is_in owes in
    let duty : ((got_state s c b v).duties c).owes ≡ Some later = got-duty s c b v plan later owing may in
    let got_shown : (rest : List Entry) → list_any is_start rest ≡ false
    → IsGot s (window_now s (beat (Work c) (Get c b v ∷ rest) ops) c) (settings_now s (beat (Work c) (Get c b v ∷ rest) ops) c) (begun s.hist (Work c)) c b v =
    λ rest none. let t : Beat = beat (Work c) (Get c b v ∷ rest) ops in
    let window : s.windows c ++ ops ≡ window_now s t c = sym (put_at-own c (s.windows c ++ ops) s.windows) in
    let settings : s.settings c ≡ settings_now s t c = sym (ap (λ (f : ℕ → Settings). f c) (settings_kept s.hist.settings s.settings rest none)) in
    subst (λ (x : Settings). IsGot s (window_now s t c) x (begun s.hist (Work c)) c b v) settings
    (subst (λ (w : List Op). IsGot s w (s.settings c) (begun s.hist (Work c)) c b v) window shown) in
    record {
      reached = refl;
      quiet = record {
        arrived = refl;
        set = refl;
        duties = λ q other. put_at-other c q _ g.duties other ∙ put_at-other c q _ s.hist.duties other;
        asks = ap (λ (d : Duty). d.asks) (put_at-own c _ g.duties) ∙ ap (λ (d : Duty). d.asks) (begun-duty s.hist c);
        settings = refl;
        waiting = refl;
        corrupt = refl;
        scan = refl;
      };
      unstarted = refl;
      lawful = and_both (eqb c c && is_some (option_and_then (λ (p : Plan). next p (deed.Got b v (is_dirty (s.hist.blocks b.0)))) (owed_by g c))) true
          (and_both (eqb c c) _ (eq-eqb c c refl)
          (ap (λ (o : Option Plan). is_some (option_and_then (λ (p : Plan). next p (deed.Got b v (is_dirty (s.hist.blocks b.0)))) o)) owing ∙ ap is_some may)) refl;
      owes = ap (λ (o : Option Member). option_and_then (λ (x : Member). ((got_state s c b v).duties c).owes) o) is_in ∙ duty;
      blocks = λ none. and_both (ltb b.0 (capacity s) && may_get (s.hist.blocks b.0) v) true
          (and_both (ltb b.0 (capacity s)) _ (lt-ltb b.0 (capacity s) below) (allows none)) refl;
      shown = λ rest none. (got_shown rest none, tt);
      step = quiet.step;
      b = b;
      one_block = and_both (eqb b.0 b.0) true (eq-eqb b.0 b.0 refl) refl;
      written = λ rest. quiet.written (Get c b v ∷ rest);
      own = and_both _ _ (eq-eqb c c refl) refl;
      order = λ reply. refl;
      held = λ q within about. free_at s c b q free (⊎_elim (λ here. sym (eqb-true b.0 q.0 (left (eqb b.0 q.0) here))) (λ there. quiet.about q within there)
          (or_cases (list_any (is_on q) (Get c b v ∷ [])) (list_any (is_at_sector (place_of s.map q)) ops) about));
      stands = stood_got s b v ops present quiet stands is;
      settings = refl;
      recovered = recovered-others s c b v ops;
      undirtied = λ q n other holds. ⊎_elim
          (λ (same : n ≡ b.0). subst (λ (k : ℕ). is_dirty (put_at b.0 (after_get (s.hist.blocks b.0) v) s.hist.blocks k) ≡ is_dirty (s.hist.blocks k)) (sym same)
          (ap is_dirty (put_at-own b.0 (after_get (s.hist.blocks b.0) v) s.hist.blocks) ∙ is_dirty-after_get (s.hist.blocks b.0) v))
          (λ (apart : n ≡ b.0 → ⊥). ap is_dirty (put_at-other b.0 n (after_get (s.hist.blocks b.0) v) s.hist.blocks apart))
          (cases_eq n b.0);
    }
