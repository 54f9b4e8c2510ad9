-- Half a turn of work: after some entries the command owes a plan. Then it goes on, or ends.
use Rattle.std.proofs.Common.{◌≡◌, ℕ, ◌≤◌, Bool, true, false, not, eqb, List, [], ◌∷◌, ◌++◌, length, Option, Some, None, refl, sym, ap, ◌∙◌, subst, arith, length-append}
use Rattle.std.specs.Prelude.{◌&&◌, ◌||◌, All}
use Rattle.std.specs.List.{list_any}
use Rattle.std.specs.Option.{option_and_then, is_some}
use Rattle.std.proofs.lemmas.Bool.{eq-eqb, ne_eqb, or_right}
use Rattle.std.proofs.lemmas.List.{append-nil}
use Rattle.std.proofs.lemmas.List.Sums.{fold_push}
use Rattle.std.proofs.lemmas.List.Folds.{list_any-append, list_all-append}
use Rattle.disk_base.specs.Along.{Along, all_along}
use Rattle.disk_base.specs.declared.address.Lba.{Lba}
use Rattle.platter_model.specs.declared.op.Op.{Op}
use Rattle.sense_data.specs.declared.reply.Reply.{Reply}
use Rattle.task_set.specs.declared.member.Member.{Member}
use Rattle.task_set.specs.Members.{member_of}
use Rattle.cdb_reader.specs.declared.plan.Plan.{Plan}
use Rattle.cdb_reader.specs.declared.plan.Deed.TheVariants as deed
use Rattle.cdb_reader.specs.Plan.{next}
use Rattle.block_machine.specs.declared.entry.Entry.{Entry}
use Rattle.block_machine.specs.declared.entry.Entry.TheVariants.{Ended}
use Rattle.block_machine.specs.declared.turn.Label.TheVariants.{Work}
use Rattle.block_machine.specs.Blocks.{blocks_after, block_lawful}
use Rattle.block_machine.specs.State.{State, owed_by}
use Rattle.block_machine.specs.Steps.{begun, entry_after, entries_after}
use Rattle.block_machine.specs.Deeds.{names_dirty}
use Rattle.block_machine.specs.Entries.{entry_lawful, ends_as_told}
use Rattle.block_machine.specs.Turns.{is_start, is_end, starts_alone, owes_nothing_now}
use Rattle.block_machine.proofs.Alongs.{along_both, along_first}
use Rattle.block_machine.proofs.Booleans.{and_both}
use Rattle.geometry_map.specs.DefectMap.{place_of}
use Rattle.drive_scene.specs.Scene.{Scene, capacity, beat}
use Rattle.drive_scene.specs.After.{scene_after}
use Rattle.drive_scene.specs.Evidence.{Shows, IsEndShown}
use Rattle.drive_scene.specs.GoodTurn.{IsStood, WritesBlockData, is_on, is_about, is_at_sector, may_follow, rank, IsMapped}
use Rattle.drive_scene.proofs.Tables.{Along-push}
use Rattle.drive_scene.proofs.Keyed.{find-dropped_own}
use Rattle.drive_scene.proofs.Windows.{windows_work}
use Rattle.drive_scene.specs.Present.{IsPresentMap}
use Rattle.cdb_reader.specs.Replies.{good}
use Rattle.drive_scene.specs.Half.{Half, IsReady}
use Rattle.drive_scene.specs.Laws.{HalvesGoOn, HalvesEnd}

-- a turn without a start
alone : (entries : List Entry) → list_any is_start entries ≡ false → starts_alone entries ≡ true
alone entries none = ap (λ (b : Bool). not b || eqb (length entries) 1 || list_any is_end entries) none

three : (a b c : Bool) → a ≡ true → b ≡ true → c ≡ true → (a && b && c) ≡ true
three a b c ai bi ci = and_both (a && b) c (and_both a b ai bi) ci

some_of : {X Y : Type 0} (f : X → Option Y) (o : Option X) (y : Y) → option_and_then f o ≡ Some y → is_some o ≡ true
some_of f None y is = absurd (cc)
some_of f (Some x) y is = refl

-- the windows after it, with the entries of the half or more
pub windows_then : (s : Scene) (c : ℕ) (ops : List Op) (entries : List Entry) (h : State) (plan : Plan) → IsReady s c → Half s c ops entries h plan
    → (all : List Entry) (q : ℕ) → length ((scene_after s (beat (Work c) all ops)).windows q) ≤ 50
windows_then s c ops entries h plan room half all =
    let is_in : is_some (member_of s.hist.set c) ≡ true =
    ap (λ (ms : List Member). is_some (member_of ms c)) (sym half.quiet.set) ∙ some_of (λ (m : Member). (h.duties c).owes) (member_of h.set c) plan half.owes in
    windows_work s c all ops (room.own is_in) room.all half.step

-- the map of a scene is there after more operations
mapped : (s : Scene) (c : ℕ) (entries : List Entry) (ops : List Op) → IsPresentMap s.map (s.ops ++ ops) → IsMapped (scene_after s (beat (Work c) entries ops))
mapped s c entries ops present on readable = (present.there.present, present.may_be)

-- the command goes on, and owes work on blocks
pub goes_on : HalvesGoOn
goes_on s c ops entries h plan room present half tries settled acts = record {
  tasks = three (starts_alone entries) _ _ (alone entries half.unstarted) half.lawful
      (ap (λ (x : State). owes_nothing_now (owed_by x c)) half.reached ∙ (ap owes_nothing_now half.owes ∙ settled));
  blocks = half.blocks;
  shown = subst (λ (es : List Entry). Along (entry_after (capacity s) (Work c)) (Shows s (beat (Work c) es ops)) (begun s.hist (Work c)) entries)
      (append-nil entries) (half.shown [] refl);
  powered = room.powered;
  step = (half.step, acts);
  tries = tries;
  one_block = (half.b, half.one_block);
  written = subst (λ (es : List Entry). All (WritesBlockData s.map es) ops) (append-nil entries) (half.written []);
  own = half.own;
  order = along_first (λ before e. rank e) may_follow 0 entries (Ended c good ∷ []) (half.order good);
  waits = room.waits;
  window = windows_then s c ops entries h plan room half entries;
  held = half.held;
  stands = subst (λ (x : State). IsStood s.map (s.ops ++ ops) x.blocks) (sym half.reached) half.stands;
  mapped = mapped s c entries ops present;
}

-- the end of a command that is owed
pub end_lawful : (capacity : ℕ) (h : State) (c : ℕ) (plan later : Plan) (reply : Reply) → owed_by h c ≡ Some plan
    → next plan (deed.Ended reply (names_dirty h reply)) ≡ Some later → ends_as_told (Some plan) (h.duties c) reply ≡ true
    → entry_lawful capacity (Work c) h (Ended c reply) ≡ true
end_lawful capacity h c plan later reply owes may told =
    three (eqb c c) (is_some (option_and_then (λ (p : Plan). next p (deed.Ended reply (names_dirty h reply))) (owed_by h c))) _
    (eq-eqb c c refl)
    (ap (λ (o : Option Plan). is_some (option_and_then (λ (p : Plan). next p (deed.Ended reply (names_dirty h reply))) o)) owes ∙ ap is_some may)
    (ap (λ (o : Option Plan). ends_as_told o (h.duties c) reply) owes ∙ told)

-- a command that ended owes nothing
pub over_owes : (capacity : ℕ) (h : State) (c : ℕ) (reply : Reply) → owed_by (entry_after capacity (Work c) h (Ended c reply)) c ≡ None
over_owes capacity h c reply =
    ap (λ o. option_and_then (λ m. ((entry_after capacity (Work c) h (Ended c reply)).duties c).owes) o)
    (find-dropped_own (λ m. m.task.c) c h.set)

or_false : (b : Bool) → (b || false) ≡ b
or_false true = refl
or_false false = refl

not_empty : (entries : List Entry) (e : Entry) → not (eqb (length (entries ++ e ∷ [])) 0) ≡ true
not_empty entries e = ap not (ne_eqb (length (entries ++ e ∷ [])) 0 (λ none. absurd (omega (arith, length-append entries (e ∷ [])))))

-- an end is on no block
end_about : (s : Scene) (c : ℕ) (ops : List Op) (entries : List Entry) (q : Lba) (reply : Reply)
    → is_about s (beat (Work c) (entries ++ Ended c reply ∷ []) ops) q ≡ is_about s (beat (Work c) entries ops) q
end_about s c ops entries q reply =
    ap (λ (b : Bool). b || list_any (is_at_sector (place_of s.map q)) ops)
    (list_any-append (is_on q) entries (Ended c reply ∷ []) ∙ or_false (list_any (is_on q) entries))

-- the command ends
pub ends : HalvesEnd
ends s c ops entries h plan later reply room present half tries may told end_shown =
    let step : State → Entry → State = entry_after (capacity s) (Work c) in
    let start : State = begun s.hist (Work c) in
    let more : List Entry = Ended c reply ∷ [] in
    let reached : entries_after (capacity s) (Work c) (begun s.hist (Work c)) (entries ++ Ended c reply ∷ []) ≡ entry_after (capacity s) (Work c) h (Ended c reply) =
    fold_push (entry_after (capacity s) (Work c)) (begun s.hist (Work c)) entries (Ended c reply)
    ∙ ap (λ (x : State). entry_after (capacity s) (Work c) x (Ended c reply)) half.reached in
    let unstarted : list_any is_start (entries ++ Ended c reply ∷ []) ≡ false =
    list_any-append is_start entries (Ended c reply ∷ []) ∙ ap (λ (b : Bool). b || false) half.unstarted in
    let last : entry_lawful (capacity s) (Work c) h (Ended c reply) ≡ true = end_lawful (capacity s) h c plan later reply half.owes may told in
    let lawful : all_along (entry_after (capacity s) (Work c)) (entry_lawful (capacity s) (Work c)) (begun s.hist (Work c)) (entries ++ Ended c reply ∷ []) ≡ true =
    along_both (entry_after (capacity s) (Work c)) (entry_lawful (capacity s) (Work c)) (begun s.hist (Work c)) entries (Ended c reply ∷ [])
    ∙ and_both _ _ half.lawful (and_both (entry_lawful (capacity s) (Work c) (entries_after (capacity s) (Work c) (begun s.hist (Work c)) entries) (Ended c reply)) true
    (ap (λ (x : State). entry_lawful (capacity s) (Work c) x (Ended c reply)) half.reached ∙ last) refl) in
    let settled : owes_nothing_now (owed_by (entries_after (capacity s) (Work c) (begun s.hist (Work c)) (entries ++ Ended c reply ∷ [])) c) ≡ true =
    ap (λ (x : State). owes_nothing_now (owed_by x c)) reached ∙ ap owes_nothing_now (over_owes (capacity s) h c reply) in
    let Shown : State → Type 0 = λ x. Shows s (beat (Work c) (entries ++ Ended c reply ∷ []) ops) x (Ended c reply) in
    let here : Shown h = subst (λ (o : Option Plan). IsEndShown s (beat (Work c) (entries ++ Ended c reply ∷ []) ops) c o reply) (sym half.owes) end_shown in
    record {
      tasks = three (starts_alone (entries ++ Ended c reply ∷ [])) _ _ (alone (entries ++ Ended c reply ∷ []) unstarted) lawful settled;
      blocks = λ none. along_both blocks_after (block_lawful (capacity s)) s.hist.blocks entries (Ended c reply ∷ [])
          ∙ and_both _ _ (half.blocks none) refl;
      shown = Along-push (entry_after (capacity s) (Work c)) (Shows s (beat (Work c) (entries ++ Ended c reply ∷ []) ops)) (begun s.hist (Work c)) entries (Ended c reply)
          (half.shown (Ended c reply ∷ []) refl) (subst Shown (sym half.reached) here);
      powered = room.powered;
      step = (half.step, or_right _ _ (not_empty entries (Ended c reply)));
      tries = tries;
      one_block = (half.b, list_all-append _ entries (Ended c reply ∷ []) ∙ and_both _ _ half.one_block refl);
      written = half.written (Ended c reply ∷ []);
      own = list_all-append _ entries (Ended c reply ∷ []) ∙ and_both _ _ half.own (and_both _ _ (eq-eqb c c refl) refl);
      order = half.order reply;
      waits = room.waits;
      window = windows_then s c ops entries h plan room half (entries ++ Ended c reply ∷ []);
      held = λ q below about. half.held q below (sym (end_about s c ops entries q reply) ∙ about);
      stands = subst (λ (x : State). IsStood s.map (s.ops ++ ops) x.blocks) (sym reached) half.stands;
      mapped = mapped s c (entries ++ Ended c reply ∷ []) ops present;
    }
