-- Half a turn in which a command hardens a block.
use Rattle.std.proofs.Common.{◌≡◌, ◌≢◌, ℕ, ◌<◌, Bool, true, false, not, cond, eqb, List, [], ◌∷◌, ◌++◌, length, Option, Some, None, refl, sym, ap, ◌∙◌, subst, arith, ⊎_elim}
use Rattle.std.specs.Prelude.{◌&&◌, ◌||◌, ◌-◌, ◌==◌, slice_get, IsTrue, find, if◌then◌else◌}
use Rattle.std.specs.List.{list_any}
use Rattle.std.specs.Option.{option_and_then, option_map, option_map_or}
use Rattle.std.proofs.lemmas.Bool.{or_left, eq-eqb, ne_eqb, eqb-true, cases_eq, lt-ltb}
use Rattle.std.proofs.lemmas.Slice.Eq.{bytes_eq-Decides}
use Rattle.std.proofs.lemmas.List.Elements.{All-from_recursion}
use Rattle.disk_base.specs.declared.address.Lba.{Lba}
use Rattle.disk_base.specs.declared.address.Psn.{Psn}
use Rattle.disk_base.specs.declared.block.Value.{Value}
use Rattle.disk_base.specs.declared.block.Value.TheVariants.{Data, Lost}
use Rattle.disk_base.specs.Payload.{value_for}
use Rattle.platter_model.specs.declared.op.Op.{Op}
use Rattle.platter_model.specs.declared.op.Op.TheVariants.{Wrote}
use Rattle.platter_model.specs.TrueLog.{strays}
use Rattle.platter_model.proofs.Logs.{strays-push}
use Rattle.geometry_map.specs.DefectMap.{DefectMap, place_of}
use Rattle.sector_store.specs.Maps.{MayBeRecovered}
use Rattle.sector_store.specs.Stored.{stored, StoresAt, KeepsOthers}
use Rattle.sector_store.specs.State.{placed}
use Rattle.sector_store.specs.Tries.{WritesBlock}
use Rattle.task_set.specs.declared.member.Member.{Member}
use Rattle.task_set.specs.Members.{member_of}
use Rattle.block_machine.specs.declared.array.BlockState.{BlockState}
use Rattle.block_machine.specs.declared.entry.Entry.TheVariants.{Harden}
use Rattle.block_machine.specs.declared.entry.Who.TheVariants.{Command}
use Rattle.block_machine.specs.declared.turn.Label.TheVariants.{Work}
use Rattle.block_machine.specs.Blocks.{Blocks, is_dirty, newest, allowed, same_value, after_harden, hardened_with}
use Rattle.block_machine.specs.State.{State, owed_by}
use Rattle.block_machine.specs.Steps.{begun}
use Rattle.block_machine.proofs.Booleans.{and_both}
use Rattle.drive_scene.specs.Scene.{Scene, capacity}
use Rattle.drive_scene.specs.Holds.{held_block, held_by_plan, holder_besides, holds}
use Rattle.drive_scene.specs.GoodTurn.{IsStood, WritesBlockData, is_harden_of}
use Rattle.drive_scene.proofs.Tables.{put_at-own, put_at-other, within_map}
use Rattle.drive_scene.proofs.Holders.{no_command}
use Rattle.drive_scene.proofs.Doing.{quiet-begun, owed-begun, quiet-trans, hardened_owes, hardened_quiet, hardened_lawful}
use Rattle.drive_scene.specs.Kinds.{IsHarden, hardened_blocks}
use Rattle.drive_scene.specs.Laws.{HardensAreHalves}

-- a block with a newest value is dirty
some_newer : (xs : List Value) (v : Value) → slice_get xs (length xs - 1) ≡ Some v → not (eqb (length xs) 0) ≡ true
some_newer [] v is = let never : ⊥ = cc in absurd never
some_newer (x ∷ xs) v is = ap not (ne_eqb (length (x ∷ xs)) 0 (λ none. absurd (omega arith)))

pub dirty-newest : (st : BlockState) (v : Value) → newest st ≡ Some v → is_dirty st ≡ true
dirty-newest st v is = some_newer st.newer v is

-- once it came to the medium it is what the block has there
pub hardened-newest : (st : BlockState) (v : Value) → newest st ≡ Some v → after_harden st ≡ hardened_with v
hardened-newest st v is = ap (λ (o : Option Value). option_map_or hardened_with o st) is

pub same_bytes : (bytes : List ℕ) → same_value (Data bytes) (Data bytes) ≡ true
same_bytes bytes = (bytes_eq-Decides bytes bytes).1 refl

-- a write is no stray
pub unstrayed : (ops : List Op) (op : Op) → strays (ops ++ op ∷ []) ≡ 0 → strays ops ≡ 0
unstrayed ops op none = omega (arith, strays-push ops op)

-- what stands after a write of the data that a block has then
pub stood_written : (m : DefectMap) (ops more : List Op) (b : Lba) (bytes : List ℕ) (blocks after : Blocks) → (strays more ≡ 0 → strays ops ≡ 0)
    → IsStood m ops blocks → MayBeRecovered m.size ops m → StoresAt m more b (Data bytes) → KeepsOthers m ops more b
    → after b.0 ≡ hardened_with (Data bytes) → ((q : ℕ) → q ≢ b.0 → after q ≡ blocks q) → IsStood m more after
stood_written m ops more b bytes blocks after fewer stood may_be stores keeps own others none taken may q below =
    let lba : ℕ → Lba = λ n. record { 0 = n } in
    let Allowed : BlockState → Value → Type 0 = λ st v. IsTrue (list_any (same_value v) (allowed st)) in
    let here : Allowed (hardened_with (Data bytes)) (Data bytes) = ap (λ (t : Bool). t || false) (same_bytes bytes) in
    ⊎_elim
    (λ (same : q.0 ≡ b.0).
    let at : Allowed (after b.0) (stored taken more b) =
    subst (λ (v : Value). Allowed (after b.0) v) (sym (stores taken may)) (subst (λ (st : BlockState). Allowed st (Data bytes)) (sym own) here) in
    subst (λ (k : Lba). Allowed (after k.0) (stored taken more k)) (ap lba (sym same)) at)
    (λ (other : q.0 ≢ b.0).
    let before : Allowed (blocks q.0) (stored m ops q) = stood (fewer none) m may_be q below in
    let kept : stored taken more q ≡ stored m ops q = keeps taken may q below (λ (same : q ≡ b). other (ap (λ (k : Lba). k.0) same)) in
    subst (λ (v : Value). Allowed (after q.0) v) (sym kept) (subst (λ (st : BlockState). Allowed st (stored m ops q)) (sym (others q.0 other)) before))
    (cases_eq q.0 b.0)

-- who holds a block, where no other command does
found_holder : (set : List Member) (c q : ℕ) (test : ℕ → Bool) (m : Member) → find (λ x. x.task.c == q) set ≡ Some m → q ≢ c → test q ≡ true
    → find (λ x. not (x.task.c == c) && test x.task.c) set ≡ None → ⊥
found_holder [] c q test m there other holds none = cc
found_holder (x ∷ xs) c q test m there other holds none =
    by (λ found free. found_holder xs c q test m found other holds free) (eqb x.task.c q) refl there (not (eqb x.task.c c) && test x.task.c) refl none
  where
    by : (find (λ y. eqb y.task.c q) xs ≡ Some m → find (λ y. not (eqb y.task.c c) && test y.task.c) xs ≡ None → ⊥) → (t : Bool) → eqb x.task.c q ≡ t → cond t (Some x) (find (λ y. eqb y.task.c q) xs) ≡ Some m
        → (u : Bool) → (not (eqb x.task.c c) && test x.task.c) ≡ u → cond u (Some x) (find (λ y. not (eqb y.task.c c) && test y.task.c) xs) ≡ None → ⊥
    by rest t e found true is free = cc
    by rest true e found false is free =
        let number : x.task.c ≡ q = eqb-true x.task.c q e in
        let passes : (not (eqb x.task.c c) && test x.task.c) ≡ true =
        and_both _ _ (ap not (ne_eqb x.task.c c (λ same. other (sym number ∙ same)))) (ap test number ∙ holds) in
        cc
    by rest false e found false is free = rest found free

-- the block of another command is another one
pub not_held : (s : Scene) (c q b n : ℕ) → holder_besides s (Work c) b ≡ None → q ≢ c → held_block s q ≡ Some n → n ≢ b
not_held s c q b n free other held same = by (member_of s.hist.set q) refl held
  where
    nobody : (o : Option Member) → option_map (λ m. m.task.c) o ≡ None → o ≡ None
    nobody None is = refl
    nobody (Some m) is = absurd (cc)

    by : (o : Option Member) → member_of s.hist.set q ≡ o
        → option_and_then (held_by_plan (s.windows q)) (option_and_then (λ m. (s.hist.duties q).owes) o) ≡ Some n → ⊥
    by None is never = cc
    by (Some m) is some =
        let holds_it : holds s b q ≡ true = ap (λ (o : Option ℕ). option_map_or (λ h. eqb h b) o false) held ∙ eq-eqb n b same in
        found_holder s.hist.set c q (holds s b) m is other holds_it (nobody _ (no_command s (Work c) b free))

-- a write of a block is about no other block
pub written_about : (s : Scene) (b q : Lba) (bytes : List ℕ) → ((q : Lba) → q.0 < capacity s → place_of s.map q ≡ place_of s.map b → q ≡ b) → q.0 < capacity s
    → ((eqb b.0 q.0 || false) || (eqb (place_of s.map b).0 (place_of s.map q).0 || false)) ≡ true → q.0 ≡ b.0
written_about s b q bytes own below is = by (eqb b.0 q.0) refl (eqb (place_of s.map b).0 (place_of s.map q).0) refl is
  where
    by : (t : Bool) → eqb b.0 q.0 ≡ t → (u : Bool) → eqb (place_of s.map b).0 (place_of s.map q).0 ≡ u → ((t || false) || (u || false)) ≡ true → q.0 ≡ b.0
    by true e u f is = sym (eqb-true b.0 q.0 e)
    by false e true f is =
        let sector : ℕ → Psn = λ n. record { 0 = n } in
        let same : place_of s.map q ≡ place_of s.map b = ap sector (sym (eqb-true _ _ f)) in
        ap (λ (k : Lba). k.0) (own q below same)
    by false e false f is = absurd (cc)

pub stood_hardened : (s : Scene) (c : ℕ) (b : Lba) (bytes : List ℕ) → IsHarden s c b bytes
    → IsStood s.map (s.ops ++ Wrote (placed s.map b bytes) ∷ []) (hardened_blocks s b)
stood_hardened s c b bytes is =
    stood_written s.map s.ops (s.ops ++ Wrote (placed s.map b bytes) ∷ []) b bytes s.hist.blocks (hardened_blocks s b) (unstrayed s.ops _) is.stood is.may_be
    is.stores is.keeps (put_at-own b.0 _ s.hist.blocks ∙ hardened-newest (s.hist.blocks b.0) (Data bytes) is.newest)
    (λ q other. put_at-other b.0 q _ s.hist.blocks other)

pub undirtied_hardened : (s : Scene) (c : ℕ) (b : Lba) (q n : ℕ) → holder_besides s (Work c) b.0 ≡ None → q ≢ c → held_block s q ≡ Some n
    → is_dirty (hardened_blocks s b n) ≡ is_dirty (s.hist.blocks n)
undirtied_hardened s c b q n free other held =
    ap is_dirty (put_at-other b.0 n _ s.hist.blocks (not_held s c q b.0 n free other held))

pub writes_newest : (s : Scene) (b : Lba) (bytes : List ℕ) (v : Value) → newest (s.hist.blocks b.0) ≡ Some (Data bytes) → newest (s.hist.blocks b.0) ≡ Some v
    → WritesBlock s.map b v (Wrote (placed s.map b bytes) ∷ [])
writes_newest s b bytes v is found =
    let same : Data bytes ≡ v = cc in
    let own : value_for b (placed s.map b bytes) ≡ Data bytes = ap (λ (t : Bool). if t then Data bytes else Lost) (eq-eqb b.0 b.0 refl) in
    subst (λ (w : Value). WritesBlock s.map b w (Wrote (placed s.map b bytes) ∷ [])) same
    (placed s.map b bytes, (0, omega arith, refl), refl, own)

-- the turn hardens the block alone
pub half_hardened : HardensAreHalves
half_hardened s c b bytes plan then_plan is owes may =
    let g : State = begun s.hist (Work c) in
    let owed : owed_by (begun s.hist (Work c)) c ≡ Some plan = owed-begun s.hist c ∙ owes in
    let dirty : is_dirty (s.hist.blocks b.0) ≡ true = dirty-newest (s.hist.blocks b.0) (Data bytes) is.newest in
    record {
      reached = refl;
      quiet = quiet-trans s.hist g _ c (quiet-begun s.hist c) (hardened_quiet (capacity s) g c b);
      unstarted = refl;
      lawful = and_both _ _ (hardened_lawful (capacity s) g c b plan then_plan owed may dirty) refl;
      owes = hardened_owes (capacity s) g c b plan then_plan owed may;
      blocks = λ none. and_both _ _ (and_both _ _ (lt-ltb b.0 (capacity s) is.below) dirty) refl;
      shown = λ rest none. ((λ v found. writes_newest s b bytes v is.newest found), tt);
      step = refl;
      b = b;
      one_block = and_both _ _ (eq-eqb b.0 b.0 refl) refl;
      written = λ rest. All-from_recursion (WritesBlockData s.map (Harden (Command c) b ∷ rest)) (Wrote (placed s.map b bytes) ∷ []) (((b, bytes, within_map s b is.size is.below, refl), or_left (eqb b.0 b.0) (list_any (is_harden_of b) rest) (eq-eqb b.0 b.0 refl)), tt);
      own = and_both _ _ (eq-eqb c c refl) refl;
      order = λ reply. refl;
      held = λ q below about. let same = written_about s b q bytes is.own_sector below about in ap (λ (n : ℕ). holder_besides s (Work c) n) same ∙ is.free;
      stands = stood_hardened s c b bytes is;
      settings = refl;
      recovered = λ q other. refl;
      undirtied = λ q n other held. undirtied_hardened s c b q n is.free other held;
    }
