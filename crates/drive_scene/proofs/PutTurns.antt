-- Half a turn in which a command puts a block, into the cache or to its place.
use Rattle.std.proofs.Common.{◌≡◌, ◌≢◌, ℕ, ◌-◌, ◌<◌, Bool, true, false, cond, eqb, List, [], ◌∷◌, ◌++◌, length, Some, refl, sym, ap, ◌∙◌, subst, arith, ⊎_elim, length-append}
use Rattle.std.specs.Prelude.{◌||◌, slice_get}
use Rattle.std.specs.List.{list_any}
use Rattle.std.specs.Option.{is_some}
use Rattle.std.proofs.lemmas.Bool.{or_left, eq-eqb, eqb-true, cases_eq, lt-ltb}
use Rattle.std.proofs.lemmas.List.{append-nil}
use Rattle.std.proofs.lemmas.List.Folds.{list_any-append}
use Rattle.std.proofs.lemmas.List.Elements.{All-nil, All-from_recursion}
use Rattle.platter_model.proofs.Lists.{slice_get-last}
use Rattle.disk_base.specs.At.{put_at}
use Rattle.disk_base.specs.declared.address.Lba.{Lba}
use Rattle.disk_base.specs.declared.address.Psn.{Psn}
use Rattle.disk_base.specs.declared.block.Value.{Value}
use Rattle.disk_base.specs.declared.block.Value.TheVariants.{Data, Lost}
use Rattle.disk_base.specs.Payload.{value_for}
use Rattle.platter_model.specs.declared.op.Op.{Op}
use Rattle.platter_model.specs.declared.op.Op.TheVariants.{Wrote}
use Rattle.geometry_map.specs.DefectMap.{place_of}
use Rattle.sector_store.specs.Stored.{stored}
use Rattle.sector_store.specs.State.{placed}
use Rattle.sector_store.specs.Tries.{WritesBlock}
use Rattle.cdb_reader.specs.declared.plan.Plan.{Plan}
use Rattle.cdb_reader.specs.declared.plan.Deed.TheVariants as deed
use Rattle.cdb_reader.specs.Plan.{next}
use Rattle.block_machine.specs.declared.array.BlockState.{BlockState}
use Rattle.block_machine.specs.declared.entry.Entry.TheVariants.{Put, Harden}
use Rattle.block_machine.specs.declared.entry.Who.TheVariants.{Command}
use Rattle.block_machine.specs.declared.turn.Label.TheVariants.{Work}
use Rattle.block_machine.specs.Blocks.{Blocks, is_dirty, newest, allowed, same_value, after_put, after_harden, hardened_with}
use Rattle.block_machine.specs.Deeds.{is_crowded}
use Rattle.block_machine.specs.State.{State, owed_by}
use Rattle.block_machine.specs.Steps.{begun, entry_after}
use Rattle.block_machine.specs.Entries.{entry_lawful}
use Rattle.block_machine.proofs.Booleans.{and_both}
use Rattle.drive_scene.specs.Scene.{Scene, capacity}
use Rattle.drive_scene.specs.Holds.{holder_besides}
use Rattle.drive_scene.specs.GoodTurn.{IsStood, WritesBlockData, is_harden_of}
use Rattle.drive_scene.proofs.Tables.{put_at-own, put_at-other, within_map}
use Rattle.drive_scene.specs.Half.{IsQuiet}
use Rattle.drive_scene.proofs.Doing.{quiet-begun, owed-begun, quiet-trans, quiet_then, owed_then, still_owed, hardened_owes, hardened_quiet, hardened_lawful}
use Rattle.drive_scene.proofs.HardenTurns.{dirty-newest, hardened-newest, unstrayed, stood_written, not_held}
use Rattle.drive_scene.specs.Kinds.{put_state}
use Rattle.drive_scene.specs.Laws.{PutsAreHalves, PutsThroughAreHalves}

-- a value that is put is the newest
last_pushed : (xs : List Value) (v : Value) → slice_get (xs ++ v ∷ []) (length (xs ++ v ∷ []) - 1) ≡ Some v
last_pushed xs v =
    let last : length (xs ++ v ∷ []) - 1 ≡ length xs = omega (arith, length-append xs (v ∷ [])) in
    ap (λ (k : ℕ). slice_get (xs ++ v ∷ []) k) last ∙ slice_get-last xs v

pub newest-put : (st : BlockState) (v : Value) → newest (after_put st v) ≡ Some v
newest-put st v = last_pushed st.newer v

-- what may be on the medium may be there as well once a newer value was put
wider : (a b d l : Bool) → ((a || b) || l) ≡ true → ((a || (b || d)) || l) ≡ true
wider true b d l is = refl
wider false true d l is = refl
wider false false true l is = refl
wider false false false l is = is

first_alone : (a r : Bool) (l : Bool) → a ≡ true → ((a || r) || l) ≡ true
first_alone true r l is = refl
first_alone false r l is = absurd (cc)

allowed-put : (st : BlockState) (v : Value) (P : Value → Bool) → list_any P (allowed st) ≡ true → list_any P (allowed (after_put st v)) ≡ true
allowed-put st v P is =
    let now : is_dirty (after_put st v) ≡ true = dirty-newest (after_put st v) v (newest-put st v) in
    let all : list_any P (st.base ++ (st.newer ++ v ∷ []) ++ Lost ∷ []) ≡ ((list_any P st.base || (list_any P st.newer || list_any P (v ∷ []))) || list_any P (Lost ∷ [])) =
    list_any-append P (st.base ++ (st.newer ++ v ∷ [])) (Lost ∷ [])
    ∙ (ap (λ (t : Bool). t || list_any P (Lost ∷ [])) (list_any-append P st.base (st.newer ++ v ∷ []))
    ∙ ap (λ (t : Bool). (list_any P st.base || t) || list_any P (Lost ∷ [])) (list_any-append P st.newer (v ∷ []))) in
    ap (λ (t : Bool). list_any P (cond t (st.base ++ (st.newer ++ v ∷ []) ++ Lost ∷ []) st.base)) now ∙ (all ∙ by (is_dirty st) is)
  where
    by : (t : Bool) → list_any P (cond t (st.base ++ st.newer ++ Lost ∷ []) st.base) ≡ true
        → ((list_any P st.base || (list_any P st.newer || list_any P (v ∷ []))) || list_any P (Lost ∷ [])) ≡ true
    by true is =
        wider (list_any P st.base) (list_any P st.newer) (list_any P (v ∷ [])) (list_any P (Lost ∷ []))
        (sym (list_any-append P (st.base ++ st.newer) (Lost ∷ []) ∙ ap (λ (t : Bool). t || list_any P (Lost ∷ [])) (list_any-append P st.base st.newer)) ∙ is)
    by false is = first_alone (list_any P st.base) (list_any P st.newer || list_any P (v ∷ [])) (list_any P (Lost ∷ [])) is

-- the blocks after a put
abbrev put_blocks : Scene → Lba → List ℕ → Blocks
put_blocks s b bytes = put_at b.0 (after_put (s.hist.blocks b.0) (Data bytes)) s.hist.blocks

stood_put : (s : Scene) (b : Lba) (bytes : List ℕ) → IsStood s.map s.ops s.hist.blocks → IsStood s.map s.ops (put_blocks s b bytes)
stood_put s b bytes stood none taken may q below =
    let P : Value → Bool = same_value (stored taken s.ops q) in
    ⊎_elim
    (λ (same : q.0 ≡ b.0).
    ap (λ (st : BlockState). list_any P (allowed st)) (ap (put_blocks s b bytes) same ∙ put_at-own b.0 _ s.hist.blocks)
    ∙ allowed-put (s.hist.blocks b.0) (Data bytes) P (ap (λ (n : ℕ). list_any P (allowed (s.hist.blocks n))) (sym same) ∙ stood none taken may q below))
    (λ (other : q.0 ≢ b.0). ap (λ (st : BlockState). list_any P (allowed st)) (put_at-other b.0 q.0 _ s.hist.blocks other) ∙ stood none taken may q below)
    (cases_eq q.0 b.0)

put_owes : (capacity : ℕ) (g : State) (c : ℕ) (b : Lba) (bytes : List ℕ) (plan then_plan : Plan) → owed_by g c ≡ Some plan
    → next plan (deed.Put b bytes (is_crowded g c b.0)) ≡ Some then_plan → owed_by (entry_after capacity (Work c) g (Put c b bytes)) c ≡ Some then_plan
put_owes capacity g c b bytes plan then_plan owes may = owed_then g c (deed.Put b bytes (is_crowded g c b.0)) plan then_plan owes may

put_quiet : (capacity : ℕ) (g : State) (c : ℕ) (b : Lba) (bytes : List ℕ) → IsQuiet g (entry_after capacity (Work c) g (Put c b bytes)) c
put_quiet capacity g c b bytes =
    quiet_then g c (deed.Put b bytes (is_crowded g c b.0)) (entry_after capacity (Work c) g (Put c b bytes)) refl refl refl refl refl refl refl

put_lawful : (capacity : ℕ) (g : State) (c : ℕ) (b : Lba) (bytes : List ℕ) (plan then_plan : Plan) → owed_by g c ≡ Some plan
    → next plan (deed.Put b bytes (is_crowded g c b.0)) ≡ Some then_plan → entry_lawful capacity (Work c) g (Put c b bytes) ≡ true
put_lawful capacity g c b bytes plan then_plan owes may =
    and_both (eqb c c) _ (eq-eqb c c refl) (ap is_some (still_owed g c (deed.Put b bytes (is_crowded g c b.0)) plan then_plan owes may))

-- a turn that puts a block is about no other
put_about : (b q : ℕ) → ((eqb b q || false) || false) ≡ true → q ≡ b
put_about b q is = by (eqb b q) refl is
  where
    by : (t : Bool) → eqb b q ≡ t → ((t || false) || false) ≡ true → q ≡ b
    by true e is = sym (eqb-true b q e)
    by false e is = absurd (cc)

-- the turn puts the block into the cache alone
pub half_put : PutsAreHalves
half_put s c b bytes plan then_plan is owes may =
    let g : State = begun s.hist (Work c) in
    let owed : owed_by (begun s.hist (Work c)) c ≡ Some plan = owed-begun s.hist c ∙ owes in
    record {
      reached = refl;
      quiet = quiet-trans s.hist g _ c (quiet-begun s.hist c) (put_quiet (capacity s) g c b bytes);
      unstarted = refl;
      lawful = and_both _ _ (put_lawful (capacity s) g c b bytes plan then_plan owed may) refl;
      owes = put_owes (capacity s) g c b bytes plan then_plan owed may;
      blocks = λ none. and_both _ _ (lt-ltb b.0 (capacity s) is.below) refl;
      shown = λ rest none. (tt, tt);
      step = refl;
      b = b;
      one_block = and_both _ _ (eq-eqb b.0 b.0 refl) refl;
      written = λ rest. All-nil (WritesBlockData s.map (Put c b bytes ∷ rest));
      own = and_both _ _ (eq-eqb c c refl) refl;
      order = λ reply. refl;
      held = λ q below about. ap (λ (n : ℕ). holder_besides s (Work c) n) (put_about b.0 q.0 about) ∙ is.free;
      stands = subst (λ (ops : List Op). IsStood s.map ops (put_blocks s b bytes)) (sym (append-nil s.ops)) (stood_put s b bytes is.stood);
      settings = refl;
      recovered = λ q other. refl;
      undirtied = λ q n other held. ap is_dirty (put_at-other b.0 n _ s.hist.blocks (not_held s c q b.0 n is.free other held));
    }

-- the blocks after a put and a harden
abbrev through_blocks : Scene → Lba → List ℕ → Blocks
through_blocks s b bytes = put_at b.0 (after_harden (put_blocks s b bytes b.0)) (put_blocks s b bytes)

pub through-own : (s : Scene) (b : Lba) (bytes : List ℕ) → through_blocks s b bytes b.0 ≡ hardened_with (Data bytes)
through-own s b bytes =
    put_at-own b.0 (after_harden (put_blocks s b bytes b.0)) (put_blocks s b bytes)
    ∙ (ap after_harden (put_at-own b.0 (after_put (s.hist.blocks b.0) (Data bytes)) s.hist.blocks)
    ∙ hardened-newest (after_put (s.hist.blocks b.0) (Data bytes)) (Data bytes) (newest-put (s.hist.blocks b.0) (Data bytes)))

pub through-other : (s : Scene) (b : Lba) (bytes : List ℕ) (n : ℕ) → n ≢ b.0 → through_blocks s b bytes n ≡ s.hist.blocks n
through-other s b bytes n other =
    put_at-other b.0 n (after_harden (put_blocks s b bytes b.0)) (put_blocks s b bytes) other
    ∙ put_at-other b.0 n (after_put (s.hist.blocks b.0) (Data bytes)) s.hist.blocks other

put-newest : (s : Scene) (b : Lba) (bytes : List ℕ) → newest (put_blocks s b bytes b.0) ≡ Some (Data bytes)
put-newest s b bytes = ap newest (put_at-own b.0 _ s.hist.blocks) ∙ newest-put (s.hist.blocks b.0) (Data bytes)

-- the turn's write is one of the newest value
writes_put : (s : Scene) (b : Lba) (bytes : List ℕ) (v : Value) → newest (put_blocks s b bytes b.0) ≡ Some v
    → WritesBlock s.map b v (Wrote (placed s.map b bytes) ∷ [])
writes_put s b bytes v found =
    let is : newest (put_blocks s b bytes b.0) ≡ Some (Data bytes) = put-newest s b bytes in
    let same : Data bytes ≡ v = cc in
    let own : value_for b (placed s.map b bytes) ≡ Data bytes = ap (λ (t : Bool). cond t (Data bytes) Lost) (eq-eqb b.0 b.0 refl) in
    subst (λ (w : Value). WritesBlock s.map b w (Wrote (placed s.map b bytes) ∷ [])) same
    (placed s.map b bytes, (0, omega arith, refl), refl, own)

-- a turn that puts a block and writes it to its place is about no other
through_about : (s : Scene) (b q : Lba) → ((q : Lba) → q.0 < capacity s → place_of s.map q ≡ place_of s.map b → q ≡ b) → q.0 < capacity s
    → ((eqb b.0 q.0 || (eqb b.0 q.0 || false)) || (eqb (place_of s.map b).0 (place_of s.map q).0 || false)) ≡ true → q.0 ≡ b.0
through_about s b q own below is = by (eqb b.0 q.0) refl (eqb (place_of s.map b).0 (place_of s.map q).0) refl is
  where
    by : (t : Bool) → eqb b.0 q.0 ≡ t → (u : Bool) → eqb (place_of s.map b).0 (place_of s.map q).0 ≡ u → ((t || (t || false)) || (u || false)) ≡ true → q.0 ≡ b.0
    by true e u f is = sym (eqb-true b.0 q.0 e)
    by false e true f is =
        let sector : ℕ → Psn = λ n. record { 0 = n } in
        let same : place_of s.map q ≡ place_of s.map b = ap sector (sym (eqb-true _ _ f)) in
        ap (λ (k : Lba). k.0) (own q below same)
    by false e false f is = absurd (cc)

-- the turn puts the block and writes it to its place
pub half_through : PutsThroughAreHalves
half_through s c b bytes plan put_plan then_plan is owes may may_harden =
    let g : State = begun s.hist (Work c) in
    let h : State = put_state s c b bytes in
    let owed : owed_by (begun s.hist (Work c)) c ≡ Some plan = owed-begun s.hist c ∙ owes in
    let then_owed : owed_by (put_state s c b bytes) c ≡ Some put_plan = put_owes (capacity s) g c b bytes plan put_plan owed may in
    let dirty : is_dirty ((put_state s c b bytes).blocks b.0) ≡ true = dirty-newest (put_blocks s b bytes b.0) (Data bytes) (put-newest s b bytes) in
    record {
      reached = refl;
      quiet = quiet-trans s.hist h _ c (quiet-trans s.hist g h c (quiet-begun s.hist c) (put_quiet (capacity s) g c b bytes)) (hardened_quiet (capacity s) h c b);
      unstarted = refl;
      lawful = and_both _ _ (put_lawful (capacity s) g c b bytes plan put_plan owed may)
          (and_both _ _ (hardened_lawful (capacity s) h c b put_plan then_plan then_owed may_harden dirty) refl);
      owes = hardened_owes (capacity s) h c b put_plan then_plan then_owed may_harden;
      blocks = λ none. and_both _ _ (lt-ltb b.0 (capacity s) is.put.below) (and_both _ _ (and_both _ _ (lt-ltb b.0 (capacity s) is.put.below) dirty) refl);
      shown = λ rest none. (tt, (λ v found. writes_put s b bytes v found, tt));
      step = refl;
      b = b;
      one_block = and_both _ _ (eq-eqb b.0 b.0 refl) (and_both _ _ (eq-eqb b.0 b.0 refl) refl);
      written = λ rest. All-from_recursion (WritesBlockData s.map (Put c b bytes ∷ Harden (Command c) b ∷ rest)) (Wrote (placed s.map b bytes) ∷ []) (((b, bytes, within_map s b is.size is.put.below, refl), or_left (eqb b.0 b.0) (list_any (is_harden_of b) rest) (eq-eqb b.0 b.0 refl)), tt);
      own = and_both _ _ (eq-eqb c c refl) (and_both _ _ (eq-eqb c c refl) refl);
      order = λ reply. refl;
      held = λ q below about. ap (λ (n : ℕ). holder_besides s (Work c) n) (through_about s b q is.own_sector below about) ∙ is.put.free;
      stands = stood_written s.map s.ops (s.ops ++ Wrote (placed s.map b bytes) ∷ []) b bytes s.hist.blocks (through_blocks s b bytes)
          (unstrayed s.ops _) is.put.stood is.may_be is.stores is.keeps (through-own s b bytes) (through-other s b bytes);
      settings = refl;
      recovered = λ q other. refl;
      undirtied = λ q n other held. ap is_dirty (through-other s b bytes n (not_held s c q b.0 n is.put.free other held));
    }
