-- A read whose values come from the medium meets a dirty block.
use Rattle.std.proofs.Common.{◌≡◌, ℕ, Bool, true, false, not, cond, eqb, List, [], length, Option, Some, None, IsSome, refl, sym, ap, ◌∙◌, subst}
use Rattle.std.specs.Prelude.{◌||◌}
use Rattle.std.specs.Option.{option_map, option_map_or, option_and_then}
use Rattle.std.proofs.lemmas.Bool.{eq-eqb, lt-ltb, true≢false}
use Rattle.disk_base.specs.declared.address.Lba.{Lba}
use Rattle.platter_model.specs.declared.op.Op.{Op}
use Rattle.write_cache.specs.Contents.{newest}
use Rattle.cdb_reader.specs.declared.plan.Reading as reading
use Rattle.cdb_reader.specs.declared.plan.Plan.{Plan}
use Rattle.cdb_reader.specs.declared.plan.Plan.TheVariants.{Reading}
use Rattle.command_engine.specs.declared.answer.Answer.TheVariants.{NextDirty}
use Rattle.command_engine.specs.declared.need.Need.TheVariants as need
use Rattle.command_engine.specs.declared.step.Step.{Step}
use Rattle.command_engine.specs.Course.{Course}
use Rattle.command_engine.specs.Need.{need_of}
use Rattle.command_engine.specs.Answers.{fits_need, is_hardened}
use Rattle.block_machine.specs.declared.entry.Entry.{Entry}
use Rattle.block_machine.specs.Blocks.{is_dirty}
use Rattle.block_machine.specs.State.{owed_by}
use Rattle.block_machine.proofs.Booleans.{and_both}
use Rattle.drive_core.specs.declared.accepted.Errand.{Errand}
use Rattle.drive_core.specs.declared.server.Server.{Server}
use Rattle.drive_core.specs.declared.taking.Sought.{Sought}
use Rattle.drive_scene.specs.Scene.{Scene}
use Rattle.drive_scene.specs.Holds.{held_block, held_by_plan, needed_by_plan}
use Rattle.drive_core.specs.Accepting.{under_way, errand_of}
use Rattle.drive_scene.specs.View.{view}
use Rattle.drive_core.specs.Commands.{IsAtBlock, IsTrying}
use Rattle.drive_core.specs.Hardening.{MayHardenFor, done_before}
use Rattle.drive_core.specs.Moves.{MayWork}
use Rattle.drive_core.specs.Taking.{errand_for}
use Rattle.drive_core.proofs.FirstDirty.{data_dirty}
use Rattle.drive_core.proofs.TakeTurns.{NeedsValue, IsReadAt, read_at, owed_at}

-- a block that was hardened for the read isn't dirty
not_hardened : (s : Scene) (c : ℕ) (r : reading.Reading) (window : List Op) → owed_by s.hist c ≡ Some (Reading r) → (view s c).holds_dirty ≡ false
    → is_dirty (s.hist.blocks r.at) ≡ true → (t : Bool) → r.hardened ≡ t → r.hardened ≡ false
not_hardened s c r window owes clean dirty false is = is
not_hardened s c r window owes clean dirty true is =
    let or_true : (x : Bool) → (x || true) ≡ true = λ x. or_right_true x in
    let held : held_block s c ≡ Some r.at =
    ap (option_and_then (held_by_plan (s.windows c))) owes
    ∙ (ap (λ (h : Bool). cond (not (eqb (length (s.windows c)) 0) || h) (Some r.at) None) is
    ∙ ap (λ (b : Bool). cond b (Some r.at) None) (or_true (not (eqb (length (s.windows c)) 0)))) in
    absurd (true≢false (sym dirty ∙ (sym (ap (λ (o : Option ℕ). option_map_or (λ b. is_dirty (s.hist.blocks b)) o false) held) ∙ clean)))
  where
    or_right_true : (x : Bool) → (x || true) ≡ true
    or_right_true true = refl
    or_right_true false = refl

-- its dirty block is hardened
pub may_harden_read : (s : Scene) (d : Server) (c : ℕ) (q : Sought) (entries : List Entry) → MayWork s d c
    → option_map errand_of (under_way d.commands.items c) ≡ Some (errand_for q) → q.medium ≡ true → IsSome (newest q.b d.store.cache) → entries ≡ []
    → MayHardenFor s d c q.b entries
may_harden_read s d c q entries may errand medium dirty none =
    let at : IsReadAt s d c q = read_at s d c q may.fits errand in
    let value : NeedsValue at.w.plan at.w.step q.b q.medium q.stage = at.value in
    let trying : IsTrying (view s c) value.r value.p =
    subst (λ (x : Step). IsAtBlock (view s c) (Reading value.r) x) value.step_is
    (subst (λ (x : Plan). IsAtBlock (view s c) x at.w.step) value.plan_is at.stands.working.at_block) in
    let owes : owed_by s.hist c ≡ Some (Reading value.r) = owed_at s c at.w at.stands ∙ ap Some value.plan_is in
    let is_dirty_there : is_dirty (s.hist.blocks q.b.0) ≡ true = data_dirty s.hist.blocks d.store.cache q.b (may.fits.cached.dirty q.b) dirty in
    let at_block : is_dirty (s.hist.blocks value.r.at) ≡ true = ap (λ (b : Lba). is_dirty (s.hist.blocks b.0)) (sym value.b_is) ∙ is_dirty_there in
    let fresh : value.r.hardened ≡ false = not_hardened s c value.r (s.windows c) owes trying.clean at_block value.r.hardened refl in
    let need_is : need_of at.w ≡ need.Take q.b q.medium q.stage = need_at s d c q errand at.w at.is in
    let fit : fits_need at.w.settings.awre value.r.hardened (need.Take q.b q.medium q.stage) (NextDirty (Some q.b)) ≡ true =
    and_both _ _ (and_both _ _ medium (ap not fresh)) (eq-eqb q.b.0 q.b.0 refl) in
    record {
      may = may;
      course = at.w;
      under_way = at.is;
      fit = (λ i. fits_need at.w.settings.awre (is_hardened (value.plan_is i)) (need_is i) (NextDirty (Some q.b))) ∙ fit;
      needed = ap (option_and_then (needed_by_plan s.hist.blocks)) owes
          ∙ (ap (λ (t : Bool). cond t (Some value.r.at) None) (lt-ltb value.r.at value.r.end value.left) ∙ ap (λ (b : Lba). Some b.0) (sym value.b_is));
      dirty = dirty;
      before = none ∙ ap (done_before c q.b) (sym value.plan_is);
    }
  where
    need_at : (s : Scene) (d : Server) (c : ℕ) (q : Sought) → option_map errand_of (under_way d.commands.items c) ≡ Some (errand_for q) → (w : Course)
        → under_way d.commands.items c ≡ Some w → need_of w ≡ need.Take q.b q.medium q.stage
    need_at s d c q errand w is =
        let both : Some (errand_of w) ≡ Some (errand_for q) = ap (option_map errand_of) (sym is) ∙ errand in
        let one : errand_of w ≡ errand_for q = cc in
        ap (λ (x : Errand). x.need) one
