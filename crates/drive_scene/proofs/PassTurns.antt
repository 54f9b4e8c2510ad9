-- Half a turn in which a sync passes over blocks, and may harden the one behind them.
use Rattle.std.proofs.Common.{◌≡◌, ℕ, true, [], ◌∷◌, Some, refl, sym, ap, ◌∙◌, subst, arith, append-nil, eqb}
use Rattle.std.specs.List.{list_any}
use Rattle.std.proofs.lemmas.Bool.{or_left, eq-eqb, lt-ltb, le-leb, true≢false}
use Rattle.std.proofs.lemmas.List.Elements.{All-nil, All-from_recursion}
use Rattle.disk_base.specs.declared.block.Value.TheVariants.{Data}
use Rattle.platter_model.specs.declared.op.Op.TheVariants.{Wrote}
use Rattle.sector_store.specs.State.{placed}
use Rattle.block_machine.specs.declared.entry.Entry.TheVariants.{Harden, Passed}
use Rattle.block_machine.specs.declared.entry.Who.TheVariants.{Command}
use Rattle.block_machine.specs.declared.turn.Label.TheVariants.{Work}
use Rattle.block_machine.specs.Blocks.{is_dirty}
use Rattle.block_machine.specs.State.{State, owed_by}
use Rattle.block_machine.specs.Steps.{begun}
use Rattle.block_machine.proofs.Booleans.{and_both}
use Rattle.drive_scene.specs.Scene.{capacity}
use Rattle.drive_scene.specs.Holds.{holder_besides}
use Rattle.drive_scene.specs.GoodTurn.{IsStood, WritesBlockData, is_harden_of}
use Rattle.drive_scene.proofs.Doing.{quiet-begun, owed-begun, quiet-trans, hardened_owes, hardened_quiet, hardened_lawful, passed_owes, passed_quiet, passed_lawful}
use Rattle.drive_scene.specs.Kinds.{passed_state}
use Rattle.drive_scene.specs.Laws.{PassesToHardenAreHalves, PassesAreHalves}
use Rattle.drive_scene.proofs.HardenTurns.{dirty-newest, written_about, stood_hardened, undirtied_hardened, writes_newest}
use Rattle.drive_scene.proofs.Tables.{within_map}

-- a sync passes over the clean blocks before a dirty one and hardens that
pub half_passed_hardened : PassesToHardenAreHalves
half_passed_hardened s c from b bytes plan passed then_plan is owes may_pass may clean =
    let g : State = begun s.hist (Work c) in
    let h : State = passed_state s c from b in
    let owed : owed_by (begun s.hist (Work c)) c ≡ Some plan = owed-begun s.hist c ∙ owes in
    let owed_passed : owed_by (passed_state s c from b) c ≡ Some passed = passed_owes (capacity s) g c from b plan passed owed may_pass in
    let dirty : is_dirty (s.hist.blocks b.0) ≡ true = dirty-newest (s.hist.blocks b.0) (Data bytes) is.newest in
    let quiet_passed = quiet-trans s.hist g h c (quiet-begun s.hist c) (passed_quiet (capacity s) g c from b) in
    record {
      reached = refl;
      quiet = quiet-trans s.hist h _ c quiet_passed (hardened_quiet (capacity s) h c b);
      unstarted = refl;
      lawful = and_both _ _ (passed_lawful (capacity s) g c from b plan passed owed may_pass)
          (and_both _ _ (hardened_lawful (capacity s) h c b passed then_plan owed_passed may dirty) refl);
      owes = hardened_owes (capacity s) h c b passed then_plan owed_passed may;
      blocks = λ none. and_both _ _ (and_both _ _ (le-leb b.0 (capacity s) (omega (arith, is.below))) clean)
          (and_both _ _ (and_both _ _ (lt-ltb b.0 (capacity s) is.below) dirty) refl);
      shown = λ rest none. (tt, ((λ v found. writes_newest s b bytes v is.newest found), tt));
      step = refl;
      b = b;
      one_block = and_both _ _ (eq-eqb b.0 b.0 refl) refl;
      written = λ rest. All-from_recursion (WritesBlockData s.map (Passed c from b ∷ Harden (Command c) b ∷ rest)) (Wrote (placed s.map b bytes) ∷ []) (((b, bytes, within_map s b is.size is.below, refl), or_left (eqb b.0 b.0) (list_any (is_harden_of b) rest) (eq-eqb b.0 b.0 refl)), tt);
      own = and_both _ _ (eq-eqb c c refl) (and_both _ _ (eq-eqb c c refl) refl);
      order = λ reply. refl;
      held = λ q below about. let same = written_about s b q bytes is.own_sector below about in ap (λ (n : ℕ). holder_besides s (Work c) n) same ∙ is.free;
      stands = stood_hardened s c b bytes is;
      settings = refl;
      recovered = λ q other. refl;
      undirtied = λ q n other held. undirtied_hardened s c b q n is.free other held;
    }

-- a sync passes over the rest of its range
pub half_passed : PassesAreHalves
half_passed s c from to plan then_plan stood owes may high clean =
    let g : State = begun s.hist (Work c) in
    let owed : owed_by (begun s.hist (Work c)) c ≡ Some plan = owed-begun s.hist c ∙ owes in
    record {
      reached = refl;
      quiet = quiet-trans s.hist g _ c (quiet-begun s.hist c) (passed_quiet (capacity s) g c from to);
      unstarted = refl;
      lawful = and_both _ _ (passed_lawful (capacity s) g c from to plan then_plan owed may) refl;
      owes = passed_owes (capacity s) g c from to plan then_plan owed may;
      blocks = λ none. and_both _ _ (and_both _ _ (le-leb to.0 (capacity s) high) clean) refl;
      shown = λ rest none. (tt, tt);
      step = refl;
      b = from;
      one_block = refl;
      written = λ rest. All-nil (WritesBlockData s.map (Passed c from to ∷ rest));
      own = and_both _ _ (eq-eqb c c refl) refl;
      order = λ reply. refl;
      held = λ q below about. absurd (true≢false (sym about));
      stands = subst (λ ops. IsStood s.map ops s.hist.blocks) (sym (append-nil s.ops)) stood;
      settings = refl;
      recovered = λ q other. refl;
      undirtied = λ q n other held. refl;
    }
