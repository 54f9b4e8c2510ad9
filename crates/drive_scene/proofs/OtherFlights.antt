-- Turns of a move leave the other moves in flight alone.
use Rattle.std.proofs.Common.{◌≡◌, ◌≢◌, ◌∙◌, ap, sym, subst, refl, ◌≤◌, Bool, false, true≢false, List, [], ◌∷◌, ◌++◌, take, None, inl, inr, get_or}
use Rattle.std.specs.Prelude.{All, length, map, ◌||◌, ◌==◌}
use Rattle.std.specs.List.{list_any}
use Rattle.std.proofs.lemmas.Bool.{ne_eqb}
use Rattle.std.proofs.lemmas.List.Elements.{All-head, All-tail, All-weaker}
use Rattle.std.proofs.lemmas.List.Folds.{list_any-append}
use Rattle.std.proofs.lemmas.List.Sums.{fold-append}
use Rattle.disk_base.specs.declared.address.Psn.{Psn}
use Rattle.platter_model.specs.declared.op.Op.{Op}
use Rattle.platter_model.specs.declared.op.Op.TheVariants.{Wrote, WriteFailed}
use Rattle.platter_model.specs.Sector.{meant, meant_after}
use Rattle.platter_model.specs.TrueLog.{strays}
use Rattle.geometry_map.specs.declared.pair.Pair.{Pair}
use Rattle.geometry_map.specs.DefectMap.{DefectMap, place_of, sector, is_in_a_pair}
use Rattle.geometry_map.specs.Chains.{IsChain, IsFreeSpare, IsNoNew, MovesOne}
use Rattle.geometry_map.specs.Laws.{BlocksHaveOwnSectors, BlocksLieOnUserSectors, ChainsMoveOneBlock, FreeSparesAreNoPlaces}
use Rattle.move_jobs.specs.declared.step.JobStep.{JobStep}
use Rattle.move_jobs.specs.declared.step.JobStep.TheVariants.{Writing, Checking, Committing, Over}
use Rattle.move_jobs.specs.Job.{Job, spare_of}
use Rattle.sector_store.specs.Maps.{next_map}
use Rattle.sector_store.specs.Shapes.{payload_on, try_of}
use Rattle.sector_store.specs.Spares.{check_stage, SparesAreUserSectors}
use Rattle.move_table.specs.declared.flight.Flight.{Flight}
use Rattle.drive_scene.specs.Scene.{Scene}
use Rattle.drive_scene.specs.After.{scene_after}
use Rattle.block_machine.proofs.Booleans.{neither}
use Rattle.drive_scene.specs.GoodTurn.{is_at_sector}
use Rattle.drive_scene.specs.MoveTurn.{IsMoveWork, is_cut_off}
use Rattle.drive_scene.specs.Flights.{AreApart, MovesLeaveOthers, CommitsLeaveOthers, move_turn}
use Rattle.drive_scene.proofs.Tables.{within_map}
use Rattle.drive_scene.proofs.Flights.{owner_stays}
use Rattle.drive_scene.proofs.CommitTurns.{end_among}
use Rattle.drive_scene.proofs.MovesGoOn.{payload_psn, other_write, one_sector, strays_pushed, strays_tried, going_uncommitted}
use Rattle.drive_scene.proofs.Uncommitted.{LeavesMap, ends_cut, leaves_map, uncommitted}

-- operations are at one sector: they leave what is meant on each other one, and no fewer strays
pub record AreAt (p : Psn) (before ops : List Op) : Type 0 where
  pub about : (q : Psn) → q ≢ p → list_any (is_at_sector q) ops ≡ false
  pub others : (q : Psn) → q ≢ p → meant q (before ++ ops) ≡ meant q before
  pub no_fewer : strays before ≤ strays (before ++ ops)

-- so are those of a move before its commit: at its spare
pub work_at : (s : Scene) (job : Job) (step : JobStep) (ops : List Op) → IsMoveWork s (record job { step = step }) step ops → is_cut_off ops ≡ false
    → step ≢ Committing → AreAt (spare_of job) s.ops ops
work_at s job Writing ops (inl (inl e)) on other_step =
    let own : (payload_on (spare_of job) job.b job.value).psn ≡ spare_of job = payload_psn (spare_of job) job.b job.value in
    subst (λ (os : List Op). AreAt (spare_of job) s.ops os) (sym e) (record {
      about = λ q other. neither _ _ (ne_eqb (payload_on (spare_of job) job.b job.value).psn.0 q.0
          (λ same. other (sym (one_sector _ _ (sym (ap (λ (x : Psn). x.0) own) ∙ same))))) refl;
      others = λ q other. other_write q s.ops (payload_on (spare_of job) job.b job.value) (λ same. other (sym (one_sector _ _ (sym (ap (λ (x : Psn). x.0) own) ∙ same))));
      no_fewer = strays_pushed s.ops (Wrote (payload_on (spare_of job) job.b job.value));
    })
work_at s job Writing ops (inl (inr torn)) on other_step =
    absurd (true≢false (sym (ap is_cut_off torn.4 ∙ ends_cut (map Wrote (take torn.0 (payload_on (spare_of job) job.b job.value ∷ []))) torn.1 torn.2) ∙ on))
work_at s job Writing ops (inr e) on other_step =
    subst (λ (os : List Op). AreAt (spare_of job) s.ops os) (sym e) (record {
      about = λ q other. neither _ _ (ne_eqb (spare_of job).0 q.0 (λ same. other (sym (one_sector _ _ same)))) refl;
      others = λ q other. fold-append (meant_after q) None s.ops (WriteFailed (spare_of job) ∷ []);
      no_fewer = strays_pushed s.ops (WriteFailed (spare_of job));
    })
work_at s job Checking ops check on other_step =
    subst (λ (os : List Op). AreAt (spare_of job) s.ops os) (sym check.1) (record {
      about = λ q other. let off = ne_eqb (spare_of job).0 q.0 (λ same. other (sym (one_sector _ _ same))) in neither _ _ off (neither _ _ off refl);
      others = λ q other. fold-append (meant_after q) None s.ops (try_of (length s.ops) (spare_of job) check_stage check.0);
      no_fewer = strays_tried s.ops (spare_of job) check.0;
    })
work_at s job Committing ops work on other_step = absurd (other_step refl)
work_at s job (Over end) ops work on other_step = absurd work

-- spares of moves that are apart are different ones
other_spare : (f g : Flight) → f.job.chain ≢ [] → g.job.chain ≢ [] → AreApart f g → spare_of g.job ≢ spare_of f.job
other_spare f g some others apart same =
    let none : IsNoNew (spare_of g.job) f.job.chain = end_among (λ (p : Psn). IsNoNew p f.job.chain) (sector 0) g.job.chain others apart.spares in
    end_among (λ (p : Psn). p ≢ spare_of g.job) (sector 0) f.job.chain some none (sym same)

pub moves_leave_others : FreeSparesAreNoPlaces → MovesLeaveOthers
moves_leave_others no_places s f g ops may is apart =
    let u : Scene = scene_after s (move_turn f ops) in
    let other_step : f.job.step ≢ Committing = going_uncommitted s f.job.b f.job.value f.job.why f.job.owner f.job.chain f.job.step ops may.goes_on in
    let at : AreAt (spare_of f.job) s.ops ops = work_at s f.job f.job.step ops may.work may.powered other_step in
    let leaves : LeavesMap s (move_turn f ops) = leaves_map s f.j [] ops (uncommitted s f.j f.job ops may.in_flight other_step) in
    let free : IsFreeSpare s.map (spare_of f.job) = end_among (IsFreeSpare s.map) (sector 0) f.job.chain may.flight.begun may.flight.spares in
    record {
      size = refl;
      opened = leaves.opened;
      no_fewer = at.no_fewer;
      block = refl;
      place = ap (λ (m : DefectMap). place_of m g.job.b) leaves.map;
      at_place = at.others (place_of s.map g.job.b) (no_places s.map may.valid (spare_of f.job) free g.job.b (within_map s g.job.b may.size is.below));
      at_spare = at.others (spare_of g.job) (other_spare f g may.flight.begun is.begun apart);
      spares = subst (λ (m : DefectMap). All (λ pair. IsFreeSpare m pair.new) g.job.chain) (sym leaves.map) is.spares;
      owner = owner_stays s u g.job.why g.job.owner (leaves.windows f.j refl) refl refl;
    }

-- a sector that is neither where a chain begins nor new of its pairs is in none of them
in_no_pair : (p at : Psn) (pairs : List Pair) → IsChain at pairs → p ≢ at → IsNoNew p pairs → is_in_a_pair p.0 pairs ≡ false
in_no_pair p at [] chain apart none = refl
in_no_pair p at (pair ∷ pairs) chain apart none =
    let P : Pair → Type 0 = λ x. x.new ≢ p in
    let new : pair.new ≢ p = All-head P pair pairs none in
    let old_off = ne_eqb pair.old.0 p.0 (λ same. apart (sym (one_sector pair.old p same) ∙ chain.0)) in
    let new_off = ne_eqb pair.new.0 p.0 (λ same. new (one_sector pair.new p same)) in
    none_of _ _ _ old_off new_off (in_no_pair p pair.new pairs chain.1 (λ same. new (sym same)) (All-tail P pair pairs none))
  where
    none_of : (a b c : Bool) → a ≡ false → b ≡ false → c ≡ false → ((a || b) || c) ≡ false
    none_of a b c x y z = ap (λ (t : Bool). (t || b) || c) x ∙ (ap (λ (t : Bool). t || c) y ∙ z)

-- a free spare that a chain doesn't take is free by the next map
free_after : (m : DefectMap) (p at : Psn) (chain : List Pair) → IsFreeSpare m p → IsChain at chain → p ≢ at → IsNoNew p chain → IsFreeSpare (next_map m chain) p
free_after m p at chain free linked apart none = record {
  spare = free.spare;
  in_no_pair = list_any-append (λ pair. (pair.old.0 == p.0) || (pair.new.0 == p.0)) m.grown chain
      ∙ (ap (λ (t : Bool). t || is_in_a_pair p.0 chain) free.in_no_pair ∙ in_no_pair p at chain linked apart none);
}

pub commits_leave_others : BlocksHaveOwnSectors → BlocksLieOnUserSectors → ChainsMoveOneBlock → FreeSparesAreNoPlaces → SparesAreUserSectors → CommitsLeaveOthers
commits_leave_others own user moves_one no_places user_spares s u f g size valid flight is apart done owner =
    let own_below = within_map s f.job.b size flight.below in
    let below = within_map s g.job.b size is.below in
    let moves : MovesOne s.map f.job.b f.job.chain = moves_one s.map f.job.b f.job.chain flight.chain in
    let elsewhere : place_of s.map g.job.b ≢ place_of s.map f.job.b = λ same. apart.blocks (own s.map valid g.job.b f.job.b below own_below same) in
    let untaken : IsNoNew (place_of s.map g.job.b) f.job.chain =
    All-weaker (λ (pair : Pair). IsFreeSpare s.map pair.new) (λ (pair : Pair). pair.new ≢ place_of s.map g.job.b)
    (λ pair free same. no_places s.map valid pair.new free g.job.b below (sym same)) f.job.chain flight.spares in
    record {
      size = done.size;
      opened = done.opened;
      no_fewer = done.no_fewer;
      block = done.blocks g.job.b apart.blocks;
      place = ap (λ (m : DefectMap). place_of m g.job.b) done.map ∙ moves.others g.job.b elsewhere untaken;
      at_place = done.reserved (place_of s.map g.job.b) (user s.map valid g.job.b below).0;
      at_spare = done.reserved (spare_of g.job) (user_spares s.map (spare_of g.job) (end_among (IsFreeSpare s.map) (sector 0) g.job.chain is.begun is.spares)).0;
      spares = subst (λ (m : DefectMap). All (λ pair. IsFreeSpare m pair.new) g.job.chain) (sym done.map)
          (λ k d within. free_after s.map (get_or g.job.chain k d).new (place_of s.map f.job.b) f.job.chain (is.spares k d within) flight.chain
          (λ same. no_places s.map valid (get_or g.job.chain k d).new (is.spares k d within) f.job.b own_below (sym same)) (apart.spares k d within));
      owner = owner;
    }
