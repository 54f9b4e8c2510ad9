use Rattle.std.proofs.Common.{◌≡◌, ◌∙◌, ℕ, ◌<◌, ◌≤◌, Bool, true, false, Some, ap, subst, sym, arith}
use Rattle.platter_model.specs.State.{State}
use Rattle.platter_model.specs.TrueLog.{is_off}
use Rattle.geometry_map.specs.DefectMap.{DefectMap}
use Rattle.sector_store.specs.Maps.{records_of}
use Rattle.sector_store.specs.Writing.{after_writes}
use Rattle.sector_store.specs.Commits.{IsNextOf}
use Rattle.sector_store.specs.State.{Contained, KeepsMaps}
use Rattle.sector_store.proofs.WritesInOrder.{not_true, not_false}
use Rattle.sector_store.proofs.Committing.{kept_done, kept_cut, commits_done, commits_cut}
use Rattle.sector_store.proofs.store.Store.commit_map.Goals as goal

pub invariant_of-self : goal.invariant_of-self
invariant_of-self c =
    let ready : c.self.inside.ready ≡ true = ap (λ (s : Contained). s.ready) c.self.view_is ∙ c.requires.ready in
    let kept : KeepsMaps c.self.inside.map c.self.inside.next true c.self.inside.platter =
    subst (λ (b : Bool). KeepsMaps c.self.inside.map c.self.inside.next b c.self.inside.platter) ready c.self.invariant.maps in
    let on : is_off c.self.inside.platter.ops ≡ false = ap (λ (s : Contained). is_off s.platter.ops) c.self.view_is ∙ c.requires.on in
    let follows : IsNextOf c.self.inside.map c.args.next = subst (λ (n : DefectMap). IsNextOf n c.args.next) (sym (ap (λ (s : Contained). s.map) c.self.view_is)) c.requires.follows in
    let still : is_off c.write_records.new.platter.ops ≡ false = not_true _ _ c.if-write_records.true c.write_records.ensures.whole in
    record {
      placer = c.requires.placer;
      maps = subst (λ (b : Bool). KeepsMaps c.args.next c.self.inside.next b c.write_records.new.platter) (sym ready)
          (kept_done c.commit_ops_stay_safe.ensures c.present_maps_are_there.ensures c.self.inside.map c.args.next c.self.inside.next c.self.inside.platter
          c.write_records.new.platter kept on follows c.write_records.ensures.written still);
    }

pub returns-then-write_records : goal.returns-then-write_records
returns-then-write_records c =
    let platter_is : c.write_records.new.platter ≡ after_writes c.args.self.now.platter (records_of c.args.next) =
    c.write_records.ensures.written ∙ ap (λ (x : State). after_writes x (records_of c.args.next)) (ap (λ (s : Contained). s.platter) c.self.view_is) in
    let still : is_off c.write_records.new.platter.ops ≡ false = not_true _ _ c.if-write_records.true c.write_records.ensures.whole in
    commits_done c.commit_ops_stay_safe.ensures c.present_maps_are_there.ensures c.args.self.now _ c.args.next c.stands.ensures c.requires.ready c.requires.on c.requires.follows
    (ap (λ (x : Contained). record x { map = c.args.next; platter = c.write_records.new.platter }) c.self.view_is
    ∙ ap (λ (p : State). record c.args.self.now { map = c.args.next; platter = p }) platter_is)
    (ap (λ (p : State). is_off p.ops) (sym platter_is) ∙ still)

pub invariant_of-self-2 : goal.invariant_of-self-2
invariant_of-self-2 c =
    let ready : c.self.inside.ready ≡ true = ap (λ (s : Contained). s.ready) c.self.view_is ∙ c.requires.ready in
    let kept : KeepsMaps c.self.inside.map c.self.inside.next true c.self.inside.platter =
    subst (λ (b : Bool). KeepsMaps c.self.inside.map c.self.inside.next b c.self.inside.platter) ready c.self.invariant.maps in
    let on : is_off c.self.inside.platter.ops ≡ false = ap (λ (s : Contained). is_off s.platter.ops) c.self.view_is ∙ c.requires.on in
    let follows : IsNextOf c.self.inside.map c.args.next = subst (λ (n : DefectMap). IsNextOf n c.args.next) (sym (ap (λ (s : Contained). s.map) c.self.view_is)) c.requires.follows in
    record {
      placer = c.self.invariant.placer;
      maps = kept_cut c.commit_ops_stay_safe.ensures c.self.inside.map c.args.next c.self.inside.next c.self.inside.platter c.write_records.new.platter kept on follows
          c.write_records.ensures.written;
    }

pub returns : goal.returns
returns c =
    let platter_is : c.write_records.new.platter ≡ after_writes c.args.self.now.platter (records_of c.args.next) =
    c.write_records.ensures.written ∙ ap (λ (x : State). after_writes x (records_of c.args.next)) (ap (λ (s : Contained). s.platter) c.self.view_is) in
    let gone : is_off c.write_records.new.platter.ops ≡ true = not_false _ _ c.if-write_records.false c.write_records.ensures.whole in
    commits_cut c.commit_ops_stay_safe.ensures c.args.self.now _ c.args.next c.stands.ensures c.requires.ready c.requires.on c.requires.follows
    (ap (λ (x : Contained). record x { next = Some c.args.next; ready = false; platter = c.write_records.new.platter }) c.self.view_is
    ∙ ap (λ (p : State). record c.args.self.now { next = Some c.args.next; ready = false; platter = p }) platter_is)
    (ap (λ (p : State). is_off p.ops) (sym platter_is) ∙ gone)
