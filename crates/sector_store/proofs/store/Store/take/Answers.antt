use Rattle.std.proofs.Common.{◌≡◌, ◌∙◌, ℕ, ◌+◌, ◌-◌, true, false, None, ap, subst, sym}
use Rattle.platter_model.specs.State.{State}
use Rattle.platter_model.specs.TrueLog.{is_off}
use Rattle.geometry_map.specs.DefectMap.{DefectMap}
use Rattle.sector_store.specs.Shapes.{recovery_records}
use Rattle.sector_store.specs.Writing.{after_writes}
use Rattle.sector_store.specs.State.{Contained, KeepsMaps}
use Rattle.sector_store.proofs.WritesInOrder.{not_true, not_false}
use Rattle.sector_store.proofs.Rewriting.{other_of, own_of, written_both, kept_own, kept_broken, rewrites_done, rewrites_cut}
use Rattle.sector_store.proofs.store.Store.take.Goals as goal

pub invariant_of-self : goal.invariant_of-self
invariant_of-self c =
    let first_is : c.with_number-first.result ≡ other_of c.args.map =
    c.with_number-first.ensures ∙ (ap (λ (n : ℕ). record c.args.map { number = n + 2; slot = 1 - c.slot.result }) c.number.ensures
    ∙ ap (λ (k : ℕ). record c.args.map { number = c.args.map.number + 2; slot = 1 - k }) c.slot.ensures) in
    let second_is : c.with_number-second.result ≡ own_of c.args.map =
    c.with_number-second.ensures ∙ (ap (λ (n : ℕ). record c.args.map { number = n + 4; slot = c.slot-2.result }) c.number-number.ensures
    ∙ ap (λ (k : ℕ). record c.args.map { number = c.args.map.number + 4; slot = k }) c.slot-2.ensures) in
    let platter_is = written_both c.self.inside.platter c.args.self.now.platter c.write_both.new.platter c.args.map c.with_number-first.result
    c.with_number-second.result c.write_both.ensures.written first_is second_is (ap (λ (s : Contained). s.platter) c.self.view_is) in
    let still : is_off (after_writes c.args.self.now.platter (recovery_records c.args.map)).ops ≡ false =
    ap (λ (x : State). is_off x.ops) (sym platter_is) ∙ not_true _ _ c.if-write_both.true c.write_both.ensures.whole in
    record {
      placer = c.of-self-inside.ensures;
      maps = subst (λ (n : DefectMap). KeepsMaps n None true c.write_both.new.platter) (sym second_is)
          (subst (λ (x : State). KeepsMaps (own_of c.args.map) None true x) (sym platter_is)
          (kept_own c.rewritten_maps_are_present.ensures c.present_maps_are_there.ensures c.args.self.now c.args.map c.stands.ensures c.requires.on c.requires.found still));
    }

pub returns-then-write_both : goal.returns-then-write_both
returns-then-write_both c =
    let first_is : c.with_number-first.result ≡ other_of c.args.map =
    c.with_number-first.ensures ∙ (ap (λ (n : ℕ). record c.args.map { number = n + 2; slot = 1 - c.slot.result }) c.number.ensures
    ∙ ap (λ (k : ℕ). record c.args.map { number = c.args.map.number + 2; slot = 1 - k }) c.slot.ensures) in
    let second_is : c.with_number-second.result ≡ own_of c.args.map =
    c.with_number-second.ensures ∙ (ap (λ (n : ℕ). record c.args.map { number = n + 4; slot = c.slot-2.result }) c.number-number.ensures
    ∙ ap (λ (k : ℕ). record c.args.map { number = c.args.map.number + 4; slot = k }) c.slot-2.ensures) in
    let platter_is = written_both c.self.inside.platter c.args.self.now.platter c.write_both.new.platter c.args.map c.with_number-first.result
    c.with_number-second.result c.write_both.ensures.written first_is second_is (ap (λ (s : Contained). s.platter) c.self.view_is) in
    let still : is_off (after_writes c.args.self.now.platter (recovery_records c.args.map)).ops ≡ false =
    ap (λ (x : State). is_off x.ops) (sym platter_is) ∙ not_true _ _ c.if-write_both.true c.write_both.ensures.whole in
    rewrites_done c.rewritten_maps_are_present.ensures c.present_maps_are_there.ensures c.taken_numbers_are_meant.ensures c.args.self.now _ c.args.map
    (c.number-number.result + 4) c.stands.ensures c.requires.on c.requires.found (ap (λ (n : ℕ). n + 4) c.number-number.ensures)
    (ap (λ (x : Contained). record x { map = c.with_number-second.result; next = None; ready = true; platter = c.write_both.new.platter }) c.self.view_is
    ∙ (ap (λ (n : DefectMap). record c.args.self.now { map = n; next = None; ready = true; platter = c.write_both.new.platter }) second_is
    ∙ ap (λ (p : State). record c.args.self.now { map = own_of c.args.map; next = None; ready = true; platter = p }) platter_is)) still

pub invariant_of-self-2 : goal.invariant_of-self-2
invariant_of-self-2 c =
    let first_is : c.with_number-first.result ≡ other_of c.args.map =
    c.with_number-first.ensures ∙ (ap (λ (n : ℕ). record c.args.map { number = n + 2; slot = 1 - c.slot.result }) c.number.ensures
    ∙ ap (λ (k : ℕ). record c.args.map { number = c.args.map.number + 2; slot = 1 - k }) c.slot.ensures) in
    let second_is : c.with_number-second.result ≡ own_of c.args.map =
    c.with_number-second.ensures ∙ (ap (λ (n : ℕ). record c.args.map { number = n + 4; slot = c.slot-2.result }) c.number-number.ensures
    ∙ ap (λ (k : ℕ). record c.args.map { number = c.args.map.number + 4; slot = k }) c.slot-2.ensures) in
    let platter_is = written_both c.self.inside.platter c.args.self.now.platter c.write_both.new.platter c.args.map c.with_number-first.result
    c.with_number-second.result c.write_both.ensures.written first_is second_is (ap (λ (s : Contained). s.platter) c.self.view_is) in
    record {
      placer = c.self.invariant.placer;
      maps = subst (λ (x : Contained). KeepsMaps x.map x.next false c.write_both.new.platter) (sym c.self.view_is)
          (subst (λ (x : State). KeepsMaps c.args.self.now.map c.args.self.now.next false x) (sym platter_is)
          (kept_broken c.recovery_ops_stay_safe.ensures c.args.self.now c.args.map c.stands.ensures c.requires.on c.requires.found));
    }

pub returns : goal.returns
returns c =
    let first_is : c.with_number-first.result ≡ other_of c.args.map =
    c.with_number-first.ensures ∙ (ap (λ (n : ℕ). record c.args.map { number = n + 2; slot = 1 - c.slot.result }) c.number.ensures
    ∙ ap (λ (k : ℕ). record c.args.map { number = c.args.map.number + 2; slot = 1 - k }) c.slot.ensures) in
    let second_is : c.with_number-second.result ≡ own_of c.args.map =
    c.with_number-second.ensures ∙ (ap (λ (n : ℕ). record c.args.map { number = n + 4; slot = c.slot-2.result }) c.number-number.ensures
    ∙ ap (λ (k : ℕ). record c.args.map { number = c.args.map.number + 4; slot = k }) c.slot-2.ensures) in
    let platter_is = written_both c.self.inside.platter c.args.self.now.platter c.write_both.new.platter c.args.map c.with_number-first.result
    c.with_number-second.result c.write_both.ensures.written first_is second_is (ap (λ (s : Contained). s.platter) c.self.view_is) in
    let gone : is_off (after_writes c.args.self.now.platter (recovery_records c.args.map)).ops ≡ true =
    ap (λ (x : State). is_off x.ops) (sym platter_is) ∙ not_false _ _ c.if-write_both.false c.write_both.ensures.whole in
    rewrites_cut c.recovery_ops_stay_safe.ensures c.taken_numbers_are_meant.ensures c.args.self.now _ c.args.map c.stands.ensures c.requires.on c.requires.found
    (ap (λ (x : Contained). record x { ready = false; platter = c.write_both.new.platter }) c.self.view_is
    ∙ ap (λ (p : State). record c.args.self.now { ready = false; platter = p }) platter_is) gone
