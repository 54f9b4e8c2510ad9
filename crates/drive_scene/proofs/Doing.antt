-- What a history comes to where a command hardens a block or passes over some.
use Rattle.std.proofs.Common.{◌≡◌, ℕ, true, eqb, Option, Some, None, refl, ap, ◌∙◌}
use Rattle.std.specs.Option.{option_and_then, is_some}
use Rattle.std.proofs.lemmas.Bool.{eq-eqb}
use Rattle.disk_base.specs.declared.address.Lba.{Lba}
use Rattle.task_set.specs.declared.member.Member.{Member}
use Rattle.task_set.specs.Members.{member_of}
use Rattle.cdb_reader.specs.declared.plan.Plan.{Plan}
use Rattle.cdb_reader.specs.declared.plan.Deed.{Deed}
use Rattle.cdb_reader.specs.declared.plan.Deed.TheVariants as deed
use Rattle.cdb_reader.specs.Plan.{next}
use Rattle.block_machine.specs.declared.entry.Entry.TheVariants.{Harden, Passed}
use Rattle.block_machine.specs.declared.entry.Who.TheVariants.{Command}
use Rattle.block_machine.specs.declared.turn.Label.TheVariants.{Work}
use Rattle.block_machine.specs.Blocks.{is_dirty}
use Rattle.block_machine.specs.State.{State, Duty, owed_by}
use Rattle.block_machine.specs.Steps.{begun, entry_after, with_owed}
use Rattle.block_machine.specs.Deeds.{Done, owed_after}
use Rattle.block_machine.specs.Entries.{entry_lawful}
use Rattle.block_machine.proofs.Booleans.{and_both}
use Rattle.drive_scene.proofs.Tables.{put_at-own, put_at-other}
use Rattle.drive_scene.specs.Half.{IsQuiet}

-- a command of the set did something
abbrev did : ℕ → Deed → Done
did c what = record { c = c; what = what }

in_set : (o : Option Member) (x : Option Plan) (plan : Plan) → option_and_then (λ m. x) o ≡ Some plan → (y : Option Plan) → option_and_then (λ m. y) o ≡ y
in_set None x plan owes y = let never : ⊥ = cc in absurd never
in_set (Some m) x plan owes y = refl

-- what it owes then
pub still_owed : (g : State) (c : ℕ) (what : Deed) (plan then_plan : Plan) → owed_by g c ≡ Some plan → next plan what ≡ Some then_plan
    → owed_after g (did c what) ≡ Some then_plan
still_owed g c what plan then_plan owes may = ap (λ (o : Option Plan). option_and_then (λ (p : Plan). next p what) o) owes ∙ may

pub owed_then : (g : State) (c : ℕ) (what : Deed) (plan then_plan : Plan) → owed_by g c ≡ Some plan → next plan what ≡ Some then_plan
    → option_and_then (λ (m : Member). (with_owed g.duties c (owed_after g (did c what)) c).owes) (member_of g.set c) ≡ Some then_plan
owed_then g c what plan then_plan owes may =
    let duty : Duty = record (g.duties c) { owes = owed_after g (did c what) } in
    in_set (member_of g.set c) (g.duties c).owes plan owes (with_owed g.duties c (owed_after g (did c what)) c).owes
    ∙ (ap (λ (d : Duty). d.owes) (put_at-own c duty g.duties) ∙ still_owed g c what plan then_plan owes may)

pub duty_then : (g : State) (c : ℕ) (what : Deed) (plan then_plan : Plan) → owed_by g c ≡ Some plan → next plan what ≡ Some then_plan
    → (with_owed g.duties c (owed_after g (did c what)) c).owes ≡ Some then_plan
duty_then g c what plan then_plan owes may =
    let duty : Duty = record (g.duties c) { owes = owed_after g (did c what) } in
    ap (λ (d : Duty). d.owes) (put_at-own c duty g.duties) ∙ still_owed g c what plan then_plan owes may

-- its duty alone changes
pub quiet_then : (g : State) (c : ℕ) (what : Deed) (h : State) → h.arrived ≡ g.arrived → h.set ≡ g.set
    → h.duties ≡ with_owed g.duties c (owed_after g (did c what)) → h.settings ≡ g.settings → h.waiting ≡ g.waiting → h.corrupt ≡ g.corrupt
    → h.scan ≡ g.scan → IsQuiet g h c
quiet_then g c what h arrived set duties settings waiting corrupt scan =
    let duty : Duty = record (g.duties c) { owes = owed_after g (did c what) } in
    record {
      arrived = arrived;
      set = set;
      duties = λ q other. ap (λ (d : ℕ → Duty). d q) duties ∙ put_at-other c q duty g.duties other;
      asks = ap (λ (d : ℕ → Duty). (d c).asks) duties ∙ ap (λ (d : Duty). d.asks) (put_at-own c duty g.duties);
      settings = settings;
      waiting = waiting;
      corrupt = corrupt;
      scan = scan;
    }

-- a turn of work begins
pub quiet-begun : (g : State) (c : ℕ) → IsQuiet g (begun g (Work c)) c
quiet-begun g c =
    let duty : Duty = record (g.duties c) { dirty_then = g.dirty } in
    record {
      arrived = refl;
      set = refl;
      duties = λ q other. put_at-other c q duty g.duties other;
      asks = ap (λ (d : Duty). d.asks) (put_at-own c duty g.duties);
      settings = refl;
      waiting = refl;
      corrupt = refl;
      scan = refl;
    }

pub owed-begun : (g : State) (c : ℕ) → owed_by (begun g (Work c)) c ≡ owed_by g c
owed-begun g c =
    let duty : Duty = record (g.duties c) { dirty_then = g.dirty } in
    ap (λ (o : Option Plan). option_and_then (λ (m : Member). o) (member_of g.set c)) (ap (λ (d : Duty). d.owes) (put_at-own c duty g.duties))

pub quiet-trans : (f g h : State) (c : ℕ) → IsQuiet f g c → IsQuiet g h c → IsQuiet f h c
quiet-trans f g h c first then_quiet = record {
  arrived = then_quiet.arrived ∙ first.arrived;
  set = then_quiet.set ∙ first.set;
  duties = λ q other. then_quiet.duties q other ∙ first.duties q other;
  asks = then_quiet.asks ∙ first.asks;
  settings = then_quiet.settings ∙ first.settings;
  waiting = then_quiet.waiting ∙ first.waiting;
  corrupt = then_quiet.corrupt ∙ first.corrupt;
  scan = then_quiet.scan ∙ first.scan;
}

-- a block is hardened for a command
pub hardened_owes : (capacity : ℕ) (g : State) (c : ℕ) (b : Lba) (plan then_plan : Plan) → owed_by g c ≡ Some plan → next plan (deed.Hardened b) ≡ Some then_plan
    → owed_by (entry_after capacity (Work c) g (Harden (Command c) b)) c ≡ Some then_plan
hardened_owes capacity g c b plan then_plan owes may = owed_then g c (deed.Hardened b) plan then_plan owes may

pub hardened_duty : (capacity : ℕ) (g : State) (c : ℕ) (b : Lba) (plan then_plan : Plan) → owed_by g c ≡ Some plan → next plan (deed.Hardened b) ≡ Some then_plan
    → ((entry_after capacity (Work c) g (Harden (Command c) b)).duties c).owes ≡ Some then_plan
hardened_duty capacity g c b plan then_plan owes may = duty_then g c (deed.Hardened b) plan then_plan owes may

pub hardened_quiet : (capacity : ℕ) (g : State) (c : ℕ) (b : Lba) → IsQuiet g (entry_after capacity (Work c) g (Harden (Command c) b)) c
hardened_quiet capacity g c b =
    quiet_then g c (deed.Hardened b) (entry_after capacity (Work c) g (Harden (Command c) b)) refl refl refl refl refl refl refl

pub hardened_lawful : (capacity : ℕ) (g : State) (c : ℕ) (b : Lba) (plan then_plan : Plan) → owed_by g c ≡ Some plan → next plan (deed.Hardened b) ≡ Some then_plan
    → is_dirty (g.blocks b.0) ≡ true → entry_lawful capacity (Work c) g (Harden (Command c) b) ≡ true
hardened_lawful capacity g c b plan then_plan owes may dirty =
    and_both _ _ (and_both (eqb c c) _ (eq-eqb c c refl) (ap is_some (still_owed g c (deed.Hardened b) plan then_plan owes may))) dirty

-- a command passes over blocks
pub passed_owes : (capacity : ℕ) (g : State) (c : ℕ) (from to : Lba) (plan then_plan : Plan) → owed_by g c ≡ Some plan
    → next plan (deed.Passed from to) ≡ Some then_plan → owed_by (entry_after capacity (Work c) g (Passed c from to)) c ≡ Some then_plan
passed_owes capacity g c from to plan then_plan owes may = owed_then g c (deed.Passed from to) plan then_plan owes may

pub passed_quiet : (capacity : ℕ) (g : State) (c : ℕ) (from to : Lba) → IsQuiet g (entry_after capacity (Work c) g (Passed c from to)) c
passed_quiet capacity g c from to =
    quiet_then g c (deed.Passed from to) (entry_after capacity (Work c) g (Passed c from to)) refl refl refl refl refl refl refl

pub passed_lawful : (capacity : ℕ) (g : State) (c : ℕ) (from to : Lba) (plan then_plan : Plan) → owed_by g c ≡ Some plan
    → next plan (deed.Passed from to) ≡ Some then_plan → entry_lawful capacity (Work c) g (Passed c from to) ≡ true
passed_lawful capacity g c from to plan then_plan owes may =
    and_both (eqb c c) _ (eq-eqb c c refl) (ap is_some (still_owed g c (deed.Passed from to) plan then_plan owes may))
