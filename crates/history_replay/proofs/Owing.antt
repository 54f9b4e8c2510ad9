-- What an entry is for a command that is in.
use Rattle.std.proofs.Common.{◌≡◌, ◌∙◌, ap, sym, refl, ℕ, Bool, true, false, cond, List, length}
use Rattle.std.specs.Prelude.{◌==◌, ◌&&◌, nat_le, Option, Some, None, Result, Ok}
use Rattle.std.specs.Option.{is_some, option_map, option_map_or, option_and_then}
use Rattle.mode_pages.specs.declared.settings.Settings.{Settings}
use Rattle.task_set.specs.declared.member.Member.{Member}
use Rattle.task_set.specs.Members.{IsIn, member_of}
use Rattle.cdb_reader.specs.declared.plan.Plan.{Plan}
use Rattle.cdb_reader.specs.declared.plan.Deed.{Deed}
use Rattle.cdb_reader.specs.declared.plan.Deed.TheVariants as deed
use Rattle.cdb_reader.specs.Plan.{next}
use Rattle.cdb_reader.specs.Request.{Request, ModeSelect, ReadDefectData}
use Rattle.sense_data.specs.declared.sense.Sense.{Sense}
use Rattle.block_machine.specs.declared.entry.Entry.{Entry}
use Rattle.block_machine.specs.declared.entry.Entry.TheVariants.{Arrived, Started, Get, Put, Harden, Passed, Page, Ended, Mode}
use Rattle.block_machine.specs.declared.entry.Who.TheVariants.{Command}
use Rattle.block_machine.specs.declared.turn.Label.{Label}
use Rattle.block_machine.specs.declared.turn.Label.TheVariants.{Work}
use Rattle.block_machine.specs.Blocks.{Blocks, is_dirty, without_address}
use Rattle.block_machine.specs.DriveOnly.{has_defect_length}
use Rattle.block_machine.specs.Settings.{settings_made}
use Rattle.block_machine.specs.Deeds.{Done, done, done_by, owed_after, page_done}
use Rattle.block_machine.specs.Entries.{are_asked, ends_as_told, entry_lawful, is_owed, makes, may_write_for, works_on}
use Rattle.block_machine.specs.State as machine
use Rattle.block_machine.specs.State.{State, owed_by, state_at_start}
use Rattle.block_machine.specs.Steps.{duties_after, duties_done}
use Rattle.history_replay.specs.declared.known.Known.{Known}
use Rattle.history_replay.specs.Deeds.{left_of, working_state}
use Rattle.history_replay.specs.Kept.{IsLater, doer_of, duty_done, is_as_told, left_at}
use Rattle.history_replay.specs.Known.{state_of}

some-out : {T : Type 0} (b : Bool) (x y : T) → cond b (Some x) (Some y) ≡ Some (cond b x y)
some-out true x y = refl
some-out false x y = refl

-- a choice of one or nothing that gives one
chosen : (w : Bool) (d c : ℕ) → cond w (Some d) None ≡ Some c → (w ≡ true) × (d ≡ c)
chosen true d c e = (refl, cc)
chosen false d c e = absurd (cc)

-- what was done was done by this command
abbrev ByOne : ℕ → Option Done → Type 0
ByOne c None = Unit {0}
ByOne c (Some d) = d.c ≡ c

by-choice : (c d : ℕ) (b : Bool) (what : Deed) → d ≡ c → ByOne c (cond b (done d what) None)
by-choice c d true what e = e
by-choice c d false what e = tt

by-page : (asks : Result Request Sense) (c d : ℕ) (bytes : List ℕ) → d ≡ c → ByOne c (page_done asks d bytes)
by-page (Ok (ReadDefectData primary grown format allocation)) c d bytes e = by-choice c d (has_defect_length allocation bytes) _ e
by-page other c d bytes e = e

by_one : (label : Label) (s : State) (e : Entry) (c : ℕ) → doer_of label e ≡ Some c → ByOne c (done_by label s e)
by_one label s (Get d b v) c h = (chosen (works_on label d) d c h).1
by_one label s (Put d b v) c h = (chosen (may_write_for label d) d c h).1
by_one label s (Harden (Command d) b) c h = (chosen (may_write_for label d) d c h).1
by_one label s (Passed d from to) c h = (chosen (works_on label d) d c h).1
by_one label s (Page d bytes) c h = by-page (s.duties d).asks c d bytes (chosen (works_on label d) d c h).1
by_one label s (Ended d reply) c h = (chosen (works_on label d) d c h).1
by_one (Work d) s (Mode settings) c h = cc
by_one label s other c h = absurd (cc)

-- a state whose commands are all like this one
abbrev working : State → ℕ → State
working s c = working_state s.blocks (s.duties c).asks (s.duties c).dirty_then

-- what was done depends on the blocks and on this command alone
done_same : (label : Label) (s : State) (e : Entry) (c : ℕ) → doer_of label e ≡ Some c → done_by label s e ≡ done_by label (working s c) e
done_same label s (Get d b v) c h = refl
done_same label s (Put d b v) c h =
    ap (λ (k : ℕ). done d (deed.Put b v (nat_le 64 (length (without_address b.0 (s.duties k).dirty_then))))) (chosen (may_write_for label d) d c h).1
done_same label s (Harden (Command d) b) c h = refl
done_same label s (Passed d from to) c h = refl
done_same label s (Page d bytes) c h = ap (λ (k : ℕ). page_done (s.duties k).asks d bytes) (chosen (works_on label d) d c h).1
done_same label s (Ended d reply) c h = refl
done_same (Work d) s (Mode settings) c h = refl
done_same label s other c h = absurd (cc)

within : (o : Option Member) (owes : Option Plan) → is_some o ≡ true → option_and_then (λ (m : Member). owes) o ≡ owes
within None owes h = absurd (cc)
within (Some m) owes h = refl

-- a command that is in owes what its duty says
pub owed_in : (s : State) (c : ℕ) → IsIn s.set c → owed_by s c ≡ (s.duties c).owes
owed_in s c inside = within (member_of s.set c) (s.duties c).owes inside

-- what is left of it
left-of : (s : State) (c : ℕ) (x : Option Done) → IsIn s.set c → ByOne c x
    → option_and_then (owed_after s) x ≡ option_and_then (left_of (s.duties c).owes) x
left-of s c None inside by = refl
left-of s c (Some d) inside by =
    ap (λ (k : ℕ). option_and_then (λ plan. next plan d.what) (owed_by s k)) by
    ∙ ap (λ (o : Option Plan). option_and_then (λ plan. next plan d.what) o) (owed_in s c inside)

pub left_same : (label : Label) (s : State) (e : Entry) (c : ℕ) → doer_of label e ≡ Some c → IsIn s.set c
    → option_and_then (owed_after s) (done_by label s e) ≡ left_at label s.blocks (s.duties c) e
left_same label s e c h inside =
    left-of s c (done_by label s e) inside (by_one label s e c h)
    ∙ ap (λ (x : Option Done). option_and_then (left_of (s.duties c).owes) x) (done_same label s e c h)

and-true : (a b : Bool) → a ≡ true → (a && b) ≡ (b && true)
and-true true true e = refl
and-true true false e = refl
and-true false b e = absurd (cc)

and-told : (a b t : Bool) → a ≡ true → ((a && b) && t) ≡ (b && t)
and-told true b t e = refl
and-told false b t e = absurd (cc)

told-mode : (capacity : ℕ) (known : Known) (s : State) (duty : machine.Duty) (asks : Result Request Sense) (made : Settings)
    → known.capacity ≡ capacity → known.settings ≡ s.settings
    → are_asked capacity s duty asks made ≡ are_asked known.capacity (state_of known) duty asks made
told-mode capacity known s duty (Ok (ModeSelect ten count)) made unit same =
    ap (λ (k : ℕ). makes (settings_made k s.settings ten count duty.sent) made) (sym unit)
    ∙ ap (λ (x : Settings). makes (settings_made known.capacity x ten count duty.sent) made) (sym same)
told-mode capacity known s duty other made unit same = refl

-- whether a deed may come: it is owed, and it is as told
lawful-told : (capacity : ℕ) (known : Known) (label : Label) (s : State) (e : Entry) (c : ℕ) → doer_of label e ≡ Some c → IsIn s.set c
    → known.capacity ≡ capacity → known.settings ≡ s.settings
    → entry_lawful capacity label s e ≡ (is_owed label s e && is_as_told known s.blocks (s.duties c) e)
lawful-told capacity known label s (Get d b v) c h inside unit same = and-true (works_on label d) _ (chosen (works_on label d) d c h).0
lawful-told capacity known label s (Put d b v) c h inside unit same = and-true (may_write_for label d) _ (chosen (may_write_for label d) d c h).0
lawful-told capacity known label s (Harden (Command d) b) c h inside unit same =
    and-told (may_write_for label d) _ _ (chosen (may_write_for label d) d c h).0
lawful-told capacity known label s (Passed d from to) c h inside unit same = and-true (works_on label d) _ (chosen (works_on label d) d c h).0
lawful-told capacity known label s (Page d bytes) c h inside unit same = and-true (works_on label d) _ (chosen (works_on label d) d c h).0
lawful-told capacity known label s (Ended d reply) c h inside unit same =
    let is = chosen (works_on label d) d c h in
    and-told (works_on label d) _ _ is.0
    ∙ ap (λ (k : ℕ). is_owed label s (Ended d reply) && ends_as_told (owed_by s k) (s.duties k) reply) is.1
    ∙ ap (λ (o : Option Plan). is_owed label s (Ended d reply) && ends_as_told o (s.duties c) reply) (owed_in s c inside)
lawful-told capacity known (Work d) s (Mode settings) c h inside unit same =
    let is : d ≡ c = cc in
    ap (λ (k : ℕ). is_owed (Work d) s (Mode settings) && are_asked capacity s (s.duties k) (s.duties k).asks settings) is
    ∙ ap (λ (t : Bool). is_owed (Work d) s (Mode settings) && t) (told-mode capacity known s (s.duties c) (s.duties c).asks settings unit same)
lawful-told capacity known label s other c h inside unit same = absurd (cc)

done-some : (t : Bool) (o : Option Plan) (duty : machine.Duty)
    → (is_some o && t) ≡ is_some (cond t (option_map (λ plan. record duty { owes = Some plan }) o) None)
done-some true None duty = refl
done-some true (Some plan) duty = refl
done-some false None duty = refl
done-some false (Some plan) duty = refl

-- a deed may come exactly where the command has it done
pub deed_lawful : (capacity : ℕ) (known : Known) (label : Label) (s : State) (e : Entry) (c : ℕ) → doer_of label e ≡ Some c → IsIn s.set c
    → known.capacity ≡ capacity → known.settings ≡ s.settings
    → entry_lawful capacity label s e ≡ is_some (duty_done known label s.blocks (s.duties c) e)
deed_lawful capacity known label s e c h inside unit same =
    lawful-told capacity known label s e c h inside unit same
    ∙ ap (λ (o : Option Plan). is_some o && is_as_told known s.blocks (s.duties c) e) (left_same label s e c h inside)
    ∙ done-some (is_as_told known s.blocks (s.duties c) e) (left_at label s.blocks (s.duties c) e) (s.duties c)

-- no command comes or starts
pub later_duties : (capacity : ℕ) (label : Label) (s : State) (e : Entry) → IsLater e → duties_after capacity label s e ≡ duties_done s (done_by label s e)
later_duties capacity label s (Arrived c i t a cdb sent) later = absurd later
later_duties capacity label s (Started c) later = absurd later
later_duties capacity label s other later = refl

pub doer_later : (label : Label) (e : Entry) (c : ℕ) → doer_of label e ≡ Some c → IsLater e
doer_later label (Arrived d i t a cdb sent) c h = absurd (cc)
doer_later label (Started d) c h = absurd (cc)
doer_later label other c h = tt

after-done : (s : State) (c : ℕ) (x : Option Done) (plan : Plan) (q : ℕ) → ByOne c x → option_and_then (owed_after s) x ≡ Some plan
    → duties_done s x q ≡ cond (q == c) (record (s.duties c) { owes = Some plan }) (s.duties q)
after-done s c None plan q by e = absurd (cc)
after-done s c (Some d) plan q by e =
    ap (λ (o : Option Plan). cond (q == d.c) (record (s.duties d.c) { owes = o }) (s.duties q)) e
    ∙ ap (λ (k : ℕ). cond (q == k) (record (s.duties k) { owes = Some plan }) (s.duties q)) by

plan-of : (t : Bool) (o : Option Plan) (duty : machine.Duty) → is_some (cond t (option_map (λ plan. record duty { owes = Some plan }) o) None) ≡ true
    → (plan : Plan) × (o ≡ Some plan) × (cond t (option_map (λ plan. record duty { owes = Some plan }) o) None ≡ Some (record duty { owes = Some plan }))
plan-of true None duty h = absurd (cc)
plan-of true (Some plan) duty h = (plan, refl, refl)
plan-of false o duty h = absurd (cc)

-- the commands after a deed that may come: this one owes what is left
pub deed_duties : (capacity : ℕ) (known : Known) (label : Label) (s : State) (e : Entry) (c q : ℕ) → doer_of label e ≡ Some c → IsIn s.set c
    → is_some (duty_done known label s.blocks (s.duties c) e) ≡ true
    → cond (q == c) (duty_done known label s.blocks (s.duties c) e) (Some (s.duties q)) ≡ Some (duties_after capacity label s e q)
deed_duties capacity known label s e c q h inside may =
    let p = plan-of (is_as_told known s.blocks (s.duties c) e) (left_at label s.blocks (s.duties c) e) (s.duties c) may in
    let is = after-done s c (done_by label s e) p.0 q (by_one label s e c h) (left_same label s e c h inside ∙ p.1) in
    let later = later_duties capacity label s e (doer_later label e c h) in
    ap (λ (o : Option machine.Duty). cond (q == c) o (Some (s.duties q))) p.2
    ∙ some-out (q == c) (record (s.duties c) { owes = Some p.0 }) (s.duties q)
    ∙ ap Some (sym is ∙ ap (λ (f : ℕ → machine.Duty). f q) (sym later))

sense-same : (f g : Blocks) (o : Option ℕ) → ((b : ℕ) → is_dirty (f b) ≡ is_dirty (g b))
    → option_map_or (λ b. is_dirty (f b)) o false ≡ option_map_or (λ b. is_dirty (g b)) o false
sense-same f g None same = refl
sense-same f g (Some b) same = same b

-- of the blocks it matters alone which are dirty
done-marked : (label : Label) (f g : Blocks) (asks : Result Request Sense) (dirty : List ℕ) (e : Entry) → ((b : ℕ) → is_dirty (f b) ≡ is_dirty (g b))
    → done_by label (working_state f asks dirty) e ≡ done_by label (working_state g asks dirty) e
done-marked label f g asks dirty (Get d b v) same = ap (λ (t : Bool). done d (deed.Got b v t)) (same b.0)
done-marked label f g asks dirty (Ended d reply) same =
    ap (λ (t : Bool). done d (deed.Ended reply t)) (sense-same f g (option_and_then (λ sense. sense.information) reply.sense) same)
done-marked (Work c) f g asks dirty (Mode settings) same = refl
done-marked label f g asks dirty other same = refl

told-marked : (known : Known) (f g : Blocks) (duty : machine.Duty) (e : Entry) → ((b : ℕ) → is_dirty (f b) ≡ is_dirty (g b))
    → is_as_told known f duty e ≡ is_as_told known g duty e
told-marked known f g duty (Harden who b) same = same b.0
told-marked known f g duty (Ended c reply) same = refl
told-marked known f g duty (Mode settings) same = refl
told-marked known f g duty other same = refl

pub duty_marked : (known : Known) (label : Label) (f g : Blocks) (duty : machine.Duty) (e : Entry) → ((b : ℕ) → is_dirty (f b) ≡ is_dirty (g b))
    → duty_done known label f duty e ≡ duty_done known label g duty e
duty_marked known label f g duty e same =
    ap (λ (t : Bool). cond t (option_map (λ plan. record duty { owes = Some plan }) (left_at label f duty e)) None) (told-marked known f g duty e same)
    ∙ ap (λ (x : Option Done). cond (is_as_told known g duty e) (option_map (λ plan. record duty { owes = Some plan }) (option_and_then (left_of duty.owes) x)) None)
    (done-marked label f g duty.asks duty.dirty_then e same)
