-- The block that a command needs or holds, by its need and by the history.
use Rattle.std.proofs.Common.{◌≡◌, ℕ, zero, suc, ◌+◌, ◌<◌, ◌≤◌, Bool, true, false, not, cond, eqb, ltb, List, length, get_or, Option, Some, None, refl, sym, ap, ◌∙◌, subst, arith}
use Rattle.std.specs.Prelude.{◌-◌, ◌||◌, find, position}
use Rattle.std.specs.List.{range_with_len}
use Rattle.std.specs.Option.{option_map, option_and_then, is_some}
use Rattle.std.proofs.lemmas.Bool.{cond-false, lt-ltb, ne_eqb}
use Rattle.disk_base.specs.declared.address.Lba.{Lba}
use Rattle.disk_base.specs.declared.stage.Stage.{Stage}
use Rattle.task_set.specs.declared.member.Member.{Member}
use Rattle.read_recovery.specs.Stages.{Progress, next_stage}
use Rattle.write_cache.specs.Contents.{Contents}
use Rattle.cdb_reader.specs.declared.plan.Reading as reading
use Rattle.cdb_reader.specs.declared.plan.Writing as writing
use Rattle.cdb_reader.specs.declared.plan.Plan.{Plan}
use Rattle.cdb_reader.specs.declared.plan.Plan.TheVariants.{Reading, Writing}
use Rattle.command_engine.specs.declared.need.Need.TheVariants as need
use Rattle.command_engine.specs.declared.step.Step.{Step}
use Rattle.command_engine.specs.declared.step.Step.TheVariants.{Trying}
use Rattle.command_engine.specs.Course.{Course}
use Rattle.command_engine.specs.Answers.{is_hardened}
use Rattle.command_engine.specs.Need.{need_of, need_by, taking}
use Rattle.block_machine.specs.Blocks.{Blocks, is_dirty}
use Rattle.block_machine.specs.State.{owed_by}
use Rattle.drive_core.specs.declared.accepted.Accepted.{Accepted}
use Rattle.drive_core.specs.declared.able.Claim.{Claim}
use Rattle.drive_core.specs.declared.server.Server.{Server}
use Rattle.drive_scene.specs.Scene.{Scene}
use Rattle.drive_scene.specs.Holds.{held_by_plan, held_block, first_dirty, needed_by_plan, needed_block}
use Rattle.drive_core.specs.Needed.{IsNeeded, IsFirstWithin, held_of}
use Rattle.drive_core.specs.Claims.{claim_of}
use Rattle.drive_core.specs.Accepting.{is_numbered, accepted_of, under_way}
use Rattle.drive_scene.specs.Evidence.{lba}
use Rattle.drive_scene.specs.View.{View, view}
use Rattle.drive_core.specs.Commands.{IsTrying, IsAtBlock, IsWaiting, IsUnderWay, IsStaged}
use Rattle.drive_core.specs.Fits.{IsCached, Fits}
use Rattle.drive_core.proofs.AtBlock.{at_block}
use Rattle.drive_core.proofs.Windows.{empty_tried, numbered}
use Rattle.drive_scene.proofs.Tries.{next_stage-at}
use Rattle.drive_core.proofs.Placing.{there}
use Rattle.drive_core.proofs.FirstDirty.{none_of_cache, least_of_cache, first_dirty-is}
use Rattle.drive_core.proofs.TakeTurns.{StandsAt, stands_in, owed_at}
use Rattle.drive_scene.proofs.Apart.{unheld_sync, unheld_write}

positive : (n : ℕ) → ltb 0 n ≡ not (eqb n 0)
positive zero = refl
positive (suc n) = lt-ltb 0 (suc n) (omega arith) ∙ sym (ap not (ne_eqb (suc n) 0 (λ none. absurd (omega arith))))

held_as : (t : Bool) (a : ℕ) → cond t (Some (lba a)) None ≡ option_map lba (cond t (Some a) None)
held_as true a = refl
held_as false a = refl

-- a read holds its block where a stage past the first comes next, or since it was hardened
tried-read : (v : View) (r : reading.Reading) (p : Progress) (o : Option Stage) → IsTrying v r p → next_stage p ≡ o → is_some o ≡ true
    → held_of r.hardened (taking r o) ≡ option_map lba (held_by_plan v.window (Reading r))
tried-read v r p None at is some = absurd (cc)
tried-read v r p (Some stage) at is some =
    let number : stage.number ≡ p.failed = numbered p.retry p.failed stage (next_stage-at p stage is).1 in
    let tried : ltb 0 stage.number ≡ not (eqb (length v.window) 0) = ap (ltb 0) number ∙ (positive p.failed ∙ sym (ap not (empty_tried (length v.window) p.failed at.tried))) in
    ap (λ (t : Bool). cond (t || r.hardened) (Some (lba r.at)) None) tried
    ∙ held_as (not (eqb (length v.window) 0) || r.hardened) r.at

untried-write : (x y h : Bool) (at : Lba) → held_of h (cond x (cond y (need.PutThrough at) (need.Put at)) need.Nothing) ≡ None
untried-write true true h at = refl
untried-write true false h at = refl
untried-write false y h at = refl

untried-sync : (x h : Bool) (from to : Lba) → held_of h (cond x (need.Pass from to) need.Nothing) ≡ None
untried-sync true h from to = refl
untried-sync false h from to = refl

tried : (v : View) (moved : ℕ) (plan : Plan) (step : Step) → IsAtBlock v plan step
    → held_of (is_hardened plan) (need_by plan moved step) ≡ option_map lba (held_by_plan v.window plan)
tried v moved plan step at =
    at_block v (λ plan step. held_of (is_hardened plan) (need_by plan moved step) ≡ option_map lba (held_by_plan v.window plan))
    (λ r p trying. ap (λ (t : Bool). held_of r.hardened (cond t (taking r (next_stage p)) need.Nothing)) (lt-ltb r.at r.end trying.left)
    ∙ tried-read v r p (next_stage p) trying refl trying.next)
    (λ w p left. untried-write (ltb w.at w.end) w.through false (lba w.at) ∙ sym (ap (option_map lba) (unheld_write v.window w left.0 left.2)))
    (λ y p left. untried-sync (ltb y.at y.end) false (lba y.at) (lba y.end) ∙ sym (ap (option_map lba) (unheld_sync v.window y left.0))) plan step at

-- the block that a command holds is told by its need, and by whether that block was hardened
held-is : (s : Scene) (d : Server) (c : ℕ) (w : Course) → Fits s d → under_way d.commands.items c ≡ Some w
    → held_of (is_hardened w.plan) (need_of w) ≡ option_map lba (held_block s c)
held-is s d c w fits under_way =
    let stands : StandsAt s c w = stands_in s d c w fits under_way in
    tried (view s c) w.moved w.plan w.step stands.working.at_block
    ∙ sym (ap (λ (o : Option Plan). option_map lba (option_and_then (held_by_plan (s.windows c)) o)) (owed_at s c w stands))

needed-read : (cache : Contents) (r : reading.Reading) (o : Option Stage) (first : Option Lba) → is_some o ≡ true → IsNeeded cache (taking r o) first
    → first ≡ Some (lba r.at)
needed-read cache r None first some is = absurd (cc)
needed-read cache r (Some stage) first some is = is

needed-write : (cache : Contents) (through : Bool) (at : Lba) (first : Option Lba) → IsNeeded cache (cond through (need.PutThrough at) (need.Put at)) first
    → first ≡ Some at
needed-write cache true at first is = is
needed-write cache false at first is = is

none_passes : (p : ℕ → Bool) (a n : ℕ) → ((j : ℕ) → a ≤ j → j < a + n → p j ≡ false) → find p (range_with_len a n) ≡ None
none_passes p a zero none = refl
none_passes p a (suc n) none =
    cond-false (p a) (Some a) (find p (range_with_len (a + 1) n)) (none a (omega arith) (omega arith))
    ∙ none_passes p (a + 1) n (λ j low high. none j (omega arith) (omega arith))

none_first : (blocks : Blocks) (from to : ℕ) → ((j : ℕ) → from ≤ j → j < to → is_dirty (blocks j) ≡ false) → first_dirty blocks from to ≡ None
none_first blocks from to none = none_passes (λ j. is_dirty (blocks j)) from (to - from) (λ j low high. none j low (omega arith))

-- a sync needs the first dirty block that is left
needed-sync : (s : Scene) (cache : Contents) (from to : Lba) (first : Option Lba) → IsCached s cache → IsFirstWithin cache from to first
    → first ≡ option_map lba (first_dirty s.hist.blocks from.0 to.0)
needed-sync s cache from to None cached is =
    sym (ap (option_map lba) (none_first s.hist.blocks from.0 to.0 (none_of_cache s.hist.blocks cache from to cached.dirty (is.none refl))))
needed-sync s cache from to (Some b) cached is =
    sym (ap (option_map lba) (first_dirty-is s.hist.blocks from.0 to.0 b.0 (least_of_cache s.hist.blocks cache from to b cached.dirty is.least)))

needed-reading : (blocks : Blocks) (cache : Contents) (moved : ℕ) (r : reading.Reading) (p : Progress) (first : Option Lba) → r.at < r.end → is_some (next_stage p) ≡ true
    → IsNeeded cache (need_by (Reading r) moved (Trying p)) first → first ≡ option_map lba (needed_by_plan blocks (Reading r))
needed-reading blocks cache moved r p first inside next is =
    let left : ltb r.at r.end ≡ true = lt-ltb r.at r.end inside in
    needed-read cache r (next_stage p) first next
    (subst (λ (t : Bool). IsNeeded cache (cond t (taking r (next_stage p)) need.Nothing) first) left is)
    ∙ sym (ap (λ (t : Bool). option_map lba (cond t (Some r.at) None)) left)

needed-writing : (blocks : Blocks) (cache : Contents) (moved : ℕ) (w : writing.Writing) (p : Progress) (first : Option Lba) → w.at < w.end
    → IsNeeded cache (need_by (Writing w) moved (Trying p)) first → first ≡ option_map lba (needed_by_plan blocks (Writing w))
needed-writing blocks cache moved w p first inside is =
    let left : ltb w.at w.end ≡ true = lt-ltb w.at w.end inside in
    needed-write cache w.through (lba w.at) first
    (subst (λ (t : Bool). IsNeeded cache (cond t (cond w.through (need.PutThrough (lba w.at)) (need.Put (lba w.at))) need.Nothing) first) left is)
    ∙ sym (ap (λ (t : Bool). option_map lba (cond t (Some w.at) None)) left)

needed : (s : Scene) (cache : Contents) (v : View) (moved : ℕ) (plan : Plan) (step : Step) (first : Option Lba) → IsCached s cache → IsAtBlock v plan step
    → IsNeeded cache (need_by plan moved step) first → first ≡ option_map lba (needed_by_plan s.hist.blocks plan)
needed s cache v moved plan step first cached at is =
    at_block v (λ plan step. IsNeeded cache (need_by plan moved step) first → first ≡ option_map lba (needed_by_plan s.hist.blocks plan))
    (λ r p trying. needed-reading s.hist.blocks cache moved r p first trying.left trying.next)
    (λ w p left. needed-writing s.hist.blocks cache moved w p first left.1)
    (λ y p left pass. needed-sync s cache (lba y.at) (lba y.end) first cached
    (subst (λ (t : Bool). IsNeeded cache (cond t (need.Pass (lba y.at) (lba y.end)) need.Nothing) first) (lt-ltb y.at y.end left.1) pass)) plan step at is

-- so is the block that it needs next
needed-is : (s : Scene) (d : Server) (c : ℕ) (w : Course) (first : Option Lba) → Fits s d → under_way d.commands.items c ≡ Some w
    → IsNeeded d.store.cache (need_of w) first → first ≡ option_map lba (needed_block s c)
needed-is s d c w first fits under_way is =
    let stands : StandsAt s c w = stands_in s d c w fits under_way in
    needed s d.store.cache (view s c) w.moved w.plan w.step first fits.cached stands.working.at_block is
    ∙ sym (ap (λ (o : Option Plan). option_map lba (option_and_then (needed_by_plan s.hist.blocks) o)) (owed_at s c w stands))

-- a command that isn't in, or wasn't started, owes nothing
owes_nothing : (s : Scene) (c : ℕ) (o : Option Accepted) → IsStaged (view s c) o → option_and_then (λ (a : Accepted). a.work) o ≡ None → owed_by s.hist c ≡ None
owes_nothing s c None staged is = ap (option_and_then (λ (m : Member). (s.hist.duties c).owes)) staged
owes_nothing s c (Some a) staged is =
    let waiting : IsWaiting (view s c) staged.member a = subst (λ (w : Option Course). IsUnderWay (view s c) staged.member a w) is staged.under_way in
    ap (option_and_then (λ (m : Member). (s.hist.duties c).owes)) staged.is_in ∙ waiting.owes

-- so it claims no block
pub claims-nothing : (s : Scene) (d : Server) (c : ℕ) (claim : Claim) → Fits s d → under_way d.commands.items c ≡ None → claim.c ≡ c → claim.needs ≡ None
    → claim.holds ≡ None → claim ≡ claim_of s c
claims-nothing s d c claim fits waits numbered needs holds =
    let none : owed_by s.hist c ≡ None = owes_nothing s c (accepted_of d.commands.items c) (fits.staged c) waits in
    let needs_is : claim.needs ≡ option_map lba (needed_block s c) =
    needs ∙ sym (ap (λ (o : Option Plan). option_map lba (option_and_then (needed_by_plan s.hist.blocks) o)) none) in
    let holds_is : claim.holds ≡ option_map lba (held_block s c) =
    holds ∙ sym (ap (λ (o : Option Plan). option_map lba (option_and_then (held_by_plan (s.windows c)) o)) none) in
    λ i. record { c = numbered i; needs = needs_is i; holds = holds_is i }

-- a started command claims what its need says
pub claims-both : (s : Scene) (d : Server) (c : ℕ) (w : Course) (claim : Claim) → Fits s d → under_way d.commands.items c ≡ Some w → claim.c ≡ c
    → IsNeeded d.store.cache (need_of w) claim.needs → claim.holds ≡ held_of (is_hardened w.plan) (need_of w) → claim ≡ claim_of s c
claims-both s d c w claim fits under_way numbered needs holds =
    let needs_is : claim.needs ≡ option_map lba (needed_block s c) = needed-is s d c w claim.needs fits under_way needs in
    let holds_is : claim.holds ≡ option_map lba (held_block s c) = holds ∙ held-is s d c w fits under_way in
    λ i. record { c = numbered i; needs = needs_is i; holds = holds_is i }

-- the work of a command at its place
pub work-there : (xs : List Accepted) (c i : ℕ) (d : Accepted) (o : Option Course) → position (is_numbered c) xs ≡ Some i → (get_or xs i d).work ≡ o → under_way xs c ≡ o
work-there xs c i d o at works = ap (λ (a : Option Accepted). option_and_then (λ (x : Accepted). x.work) a) (there xs c i (get_or xs i d) d at refl) ∙ works
