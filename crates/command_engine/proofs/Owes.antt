-- The deeds of an answer that fits may come by the plan, and leave what is owed then.
use Rattle.std.proofs.Common.{◌≡◌, ℕ, ◌-◌, ◌+◌, ◌<◌, ◌≤◌, Bool, true, false, not, ◌&&◌, ◌||◌, ◌==◌, nat_lt, List, [], ◌∷◌, Some, None, refl, sym, ap, ◌∙◌, eq-eqb, arith}
use Rattle.std.specs.Prelude.{is_none, if◌then◌else◌}
use Rattle.std.specs.Str.{bytes_eq}
use Rattle.std.proofs.lemmas.Bool.{le-leb, ltb-false, and_from}
use Rattle.std.proofs.lemmas.Slice.Eq.{bytes_eq-Decides}
use Rattle.disk_base.specs.declared.address.Lba.{Lba}
use Rattle.disk_base.specs.declared.block.Value.TheVariants.{Lost}
use Rattle.read_recovery.specs.Stages.{next_stage, answered}
use Rattle.cdb_reader.specs.declared.plan.Reading as reading
use Rattle.cdb_reader.specs.declared.plan.Writing as writing
use Rattle.cdb_reader.specs.declared.plan.Syncing as syncing
use Rattle.cdb_reader.specs.declared.plan.Moving as moving
use Rattle.cdb_reader.specs.declared.plan.Plan.{Plan}
use Rattle.cdb_reader.specs.declared.plan.Plan.TheVariants.{Reading, Writing, Syncing, Moving, Unread}
use Rattle.cdb_reader.specs.declared.plan.Deed.{Deed}
use Rattle.cdb_reader.specs.declared.plan.Deed.TheVariants as deed
use Rattle.cdb_reader.specs.Plan.{plan_after, next, when, block_of, after_written, reading_from}
use Rattle.command_engine.specs.declared.answer.Answer.{Answer}
use Rattle.command_engine.specs.declared.answer.Answer.TheVariants as answer
use Rattle.command_engine.specs.declared.step.Step.{Step}
use Rattle.command_engine.specs.declared.need.Need.TheVariants as need
use Rattle.command_engine.specs.Need.{need_by, in_hand}
use Rattle.command_engine.specs.Course.{next_block}
use Rattle.command_engine.specs.Standing.{IsUnderWay}
use Rattle.command_engine.specs.Answers.{Known, deeds, gives_up, is_moving, settles, settled, past, owed_after, with_page}
use Rattle.command_engine.proofs.Fit.{Fit, read_found, read_lost, read_missed, read_dirty, read_hardened, read_faulted, write_put, write_hardened, write_faulted, sync_clean, sync_dirty, sync_hardened, sync_faulted, paged, list_found, list_missed, list_dirty, list_moved, list_spareless}
use Rattle.command_engine.proofs.Lists.{may_harden, past_is}

abbrev lba : ℕ → Lba
lba b = record { 0 = b }

-- a deed that may come leaves this plan
may : (b : Bool) (plan : Plan) → b ≡ true → plan_after (when b plan) [] ≡ Some plan
may b plan h = rw h refl

-- the same where two plans are to choose from
may_or : (b choice : Bool) (one other : Plan) → b ≡ true → choice ≡ false → plan_after (when b (if choice then one else other)) [] ≡ Some other
may_or b choice one other h not_one = rw (h, not_one) refl

may_first : (b choice : Bool) (one other : Plan) (then_deed : Deed) → b ≡ true → choice ≡ true
    → plan_after (when b (if choice then one else other)) (then_deed ∷ []) ≡ plan_after (next one then_deed) []
may_first b choice one other then_deed h is_one = rw (h, is_one) refl

-- what comes from the medium isn't dirty
from_medium : (through dirty : Bool) → not (through && (not through && dirty)) ≡ true
from_medium true dirty = refl
from_medium false dirty = refl

nor_false : (through : Bool) → not (through && false) ≡ true
nor_false true = refl
nor_false false = refl

same_bytes : (bytes : List ℕ) → bytes_eq bytes bytes ≡ true
same_bytes bytes = (bytes_eq-Decides bytes bytes).1 refl

missed : (page : List ℕ) (r : reading.Reading) (lost : Bool) → nat_lt r.at r.end ≡ true
    → plan_after (Some (Reading r)) (if lost && true then deed.Got (lba r.at) Lost false ∷ [] else []) ≡ Some (with_page page (if lost then Unread r.at else Reading r))
missed page r true left = may _ _ (and_from _ _ (and_from _ _ (eq-eqb r.at r.at refl) left) (nor_false r.through))
missed page r false left = refl

-- no page is owed after a block is written
without_page : (page : List ℕ) (w : writing.Writing) (last : Bool)
    → with_page page (if last then reading_from w.from w.end true w.reports else Writing (record w { at = w.at + 1; owes_harden = false }))
    ≡ (if last then reading_from w.from w.end true w.reports else Writing (record w { at = w.at + 1; owes_harden = false }))
without_page page w true = refl
without_page page w false = refl

written : (page : List ℕ) (w : writing.Writing) → Some (after_written w) ≡ Some (with_page page (after_written w))
written page w = ap (λ plan. Some plan) (sym (without_page page w (w.verifies && w.at + 1 == w.end)))

-- what a put asks for
putting : (w : writing.Writing) → nat_lt w.at w.end ≡ true → w.owes_harden ≡ false
    → (not w.owes_harden && w.at == w.at && nat_lt w.at w.end && bytes_eq (block_of w.sent (w.at - w.from)) (block_of w.sent (w.at - w.from))) ≡ true
putting w left owes_none =
    and_from _ _ (and_from _ _ (and_from _ _ (ap not owes_none) (eq-eqb w.at w.at refl)) left) (same_bytes (block_of w.sent (w.at - w.from)))

put : (known : Known) (w : writing.Writing) (through : Bool) → nat_lt w.at w.end ≡ true → w.owes_harden ≡ false → w.through ≡ through → through ≡ false
    → plan_after (Some (Writing w)) (deeds known false false (block_of w.sent (w.at - w.from)) (if through then need.PutThrough (lba w.at) else need.Put (lba w.at)) answer.Put)
    ≡ Some (with_page known.page (after_written w))
put known w false left owes_none is never =
    may_or _ (w.through || false) _ _ (putting w left owes_none) (ap (λ t. t || false) is) ∙ written known.page w
put known w true left owes_none is never = absurd (cc)

hardened_at_once : (page : List ℕ) (w : writing.Writing) (full : Bool) → nat_lt w.at w.end ≡ true → w.owes_harden ≡ false → (w.through || full) ≡ true
    → plan_after (Some (Writing w)) (deed.Put (lba w.at) (block_of w.sent (w.at - w.from)) full ∷ deed.Hardened (lba w.at) ∷ []) ≡ Some (with_page page (after_written w))
hardened_at_once page w full left owes_none at_once =
    may_first _ (w.through || full) _ _ _ (putting w left owes_none) at_once
    ∙ may _ _ (and_from _ _ (eq-eqb w.at w.at refl) left) ∙ written page w

-- the same where writes go through, and where the cache is full
put_hardened : (known : Known) (w : writing.Writing) (through : Bool) → nat_lt w.at w.end ≡ true → w.owes_harden ≡ false → w.through ≡ through
    → plan_after (Some (Writing w)) (deeds known false false (block_of w.sent (w.at - w.from)) (if through then need.PutThrough (lba w.at) else need.Put (lba w.at)) answer.Hardened)
    ≡ Some (with_page known.page (after_written w))
put_hardened known w true left owes_none is = hardened_at_once known.page w known.full left owes_none (ap (λ t. t || known.full) is)
put_hardened known w false left owes_none is = hardened_at_once known.page w true left owes_none (ap (λ t. t || true) is)

faulted : (known : Known) (w : writing.Writing) (through : Bool)
    → plan_after (Some (Writing w)) (deeds known false false (block_of w.sent (w.at - w.from)) (if through then need.PutThrough (lba w.at) else need.Put (lba w.at)) answer.WriteFault)
    ≡ Some (Writing w)
faulted known w true = refl
faulted known w false = refl

passed : (page : List ℕ) (s : syncing.Syncing) (b : Lba) (some : Bool) → nat_lt s.at b.0 ≡ some → s.at ≤ b.0 → b.0 < s.end
    → plan_after (Some (Syncing s)) (if some then deed.Passed (lba s.at) b ∷ [] else []) ≡ Some (with_page page (Syncing (record s { at = b.0 })))
passed page s b true is low high =
    may _ _ (and_from _ _ (and_from _ _ (eq-eqb s.at s.at refl) is) (le-leb b.0 s.end (omega arith)))
passed page s b false is low high =
    let e : s.at ≡ b.0 = omega (arith, ltb-false s.at b.0 is) in
    ap (λ at. Some (Syncing (record s { at = at }))) e

-- a block of a list is moved
list_moves : (page : List ℕ) (m : moving.Moving) (moved : ℕ) (b : Lba) (hardens : Bool) → in_hand m moved ≡ Some b → m.hardened ≤ moved
    → plan_after (Some (Moving m)) (if hardens then deed.Hardened b ∷ [] else []) ≡ Some (with_page page (past m (if hardens then Some b else None)))
list_moves page m moved b true hand low =
    let after = past_is m moved b true hand low in
    ap (λ plan. plan_after plan []) (may_harden m moved b hand low ∙ ap (λ plan. Some plan) after.1.0) ∙ ap (λ plan. Some (with_page page plan)) (sym after.1.0)
list_moves page m moved b false hand low = refl

no_deed : (m : moving.Moving) (lost : Bool) (b : Lba) → plan_after (Some (Moving m)) (if lost && false then deed.Got b Lost false ∷ [] else []) ≡ Some (Moving m)
no_deed m true b = refl
no_deed m false b = refl

pub owes : (retry moved : ℕ) (known : Known) (plan : Plan) (step : Step) (a : Answer) → Fit moved plan step a → IsUnderWay retry plan moved step
    → plan_after (Some (with_page known.page plan)) (deeds known (gives_up step a) (is_moving plan) (next_block plan) (need_by plan moved step) a)
    ≡ Some (with_page known.page (owed_after plan (gives_up step a) (settled plan moved step) a))
owes retry moved known _ _ _ (read_found r p stage d left is) way =
    rw (left, is) (may _ _ (and_from _ _ (and_from _ _ (eq-eqb r.at r.at refl) left) (from_medium r.through known.dirty)))
owes retry moved known _ _ _ (read_lost r p stage left is) way =
    rw (left, is) (may _ _ (and_from _ _ (and_from _ _ (eq-eqb r.at r.at refl) left) (from_medium r.through known.dirty)))
owes retry moved known _ _ _ (read_missed r p stage left is) way =
    rw (left, is) (missed known.page r (is_none (next_stage (answered p false))) left)
owes retry moved known _ _ _ (read_dirty r p stage b left is through unhardened) way = rw (left, is) refl
owes retry moved known _ _ _ (read_hardened r left) way =
    rw left (may _ _ (and_from _ _ (and_from _ _ (and_from _ _ way.through.0 (ap not way.through.1)) (eq-eqb r.at r.at refl)) left))
owes retry moved known _ _ _ (read_faulted r left) way = rw left refl
owes retry moved known _ _ _ (write_put w p left through) way = rw left (put known w w.through left way.hardened refl through)
owes retry moved known _ _ _ (write_hardened w p left) way = rw left (put_hardened known w w.through left way.hardened refl)
owes retry moved known _ _ _ (write_faulted w p left) way = rw left (faulted known w w.through)
owes retry moved known _ _ _ (sync_clean s p left) way =
    rw left (may _ _ (and_from _ _ (and_from _ _ (eq-eqb s.at s.at refl) left) (le-leb s.end s.end (omega arith))))
owes retry moved known _ _ _ (sync_dirty s p b left low high) way = rw left (passed known.page s b (nat_lt s.at b.0) refl low high)
owes retry moved known _ _ _ (sync_hardened s left) way = rw left (may _ _ (and_from _ _ (eq-eqb s.at s.at refl) left))
owes retry moved known _ _ _ (sync_faulted s left) way = rw left refl
owes retry moved known _ _ _ (paged bytes reply step) way = may _ _ (same_bytes known.page)
owes retry moved known _ _ _ (list_found m p stage b value hand is) way = rw (hand, is) refl
owes retry moved known _ _ _ (list_missed m p stage b hand is) way = rw (hand, is) (no_deed m (is_none (next_stage (answered p false))) b)
owes retry moved known _ _ _ (list_dirty m p stage b dirty hand is) way = rw (hand, is) refl
owes retry moved known _ _ _ (list_moved m why b hand) way = rw hand (list_moves known.page m moved b (settles why) hand way.hardened)
owes retry moved known _ _ _ (list_spareless m why b hand) way = rw hand refl
