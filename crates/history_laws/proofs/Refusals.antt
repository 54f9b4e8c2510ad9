-- What a command owes at its start tells of no block that wasn't read: neither an attention does, nor a refusal.
use Rattle.std.proofs.Common.{◌≡◌, ap, refl, ℕ, zero, suc, Bool, true, false, cond, nat_eq, List, [], ◌∷◌}
use Rattle.std.specs.Prelude.{◌&&◌, ◌==◌, ◌-◌, ◌%◌, not, nat_lt, length, drop, slice_index, unwrap_or, Option, Some, None, Result, Ok, Err}
use Rattle.std.specs.Option.{option_map, option_map_or}
use Rattle.disk_base.specs.declared.address.Lba.{Lba}
use Rattle.disk_base.specs.declared.command.DataOut.{DataOut}
use Rattle.sense_data.specs.declared.attention.Attention.{Attention}
use Rattle.sense_data.specs.declared.sense.Sense.{Sense}
use Rattle.sense_data.specs.declared.reply.Reply.{Reply}
use Rattle.sense_data.specs.Sense.{sense_of}
use Rattle.sense_data.specs.Attentions.{attention_sense}
use Rattle.mode_pages.specs.declared.settings.Settings.{Settings}
use Rattle.mode_pages.specs.declared.page.Page.{Page}
use Rattle.mode_pages.specs.ModeSelect.{and_then, descriptor_length as descriptor_length_told, header_length as mode_header_length, page_named, behind_descriptor, behind_descriptor_of, pages_part, front_page, known_page_taken, page_length, front_taken, page_taken, pages_taken, selected}
use Rattle.mode_pages.specs.declared.request.ModeRequest.{ModeRequest}
use Rattle.mode_pages.specs.ModeSense.{pages_asked, sensed_pages}
use Rattle.cdb_reader.specs.declared.operation.Operation.{Operation}
use Rattle.cdb_reader.specs.declared.operation.Operation.TheVariants as operation
use Rattle.cdb_reader.specs.declared.plan.Plan.{Plan}
use Rattle.cdb_reader.specs.declared.plan.Plan.TheVariants.{Ending, Unread, Answering, Changing, Reading, Writing, Syncing, Moving, Over}
use Rattle.cdb_reader.specs.Fields.{bit, naca}
use Rattle.cdb_reader.specs.Operation.{operation_of, refuses_field, reaches_past}
use Rattle.cdb_reader.specs.Reassign.{header_length, length_stated, descriptor_length, first_blocks, descriptor_count, descriptors_at_most, some_past, blocks_of, list_sent}
use Rattle.cdb_reader.specs.Read.{refuses_blocks, refuses_list_length, reassigning, asked, checked, read_of}
use Rattle.cdb_reader.specs.Replies.{good, check_condition}
use Rattle.cdb_reader.specs.Request.{Request}
use Rattle.cdb_reader.specs.Request as request
use Rattle.block_machine.specs.Attentions.{passes_attentions}
use Rattle.block_machine.specs.DriveOnly.{defect_heading}
use Rattle.block_machine.specs.State.{State, Duty}
use Rattle.block_machine.specs.Plans.{is_medium, refusing, answering, answering_sensed, changing, plan_asked, plan_unless_refused, first_plan}

-- sense data of a medium error with the code of a read that wasn't recovered
abbrev pub is_unread : Sense → Bool
is_unread s = s.key == 3 && s.asc == 0x11

abbrev pub tells_unread : Reply → Bool
tells_unread reply = option_map_or is_unread reply.sense false

-- a refusal, if there is one, tells of no such read
unfoldable pub tame : {A : Type 0} → Result A Sense → Bool
tame (Ok a) = true
tame (Err sense) = not (is_unread sense)

pub refusal_tame : (A : Type 0) (sense : Sense) → is_unread sense ≡ false → tame {A = A} (Err sense) ≡ true
unfolding tame
refusal_tame A sense e = ap not e

taken_tame : {A : Type 0} (a : A) → tame {A = A} (Ok a) ≡ true
unfolding tame
taken_tame a = refl

either_tame : {A : Type 0} (t : Bool) (x y : Result A Sense) → tame x ≡ true → tame y ≡ true → tame (cond t x y) ≡ true
either_tame true x y h k = h
either_tame false x y h k = k

-- of a command block
blocks_tame : (long_address long_list : Bool) (list : List ℕ) (capacity : ℕ) → tame (blocks_of long_address long_list list capacity) ≡ true
blocks_tame long_address long_list list capacity =
    let blocks : List Lba = first_blocks long_address list (descriptor_count long_address list) in
    either_tame {A = List Lba} (nat_lt (length list) header_length) (Err (sense_of 5 0x1A 0x00)) _ (refusal_tame _ _ refl)
    (either_tame {A = List Lba} (not (length_stated long_list list == length list - header_length)) (Err (sense_of 5 0x1A 0x00)) _ (refusal_tame _ _ refl)
    (either_tame {A = List Lba} (not ((length list - header_length) % descriptor_length long_address == 0)) (Err (sense_of 5 0x1A 0x00)) _ (refusal_tame _ _ refl)
    (either_tame {A = List Lba} (nat_lt descriptors_at_most (descriptor_count long_address list)) (Err (sense_of 5 0x26 0x00)) _ (refusal_tame _ _ refl)
    (either_tame {A = List Lba} (some_past blocks capacity) (Err (sense_of 5 0x21 0x00)) (Ok blocks) (refusal_tame _ _ refl) (taken_tame blocks)))))

reassigning_tame : (blocks : Result (List Lba) Sense) → tame blocks ≡ true → tame (reassigning blocks) ≡ true
unfolding tame
reassigning_tame (Ok blocks) h = refl
reassigning_tame (Err sense) h = h

asked_tame : (operation : Operation) (bs : List ℕ) (sent : DataOut) (capacity : ℕ) → tame (asked operation bs sent capacity) ≡ true
unfolding tame
asked_tame operation.ReassignBlocks bs sent capacity =
    reassigning_tame (blocks_of (bit bs 1 1) (bit bs 1 0) (list_sent sent) capacity) (blocks_tame (bit bs 1 1) (bit bs 1 0) (list_sent sent) capacity)
asked_tame other bs sent capacity = refl

checked_tame : (operation : Operation) (bs : List ℕ) (sent : DataOut) (capacity : ℕ) → tame (checked operation bs sent capacity) ≡ true
checked_tame operation bs sent capacity =
    either_tame {A = Request} (naca bs) (Err (sense_of 5 0x24 0x00)) _ (refusal_tame _ _ refl)
    (either_tame {A = Request} (refuses_field operation bs) (Err (sense_of 5 0x24 0x00)) _ (refusal_tame _ _ refl)
    (either_tame {A = Request} (reaches_past operation bs capacity) (Err (sense_of 5 0x21 0x00)) _ (refusal_tame _ _ refl)
    (either_tame {A = Request} (refuses_blocks operation bs sent) (Err (sense_of 5 0x24 0x00)) _ (refusal_tame _ _ refl)
    (either_tame {A = Request} (refuses_list_length operation bs sent) (Err (sense_of 5 0x1A 0x00)) (asked operation bs sent capacity) (refusal_tame _ _ refl)
    (asked_tame operation bs sent capacity)))))

known_tame : (o : Option Operation) (bs : List ℕ) (sent : DataOut) (capacity : ℕ)
    → tame (option_map_or (λ operation. checked operation bs sent capacity) o (Err (sense_of 5 0x20 0x00))) ≡ true
known_tame None bs sent capacity = refusal_tame _ (sense_of 5 0x20 0x00) refl
known_tame (Some operation) bs sent capacity = checked_tame operation bs sent capacity

pub read_tame : (bs : List ℕ) (sent : DataOut) (capacity : ℕ) → tame (read_of bs sent capacity) ≡ true
read_tame bs sent capacity = known_tame (operation_of (slice_index bs 0)) bs sent capacity

-- of a mode parameter list
then_tame : {A B : Type 0} (o : Result A Sense) (step : A → Result B Sense) → tame o ≡ true → ((a : A) → tame (step a) ≡ true) → tame (and_then o step) ≡ true
unfolding tame
then_tame (Ok a) step h f = f a
then_tame (Err sense) step h f = h

behind_tame : (capacity : ℕ) (list : List ℕ) → tame (behind_descriptor capacity list) ≡ true
behind_tame capacity list = either_tame {A = List ℕ} _ (Err (sense_of 5 0x1A 0x00)) _ (refusal_tame _ _ refl) (either_tame {A = List ℕ} _ (Ok _) (Err (sense_of 5 0x26 0x00)) (taken_tame _) (refusal_tame _ _ refl))

descriptor_tame : (capacity descriptor : ℕ) (list : List ℕ) → tame (behind_descriptor_of capacity descriptor list) ≡ true
descriptor_tame capacity descriptor list =
    either_tame {A = List ℕ} _ (Ok list) _ (taken_tame list)
    (either_tame {A = List ℕ} _ (behind_descriptor capacity list) (Err (sense_of 5 0x26 0x00)) (behind_tame capacity list) (refusal_tame _ _ refl))

part_tame : (capacity : ℕ) (ten : Bool) (list : List ℕ) → tame (pages_part capacity ten list) ≡ true
part_tame capacity ten list = either_tame {A = List ℕ} _ (Err (sense_of 5 0x1A 0x00)) _ (refusal_tame _ _ refl) (descriptor_tame capacity (descriptor_length_told ten list) (drop (mode_header_length ten) list))

front_page_tame : (list : List ℕ) → tame (front_page list) ≡ true
front_page_tame list = either_tame {A = List ℕ} _ (Err (sense_of 5 0x1A 0x00)) (Ok _) (refusal_tame _ _ refl) (taken_tame _)

page_tame : (s : Settings) (given : List ℕ) (o : Option Page) → tame (known_page_taken s given o) ≡ true
page_tame s given None = refusal_tame _ (sense_of 5 0x26 0x00) refl
page_tame s given (Some page) = either_tame {A = Settings} _ (Ok _) (Err (sense_of 5 0x26 0x00)) (taken_tame _) (refusal_tame _ _ refl)

pages_tame : (passed : ℕ) (s : Settings) (list : List ℕ) → tame (pages_taken passed s list) ≡ true
pages_tame passed s [] = taken_tame s
pages_tame zero s (b ∷ list) =
    then_tame (front_taken s (b ∷ list)) (λ t. pages_taken (page_length (b ∷ list) - 1) t list)
    (then_tame (front_page (b ∷ list)) (page_taken s) (front_page_tame (b ∷ list)) (λ given. page_tame s given (page_named (slice_index given 0) (slice_index given 1))))
    (λ t. pages_tame (page_length (b ∷ list) - 1) t list)
pages_tame (suc passed) s (b ∷ list) = pages_tame passed s list

selected_tame : (s : Settings) (capacity : ℕ) (ten : Bool) (list : List ℕ) → tame (selected s capacity ten list) ≡ true
selected_tame s capacity ten list =
    either_tame {A = Settings} _ (Ok s) _ (taken_tame s) (then_tame (pages_part capacity ten list) (pages_taken 0 s) (part_tame capacity ten list) (λ pages. pages_tame 0 s pages))

-- a plan tells of no such read, and isn't to tell of one now
abbrev pub is_calm : Plan → Bool
is_calm (Ending reply) = not (tells_unread reply)
is_calm (Answering bytes reply) = not (tells_unread reply)
is_calm (Unread b) = false
is_calm other = true

either_calm : (t : Bool) (p q : Plan) → is_calm p ≡ true → is_calm q ≡ true → is_calm (cond t p q) ≡ true
either_calm true p q h k = h
either_calm false p q h k = k

answering_calm : (allocation : ℕ) (o : Option (List ℕ)) → is_calm (answering allocation o) ≡ true
answering_calm allocation None = refl
answering_calm allocation (Some bytes) = refl

sensed_calm : (o : Result (List ℕ) Sense) → tame o ≡ true → is_calm (answering_sensed o) ≡ true
unfolding tame
sensed_calm (Ok bytes) h = refl
sensed_calm (Err sense) h = h

sensed_tame : (s : Settings) (capacity : ℕ) (r : ModeRequest) (o : Option (List Page)) → tame (sensed_pages s capacity r o) ≡ true
sensed_tame s capacity r None = refusal_tame _ (sense_of 5 0x24 0x00) refl
sensed_tame s capacity r (Some pages) = either_tame {A = List ℕ} _ (Err (sense_of 5 0x39 0x00)) (Ok _) (refusal_tame _ _ refl) (taken_tame _)

changing_calm : (settings : Settings) (o : Result Settings Sense) → tame o ≡ true → is_calm (changing settings o) ≡ true
unfolding tame
changing_calm settings (Ok made) h = either_calm _ (Ending good) Changing refl refl
changing_calm settings (Err sense) h = h

defects_calm : (t : Bool) (bytes : List ℕ) → is_calm (Answering bytes (cond t good (check_condition (sense_of 1 0x1C 0x00)))) ≡ true
defects_calm true bytes = refl
defects_calm false bytes = refl

unless_empty_calm : (t : Bool) (p : Plan) → is_calm p ≡ true → is_calm (unwrap_or (cond t (Some (Ending good)) (Some p)) Over) ≡ true
unless_empty_calm true p h = refl
unless_empty_calm false p h = h

asked_calm : (capacity : ℕ) (s : State) (i : ℕ) (sent : DataOut) (asks : Request) → is_calm (plan_asked capacity s i sent asks) ≡ true
asked_calm capacity s i sent request.TestUnitReady = refl
asked_calm capacity s i sent (request.RequestSense allocation) = refl
asked_calm capacity s i sent (request.ReassignBlocks blocks) = unless_empty_calm _ (Moving _) refl
asked_calm capacity s i sent (request.Inquiry evpd page allocation) = answering_calm allocation _
asked_calm capacity s i sent (request.ModeSelect ten count) = changing_calm s.settings _ (selected_tame s.settings capacity ten _)
asked_calm capacity s i sent (request.ModeSense ten dbd control page subpage allocation) = sensed_calm _ (sensed_tame s.settings capacity
    (record { ten = ten; dbd = dbd; control = control; page = page; subpage = subpage; allocation = allocation }) (pages_asked page subpage))
asked_calm capacity s i sent request.ReadCapacity10 = refl
asked_calm capacity s i sent (request.Read from count fua) = unless_empty_calm _ (Reading _) refl
asked_calm capacity s i sent (request.Write from count fua) = unless_empty_calm _ (Writing _) refl
asked_calm capacity s i sent (request.WriteAndVerify from count) = unless_empty_calm _ (Writing _) refl
asked_calm capacity s i sent (request.Verify from count) = unless_empty_calm _ (Reading _) refl
asked_calm capacity s i sent (request.SynchronizeCache from count) = unless_empty_calm _ (Syncing _) refl
asked_calm capacity s i sent (request.ReadDefectData primary grown format allocation) = defects_calm (nat_eq format 5) (defect_heading primary grown allocation)
asked_calm capacity s i sent (request.LogSense page subpage pointer allocation) = answering_calm allocation _
asked_calm capacity s i sent (request.ReadCapacity16 allocation) = refl
asked_calm capacity s i sent (request.ReportLuns select allocation) = answering_calm allocation _

unless_refused_calm : (capacity : ℕ) (s : State) (i : ℕ) (sent : DataOut) (asks : Result Request Sense) → tame asks ≡ true → is_calm (plan_unless_refused capacity s i sent asks) ≡ true
unfolding tame
unless_refused_calm capacity s i sent (Ok asks) h =
    either_calm (s.corrupt && is_medium asks) (refusing (sense_of 3 0x31 0x00)) (plan_asked capacity s i sent asks) refl (asked_calm capacity s i sent asks)
unless_refused_calm capacity s i sent (Err sense) h = h

unless_told_calm : (passes : Bool) (o : Option Attention) (plan : Plan) → is_calm plan ≡ true
    → is_calm (option_map_or refusing (cond passes None (option_map attention_sense o)) plan) ≡ true
unless_told_calm true o plan h = h
unless_told_calm false None plan h = h
unless_told_calm false (Some a) plan h = refl

pub first_calm : (capacity : ℕ) (s : State) (i : ℕ) (duty : Duty) → tame duty.asks ≡ true → is_calm (first_plan capacity s i duty) ≡ true
first_calm capacity s i duty h =
    unless_told_calm (passes_attentions duty.code) _ (plan_unless_refused capacity s i duty.sent duty.asks)
    (unless_refused_calm capacity s i duty.sent duty.asks h)
