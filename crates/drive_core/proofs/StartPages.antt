-- The turn of a command that starts, gives data and ends.
use Rattle.std.proofs.Common.{◌≡◌, ℕ, Bool, true, false, cond, List, [], ◌∷◌, take, Option, Some, None, refl, sym, ap, ◌∙◌, subst}
use Rattle.std.specs.Prelude.{Result, Ok}
use Rattle.std.specs.Option.{option_and_then, is_some}
use Rattle.std.proofs.lemmas.Bool.{eq-eqb}
use Rattle.std.proofs.lemmas.Slice.Eq.{bytes_eq-Decides}
use Rattle.disk_base.specs.declared.command.DataOut.{DataOut}
use Rattle.sense_data.specs.declared.sense.Sense.{Sense}
use Rattle.sense_data.specs.declared.reply.Reply.{Reply}
use Rattle.task_set.specs.Members.{member_of, with_started, without}
use Rattle.geometry_map.specs.DefectMap.{DefectMap, IsValidMap}
use Rattle.defect_lists.specs.declared.reply.DefectRequest.{DefectRequest}
use Rattle.defect_lists.specs.DefectData.{defect_data}
use Rattle.cdb_reader.specs.declared.plan.Plan.{Plan}
use Rattle.cdb_reader.specs.declared.plan.Plan.TheVariants.{Ending, Answering}
use Rattle.cdb_reader.specs.declared.plan.Deed.TheVariants as deed
use Rattle.cdb_reader.specs.Plan.{next}
use Rattle.cdb_reader.specs.Request.{Request, ReadDefectData}
use Rattle.block_machine.specs.declared.entry.Entry.{Entry}
use Rattle.block_machine.specs.declared.entry.Entry.TheVariants.{Started, Page, Ended}
use Rattle.block_machine.specs.declared.turn.Label.TheVariants.{Work}
use Rattle.block_machine.specs.Deeds.{Done, done, owed_after, page_done}
use Rattle.block_machine.specs.DriveOnly.{defect_heading}
use Rattle.block_machine.specs.Entries.{entry_lawful}
use Rattle.block_machine.specs.Plans.{plan_unless_refused, defect_reply}
use Rattle.block_machine.specs.State.{State, initiator_of}
use Rattle.block_machine.specs.Steps.{duties_done, entry_after, with_owed}
use Rattle.block_machine.proofs.Booleans.{and_both}
use Rattle.drive_scene.specs.declared.answer.Ended as told_end
use Rattle.drive_core.specs.declared.server.Server.{Server}
use Rattle.drive_core.specs.declared.starting.First.TheVariants as first_variant
use Rattle.drive_core.specs.Accepting.{Drops}
use Rattle.drive_scene.specs.Ending.{ended_of_member}
use Rattle.drive_scene.specs.Evidence.{page_of}
use Rattle.drive_scene.specs.Scene.{Scene, capacity}
use Rattle.drive_scene.specs.Laws.{StillTurnsAreGood}
use Rattle.drive_core.specs.Moves.{Moves}
use Rattle.drive_core.specs.Starting.{IsFirst}
use Rattle.drive_scene.proofs.DefectPages.{defect_data-heading, defect_data-length}
use Rattle.drive_scene.proofs.FirstPlans.{IsNoEnding, plan_there, plan_unmet}
use Rattle.drive_core.proofs.StartTurns.{BeginsWithPage, begins_with_page, IsStartOf, plan_of_start, waiting_told, start-asks, start-owes, started_state, waiting_then}
use Rattle.drive_core.proofs.StartDeeds.{IsDeed, starts_and_does}

-- the data that a command gives are what its plan owes, and what the drive's map has
pub record IsOwedPage (m : DefectMap) (asks : Result Request Sense) (c : ℕ) (planned bytes : List ℕ) : Type 0 where
  pub shown : bytes ≡ page_of m asks bytes
  pub owed : page_done asks c bytes ≡ done c (deed.Page planned)

same_data : (planned other : List ℕ) (reply given : Reply) → Answering planned reply ≡ Answering other given → planned ≡ other
same_data planned other reply given same = cc

owed_page : (blocks i : ℕ) (h : State) (sent : DataOut) (m : DefectMap) (c : ℕ) (planned bytes : List ℕ) (reply : Reply) (asks : Result Request Sense)
    → IsValidMap m → h.corrupt ≡ false → plan_unless_refused blocks h i sent asks ≡ Answering planned reply → bytes ≡ page_of m asks planned
    → IsOwedPage m asks c planned bytes
owed_page blocks i h sent m c planned bytes reply (Ok (ReadDefectData primary grown format allocation)) valid readable plan is =
    let request : DefectRequest = record { primary = primary; grown = grown; format = format; allocation = allocation } in
    let asks : Result Request Sense = Ok (ReadDefectData primary grown format allocation) in
    let same : Answering (defect_heading primary grown allocation) (defect_reply format) ≡ Answering planned reply =
    sym (plan_there blocks i h sent (ReadDefectData primary grown format allocation) readable) ∙ plan in
    let defects : List ℕ = defect_data m (record { primary = primary; grown = grown; format = format; allocation = allocation }) in
    record {
      shown = is;
      owed = ap (page_done (Ok (ReadDefectData primary grown format allocation)) c) is
          ∙ (ap (λ (b : Bool). cond b (done c (deed.Page (take 2 defects))) None) (defect_data-length m request valid)
          ∙ ap (λ (bs : List ℕ). done c (deed.Page bs)) (defect_data-heading m request ∙ same_data (defect_heading primary grown allocation) planned (defect_reply format) reply same));
    }
owed_page blocks i h sent m c planned bytes reply other valid readable plan is =
    record { shown = refl; owed = ap (λ (bs : List ℕ). done c (deed.Page bs)) is }

-- a command that begins with data
pub record BeginsToGive (s : Scene) (d e : Server) (c : ℕ) (bytes : List ℕ) (reply : Reply) : Type 0 where
  pub planned : List ℕ
  pub plan_is : plan_of_start s c ≡ Answering planned reply
  pub page : IsOwedPage s.map (s.hist.duties c).asks c planned bytes

pub begins_to_give : (s : Scene) (d e : Server) (c : ℕ) (bytes : List ℕ) (reply : Reply) → IsStartOf s d e c → IsFirst s c (first_variant.Page bytes reply)
    → BeginsToGive s d e c bytes reply
begins_to_give s d e c bytes reply is first =
    let begins : BeginsWithPage s.map (plan_of_start s c) (s.hist.duties c).asks bytes reply =
    begins_with_page s.map (capacity s) s.hist.settings (plan_of_start s c) (s.hist.duties c).asks (s.hist.duties c).sent bytes reply first in
    let asked : plan_unless_refused (capacity s) s.hist (initiator_of s.hist c) (s.hist.duties c).sent (s.hist.duties c).asks ≡ Answering begins.planned reply =
    sym (plan_unmet (capacity s) (initiator_of s.hist c) s.hist (s.hist.duties c) (subst IsNoEnding (sym begins.plan_is) tt)) ∙ begins.plan_is in
    record {
      planned = begins.planned;
      plan_is = begins.plan_is;
      page = owed_page (capacity s) (initiator_of s.hist c) s.hist (s.hist.duties c).sent s.map c begins.planned bytes reply (s.hist.duties c).asks
          is.fits.store.present.there.valid is.fits.known.readable asked begins.page_is;
    }

module _ (s : Scene) (d e : Server) (c : ℕ) (bytes : List ℕ) (reply : Reply) (is : IsStartOf s d e c) (gives : BeginsToGive s d e c bytes reply)
    (still : StillTurnsAreGood) where
  -- the history before the data, and after them
  abbrev h : State
  h = started_state s c

  abbrev after : State
  after = entry_after (capacity s) (Work c) h (Page c bytes)

  page_is : page_done (h.duties c).asks c bytes ≡ done c (deed.Page gives.planned)
  page_is = ap (λ (x : Result Request Sense). page_done x c bytes) (start-asks s c) ∙ gives.page.owed

  -- the data are owed, and then the reply
  left : owed_after h (record { c = c; what = deed.Page gives.planned }) ≡ Some (Ending reply)
  left =
      ap (λ (o : Option Plan). option_and_then (λ (p : Plan). next p (deed.Page gives.planned)) o) (start-owes s c is.may.m is.may.is_in ∙ ap Some gives.plan_is)
      ∙ ap (λ (b : Bool). cond b (Some (Ending reply)) None) ((bytes_eq-Decides gives.planned gives.planned).1 refl)

  page_lawful : entry_lawful (capacity s) (Work c) h (Page c bytes) ≡ true
  page_lawful = and_both _ _ (eq-eqb c c refl) (ap (λ (o : Option Done). is_some (option_and_then (owed_after h) o)) page_is ∙ ap is_some left)

  duties_then : after.duties ≡ with_owed h.duties c (Some (Ending reply))
  duties_then = ap (duties_done h) page_is ∙ ap (λ (o : Option Plan). with_owed h.duties c o) left

  does : IsDeed s c (Page c bytes) reply d.known.settings (waiting_told s c)
  does = record {
    lawful = page_lawful;
    shown = gives.page.shown ∙ ap (λ (x : Result Request Sense). page_of s.map x bytes) (sym (start-asks s c));
    own = eq-eqb c c refl;
    duties = duties_then;
    modes = sym is.fits.known.settings;
    waits = waiting_then s c;
    quiet = (refl, refl, refl, refl, λ b. refl, refl, refl, refl);
  }

  -- it starts, gives them and ends
  pub starts_and_gives : (entries : List Entry) (told : Option told_end.Ended) → e.set ≡ without (with_started d.set c) c
      → Drops d.commands.items e.commands.items c → entries ≡ Started c ∷ Page c bytes ∷ Ended c reply ∷ []
      → told ≡ ended_of_member (member_of (with_started d.set c) c) reply → Moves (Work c) s d e entries told
  starts_and_gives entries told set_is drops entries_are told_is =
      starts_and_does s d e c (Page c bytes) reply is does still entries told set_is drops entries_are told_is
