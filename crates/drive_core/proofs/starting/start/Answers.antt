use Rattle.std.proofs.Common.{◌∙◌, ◌++◌, ◌∷◌, [], List, refl, ap, sym, subst}
use Rattle.task_set.specs.declared.member.Member.{Member}
use Rattle.task_set.specs.Members.{member_of, without}
use Rattle.history_replay.specs.declared.known.Known.{Known}
use Rattle.cdb_reader.specs.Read.{has_data}
use Rattle.cdb_reader.specs.Request.{request_of}
use Rattle.cdb_reader.specs.Replies.{good}
use Rattle.history_replay.specs.Warning.{KnownWait}
use Rattle.drive_core.specs.Fits.{Fits}
use Rattle.block_machine.specs.declared.entry.Entry.{Entry}
use Rattle.block_machine.specs.declared.entry.Entry.TheVariants.{Started, Page, Mode, Ended}
use Rattle.drive_core.specs.declared.server.Server.{Server}
use Rattle.drive_scene.specs.Ending.{ended_of_member}
use Rattle.drive_scene.specs.Scene.{capacity}
use Rattle.drive_core.specs.Starting.{IsFirst}
use Rattle.drive_core.proofs.Fitting.{retry-known}
use Rattle.drive_core.proofs.StartTurns.{MayStart, may_start, IsStartOf, start_of, begins_with_reply, begins_with_change, plan_of_start, both_replaced, is_in-known, is_in-started, starts_and_ends, told-known, told-warned}
use Rattle.drive_core.proofs.StartPages.{begins_to_give, starts_and_gives}
use Rattle.drive_core.proofs.ModeTurns.{changes, good_is, known_changed, starts_and_changes}
use Rattle.drive_core.proofs.StartKinds.{BeginsOn, begins_on, range_on, sent_on, starts_on}
use Rattle.disk_base.specs.declared.command.DataOut.{DataOut}
use Rattle.drive_core.proofs.starting.start.Goals as goal

pub tell-requires-clause-is_in : goal.tell-requires-clause-is_in
tell-requires-clause-is_in c =
    is_in-known c.requires.may.0 c.args.server.now c.args.c c.requires.may.1.fits (may_start c.requires.may.0 c.args.server.now c.args.c c.requires.may.1 c.requires.waiting)

pub tell-requires-clause-known : goal.tell-requires-clause-known
tell-requires-clause-known c = c.requires.may.1.fits.known.warned

pub conclude-requires-clause-is_in : goal.conclude-requires-clause-is_in
conclude-requires-clause-is_in c =
    is_in-started c.requires.may.0 c.args.server.now c.args.c c.start.new.self c.requires.may.1.fits
    (may_start c.requires.may.0 c.args.server.now c.args.c c.requires.may.1 c.requires.waiting) c.start.ensures

pub conclude-requires-in-Page-clause-is_in : goal.conclude-requires-in-Page-clause-is_in
conclude-requires-in-Page-clause-is_in c =
    is_in-started c.requires.may.0 c.args.server.now c.args.c c.start.new.self c.requires.may.1.fits
    (may_start c.requires.may.0 c.args.server.now c.args.c c.requires.may.1 c.requires.waiting) c.start.ensures

pub change-requires-clause-is_in : goal.change-requires-clause-is_in
change-requires-clause-is_in c =
    is_in-started c.requires.may.0 c.args.server.now c.args.c c.start.new.self c.requires.may.1.fits
    (may_start c.requires.may.0 c.args.server.now c.args.c c.requires.may.1 c.requires.waiting) c.start.ensures

pub change-requires-clause-known : goal.change-requires-clause-known
change-requires-clause-known c =
    let fits : Fits c.requires.may.0 c.args.server.now = c.requires.may.1.fits in
    let may : MayStart c.requires.may.0 c.args.server.now c.args.c = may_start c.requires.may.0 c.args.server.now c.args.c c.requires.may.1 c.requires.waiting in
    let known = told-known c.requires.may.0 c.args.server.now c.args.c c.as_slice.result.now c.tell.new.known fits may c.as_slice.ensures.value c.tell.ensures in
    subst (λ (k : Known). KnownWait k.waiting) (sym known) (told-warned c.requires.may.0 c.args.server.now c.args.c fits)

pub conclude-requires-in-Change-clause-is_in : goal.conclude-requires-in-Change-clause-is_in
conclude-requires-in-Change-clause-is_in c =
    is_in-started c.requires.may.0 c.args.server.now c.args.c c.start.new.self c.requires.may.1.fits
    (may_start c.requires.may.0 c.args.server.now c.args.c c.requires.may.1 c.requires.waiting) c.start.ensures

pub new-requires-clause-range : goal.new-requires-clause-range
new-requires-clause-range c =
    range_on c.requires.may.0 c.args.server.now c.args.c (request_of c.in-Work.command)
    (begins_on c.requires.may.0 c.args.server.now c.args.c c.in-Work.command c.in_ok-first.first c.requires.may.1 c.requires.waiting
    (c.in_ok-first.ensures c.requires.may.0 c.requires.may.1) c.in-Work.is)

pub new-requires-clause-data_length : goal.new-requires-clause-data_length
new-requires-clause-data_length c =
    let on : BeginsOn c.requires.may.0 c.args.server.now c.args.c (request_of c.in-Work.command) =
    begins_on c.requires.may.0 c.args.server.now c.args.c c.in-Work.command c.in_ok-first.first c.requires.may.1 c.requires.waiting
    (c.in_ok-first.ensures c.requires.may.0 c.requires.may.1) c.in-Work.is in
    let sent = sent_on c.requires.may.0 c.args.server.now c.args.c (request_of c.in-Work.command) c.take_sent-sent.result on
    (c.take_sent-sent.ensures.sent on.may.a on.may.a_is) in
    ap (λ (x : DataOut). has_data (request_of c.in-Work.command) x) sent ∙ on.with_data

pub returns-in-Reply-clause-moves : goal.returns-in-Reply-clause-moves
returns-in-Reply-clause-moves c s work =
    let may : MayStart s c.args.server.now c.args.c = may_start s c.args.server.now c.args.c work c.requires.waiting in
    let plan = begins_with_reply s.map (capacity s) s.hist.settings (plan_of_start s c.args.c) _ _ c.in-Reply.reply (subst (IsFirst s c.args.c) c.in-Reply.is (c.in_ok-first.ensures s work)) in
    let left = c.conclude.ensures.ends c.in-Reply.reply refl in
    let known = told-known s c.args.server.now c.args.c c.as_slice.result.now c.tell.new.known work.fits may c.as_slice.ensures.value c.tell.ensures in
    starts_and_ends s c.args.server.now c.conclude.new.server c.args.c
    (start_of s c.args.server.now c.conclude.new.server c.args.c work.fits may left.0.store left.0.arrived (left.0.known ∙ known))
    c.still_turns_are_good.ensures c.in-Reply.reply c.conclude.new.entries.items c.conclude.result plan
    (left.0.set ∙ ap (λ (ms : List Member). without ms c.args.c) c.start.ensures) left.0.commands
    (left.1 ∙ ap (λ (es : List Entry). es ++ Ended c.args.c c.in-Reply.reply ∷ [])
    (c.push_reserved.ensures.items ∙ ap (λ (es : List Entry). es ++ Started c.args.c ∷ []) c.requires.empty))
    (left.2 ∙ ap (λ (ms : List Member). ended_of_member (member_of ms c.args.c) c.in-Reply.reply) c.start.ensures)

pub returns-in-Page-clause-moves : goal.returns-in-Page-clause-moves
returns-in-Page-clause-moves c s work =
    let may : MayStart s c.args.server.now c.args.c = may_start s c.args.server.now c.args.c work c.requires.waiting in
    let left = c.conclude-in-Page.ensures.ends c.in-Page.reply refl in
    let known = told-known s c.args.server.now c.args.c c.as_slice.result.now c.tell.new.known work.fits may c.as_slice.ensures.value c.tell.ensures in
    let is : IsStartOf s c.args.server.now c.conclude-in-Page.new.server c.args.c =
    start_of s c.args.server.now c.conclude-in-Page.new.server c.args.c work.fits may left.0.store left.0.arrived (left.0.known ∙ known) in
    starts_and_gives s c.args.server.now c.conclude-in-Page.new.server c.args.c c.in-Page.bytes c.in-Page.reply is
    (begins_to_give s c.args.server.now c.conclude-in-Page.new.server c.args.c c.in-Page.bytes c.in-Page.reply is
    (subst (IsFirst s c.args.c) c.in-Page.is (c.in_ok-first.ensures s work)))
    c.still_turns_are_good.ensures c.conclude-in-Page.new.entries.items c.conclude-in-Page.result
    (left.0.set ∙ ap (λ (ms : List Member). without ms c.args.c) c.start.ensures) left.0.commands
    (left.1 ∙ ap (λ (es : List Entry). es ++ Ended c.args.c c.in-Page.reply ∷ [])
    (c.push_reserved-in-Page.ensures.items ∙ ap (λ (es : List Entry). es ++ Page c.args.c c.in-Page.bytes ∷ [])
    (c.push_reserved.ensures.items ∙ ap (λ (es : List Entry). es ++ Started c.args.c ∷ []) c.requires.empty)))
    (left.2 ∙ ap (λ (ms : List Member). ended_of_member (member_of ms c.args.c) c.in-Page.reply) c.start.ensures)

pub returns-in-Change-clause-moves : goal.returns-in-Change-clause-moves
returns-in-Change-clause-moves c s work =
    let may : MayStart s c.args.server.now c.args.c = may_start s c.args.server.now c.args.c work c.requires.waiting in
    let begins = begins_with_change s.map (capacity s) s.hist.settings (plan_of_start s c.args.c) _ _ c.in-Change.made
    (subst (IsFirst s c.args.c) c.in-Change.is (c.in_ok-first.ensures s work)) in
    let left = c.conclude-in-Change.ensures.ends c.good.result refl in
    let is_good = good_is c.good.result c.good.ensures.status c.good.ensures.sense in
    let told = told-known s c.args.server.now c.args.c c.as_slice.result.now c.tell.new.known work.fits may c.as_slice.ensures.value c.tell.ensures in
    let known = known_changed s c.args.server.now c.args.c c.in-Change.made c.tell.new.known c.change.new.known c.start.new.self told c.start.ensures c.change.ensures.known in
    starts_and_changes s c.args.server.now c.conclude-in-Change.new.server c.args.c c.in-Change.made
    (changes s c.args.server.now c.conclude-in-Change.new.server c.args.c c.in-Change.made work.fits may begins left.0.store left.0.arrived (left.0.known ∙ known))
    c.still_turns_are_good.ensures c.conclude-in-Change.new.entries.items c.conclude-in-Change.result
    (left.0.set ∙ ap (λ (ms : List Member). without ms c.args.c) c.start.ensures) left.0.commands
    (left.1 ∙ ((λ j. c.change.new.entries.items ++ Ended c.args.c (is_good j) ∷ [])
    ∙ ap (λ (es : List Entry). es ++ Ended c.args.c good ∷ []) (c.change.ensures.entries ∙ ap (λ (es : List Entry). es ++ Mode c.in-Change.made ∷ [])
    (c.push_reserved.ensures.items ∙ ap (λ (es : List Entry). es ++ Started c.args.c ∷ []) c.requires.empty))))
    (left.2 ∙ (λ j. ended_of_member (member_of (c.start.ensures j) c.args.c) (is_good j)))

pub returns-in-Work-clause-moves : goal.returns-in-Work-clause-moves
returns-in-Work-clause-moves c s work =
    let on : BeginsOn s c.args.server.now c.args.c (request_of c.in-Work.command) =
    begins_on s c.args.server.now c.args.c c.in-Work.command c.in_ok-first.first work c.requires.waiting (c.in_ok-first.ensures s work) c.in-Work.is in
    let out = c.take_sent-sent.ensures.left on.may.a on.may.a_is in
    let known = told-known s c.args.server.now c.args.c c.as_slice.result.now c.tell.new.known work.fits on.may c.as_slice.ensures.value c.tell.ensures in
    let e : Server =
    record { store = c.args.server.now.store; set = c.start.new.self; commands = c.begin.new.commands; arrived = c.args.server.now.arrived; known = c.tell.new.known } in
    starts_on s c.args.server.now e c.args.c (request_of c.in-Work.command) c.take_sent-sent.result c.tell.new.known.settings c.new.result c.push_reserved.new.self.items _ on
    (record {
      fits = work.fits;
      may = on.may;
      store = refl;
      arrived = refl;
      known = known;
      few = retry-known s c.args.server.now.known work.fits.known;
      warned = told-warned s c.args.server.now c.args.c work.fits;
    })
    c.still_turns_are_good.ensures (ap (λ (k : Known). k.settings) known ∙ work.fits.known.settings)
    (sent_on s c.args.server.now c.args.c (request_of c.in-Work.command) c.take_sent-sent.result on (c.take_sent-sent.ensures.sent on.may.a on.may.a_is))
    c.new.ensures.value c.start.ensures
    (both_replaced c.args.server.now.commands.items c.take_sent-sent.new.commands.items c.begin.new.commands.items c.args.c on.may.a c.new.result out
    (c.begin.ensures _ out.own))
    (c.push_reserved.ensures.items ∙ ap (λ (es : List Entry). es ++ Started c.args.c ∷ []) c.requires.empty)
    refl
