use Rattle.std.proofs.Common.{◌≡◌, ◌∙◌, ℕ, List, sym, ap}
use Rattle.std.specs.Prelude.{slice_index}
use Rattle.sense_data.specs.Attentions.{Waiting}
use Rattle.cdb_reader.specs.Read.{read_of}
use Rattle.drive_core.specs.declared.accepted.Accepted.{Accepted}
use Rattle.drive_core.proofs.Placing.{absent, same_there}
use Rattle.drive_core.proofs.StartTurns.{told-accepted}
use Rattle.drive_core.proofs.starting.tell.Goals as goal

pub returns-in-Some : goal.returns-in-Some
returns-in-Some c a is_in =
    let same : c.index-commands-i.result ≡ a = same_there c.args.commands.now c.args.c c.in-Some.i c.index-commands-i.result a (sym c.place.ensures ∙ c.in-Some.is) c.index-commands-i.is is_in in
    ap (λ (w : Waiting). record c.args.known.now { waiting = w })
    (told-accepted c.args.known.now.waiting c.args.set.now c.args.c c.first_byte-code.result c.args.known.now.capacity a _ c.settle_attentions.new.waiting
    c.settle_attentions.ensures.after
    (c.first_byte-code.ensures ∙ ap (λ (bs : List ℕ). slice_index bs 0) (c.bytes.ensures.value ∙ ap (λ (x : Accepted). x.cdb) same))
    (c.read-asks.ensures.outcome ∙ ap (λ (x : Accepted). read_of x.cdb x.sent c.args.known.now.capacity) same))

pub returns-in_default : goal.returns-in_default
returns-in_default c a is_in = absent c.args.commands.now c.args.c a (sym c.place.ensures ∙ c.in_default.is) is_in
