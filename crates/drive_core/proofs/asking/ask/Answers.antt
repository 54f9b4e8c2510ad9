use Rattle.std.proofs.Common.{◌∙◌, ◌++◌, ◌∷◌, [], List, ℕ, map, refl, ap}
use Rattle.block_machine.specs.declared.entry.Entry.{Entry}
use Rattle.block_machine.specs.declared.entry.Entry.TheVariants.{Asked, Aborted}
use Rattle.drive_core.specs.declared.server.Server.{Server}
use Rattle.drive_core.proofs.AskedTurns.{asked_for}
use Rattle.drive_core.proofs.asking.ask.Goals as goal

pub returns-clause-moves : goal.returns-clause-moves
returns-clause-moves c s fits =
    let d : Server = c.args.server.now in
    asked_for s c.args.server.now
    (record {
      store = d.store;
      set = c.take_out-gone.new.set;
      commands = c.leave_with_set.new.commands;
      arrived = d.arrived;
      known = record { capacity = d.known.capacity; settings = c.settings_after-server.result; waiting = c.settle_attentions.new.waiting; corrupt = d.known.corrupt; scan = d.known.scan };
    })
    c.args.initiator c.args.what c.take_out-gone.result.items fits c.stands_by_age.ensures c.take_out-gone.ensures.gone
    (record {
      store = refl;
      arrived = refl;
      set = c.take_out-gone.ensures.left;
      commands = c.leave_with_set.ensures;
      capacity = refl;
      settings = c.settings_after-server.ensures;
      waiting = c.settle_attentions.ensures.after;
      warned = c.settle_attentions.ensures.known;
      corrupt = refl;
      scan = refl;
    })
    c.still_turns_are_good.ensures c.tell_aborted.new.entries.items
    (c.tell_aborted.ensures ∙ (ap (λ (cs : List ℕ). c.push_reserved.new.self.items ++ map Aborted cs) c.as_slice.ensures.value
    ∙ ap (λ (es : List Entry). es ++ map Aborted c.take_out-gone.result.items)
    (c.push_reserved.ensures.items ∙ ap (λ (es : List Entry). es ++ Asked c.args.initiator c.args.what ∷ []) c.requires.empty)))
