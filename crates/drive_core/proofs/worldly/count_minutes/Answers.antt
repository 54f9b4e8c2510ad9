use Rattle.std.proofs.Common.{◌≡◌, ◌∙◌, ℕ, ◌+◌, List, [], ◌∷◌, ◌++◌, refl, ap}
use Rattle.std.specs.Prelude.{min}
use Rattle.block_machine.specs.declared.entry.Entry.{Entry}
use Rattle.block_machine.specs.declared.entry.Entry.TheVariants.{Tick}
use Rattle.block_machine.specs.Scan.{minutes_at_most}
use Rattle.history_replay.specs.declared.known.Known.{Known}
use Rattle.drive_core.specs.declared.server.Server.{Server}
use Rattle.drive_core.proofs.WorldTurns.{later, minutes_pass}
use Rattle.drive_core.proofs.worldly.count_minutes.Goals as goal

pub returns : goal.returns
returns c =
    let d : Server = c.args.server.now in
    let k : Known = c.args.server.now.known in
    let made : Known = record k { scan = record k.scan { minutes = c.saturating_add.result } } in
    let counted : c.saturating_add.result ≡ min (k.scan.minutes + c.args.n) minutes_at_most =
    c.saturating_add.ensures ∙ ap (λ (m : ℕ). min (k.scan.minutes + m) minutes_at_most) c.from.ensures in
    let known_is : made ≡ later k c.args.n = λ i. record k { scan = record k.scan { minutes = counted i } } in
    let told : c.push_reserved.new.self.items ≡ Tick c.args.n ∷ [] =
    c.push_reserved.ensures.items ∙ ap (λ (es : List Entry). es ++ Tick c.args.n ∷ []) c.requires.empty in
    record {
      moves = λ s fits. minutes_pass s d (record { store = d.store; set = d.set; commands = d.commands; arrived = d.arrived; known = made })
          c.args.n c.push_reserved.new.self.items c.still_turns_are_good.ensures fits refl refl refl refl known_is told;
    }
