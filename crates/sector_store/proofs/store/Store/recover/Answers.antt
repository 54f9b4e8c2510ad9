use Rattle.std.proofs.Common.{◌≡◌, ◌∙◌, false, refl, ap, subst, sym}
use Rattle.platter_model.specs.Sector.{meant}
use Rattle.geometry_map.specs.declared.size.Size.{Size}
use Rattle.read_recovery.specs.Stages.{stages_of}
use Rattle.map_generations.specs.Recovery.{reads_of, counted, IsTaken, IsCorrupt}
use Rattle.sector_store.specs.State.{Contained}
use Rattle.sector_store.specs.Recovering.{RaisesNumbers}
use Rattle.sector_store.proofs.Recovering.{silent, room_left, recovers_take, recovers_corrupt, reserved_take, numbers_take, numbers_stay}
use Rattle.sector_store.proofs.store.Store.recover.Goals as goal

pub take-requires-clause-room : goal.take-requires-clause-room
take-requires-clause-room c =
    room_left c.args.self.now.platter c.read_anew-reads.new.self.platter (reads_of c.read_anew-reads.result) c.read_anew-reads.ensures.read.read c.requires.room

pub returns-in-Take-clause-read : goal.returns-in-Take-clause-read
returns-in-Take-clause-read c =
    recovers_take c.args.self.now c.read_anew-reads.new.self c.take.new.self (reads_of c.read_anew-reads.result) c.in-Take.map c.take.result
    c.read_anew-reads.ensures.read
    (subst (λ (size : Size). IsTaken size (counted (reads_of c.read_anew-reads.result)) c.in-Take.map)
    (c.size.ensures ∙ ap (λ (s : Contained). s.map.size) c.self.view_is) ((c.in-Take.ensures.takes c.in-Take.map).0 refl))
    c.take.ensures

pub returns-in-Take-clause-reserved : goal.returns-in-Take-clause-reserved
returns-in-Take-clause-reserved c =
    reserved_take c.args.self.now c.read_anew-reads.new.self c.take.new.self (reads_of c.read_anew-reads.result) c.read_anew-reads.ensures.read c.take.ensures.reserved

pub returns-in-Take-clause-numbers : goal.returns-in-Take-clause-numbers
returns-in-Take-clause-numbers c =
    numbers_take c.args.self.now c.read_anew-reads.new.self c.take.new.self (reads_of c.read_anew-reads.result) c.read_anew-reads.ensures.read c.take.ensures.numbers

pub returns-in-Corrupt-clause-read : goal.returns-in-Corrupt-clause-read
returns-in-Corrupt-clause-read c =
    recovers_corrupt c.args.self.now c.read_anew-reads.new.self _ (reads_of c.read_anew-reads.result) c.in-Corrupt.slot c.read_anew-reads.ensures.read
    (subst (λ (size : Size). IsCorrupt size (counted (reads_of c.read_anew-reads.result)) c.in-Corrupt.slot)
    (c.size.ensures ∙ ap (λ (s : Contained). s.map.size) c.self.view_is) ((c.in-Corrupt.ensures.corrupt c.in-Corrupt.slot).0 refl))
    (ap (λ (x : Contained). record x { ready = false }) c.self.view_is)

pub returns-in-Corrupt-clause-reserved : goal.returns-in-Corrupt-clause-reserved
returns-in-Corrupt-clause-reserved c p past =
    ap (λ (s : Contained). meant p s.platter.ops) c.self.view_is
    ∙ (silent c.args.self.now.platter c.read_anew-reads.new.self.platter 16 (stages_of 5) (reads_of c.read_anew-reads.result) c.read_anew-reads.ensures.read.read).means p

pub returns-in-Corrupt-clause-numbers : goal.returns-in-Corrupt-clause-numbers
returns-in-Corrupt-clause-numbers c =
    subst (λ (x : Contained). RaisesNumbers c.args.self.now x) (sym c.self.view_is)
    (numbers_take c.args.self.now c.read_anew-reads.new.self c.read_anew-reads.new.self (reads_of c.read_anew-reads.result) c.read_anew-reads.ensures.read
    (numbers_stay c.read_anew-reads.new.self))
