use Rattle.std.proofs.Common.{◌≡◌, ◌∙◌, ℕ, List, Some, sym, subst}
use Rattle.disk_base.specs.declared.block.Value.TheVariants.{Data}
use Rattle.write_cache.specs.Contents.{newest}
use Rattle.sector_store.specs.Stored.{StoresAt, KeepsOthers}
use Rattle.sector_store.specs.State.{Contained}
use Rattle.sector_store.proofs.Written.{IsWritten, newest_written, after_done, after_fault, after_cut}
use Rattle.sector_store.proofs.store.Store.write_dirty.Goals as goal

pub returns-in-Done-clause-stored : goal.returns-in-Done-clause-stored
returns-in-Done-clause-stored c ready bytes dirty is =
    let written : (ys : List ℕ) → newest c.args.b c.args.self.now.cache ≡ Some ys → IsWritten c.args.self.now c.write_place.new.self c.args.b ys c.write_place.result =
    (newest_written c.args.self.now c.newest_of-block.new.self c.write_place.new.self c.args.b c.newest_of-block.result c.write_place.result
    c.newest_of-block.ensures.newest c.newest_of-block.ensures.same (record {
      answered = c.write_place.ensures.answer;
      after_is = c.write_place.ensures.after;
      done = c.write_place.ensures.done;
      fault = c.write_place.ensures.fault;
      off = c.write_place.ensures.cut;
      others = c.write_place.ensures.others;
    })) in
    subst (λ (x : Contained). StoresAt c.args.self.now.map x.platter.ops c.args.b (Data bytes)) (sym c.settle.ensures.same) ((written bytes dirty).done ready c.in-Done.is)

pub returns-in-Done-clause-others : goal.returns-in-Done-clause-others
returns-in-Done-clause-others c ready =
    let written : (ys : List ℕ) → newest c.args.b c.args.self.now.cache ≡ Some ys → IsWritten c.args.self.now c.write_place.new.self c.args.b ys c.write_place.result =
    (newest_written c.args.self.now c.newest_of-block.new.self c.write_place.new.self c.args.b c.newest_of-block.result c.write_place.result
    c.newest_of-block.ensures.newest c.newest_of-block.ensures.same (record {
      answered = c.write_place.ensures.answer;
      after_is = c.write_place.ensures.after;
      done = c.write_place.ensures.done;
      fault = c.write_place.ensures.fault;
      off = c.write_place.ensures.cut;
      others = c.write_place.ensures.others;
    })) in
    subst (λ (x : Contained). KeepsOthers c.args.self.now.map c.args.self.now.platter.ops x.platter.ops c.args.b) (sym c.settle.ensures.same)
    ((written c.newest_of-block.result c.newest_of-block.ensures.newest).others ready)

pub returns-in-Fault : goal.returns-in-Fault
returns-in-Fault c =
    let written : (ys : List ℕ) → newest c.args.b c.args.self.now.cache ≡ Some ys → IsWritten c.args.self.now c.write_place.new.self c.args.b ys c.write_place.result =
    (newest_written c.args.self.now c.newest_of-block.new.self c.write_place.new.self c.args.b c.newest_of-block.result c.write_place.result
    c.newest_of-block.ensures.newest c.newest_of-block.ensures.same (record {
      answered = c.write_place.ensures.answer;
      after_is = c.write_place.ensures.after;
      done = c.write_place.ensures.done;
      fault = c.write_place.ensures.fault;
      off = c.write_place.ensures.cut;
      others = c.write_place.ensures.others;
    })) in
    let is = written c.newest_of-block.result c.newest_of-block.ensures.newest in
    record {
      answer = sym c.in-Fault.is ∙ is.answered;
      done = λ bytes dirty ended. let never : ⊥ = cc in absurd never;
      fault = λ ended. after_fault c.args.self.now c.write_place.new.self c.args.b c.newest_of-block.result c.write_place.result is.answered is.after_is c.in-Fault.is;
      off = λ bytes dirty ended. let never : ⊥ = cc in absurd never;
      stored = λ ready bytes dirty ended. let never : ⊥ = cc in absurd never;
      unchanged = λ ready ended. is.fault ready c.in-Fault.is;
      cut = λ ready bytes dirty ended. let never : ⊥ = cc in absurd never;
      others = is.others;
    }

pub returns-in-Off : goal.returns-in-Off
returns-in-Off c =
    let written : (ys : List ℕ) → newest c.args.b c.args.self.now.cache ≡ Some ys → IsWritten c.args.self.now c.write_place.new.self c.args.b ys c.write_place.result =
    (newest_written c.args.self.now c.newest_of-block.new.self c.write_place.new.self c.args.b c.newest_of-block.result c.write_place.result
    c.newest_of-block.ensures.newest c.newest_of-block.ensures.same (record {
      answered = c.write_place.ensures.answer;
      after_is = c.write_place.ensures.after;
      done = c.write_place.ensures.done;
      fault = c.write_place.ensures.fault;
      off = c.write_place.ensures.cut;
      others = c.write_place.ensures.others;
    })) in
    let is = written c.newest_of-block.result c.newest_of-block.ensures.newest in
    record {
      answer = sym c.in-Off.is ∙ is.answered;
      done = λ bytes dirty ended. let never : ⊥ = cc in absurd never;
      fault = λ ended. let never : ⊥ = cc in absurd never;
      off = λ bytes dirty ended. let its = written bytes dirty in
          after_cut c.args.self.now c.write_place.new.self c.args.b bytes c.write_place.result its.answered its.after_is c.in-Off.is;
      stored = λ ready bytes dirty ended. let never : ⊥ = cc in absurd never;
      unchanged = λ ready ended. let never : ⊥ = cc in absurd never;
      cut = λ ready bytes dirty ended. (written bytes dirty).off ready c.in-Off.is;
      others = is.others;
    }
