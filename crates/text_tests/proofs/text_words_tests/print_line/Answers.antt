-- the sink at the end is the one that the place had: the name stays the same
use Rattle.std.proofs.Common.{◌≡◌, [], rules, ◌∙◌}
use Rattle.text_tests.proofs.text_words_tests.print_line.Goals as goal

pub returns-clause-all : goal.returns-clause-all
returns-clause-all g c all_is =
    let written = c.put_line.ensures c.new-out.result [] c.new-out.ensures.fresh in
    let delivered = c.finish.ensures.all c.new-out.result _ written all_is in
    let name : c.finish.new.self.sink.ghost_name ≡ c.new-out.result.sink.ghost_name = c.finish.ensures.same_reference ∙ written.0 in
    search rules

pub returns-clause-fault : goal.returns-clause-fault
returns-clause-fault g c fault_is =
    let written = c.put_line.ensures c.new-out.result [] c.new-out.ensures.fresh in
    let delivered = c.finish.ensures.fault c.new-out.result _ written fault_is in
    let name : c.finish.new.self.sink.ghost_name ≡ c.new-out.result.sink.ghost_name = c.finish.ensures.same_reference ∙ written.0 in
    search rules

pub returns-clause-front : goal.returns-clause-front
returns-clause-front g c =
    let written = c.put_line.ensures c.new-out.result [] c.new-out.ensures.fresh in
    let delivered = c.finish.ensures.front c.new-out.result _ written in
    let name : c.finish.new.self.sink.ghost_name ≡ c.new-out.result.sink.ghost_name = c.finish.ensures.same_reference ∙ written.0 in
    search rules
