use Rattle.std.proofs.Common.{◌==◌, ◌∙◌, ap, rules, tests}
use Rattle.std.proofs.lemmas.Iterator.{YieldsList-from_slice}
use Rattle.std.proofs.lemmas.Iterator.Search.{find_from_yields_List}
use Rattle.task_set.specs.Members.{member_of}
use Rattle.task_set.proofs.set.TaskSet.member.Goals as goal

pub returns : goal.returns
returns c =
    c.copied.ensures
    ∙ find_from_yields_List (λ m. m.task.c == c.args.c) _ _ c.find.result c.find.ensures.ran (YieldsList-from_slice c.self.inside.members.items cc) (λ x b q k. search (rules, tests))
    ∙ ap (λ set. member_of set c.args.c) c.self.view_is
