-- the next stage is one of the table's, and no stage found before
use Rattle.std.proofs.Common.{◌≡◌, false, arith}
use Rattle.read_recovery.proofs.Table.{next_is_left}
use Rattle.read_recovery.proofs.trying.Trying.answer.Goals as goal

pub invariant_of-self : goal.invariant_of-self
invariant_of-self c =
    let left = next_is_left c.self.inside.retry c.self.inside.failed c.self.inside.found (rw (← c.self.view_is) at c.requires) in
    record { known = c.self.invariant.known; within = c.self.invariant.within; found = λ _. left.0 }

pub invariant_of-self-else-found : goal.invariant_of-self-else-found
invariant_of-self-else-found c =
    let left = next_is_left c.self.inside.retry c.self.inside.failed c.self.inside.found (rw (← c.self.view_is) at c.requires) in
    record { known = c.self.invariant.known; within = omega (arith, left.0); found = λ found. absurd (let no : c.self.inside.found ≡ false = left.1 in cc) }
