-- The others before this one were counted.
use Rattle.history_replay.proofs.Others.{Counts}
use Rattle.history_replay.proofs.deed.count_others.Given as goal

abbrev pub invariant-loop-a : goal.invariant-loop-a
invariant-loop-a l = Counts l.b l.dirty_then l.a-index l.others
