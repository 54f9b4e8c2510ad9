-- One operation more; and what isn't read is none.
use Rattle.std.proofs.Common.{length, ap, arith}
use Rattle.report_text.specs.Marks.{before_mark, words_in}
use Rattle.report_text.specs.Proper.{IsShown}
use Rattle.report_text.proofs.ReadRanges.{shown_range}
use Rattle.report_text.proofs.MarkLemmas.{from_mark-le}
use Rattle.report_text.proofs.ReadLemmas.{of_read, operations_start, operations_unread, operations_more, operations_read_more, operations_none, operations_all}
use Rattle.report_text.proofs.turn_reading.read_ops.Goals as goal

pub loop-behind-init : goal.loop-behind-init
loop-behind-init g c = record {
  few = omega arith;
  sound = operations_start g.O.Out.written c.args.out.now;
  found = operations_unread g.O.Out.written c.args.out.now (words_in c.args.words);
}

pub returns-in-None-clause-found : goal.returns-in-None-clause-found
returns-in-None-clause-found g c = λ shown more split.
    operations_none g.O.Out.written _ _ _ (words_in c.loop-behind.left) (words_in c.in-Some.behind) shown more (c.loop-behind.invariant.found shown more split) c.in-Some.ensures.some c.in-None.ensures.none

pub loop-behind-smaller : goal.loop-behind-smaller
loop-behind-smaller g c =
    let long = ap length c.in-Some.ensures.some in
    let left = ap length c.in-Some-next_op.ensures.rest in
    omega (arith, long, left, from_mark-le (words_in c.in-Some.behind))

pub loop-behind-preserved : goal.loop-behind-preserved
loop-behind-preserved g c = record {
  few = let long = ap length c.in-Some.ensures.some in let left = ap length c.in-Some-next_op.ensures.rest in omega (arith, c.loop-behind.invariant.few, long, left, from_mark-le (words_in c.in-Some.behind));
  sound = operations_more g.O.Out.written _ _ _ _ c.in-Some-next_op.shown c.loop-behind.invariant.sound (of_read IsShown _ c.in-Some-next_op.shown (shown_range (before_mark (words_in c.in-Some.behind))) c.in-Some-next_op.ensures.some) c.put_op.ensures;
  found = λ shown more split. operations_read_more g.O.Out.written _ _ _ _ (words_in c.loop-behind.left) (words_in c.in-Some.behind) (words_in c.in-Some-next_op.rest) c.in-Some-next_op.shown shown more
      (c.loop-behind.invariant.found shown more split) c.in-Some.ensures.some c.in-Some-next_op.ensures.some c.in-Some-next_op.ensures.rest c.put_op.ensures;
}

pub returns-clause-found : goal.returns-clause-found
returns-clause-found g c = λ shown more split.
    let all = operations_all g.O.Out.written _ _ _ (words_in c.loop-behind.left) shown more (c.loop-behind.invariant.found shown more split) c.in_default.ensures.none in
    (all.counted, all.left, all.writes)

pub returns-clause-sound : goal.returns-clause-sound
returns-clause-sound g c = let so = c.loop-behind.invariant.sound in (so.done, so.counted, so.proper, so.writes)
