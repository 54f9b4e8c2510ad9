-- the flags so far are those of the queues
use Rattle.std.proofs.Common.{◌≡◌, ◌∙◌, ap, sym, refl, length, not, nat_eq}
use Rattle.std.proofs.lemmas.List.{length-map}
use Rattle.script_runner.proofs.Places.{one_more, all_set}
use Rattle.script_runner.proofs.queues.Queues.have_something.Goals as goal

pub loop-place-init : goal.loop-place-init
loop-place-init c = refl

pub loop-place-preserved : goal.loop-place-preserved
loop-place-preserved c =
    let flag : not c.is_empty.result ≡ not (nat_eq (length c.queue-item.result.items) 0) = ap not c.is_empty.ensures ∙ ap (λ n. not (nat_eq n 0)) c.queue-item.result.ok.0 in
    let eight = c.deref-queue-items.ensures.len ∙ c.self.invariant in
    rw (flag, c.loop-place.invariant) (one_more (λ q. not (nat_eq (length q.items) 0)) c.deref-queue-items.result.now c.loop-place.place c.queue-item.result c.loop-place-test.true eight c.queue-item.is)

pub returns-clause-value : goal.returns-clause-value
returns-clause-value c =
    let eight = c.deref-queue-items.ensures.len ∙ c.self.invariant in
    rw (← c.self.view_is, ← c.deref-queue-items.ensures.value) (c.loop-place.invariant ∙ all_set (λ q. q.items) c.deref-queue-items.result.now c.loop-place.place c.loop-place-test.false eight)

pub returns-clause-eight : goal.returns-clause-eight
returns-clause-eight c = rw (← c.self.view_is) (length-map c.self.inside.queues.items (λ q. q.items) ∙ (ap length (sym c.deref-queue-items.ensures.value) ∙ c.deref-queue-items.ensures.len ∙ c.self.invariant))
