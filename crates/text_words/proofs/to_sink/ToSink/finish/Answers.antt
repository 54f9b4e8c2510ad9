-- after the last offer nothing is gathered
use Rattle.text_words.proofs.Gathering.{sent_all, sent_front}
use Rattle.text_words.proofs.to_sink.ToSink.finish.Goals as goal

pub returns-then-self-clause-fault : goal.returns-then-self-clause-fault
returns-then-self-clause-fault g c start text before _ = (c.offer_gathered.ensures.written start text before).1.faults_rise c.if-self.true

pub returns-then-self-clause-front : goal.returns-then-self-clause-front
returns-then-self-clause-front g c start text before = sent_front _ _ _ _ text _ _ (c.offer_gathered.ensures.written start text before).1

pub returns-else-self-clause-all : goal.returns-else-self-clause-all
returns-else-self-clause-all g c start text before _ =
    sent_all _ _ _ _ text _ _ (c.offer_gathered.ensures.written start text before).1 c.if-self.false c.offer_gathered.ensures.empty

pub returns-else-self-clause-front : goal.returns-else-self-clause-front
returns-else-self-clause-front g c start text before = sent_front _ _ _ _ text _ _ (c.offer_gathered.ensures.written start text before).1

pub returns-else-self-clause-no_fault : goal.returns-else-self-clause-no_fault
returns-else-self-clause-no_fault g c start text before _ = (c.offer_gathered.ensures.written start text before).1.no_fault c.if-self.false
