use Rattle.report_text.proofs.entry.put_recovered.Goals as goal

pub returns-in-Formatting : goal.returns-in-Formatting
returns-in-Formatting g c = λ start text before. rw c.in-Formatting.is (c.put_number-in-Formatting.ensures start _ (c.put_word-in-Formatting.ensures start text before))
