use Rattle.platter_model.proofs.Beside.{flaw_link, meant_link}
use Rattle.platter_model.proofs.kept.link_of.Goals as goal

pub returns-in-Torn : goal.returns-in-Torn
returns-in-Torn c = rw c.in-Torn.is (flaw_link _ _ _ _ (rw c.in-Torn.is at c.requires.within).0 c.index.ensures c.requires.kept)

pub returns-in-Damaged : goal.returns-in-Damaged
returns-in-Damaged c = rw c.in-Damaged.is (flaw_link _ _ _ _ (rw c.in-Damaged.is at c.requires.within).0 c.index-in-Damaged.ensures c.requires.kept)

pub returns-in-Fetched : goal.returns-in-Fetched
returns-in-Fetched c = rw c.in-Fetched.is (meant_link _ _ _ _ (rw c.in-Fetched.is at c.requires.within) c.index-in-Fetched.ensures c.requires.kept)
