use Rattle.std.proofs.Common.{refl}
use Rattle.platter_model.proofs.Sectors.{nothing_moves}
use Rattle.platter_model.proofs.kept.touch.Goals as goal

pub returns-in-Wrote-clause-kept : goal.returns-in-Wrote-clause-kept
returns-in-Wrote-clause-kept c = rw c.in-Wrote.is c.write.ensures.kept

pub returns-in-Torn-clause-kept : goal.returns-in-Torn-clause-kept
returns-in-Torn-clause-kept c = rw c.in-Torn.is c.tear.ensures.kept

pub returns-in-Damaged-clause-kept : goal.returns-in-Damaged-clause-kept
returns-in-Damaged-clause-kept c = rw c.in-Damaged.is c.blemish.ensures.kept

pub returns-in-Faulty-clause-kept : goal.returns-in-Faulty-clause-kept
returns-in-Faulty-clause-kept c = rw c.in-Faulty.is c.fail.ensures.kept

pub returns-in-WriteFailed-clause-kept : goal.returns-in-WriteFailed-clause-kept
returns-in-WriteFailed-clause-kept c = rw c.in-WriteFailed.is (nothing_moves _ _ _ (λ p. (refl, refl, refl, (λ b. refl), (λ m. refl))) c.requires.kept)

pub returns-in-Fetched-clause-kept : goal.returns-in-Fetched-clause-kept
returns-in-Fetched-clause-kept c = rw c.in-Fetched.is (nothing_moves _ _ _ (λ p. (refl, refl, refl, (λ b. refl), (λ m. refl))) c.requires.kept)

pub returns-in-Tried-clause-kept : goal.returns-in-Tried-clause-kept
returns-in-Tried-clause-kept c = rw c.in-Tried.is (nothing_moves _ _ _ (λ p. (refl, refl, refl, (λ b. refl), (λ m. refl))) c.requires.kept)

pub returns-in-Cut-clause-kept : goal.returns-in-Cut-clause-kept
returns-in-Cut-clause-kept c = rw c.in-Cut.is (nothing_moves _ _ _ (λ p. (refl, refl, refl, (λ b. refl), (λ m. refl))) c.requires.kept)

pub returns-in-Power-clause-kept : goal.returns-in-Power-clause-kept
returns-in-Power-clause-kept c = rw c.in-Power.is (nothing_moves _ _ _ (λ p. (refl, refl, refl, (λ b. refl), (λ m. refl))) c.requires.kept)
