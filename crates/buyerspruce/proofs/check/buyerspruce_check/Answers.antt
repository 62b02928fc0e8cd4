-- `buyerspruce_check`: what Check promises, laid out.
use Rattle.std.proofs.Common.{refl, rules}
use Rattle.sets.specs.Check.{check_answer}
use Rattle.buyerspruce.specs.Reply.{check_numbers}
use Rattle.buyerspruce.proofs.Replying.{replies, tells}
use Rattle.buyerspruce.proofs.check.buyerspruce_check.Goals as goal

pub returns : goal.returns
returns c = record { replied = replies _ (λ h. search rules) c.tell.ensures.told (λ l asked. search (rules, tells check_numbers check_answer (λ r. check_numbers (check_answer r)) (λ r. refl))) }
