-- `buyerspruce_read`: what Read promises, laid out; table and holds are Read's own.
use Rattle.std.proofs.Common.{rules}
use Rattle.night.specs.Answers.{night_answer}
use Rattle.buyerspruce.specs.Reply.{number_or_refused, night_numbers, read_numbers}
use Rattle.buyerspruce.proofs.Replying.{replies, passes_on, tells, of_night}
use Rattle.buyerspruce.proofs.read.buyerspruce_read.Goals as goal

pub returns : goal.returns
unfolding read_numbers
returns c = record {
  replied = replies _ (λ h. search rules) c.tell.ensures.told (λ l asked. search (rules, tells (night_numbers 6) night_answer (number_or_refused 6) (of_night 6)));
  table_is = passes_on c.args.reply.now (λ h. search rules) (λ h. search rules);
  holds_is = passes_on c.args.reply.now (λ h. search rules) (λ h. search rules);
}
