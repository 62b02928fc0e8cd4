-- `buyerspruce_write`: what Write promises, laid out; the output is Write's own.
use Rattle.std.proofs.Common.{rules}
use Rattle.night.specs.Answers.{night_answer}
use Rattle.buyerspruce.specs.Reply.{number_or_refused, night_numbers, write_numbers}
use Rattle.buyerspruce.proofs.Replying.{replies, passes_on, tells, of_night}
use Rattle.buyerspruce.proofs.write.buyerspruce_write.Goals as goal

pub returns : goal.returns
unfolding write_numbers
returns c = record {
  replied = replies _ (λ h. search rules) c.tell.ensures.told (λ l asked. search (rules, tells (night_numbers 7) night_answer (number_or_refused 7) (of_night 7)));
  out_is = passes_on c.args.reply.now (λ h. search rules) (λ h. search rules);
}
