-- `buyerspruce_colour`: what Colour promises, laid out; the classes are Colour's own.
use Rattle.std.proofs.Common.{rules}
use Rattle.colouring.specs.Colour.{colour_answer}
use Rattle.buyerspruce.specs.Reply.{number_or_refused, colour_numbers}
use Rattle.buyerspruce.proofs.Replying.{replies, passes_on, tells, of_colouring}
use Rattle.buyerspruce.proofs.colour.buyerspruce_colour.Goals as goal

pub returns : goal.returns
returns c = record {
  replied = replies _ (λ h. search rules) c.tell.ensures.told (λ l asked. search (rules, tells colour_numbers colour_answer (number_or_refused 8) of_colouring));
  classes_are = passes_on c.args.reply.now (λ h. search rules) (λ h. search rules);
}
