-- `buyerspruce_search`: what Search promises, laid out; the result is Search's own.
use Rattle.std.proofs.Common.{refl, rules}
use Rattle.search.specs.Search.{search_answer}
use Rattle.buyerspruce.specs.Reply.{search_numbers}
use Rattle.buyerspruce.proofs.Replying.{replies, passes_on, tells}
use Rattle.buyerspruce.proofs.search_call.buyerspruce_search.Goals as goal

pub returns : goal.returns
returns c = record {
  replied = replies _ (λ h. search rules) c.tell.ensures.told (λ l asked. search (rules, tells search_numbers search_answer (λ r. search_numbers (search_answer r)) (λ r. refl)));
  result_is = passes_on c.args.reply.now (λ h. search rules) (λ h. search rules);
}
