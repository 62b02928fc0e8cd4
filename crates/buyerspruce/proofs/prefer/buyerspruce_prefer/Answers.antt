-- `buyerspruce_prefer`: what Prefer promises, laid out.
use Rattle.std.proofs.Common.{◌≡◌, ap, ℕ, [], ◌∷◌, List, rules}
use Rattle.sets.specs.Prefer.{preferred}
use Rattle.buyerspruce.specs.declared.prefer.Choice.{Choice}
use Rattle.buyerspruce.specs.Reply.{choice_number, prefer_numbers}
use Rattle.buyerspruce.proofs.Replying.{replies}
use Rattle.buyerspruce.proofs.prefer.buyerspruce_prefer.Goals as goal

told_choice : (s t : List ℕ) (choice : Choice) → choice_number choice ≡ preferred s t 1 2 0 → 5 ∷ choice_number choice ∷ 0 ∷ 0 ∷ [] ≡ prefer_numbers s t
unfolding prefer_numbers
told_choice s t choice e = ap (λ k. 5 ∷ k ∷ 0 ∷ 0 ∷ []) e

pub returns : goal.returns
returns c = record { replied = replies _ (λ h. search rules) c.tell.ensures.told (λ l asked. search (rules, told_choice)) }
