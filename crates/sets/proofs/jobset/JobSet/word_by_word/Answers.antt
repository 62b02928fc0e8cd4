-- `word_by_word`: one call for each word. f is what the calls make of two words.
use Rattle.std.proofs.Common.{◌≡◌, ℕ, [], ◌∷◌, get_or, rules}
use Rattle.sets.specs.Words.{Words}
use Rattle.sets.proofs.Words.{at_each, word_lt}
use Rattle.sets.proofs.jobset.JobSet.word_by_word.Goals as goal

pub returns : goal.returns
returns g c = λ f says.
    let u = c.args.self.words in
    let v = c.args.other.words in
    let rs = c.operation.result ∷ c.operation-2.result ∷ c.operation-3.result ∷ c.operation-4.result ∷ [] in
    let left : Words u = search rules in
    let right : Words v = search rules in
    at_each (λ (q : ℕ). get_or rs q 0 ≡ f (get_or u q 0) (get_or v q 0))
    (says _ _ _ (word_lt left 0) (word_lt right 0) c.operation.ensures)
    (says _ _ _ (word_lt left 1) (word_lt right 1) c.operation-2.ensures)
    (says _ _ _ (word_lt left 2) (word_lt right 2) c.operation-3.ensures)
    (says _ _ _ (word_lt left 3) (word_lt right 3) c.operation-4.ensures)
