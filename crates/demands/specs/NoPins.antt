-- W-203: "no pins gives the old walk": document 01's refusals, walk and answers, where four zero words are lent for the pins.
use Rattle.std.specs.Prelude.{◌≡◌, ◌↔◌, List, [], ◌∷◌, ℕ, ◌≤◌, ◌<◌}
use Rattle.graphs.specs.First.{FirstMaximum}
use Rattle.graphs.specs.Pins.{FirstHolding}
use Rattle.graphs.specs.Walk.{paper_tests, Walked, walk_of, outcome}
use Rattle.sets.specs.Words.{words}
use Rattle.sets.specs.Rules.{Rule, first_given, if_passed}
use Rattle.sets.specs.Tables.{no1, no2, no3, no4, no5, no6, no7}
use Rattle.question.specs.Question.{Question, no_pins, fitting, unheld, ask_rules}
use Rattle.question.specs.Start.{pinned, candidates}
use Rattle.search.specs.Search.{SearchAnswer, refused, published_walk, said_of, search_says, result_after}

-- "1, 2, 3, 4, 5, 6, 7."
abbrev pub old_rules : Question → Rule → List Rule
old_rules q lent = no1 q.n ∷ no2 q.n q.table ∷ no3 q.holds ∷ lent ∷ no5 q.n q.table q.holds ∷ no6 q.n q.table ∷ no7 q.n q.table ∷ []

-- "At first C, X and K are empty and P is all unheld jobs."
abbrev pub old_walk : Question → Walked
old_walk q = walk_of (fitting q) (paper_tests (fitting q)) [] (unheld q)

-- what Search answered and left
unfoldable pub old_says : Question → ℕ → List ℕ → SearchAnswer
old_says q budget result =
    let back = first_given (old_rules q (no4 result)) in
    if_passed back (said_of (outcome (old_walk q).visits budget)) (refused back)

unfoldable pub old_result : Question → ℕ → List ℕ → List ℕ
old_result q budget result = if_passed (first_given (old_rules q (no4 result))) (words (outcome (old_walk q).visits budget).best) result

-- of a question without pins
pub record OldAnswers (q : Question) : Type 0 where
  pub chosen : pinned q ≡ []
  pub candidates_are : candidates q ≡ unheld q
  -- the same is refused, by Search and by Colour
  pub refusals : (lent : Rule) → first_given (ask_rules q lent) ≡ first_given (old_rules q lent)
  -- "the old walk": its visits and what it keeps
  pub walk : q.n ≤ 256 → published_walk q ≡ old_walk q
  -- the same answer and the same result, whatever is lent
  pub says : (budget : ℕ) (result : List ℕ) → search_says q budget result ≡ old_says q budget result
  pub leaves : (budget : ℕ) (result : List ℕ) → result_after q budget result ≡ old_result q budget result
  -- and demand 2 reads as it did
  pub first_as_before : (s : List ℕ) → FirstHolding ◌<◌ (fitting q) (pinned q) (unheld q) s ↔ FirstMaximum ◌<◌ (fitting q) (unheld q) s

unfoldable pub NoPins : Type 0
NoPins = (q : Question) → q.pins ≡ no_pins → OldAnswers q
