-- Demand 3: "For each accepted table and hold list the published walk has one number of visits, N": `visits_for q`. Of every reply that the promise of Search allows,
-- for an accepted question and a result of four words.
use Rattle.std.specs.Prelude.{◌≡◌, Result, Ok, List, [], ℕ, ◌-◌, ◌*◌, ◌≤◌, ◌<◌, length, take}
use Rattle.graphs.specs.Clique.{clique_count}
use Rattle.graphs.specs.Walk.{FirstLargest}
use Rattle.sets.specs.declared.refusal.Refusal.{Refusal}
use Rattle.sets.specs.Words.{jobs}
use Rattle.question.specs.Question.{Question, fitting, Answerable}
use Rattle.question.specs.Start.{candidates}
use Rattle.search.specs.declared.Searched.{Searched}
use Rattle.search.specs.declared.Searched.TheVariants.{Best, Unfinished}
use Rattle.search.specs.Search.{published_walk, search_visits, visits_for, Searchable, SearchPromise}

-- what is said and held after the visits that a budget allows
pub record WithinBudget (q : Question) (budget : ℕ) (reply : Result Searched Refusal) (result_now : List ℕ) : Type 0 where
  -- "A budget of N or more always gives the same finished answer and reports N."
  pub enough : visits_for q ≤ budget → reply ≡ Ok (Best (length (jobs result_now)) (visits_for q))
  pub same_answer : visits_for q ≤ budget → jobs result_now ≡ (published_walk q).kept
  -- "A smaller one says unfinished, reports exactly the budget"
  pub smaller : budget < visits_for q → reply ≡ Ok (Unfinished (length (jobs result_now)) budget)
  -- "and holds the first met of the largest sets in those visits (the empty set at 0)"
  pub first_met : 0 < budget → FirstLargest (take budget (search_visits q)) (jobs result_now)
  pub empty_at_0 : budget ≡ 0 → jobs result_now ≡ []

pub record Demand3 : Type 0 where
  pub within_budget : {q : Question} {budget : ℕ} {result : List ℕ} {reply : Result Searched Refusal} {result_now : List ℕ} → Searchable q result → SearchPromise q budget result reply result_now
      → WithinBudget q budget reply result_now
  -- "always the same": for any two such budgets, whatever was in the two results before
  pub always_the_same : {q : Question} {a b : ℕ} {result result' : List ℕ} {reply reply' : Result Searched Refusal} {result_now result_now' : List ℕ} → Searchable q result → Searchable q result'
      → SearchPromise q a result reply result_now → SearchPromise q b result' reply' result_now' → visits_for q ≤ a → visits_for q ≤ b → (reply ≡ reply') × (result_now ≡ result_now')
  -- "so more budget never gives a smaller set"
  pub never_smaller : {q : Question} {a b : ℕ} {result result' : List ℕ} {reply reply' : Result Searched Refusal} {result_now result_now' : List ℕ} → Searchable q result → Searchable q result'
      → SearchPromise q a result reply result_now → SearchPromise q b result' reply' result_now' → a ≤ b → length (jobs result_now) ≤ length (jobs result_now')
  -- "N is at most 2q - 1"; W-203: "q in demand 3 counts cliques inside the starting P", "the empty one included"
  pub at_most : {q : Question} → Answerable q → visits_for q ≤ 2 * clique_count (fitting q) (candidates q) - 1
