-- Check a set: what it answers, and its promise.
use Rattle.std.specs.Prelude.{◌≡◌, List, [], ◌∷◌, ℕ, length, Result, Ok, Err}
use Rattle.sets.specs.declared.check.Checked.{Checked}
use Rattle.sets.specs.declared.check.Checked.TheVariants.{Clique, Misfit}
use Rattle.sets.specs.declared.refusal.Refusal.{Refusal}
use Rattle.sets.specs.Words.{jobs}
use Rattle.sets.specs.Places.{first_place}
use Rattle.sets.specs.Refusals.{comes_back}
use Rattle.sets.specs.Rules.{Rule, first_given, if_passed}
use Rattle.sets.specs.Tables.{no1, no2, no4, no5, no6, no7, misfit}

-- the answer in the paper's words: "yes with the size"; "the first pair that doesn't fit"; refused, with what comes back
pub data CheckAnswer : Type 0 where
  yes : ℕ → CheckAnswer
  pair : List ℕ → CheckAnswer
  refused : List ℕ → CheckAnswer

-- the paper's values for each case of the code's answer
unfoldable pub check_answer : Result Checked Refusal → CheckAnswer
check_answer (Ok (Clique size)) = yes size
check_answer (Ok (Misfit a b)) = pair (a ∷ b ∷ [])
check_answer (Err f) = refused (comes_back f)

-- "Check: 1, 2, 4, 5, 6, 7."
unfoldable pub check_rules : ℕ → List ℕ → List ℕ → List Rule
check_rules n table set = no1 n ∷ no2 n table ∷ no4 set ∷ no5 n table set ∷ no6 n table ∷ no7 n table ∷ []

-- "yes with the size exactly if the set is a clique; otherwise the first pair that doesn't fit": yes, where no pair was found
abbrev pub yes_or_pair : List ℕ → ℕ → CheckAnswer
yes_or_pair [] size = yes size
yes_or_pair (a ∷ b) size = pair (a ∷ b)

-- what Check answers: "(lowest first job, then lowest second job)"
unfoldable pub check_says : ℕ → List ℕ → List ℕ → CheckAnswer
check_says n table set =
    let back = first_given (check_rules n table set) in
    if_passed back (yes_or_pair (first_place (misfit table set) n n) (length (jobs set))) (refused back)

-- the promise of Check
pub record CheckPromise (n : ℕ) (table set : List ℕ) (reply : Result Checked Refusal) : Type 0 where
  pub reply_is : check_answer reply ≡ check_says n table set
