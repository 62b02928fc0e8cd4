-- W-207: "The foreman asks why a run can't be larger." Of what Search and Colour reply to one question.
use Rattle.std.specs.Prelude.{◌≡◌, ◌⊎◌, Ok, List, ℕ, ◌+◌, ◌≤◌, length, get_or}
use Rattle.graphs.specs.Jobs.{◌∈◌}
use Rattle.graphs.specs.Pins.{MaximumHolding}
use Rattle.sets.specs.Words.{jobs}
use Rattle.question.specs.Question.{Question, fitting, unheld}
use Rattle.question.specs.Start.{pinned, candidates}
use Rattle.search.specs.declared.Searched.TheVariants.{Best, Unfinished}
use Rattle.search.specs.Search.{SearchPromise}
use Rattle.colouring.specs.Colour.{ColourPromise}

-- beside the pins the run has at most one job of each of the k classes, and so no more than k jobs
pub record Explained (q : Question) (k : ℕ) (classes run : List ℕ) : Type 0 where
  pub pin_or_class : (a : ℕ) → a ∈ run → (a ∈ pinned q) ⊎ (a ∈ candidates q)
  pub one_of_each : (a b : ℕ) → a ∈ run → b ∈ run → a ∈ candidates q → get_or classes a 65535 ≡ get_or classes b 65535 → a ≡ b
  pub none_larger : length run ≤ length (pinned q) + k

pub record Foreman : Type 0 where
  pub finished : {q : Question} {budget size visits k : ℕ} {result result_now lent classes_now : List ℕ} → SearchPromise q budget result (Ok (Best size visits)) result_now
      → ColourPromise q lent (Ok k) classes_now → Explained q k classes_now (jobs result_now)
  pub unfinished : {q : Question} {budget size visits k : ℕ} {result result_now lent classes_now : List ℕ} → SearchPromise q budget result (Ok (Unfinished size visits)) result_now
      → ColourPromise q lent (Ok k) classes_now → Explained q k classes_now (jobs result_now)
  -- an unfinished run of the pins and k jobs is a largest one all the same
  pub none_left : {q : Question} {budget size visits k : ℕ} {result result_now lent classes_now : List ℕ} → SearchPromise q budget result (Ok (Unfinished size visits)) result_now
      → ColourPromise q lent (Ok k) classes_now → size ≡ length (pinned q) + k → MaximumHolding (fitting q) (pinned q) (unheld q) (jobs result_now)
