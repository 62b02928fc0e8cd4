-- Demand 2, of every reply of Search that its promise allows, and of the night file.
use Rattle.std.specs.Prelude.{◌≡◌, Ok, List, [], ℕ, ◌<◌, length}
use Rattle.graphs.specs.Jobs.{Within, Part}
use Rattle.graphs.specs.Clique.{Clique}
use Rattle.graphs.specs.Pins.{FirstHolding}
use Rattle.sets.specs.Words.{jobs}
use Rattle.question.specs.Question.{Question, fitting, unheld}
use Rattle.question.specs.Start.{pinned}
use Rattle.search.specs.declared.Searched.TheVariants.{Best, Unfinished}
use Rattle.search.specs.Search.{SearchPromise}
use Rattle.night.specs.RoundTrip.{AcceptedAlways, ReadsToOne, WritesBack, ReadsBack}

-- what a finished answer is
pub record Finished (q : Question) (size : ℕ) (result_now : List ℕ) : Type 0 where
  -- "a maximum clique of the jobs not held, as graph theory defines it: all fit each other, and no larger such set exists. Among equals it is the first: at the
  -- first difference of the ascending job lists it has the lower number."; W-203: "among cliques holding every pin"
  pub first_maximum : FirstHolding ◌<◌ (fitting q) (pinned q) (unheld q) (jobs result_now)
  pub sized : size ≡ length (jobs result_now)

-- what an unfinished answer is, after so many visits
pub record StillFits (q : Question) (size visits : ℕ) (result_now : List ℕ) : Type 0 where
  -- "still a set of unheld jobs that all fit"
  pub unheld_jobs : Part (jobs result_now) (unheld q)
  pub all_fit : Clique (fitting q) (jobs result_now)
  pub sized : size ≡ length (jobs result_now)
  -- W-203: it holds every pin once a visit was made; "With budget 0 the unfinished set is empty and so lacks the pins."
  pub holds_pins : 0 < visits → Within (pinned q) (jobs result_now)
  pub empty_at_0 : visits ≡ 0 → jobs result_now ≡ []

pub record Demand2 : Type 0 where
  pub finished : {q : Question} {budget size visits : ℕ} {result result_now : List ℕ} → SearchPromise q budget result (Ok (Best size visits)) result_now → Finished q size result_now
  pub unfinished : {q : Question} {budget size visits : ℕ} {result result_now : List ℕ} → SearchPromise q budget result (Ok (Unfinished size visits)) result_now → StillFits q size visits result_now
  -- "A night file we accept reads to one table with its holds, and writing that table gives the same bytes; reading what we wrote gives both back": each a type
  -- over the promises of Read and Write, in crates/night/specs/RoundTrip.antt
  pub accepted_always : AcceptedAlways
  pub reads_to_one : ReadsToOne
  pub writes_back : WritesBack
  pub reads_back : ReadsBack
