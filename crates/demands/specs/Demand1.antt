-- Demand 1: "The planner ends on every table, hold list, budget and lent result set, and the caller need not have checked any of them."
-- The contract of `search::search` has no `requires`, and its proof says that it returns. What it promises then says this of the reply, and of what the lent
-- result holds afterwards.
use Rattle.std.specs.Prelude.{◌≡◌, Bool, ◌↔◌, Result, Err, List, ◌++◌, ℕ, ◌+◌, ◌*◌, ◌≤◌, ◌<◌, length}
use Rattle.sets.specs.declared.refusal.Refusal.{Refusal}
use Rattle.sets.specs.declared.refusal.Refusal.TheVariants.{Alone, At}
use Rattle.sets.specs.declared.refusal.Fault.TheVariants.{TooManyJobs, TableLength, HoldLength, SetLength, BeyondJobs, SelfPair, OneWay, PinLength, PinHeld, PinsApart}
use Rattle.sets.specs.declared.places.Place.{Place}
use Rattle.sets.specs.Refusals.{comes_back}
use Rattle.sets.specs.Places.{Found, Nowhere}
use Rattle.sets.specs.Rules.{Judged}
use Rattle.sets.specs.Tables.{beyond, itself, one_way, misfit}
use Rattle.question.specs.Pins.{pin_held}
use Rattle.question.specs.Question.{Question}
use Rattle.search.specs.declared.Searched.{Searched}
use Rattle.search.specs.Search.{search_rules, Searchable, SearchPromise}

-- n is at most 256 and no length is wrong
pub record Sized (q : Question) (result : List ℕ) : Type 0 where
  pub few : q.n ≤ 256
  pub table_words : length q.table ≡ 4 * q.n
  pub hold_words : length q.holds ≡ 4
  pub result_words : length result ≡ 4
  pub pin_words : length q.pins ≡ 4

-- a mark outside the jobs: in a row of the table or, as row n, in the holds, or, as row n+1, in the pins
abbrev pub outside_jobs : Question → ℕ → ℕ → Bool
outside_jobs q = beyond q.n q.table (q.holds ++ q.pins)

abbrev pub place : ℕ → ℕ → Place
place r c = record { row = r; column = c }

-- no place at which number 5, 6 or 7 is given
pub record WellMarked (q : Question) : Type 0 where
  pub none_outside : Nowhere (outside_jobs q) (q.n + 2) 256
  pub none_itself : Nowhere (itself q.table) q.n q.n
  pub none_one_way : Nowhere (one_way q.table) q.n q.n

-- each number comes back exactly when its row of document 01's table, or W-203, says so, and none before it does
pub record TurnedDown (q : Question) (result : List ℕ) (reply : Result Searched Refusal) : Type 0 where
  -- "More than 256 jobs"
  pub too_many_jobs : (reply ≡ Err (Alone TooManyJobs)) ↔ (256 < q.n)
  -- "a wrong length": of the table, of the holds, of the result
  pub table_length : (reply ≡ Err (Alone TableLength)) ↔ ((q.n ≤ 256) × (length q.table ≡ 4 * q.n → ⊥))
  pub hold_length : (reply ≡ Err (Alone HoldLength)) ↔ ((q.n ≤ 256) × (length q.table ≡ 4 * q.n) × (length q.holds ≡ 4 → ⊥))
  pub result_length : (reply ≡ Err (Alone SetLength)) ↔ ((q.n ≤ 256) × (length q.table ≡ 4 * q.n) × (length q.holds ≡ 4) × (length result ≡ 4 → ⊥))
  -- of the pins: "40 pin words not 4 (after 4)"
  pub pin_length : (reply ≡ Err (Alone PinLength))
      ↔ ((q.n ≤ 256) × (length q.table ≡ 4 * q.n) × (length q.holds ≡ 4) × (length result ≡ 4) × (length q.pins ≡ 4 → ⊥))
  -- "a mark outside the jobs", with its place
  pub outside_the_jobs : (r c : ℕ) → (reply ≡ Err (At BeyondJobs (place r c))) ↔ (Sized q result × Found (outside_jobs q) (q.n + 2) 256 r c)
  -- "a job paired with itself", with its place
  pub with_itself : (r c : ℕ) → (reply ≡ Err (At SelfPair (place r c))) ↔ (Sized q result × Nowhere (outside_jobs q) (q.n + 2) 256 × Found (itself q.table) q.n q.n r c)
  -- "a pair named one way only", with its place
  pub one_way_only : (r c : ℕ) → (reply ≡ Err (At OneWay (place r c)))
      ↔ (Sized q result × Nowhere (outside_jobs q) (q.n + 2) 256 × Nowhere (itself q.table) q.n q.n × Found (one_way q.table) q.n q.n r c)
  -- "41 a pin held", with "row n+1 and the job"
  pub held_pin : (r c : ℕ) → (reply ≡ Err (At PinHeld (place r c))) ↔ (Sized q result × WellMarked q × Found (pin_held q.n q.holds q.pins) (q.n + 2) 256 r c)
  -- "42 two pins that don't fit", with "the two jobs"
  pub pins_apart : (a b : ℕ) → (reply ≡ Err (At PinsApart (place a b)))
      ↔ (Sized q result × WellMarked q × Nowhere (pin_held q.n q.holds q.pins) (q.n + 2) 256 × Found (misfit q.table q.pins) q.n q.n a b)

-- of every reply that the promise allows
pub record Demand1 : Type 0 where
  -- "is turned down with its number, and its place where there is one"
  pub turned_down : {q : Question} {budget : ℕ} {result : List ℕ} {reply : Result Searched Refusal} {result_now : List ℕ} → SearchPromise q budget result reply result_now → TurnedDown q result reply
  -- the same by the papers' list, so that no other number comes back
  pub by_the_list : {q : Question} {budget : ℕ} {result : List ℕ} {reply : Result Searched Refusal} {result_now : List ℕ} → SearchPromise q budget result reply result_now
      → (f : Refusal) → (reply ≡ Err f) ↔ Judged (search_rules q result) (comes_back f)
  -- "A refusal leaves the result set unchanged."
  pub unchanged : {q : Question} {budget : ℕ} {result : List ℕ} {reply : Result Searched Refusal} {result_now : List ℕ} → SearchPromise q budget result reply result_now
      → (f : Refusal) → reply ≡ Err f → result_now ≡ result
  -- "No other search is turned down."
  pub no_other : {q : Question} {budget : ℕ} {result : List ℕ} {reply : Result Searched Refusal} {result_now : List ℕ} → SearchPromise q budget result reply result_now
      → ((f : Refusal) → reply ≡ Err f → ⊥) ↔ Searchable q result
