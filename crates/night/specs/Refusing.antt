-- What Read and Write turn down, of every reply that their promises allow: document 01's "Given exactly when", by the two lists of rules.
use Rattle.std.specs.Prelude.{◌≡◌, ◌↔◌, List, ℕ, Result, Ok, Err}
use Rattle.sets.specs.declared.refusal.Refusal.{Refusal}
use Rattle.sets.specs.Refusals.{comes_back}
use Rattle.sets.specs.Rules.{Judged, AllClear}
use Rattle.night.specs.Format.{held}
use Rattle.night.specs.Versions.{Version, length_as}
use Rattle.night.specs.Reading.{jobs_in, read_rules}
use Rattle.night.specs.Writing.{write_rules}
use Rattle.night.specs.Promises.{ReadPromise, WritePromise}

pub record ReadRefuses : Type 0 where
  -- "Each refusal is given only if no earlier check in its list applies", and then it is
  pub by_the_list : {file t h : List ℕ} {reply : Result ℕ Refusal} {table_now holds_now : List ℕ} → ReadPromise file t h reply table_now holds_now
      → (f : Refusal) → (reply ≡ Err f) ↔ Judged (read_rules file t h) (comes_back f)
  -- "Every refusal leaves all lent buffers as they came."
  pub unchanged : {file t h : List ℕ} {reply : Result ℕ Refusal} {table_now holds_now : List ℕ} → ReadPromise file t h reply table_now holds_now
      → (f : Refusal) → reply ≡ Err f → (table_now ≡ t) × (holds_now ≡ h)
  -- every other file is read, and n answered
  pub no_other : {file t h : List ℕ} {reply : Result ℕ Refusal} {table_now holds_now : List ℕ} → ReadPromise file t h reply table_now holds_now
      → (reply ≡ Ok (jobs_in file)) ↔ AllClear (read_rules file t h)

pub record WriteRefuses : Type 0 where
  pub by_the_list : {v : Version} {n : ℕ} {table holds out : List ℕ} {reply : Result ℕ Refusal} {out_now : List ℕ} → WritePromise v n table holds out reply out_now
      → (f : Refusal) → (reply ≡ Err f) ↔ Judged (write_rules v n table holds out) (comes_back f)
  pub unchanged : {v : Version} {n : ℕ} {table holds out : List ℕ} {reply : Result ℕ Refusal} {out_now : List ℕ} → WritePromise v n table holds out reply out_now
      → (f : Refusal) → reply ≡ Err f → out_now ≡ out
  -- every other table is written, and the length answered
  pub no_other : {v : Version} {n : ℕ} {table holds out : List ℕ} {reply : Result ℕ Refusal} {out_now : List ℕ} → WritePromise v n table holds out reply out_now
      → (reply ≡ Ok (length_as v n (held holds))) ↔ AllClear (write_rules v n table holds out)
