-- The answers of Read and Write in the paper's values.
use Rattle.std.specs.Prelude.{List, ℕ, Result, Ok, Err}
use Rattle.sets.specs.declared.refusal.Refusal.{Refusal}
use Rattle.sets.specs.Refusals.{comes_back}
use Rattle.sets.specs.Rules.{first_given, if_passed}
use Rattle.night.specs.Format.{held}
use Rattle.night.specs.Versions.{Version, length_as}
use Rattle.night.specs.Reading.{jobs_in, read_rules}
use Rattle.night.specs.Writing.{write_rules}

-- "and answers n"; "answers the length"; or turned down, with what comes back
pub data NightAnswer : Type 0 where
  answered : ℕ → NightAnswer
  turned_down : List ℕ → NightAnswer

-- what a reply comes to: both calls answer a number, or turn down
unfoldable pub night_answer : Result ℕ Refusal → NightAnswer
night_answer (Ok n) = answered n
night_answer (Err f) = turned_down (comes_back f)

-- of Read, whose number is n, and of Write, whose number is the length
abbrev pub read_answer : Result ℕ Refusal → NightAnswer
read_answer = night_answer

abbrev pub write_answer : Result ℕ Refusal → NightAnswer
write_answer = night_answer

-- "and answers n"
unfoldable pub read_says : List ℕ → List ℕ → List ℕ → NightAnswer
read_says file table holds =
    let back = first_given (read_rules file table holds) in
    if_passed back (answered (jobs_in file)) (turned_down back)

-- "Every call that writes bytes answers the length"
unfoldable pub write_says : Version → ℕ → List ℕ → List ℕ → List ℕ → NightAnswer
write_says v n table holds out =
    let back = first_given (write_rules v n table holds out) in
    if_passed back (answered (length_as v n (held holds))) (turned_down back)
