-- The text that the program prints for a night file.
use Rattle.std.specs.Prelude.{◌≡◌, Bool, true, false, cond, ℕ, length, drop}
use mathlib.Core.List.{List, [], ◌∷◌, ◌++◌, map, flat_map}
use Rattle.sets.specs.Words.{jobs}
use Rattle.sets.specs.Rules.{first_given, if_passed}
use Rattle.question.specs.Question.{Question, asked, no_pins}
use Rattle.night.specs.Reading.{jobs_in, table_in, holds_in, file_rules}
use Rattle.search.specs.Search.{SearchAnswer, best, unfinished, refused, search_says, result_after}
use Rattle.sheet.specs.Text.{decimal, line, number_line}

-- the words of a sheet, in ASCII
abbrev pub jobs_word : List ℕ
jobs_word = 106 ∷ 111 ∷ 98 ∷ 115 ∷ []

abbrev pub held_word : List ℕ
held_word = 104 ∷ 101 ∷ 108 ∷ 100 ∷ []

abbrev pub answer_word : List ℕ
answer_word = 97 ∷ 110 ∷ 115 ∷ 119 ∷ 101 ∷ 114 ∷ []

abbrev pub best_word : List ℕ
best_word = 98 ∷ 101 ∷ 115 ∷ 116 ∷ []

abbrev pub unfinished_word : List ℕ
unfinished_word = 117 ∷ 110 ∷ 102 ∷ 105 ∷ 110 ∷ 105 ∷ 115 ∷ 104 ∷ 101 ∷ 100 ∷ []

abbrev pub size_word : List ℕ
size_word = 115 ∷ 105 ∷ 122 ∷ 101 ∷ []

abbrev pub visits_word : List ℕ
visits_word = 118 ∷ 105 ∷ 115 ∷ 105 ∷ 116 ∷ 115 ∷ []

abbrev pub job_word : List ℕ
job_word = 106 ∷ 111 ∷ 98 ∷ []

abbrev pub refused_word : List ℕ
refused_word = 114 ∷ 101 ∷ 102 ∷ 117 ∷ 115 ∷ 101 ∷ 100 ∷ []

-- "`best` or `unfinished`"
abbrev pub end_word : Bool → List ℕ
end_word finished = cond finished best_word unfinished_word

-- "one line for each job, ascending"
unfoldable pub job_lines : List ℕ → List ℕ
job_lines l = flat_map (number_line job_word) l

-- "The lines are: n; how many are held; `best` or `unfinished`; size of the kept set; visits; one line for each job, ascending."
unfoldable pub lines : ℕ → ℕ → Bool → ℕ → ℕ → List ℕ → List ℕ
lines n held finished size visits kept =
    number_line jobs_word n
    ++ number_line held_word held
    ++ line answer_word (end_word finished ∷ [])
    ++ number_line size_word size
    ++ number_line visits_word visits
    ++ job_lines kept

-- "A refusal prints one line: `refused`, the number, and for 5, 6 and 7 the row and column": what comes back is these
unfoldable pub refusal_line : List ℕ → List ℕ
refusal_line back = line refused_word (map decimal back)

-- the text of what Search answers, and of the set that it keeps
abbrev pub answer_text : ℕ → ℕ → SearchAnswer → List ℕ → List ℕ
answer_text n held (best size visits) kept = lines n held true size visits kept
answer_text n held (unfinished size visits) kept = lines n held false size visits kept
answer_text n held (refused back) kept = refusal_line back

-- "searches with budget 1,000,000"; the lent result comes empty
abbrev pub budget : ℕ
budget = 1000000

abbrev pub empty : List ℕ
empty = 0 ∷ 0 ∷ 0 ∷ 0 ∷ []

-- the text of a question
unfoldable pub night_text : Question → List ℕ
night_text q = answer_text q.n (length (jobs q.holds)) (search_says q budget empty) (jobs (result_after q budget empty))

-- the question that a night file holds: no job is pinned
abbrev pub question_in : List ℕ → Question
question_in file = asked (jobs_in file) (table_in file (jobs_in file)) (holds_in file (jobs_in file)) no_pins

-- what "the program .. prints" for the night file that it reads. A file that Read accepts is one that Search accepts (`accepted_file` of
-- proofs/Printing), so that the case of `answer_text` for a refusal is never met.
unfoldable pub sheet_text : List ℕ → List ℕ
sheet_text file =
    let back = first_given (file_rules file) in
    if_passed back (night_text (question_in file)) (refusal_line back)

-- "answers the length and changes no byte past it": r bytes of `out` are now the text
pub record Printed (text out out_now : List ℕ) (r : ℕ) : Type 0 where
  pub answers : r ≡ length text
  pub prints : out_now ≡ text ++ drop (length text) out
