-- The lines of a sheet that the code holds as one value, and the text of what a night came to.
use Rattle.std.specs.Prelude.{List, [], ◌∷◌, ◌++◌, ℕ, Result, Ok, Err}
use Rattle.sets.specs.declared.refusal.Refusal.{Refusal}
use Rattle.sets.specs.Refusals.{comes_back}
use Rattle.sets.specs.Words.{jobs}
use Rattle.search.specs.declared.Searched.{Searched}
use Rattle.search.specs.declared.Searched.TheVariants.{Best, Unfinished}
use Rattle.sheet.specs.declared.lines.Sheet.{Sheet}
use Rattle.sheet.specs.Text.{line, number_line}
use Rattle.sheet.specs.Sheet.{jobs_word, held_word, answer_word, best_word, unfinished_word, size_word, visits_word, job_lines, refusal_line}

-- the lines on the search
unfoldable pub end_lines : List ℕ → ℕ → ℕ → List ℕ
end_lines word size visits = line answer_word (word ∷ []) ++ (number_line size_word size ++ number_line visits_word visits)

abbrev pub searched_lines : Searched → List ℕ
searched_lines (Best size visits) = end_lines best_word size visits
searched_lines (Unfinished size visits) = end_lines unfinished_word size visits

-- all lines: these are `lines` (`searched_is` of proofs/Printing)
abbrev pub sheet_lines : Sheet → List ℕ
sheet_lines s = number_line jobs_word s.n ++ (number_line held_word s.held ++ (searched_lines s.searched ++ job_lines (jobs s.kept.words)))

-- the text of a sheet, or of a refusal
abbrev pub told_text : Result Sheet Refusal → List ℕ
told_text (Ok s) = sheet_lines s
told_text (Err f) = refusal_line (comes_back f)
