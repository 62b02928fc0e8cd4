-- Document 01's "Small tables, by hand": the items marked *, in one list.
use Rattle.std.specs.Prelude.{◌≡◌, List, [], ◌∷◌, ℕ, ◌*◌, ◌-◌}
use Rattle.graphs.specs.Clique.{clique_count}
use Rattle.graphs.specs.Jobs.{up_to}
use Rattle.graphs.specs.Colouring.{colours}
use Rattle.graphs.specs.Matching.{matched, matching_bound}
use Rattle.sets.specs.Words.{words, fits}
use Rattle.question.specs.Question.{Question, asked, no_pins, unheld}
use Rattle.search.specs.Search.{SearchAnswer, best, unfinished, refused, search_says, result_after}

-- a set of jobs below 64, and a table of such rows, as words
abbrev pub set : ℕ → List ℕ
set w = w ∷ 0 ∷ 0 ∷ 0 ∷ []

unfoldable pub table : List ℕ → List ℕ
table [] = []
table (w ∷ rows) = w ∷ 0 ∷ 0 ∷ 0 ∷ table rows

-- n jobs below 64 with these rows and holds, and no pins
abbrev pub small : ℕ → List ℕ → ℕ → Question
small n rows held = asked n (table rows) (set held) no_pins

-- the words in the lent result before the search
abbrev pub lent : List ℕ
lent = 9 ∷ 9 ∷ 9 ∷ 9 ∷ []

-- "Ring" is the five jobs of the sheet: 12 05 0A 14 09
abbrev pub ring : List ℕ
ring = 18 ∷ 5 ∷ 10 ∷ 20 ∷ 9 ∷ []

pub data Case : Type 0 where
  -- Search with n jobs, these rows, holds and budget: the answer, and the words in the result after
  answers : (n : ℕ) (rows : List ℕ) (held budget : ℕ) (answer : SearchAnswer) (after : List ℕ) → Case
  -- q, the number of cliques of unheld jobs, and 2q - 1
  counts : (n : ℕ) (rows : List ℕ) (held q most : ℕ) → Case
  -- the whole table: k, m and the matching bound
  bounds : (n : ℕ) (rows : List ℕ) (k m bound : ℕ) → Case

unfoldable pub Holds : Case → Type 0
Holds (answers n rows held budget answer after) = (search_says (small n rows held) budget lent ≡ answer) × (result_after (small n rows held) budget lent ≡ after)
Holds (counts n rows held q most) = (clique_count (fits (table rows)) (unheld (small n rows held)) ≡ q) × (2 * q - 1 ≡ most)
Holds (bounds n rows k m bound) = (colours (fits (table rows)) (up_to n) ≡ k) × (matched (fits (table rows)) (up_to n) ≡ m) × (matching_bound (fits (table rows)) (up_to n) ≡ bound)

unfoldable pub starred : List Case
starred =
    -- "n = 0, budget 1: Best, size 0, 1 visit. Here 2q - 1 = 1."
    answers 0 [] 0 1 (best 0 1) (words [])
    ∷ counts 0 [] 0 1 1
    -- "n = 1: Best {0}, 3 visits; 2q - 1 = 3."
    ∷ answers 1 (0 ∷ []) 0 1000000 (best 1 3) (words (0 ∷ []))
    ∷ counts 1 (0 ∷ []) 0 2 3
    -- "Three jobs, none fitting: Best {0}, 3 visits."
    ∷ answers 3 (0 ∷ 0 ∷ 0 ∷ []) 0 1000000 (best 1 3) (words (0 ∷ []))
    -- "Three jobs, all fitting: Best {0,1,2}, 7 visits; 2q - 1 = 15. With all three held: Best, size 0, 1 visit."
    ∷ answers 3 (6 ∷ 5 ∷ 3 ∷ []) 0 1000000 (best 3 7) (words (0 ∷ 1 ∷ 2 ∷ []))
    ∷ counts 3 (6 ∷ 5 ∷ 3 ∷ []) 0 8 15
    ∷ answers 3 (6 ∷ 5 ∷ 3 ∷ []) 7 1000000 (best 0 1) (words [])
    -- "Ring: Best {0,1}, 5 visits; q = 11."
    ∷ answers 5 ring 0 1000000 (best 2 5) (words (0 ∷ 1 ∷ []))
    ∷ counts 5 ring 0 11 21
    -- "Budget 0: Unfinished, size 0, 0 visits. 1: size 0. 2: {0}. 3 and 4: {0,1}, Unfinished. 5: Best."
    ∷ answers 5 ring 0 0 (unfinished 0 0) (words [])
    ∷ answers 5 ring 0 1 (unfinished 0 1) (words [])
    ∷ answers 5 ring 0 2 (unfinished 1 2) (words (0 ∷ []))
    ∷ answers 5 ring 0 3 (unfinished 2 3) (words (0 ∷ 1 ∷ []))
    ∷ answers 5 ring 0 4 (unfinished 2 4) (words (0 ∷ 1 ∷ []))
    ∷ answers 5 ring 0 5 (best 2 5) (words (0 ∷ 1 ∷ []))
    -- "Ring, job 0 held: Best {1,2}, 5 visits."
    ∷ answers 5 ring 1 1000000 (best 2 5) (words (1 ∷ 2 ∷ []))
    -- "Four jobs, pairs 0-3 and 1-2: Best {0,3}, 5 visits."
    ∷ answers 4 (8 ∷ 4 ∷ 2 ∷ 1 ∷ []) 0 1000000 (best 2 5) (words (0 ∷ 3 ∷ []))
    -- "Ring, whole: k = 3, m = 5, matching bound 2."
    ∷ bounds 5 ring 3 5 2
    -- "Two jobs, only bit (0,1) set: refused 7 at 0, 1."
    ∷ answers 2 (2 ∷ 0 ∷ []) 0 1000000 (refused (7 ∷ 0 ∷ 1 ∷ [])) lent
    ∷ []
