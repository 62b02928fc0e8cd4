-- Read: what a file holds, what is refused, and what an accepted file fills.
use Rattle.std.specs.Prelude.{Bool, not, ◌&&◌, cond, ℕ, ◌+◌, ◌-◌, ◌*◌, ◌/◌, ◌%◌, eqb, ltb, length, get_or, replicate}
use mathlib.Core.List.{List, [], ◌∷◌, ◌++◌, flat_map}
use Rattle.graphs.specs.Jobs.{up_to, keep}
use Rattle.sets.specs.Words.{bit, words, jobs}
use Rattle.sets.specs.Rules.{Rule, when, first_given, if_passed}
use Rattle.sets.specs.Tables.{no1, no2, no3, no5, no6, no7}
use Rattle.night.specs.Format.{mark, width, file_length}

-- ---- what a file holds

-- "Bytes 0 to 2: 50 52 53 (hex)."
unfoldable pub marked : List ℕ → Bool
marked file = eqb (get_or file 0 0) (get_or mark 0 0) && eqb (get_or file 1 0) (get_or mark 1 0) && eqb (get_or file 2 0) (get_or mark 2 0)

-- "Numbers in every file of ours are little-endian."
unfoldable pub number_at : List ℕ → ℕ → ℕ
number_at file at = get_or file at 0 + 256 * get_or file (at + 1) 0

-- "3 and 4: version 1. 5 and 6: n."
unfoldable pub version_in : List ℕ → ℕ
version_in file = number_at file 3

unfoldable pub jobs_in : List ℕ → ℕ
jobs_in file = number_at file 5

-- "Byte 7: flags; bit 0 means a hold list follows"
unfoldable pub flagged : List ℕ → Bool
flagged file = bit (get_or file 7 0) 0

-- "job j being bit j % 8 of byte j / 8", of the w bytes from byte `at` on; past them there is no job
unfoldable pub byte_at : List ℕ → ℕ → ℕ → ℕ → ℕ
byte_at file at w i = cond (ltb i w) (get_or file (at + i) 0) 0

unfoldable pub bit_at : List ℕ → ℕ → ℕ → ℕ → Bool
bit_at file at w j = bit (byte_at file at w (j / 8)) (j % 8)

-- the jobs of these w bytes
unfoldable pub set_at : List ℕ → ℕ → ℕ → List ℕ
set_at file at w = keep (bit_at file at w) (up_to 256)

-- "Then n rows of w = ceil(n/8) bytes": the four words of row r
unfoldable pub row_at : List ℕ → ℕ → ℕ → List ℕ
row_at file w r = words (set_at file (8 + r * w) w)

-- the table that a file of n jobs holds, and its holds ("zero without a list")
unfoldable pub table_in : List ℕ → ℕ → List ℕ
table_in file n = flat_map (row_at file (width n)) (up_to n)

unfoldable pub holds_in : List ℕ → ℕ → List ℕ
holds_in file n = cond (flagged file) (row_at file (width n) n) (0 ∷ 0 ∷ 0 ∷ 0 ∷ [])

-- ---- what is refused

-- "file under 8 bytes"
unfoldable pub no21 : List ℕ → Rule
no21 file = when 21 (ltb (length file) 8)

-- "mark wrong"
unfoldable pub no22 : List ℕ → Rule
no22 file = when 22 (not (marked file))

-- "version not 1"
unfoldable pub no23 : List ℕ → Rule
no23 file = when 23 (not (eqb (version_in file) 1))

-- "an unknown flag bit set": any but bit 0
unfoldable pub no24 : List ℕ → Rule
no24 file = when 24 (not (eqb (get_or file 7 0 / 2) 0))

-- "total length wrong"
unfoldable pub no25 : List ℕ → Rule
no25 file = when 25 (not (eqb (length file) (file_length (jobs_in file) (flagged file))))

-- "hold list present but empty"
unfoldable pub empty_list : Bool → List ℕ → Bool
empty_list present holds = present && eqb (length (jobs holds)) 0

unfoldable pub no26 : Bool → List ℕ → Rule
no26 present holds = when 26 (empty_list present holds)

-- "21, 22, 23, 1, 24, 25"
unfoldable pub header_rules : List ℕ → List Rule
header_rules file = no21 file ∷ no22 file ∷ no23 file ∷ no1 (jobs_in file) ∷ no24 file ∷ no25 file ∷ []

-- "5, 26, 6, 7"
unfoldable pub word_rules : Bool → ℕ → List ℕ → List ℕ → List Rule
word_rules present n table holds = no5 n table holds ∷ no26 present holds ∷ no6 n table ∷ no7 n table ∷ []

-- "21, 22, 23, 1, 24, 25, 5, 26, 6, 7": of the file alone
unfoldable pub file_rules : List ℕ → List Rule
file_rules file = header_rules file ++ word_rules (flagged file) (jobs_in file) (table_in file (jobs_in file)) (holds_in file (jobs_in file))

-- "Read: 2, 3, 21, 22, 23, 1, 24, 25, 5, 26, 6, 7." "(Read: not 1024)"
unfoldable pub read_rules : List ℕ → List ℕ → List ℕ → List Rule
read_rules file table holds = no2 256 table ∷ no3 holds ∷ file_rules file

-- ---- what is filled

-- "Read fills 1,024 table words (zero past 4n) and four hold words"
unfoldable pub filled_table : List ℕ → ℕ → List ℕ
filled_table file n = table_in file n ++ replicate (1024 - 4 * n) 0

-- "Every refusal leaves all lent buffers as they came"
unfoldable pub table_after : List ℕ → List ℕ → List ℕ → List ℕ
table_after file table holds = if_passed (first_given (read_rules file table holds)) (filled_table file (jobs_in file)) table

unfoldable pub holds_after : List ℕ → List ℕ → List ℕ → List ℕ
holds_after file table holds = if_passed (first_given (read_rules file table holds)) (holds_in file (jobs_in file)) holds
