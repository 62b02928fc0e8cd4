-- The night file, version 1: the bytes of n jobs, their table and their holds.
use Rattle.std.specs.Prelude.{Bool, not, cond, ℕ, ◌+◌, ◌*◌, ◌/◌, ◌%◌, eqb, length, get_or}
use mathlib.Core.List.{List, [], ◌∷◌, ◌++◌, map, flat_map}
use Rattle.std.specs.Int.{w8}
use Rattle.std.proofs.Common.{Fits}
use Rattle.graphs.specs.Jobs.{up_to, has}
use Rattle.sets.specs.Words.{number, jobs, row_jobs}

-- a file is bytes: each is an 8-bit number
pub record Bytes (file : List ℕ) : Type 0 where
  pub each : (k : ℕ) → Fits w8 (get_or file k 0)

-- "Bytes 0 to 2: 50 52 53 (hex)."
abbrev pub mark : List ℕ
mark = 0x50 ∷ 0x52 ∷ 0x53 ∷ []

-- "3 and 4: version 1. 5 and 6: n. Numbers in every file of ours are little-endian. Byte 7: flags"
unfoldable pub header : ℕ → ℕ → List ℕ
header n flags = mark ++ 1 ∷ 0 ∷ n % 256 ∷ n / 256 ∷ flags ∷ []

-- "w = ceil(n/8)"
unfoldable pub width : ℕ → ℕ
width n = (n + 7) / 8

-- "job j being bit j % 8 of byte j / 8": byte i of a set of jobs, and its w bytes
unfoldable pub byte_of : List ℕ → ℕ → ℕ
byte_of l i = number (has l) (8 * i) 8

unfoldable pub set_bytes : ℕ → List ℕ → List ℕ
set_bytes w l = map (byte_of l) (up_to w)

unfoldable pub row_bytes : ℕ → List ℕ → ℕ → List ℕ
row_bytes w table r = set_bytes w (row_jobs table r)

-- "Write flags a list exactly if some job is held."
unfoldable pub held : List ℕ → Bool
held holds = not (eqb (length (jobs holds)) 0)

-- "bit 0 means a hold list follows, other bits are zero"
unfoldable pub flags_of : List ℕ → ℕ
flags_of holds = cond (held holds) 1 0

-- "then the hold list of w bytes if flagged"
unfoldable pub hold_bytes : ℕ → List ℕ → List ℕ
hold_bytes n holds = cond (held holds) (set_bytes (width n) (jobs holds)) []

-- "Then n rows of w = ceil(n/8) bytes, job j being bit j % 8 of byte j / 8, then the hold list of w bytes if flagged."
unfoldable pub bytes : ℕ → List ℕ → List ℕ → List ℕ
bytes n table holds = header n (flags_of holds) ++ (flat_map (row_bytes (width n) table) (up_to n) ++ hold_bytes n holds)

-- "The length is 8 + nw, or 8 + nw + w"
unfoldable pub file_length : ℕ → Bool → ℕ
file_length n flagged = 8 + n * width n + cond flagged (width n) 0

-- "at most 8,232"
abbrev pub longest : ℕ
longest = 8232
