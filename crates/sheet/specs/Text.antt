-- Bytes of ASCII: a number, a line, and what it means to put a text into lent bytes.
use Rattle.std.specs.Prelude.{◌≡◌, true, false, List, [], ◌∷◌, ◌++◌, ℕ, zero, suc, ◌+◌, ◌/◌, ◌%◌, ltb, length}
use Rattle.std.proofs.lemmas.List.Edits.{sets}

-- the last decimal digits of n, k of them at most, and none before the first that counts
unfoldable pub last_digits : ℕ → ℕ → List ℕ
last_digits zero n = []
last_digits (suc k) n = elim (ltb n 10) [
  | true ↦ (48 + n) ∷ []
  | false ↦ last_digits k (n / 10) ++ (48 + n % 10) ∷ []
]

-- n in decimal: it has no more digits than n + 1
unfoldable pub decimal : ℕ → List ℕ
decimal n = last_digits (suc n) n

-- what follows the first word of a line: the others, each behind a single space, and a line feed
unfoldable pub behind : List (List ℕ) → List ℕ
behind [] = 10 ∷ []
behind (word ∷ words) = 32 ∷ word ++ behind words

-- a line of words, "separated by single spaces"
unfoldable pub line : List ℕ → List (List ℕ) → List ℕ
line word words = word ++ behind words

-- a line of a word and a number
unfoldable pub number_line : List ℕ → ℕ → List ℕ
number_line word n = line word (decimal n ∷ [])

-- a text was put into bytes from `at` on: where it ends, and what the bytes are now
pub record Put (bytes : List ℕ) (at : ℕ) (text now : List ℕ) (end : ℕ) : Type 0 where
  pub stored : now ≡ sets bytes at text
  pub ends : end ≡ at + length text
