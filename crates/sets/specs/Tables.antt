-- Document 01's table of refusals, numbers 1 to 7, and what an accepted table is.
use Rattle.std.specs.Prelude.{◌≡◌, Bool, true, false, not, ◌&&◌, List, ◌++◌, ℕ, ◌+◌, ◌*◌, ◌≤◌, ◌<◌, leb, ltb, eqb, length}
use Rattle.std.specs.Bool.{beq}
use Rattle.graphs.specs.Jobs.{◌∈◌}
use Rattle.sets.specs.Words.{in_words, fits}
use Rattle.sets.specs.Rules.{Rule, when, across}

-- "n over 256"
unfoldable pub no1 : ℕ → Rule
no1 n = when 1 (ltb 256 n)

-- "table words not 4n"
unfoldable pub no2 : ℕ → List ℕ → Rule
no2 n table = when 2 (not (eqb (length table) (4 * n)))

-- "hold words not 4"
unfoldable pub no3 : List ℕ → Rule
no3 holds = when 3 (not (eqb (length holds) 4))

-- "result or asked set not 4 words"
unfoldable pub no4 : List ℕ → Rule
no4 set = when 4 (not (eqb (length set) 4))

-- "a bit for a job n or above"; "row n stands for holds or the asked set, looked at after the table"
unfoldable pub beyond : ℕ → List ℕ → List ℕ → ℕ → ℕ → Bool
beyond n table set r c = leb n c && fits (table ++ set) r c

unfoldable pub no5 : ℕ → List ℕ → List ℕ → Rule
no5 n table set = across 5 (beyond n table set) (n + 1) 256

-- "a job fits itself"
unfoldable pub itself : List ℕ → ℕ → ℕ → Bool
itself table r c = eqb r c && fits table r c

unfoldable pub no6 : ℕ → List ℕ → Rule
no6 n table = across 6 (itself table) n n

-- "bit (r,c) differs from bit (c,r)"
unfoldable pub one_way : List ℕ → ℕ → ℕ → Bool
one_way table r c = not (beq (fits table r c) (fits table c r))

unfoldable pub no7 : ℕ → List ℕ → Rule
no7 n table = across 7 (one_way table) n n

-- a pair of different jobs of the set that does not fit
unfoldable pub misfit : List ℕ → List ℕ → ℕ → ℕ → Bool
misfit table set a b = not (eqb a b) && not (fits table a b) && in_words set a && in_words set b

-- what is known of a table that no check refuses: its size, no bit for a job n or above, no self-pair, every pair both ways
pub record Accepted (n : ℕ) (table : List ℕ) : Type 0 where
  pub few : n ≤ 256
  pub long : length table ≡ 4 * n
  pub inside : (r c : ℕ) → fits table r c ≡ true → (r < n) × (c < n)
  pub apart : (r : ℕ) → fits table r r ≡ false
  pub two_way : (r c : ℕ) → fits table r c ≡ fits table c r

-- jobs of a night of n jobs
pub record Inside (n : ℕ) (p : List ℕ) : Type 0 where
  pub inside : (j : ℕ) → j ∈ p → j < n
