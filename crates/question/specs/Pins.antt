-- W-203, what is refused of pins: 40, 41 and 42, and 5, which "covers pins after holds".
use Rattle.std.specs.Prelude.{Bool, not, ◌&&◌, List, ◌++◌, ℕ, ◌+◌, eqb, length}
use Rattle.sets.specs.Words.{in_words}
use Rattle.sets.specs.Rules.{Rule, when, across}
use Rattle.sets.specs.Tables.{beyond, misfit}

-- "40 pin words not 4"
unfoldable pub no40 : List ℕ → Rule
no40 pins = when 40 (not (eqb (length pins) 4))

-- "5 covers pins after holds (row n+1)"
unfoldable pub no5_pins : ℕ → List ℕ → List ℕ → List ℕ → Rule
no5_pins n table holds pins = across 5 (beyond n table (holds ++ pins)) (n + 2) 256

-- "41 a pin held", with "row n+1 and the job"
unfoldable pub pin_held : ℕ → List ℕ → List ℕ → ℕ → ℕ → Bool
pin_held n holds pins r c = eqb r (n + 1) && in_words pins c && in_words holds c

unfoldable pub no41 : ℕ → List ℕ → List ℕ → Rule
no41 n holds pins = across 41 (pin_held n holds pins) (n + 2) 256

-- "42 two pins that don't fit", with "the two jobs"
unfoldable pub no42 : ℕ → List ℕ → List ℕ → Rule
no42 n table pins = across 42 (misfit table pins) n n
