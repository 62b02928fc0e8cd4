-- The Write of a version: what is refused, and what stands in the output after.
use Rattle.std.specs.Prelude.{List, [], ◌∷◌, ◌++◌, ℕ, ltb, length, drop}
use Rattle.sets.specs.Rules.{Rule, when, first_given, if_passed}
use Rattle.sets.specs.Tables.{no1, no2, no3, no5, no6, no7}
use Rattle.night.specs.Format.{held}
use Rattle.night.specs.Versions.{Version, bytes_as, length_as}

-- "output too short for Write"
unfoldable pub no27 : Version → ℕ → List ℕ → List ℕ → Rule
no27 v n holds out = when 27 (ltb (length out) (length_as v n (held holds)))

-- "1, 2, 3, 5, 6, 7": of the table and its holds alone
unfoldable pub table_rules : ℕ → List ℕ → List ℕ → List Rule
table_rules n table holds = no1 n ∷ no2 n table ∷ no3 holds ∷ no5 n table holds ∷ no6 n table ∷ no7 n table ∷ []

-- "Write: 1, 2, 3, 5, 6, 7, 27."
unfoldable pub write_rules : Version → ℕ → List ℕ → List ℕ → List ℕ → List Rule
write_rules v n table holds out = table_rules n table holds ++ no27 v n holds out ∷ []

-- "Every call that writes bytes answers the length and changes no byte past it." "Every refusal leaves all lent buffers as they came."
unfoldable pub out_after : Version → ℕ → List ℕ → List ℕ → List ℕ → List ℕ
out_after v n table holds out =
    if_passed (first_given (write_rules v n table holds out)) (bytes_as v n table holds ++ drop (length (bytes_as v n table holds)) out) out
