-- Document 01's table of refusals: a rule is a row of it, a number and when it is given. A call has a list of rules, and the first that applies decides.
use Rattle.std.specs.Prelude.{◌≡◌, Bool, true, false, ◌⊎◌, List, [], ◌∷◌, ℕ, ◌<◌}
use Rattle.graphs.specs.Jobs.{up_to}
use Rattle.sets.specs.Places.{first_in, first_place, FoundAt, Found, Nowhere}

-- given where the test is true, with nothing else; or with the first of `count` numbers, or the first place, at which the test holds
pub data Rule : Type 0 where
  when : (number : ℕ) (test : Bool) → Rule
  along : (number : ℕ) (test : ℕ → Bool) (count : ℕ) → Rule
  across : (number : ℕ) (test : ℕ → ℕ → Bool) (rows columns : ℕ) → Rule

-- ---- what comes back

-- the number where the test came out true; the number with what was found
abbrev pub given : Bool → ℕ → List ℕ
given true number = number ∷ []
given false number = []

abbrev pub numbered : ℕ → List ℕ → List ℕ
numbered number [] = []
numbered number (a ∷ place) = number ∷ a ∷ place

-- what a rule gives; the empty list where it does not apply
unfoldable pub gives : Rule → List ℕ
gives (when number test) = given test number
gives (along number test count) = numbered number (first_in test (up_to count))
gives (across number test rows columns) = numbered number (first_place test rows columns)

-- "Each refusal is given only if no earlier check in its list applies"
abbrev pub or_else : List ℕ → List ℕ → List ℕ
or_else [] later = later
or_else (number ∷ place) later = number ∷ place

unfoldable pub first_given : List Rule → List ℕ
first_given [] = []
first_given (rule ∷ later) = or_else (gives rule) (first_given later)

-- the one where nothing came back, and the other where something did
abbrev pub if_passed : {A : Type 0} → List ℕ → A → A → A
if_passed [] new old = new
if_passed (number ∷ values) new old = old

-- ---- what that means: "Given exactly when"

unfoldable pub Applies : Rule → List ℕ → Type 0
Applies (when number test) back = (test ≡ true) × (back ≡ number ∷ [])
Applies (along number test count) back = (i : ℕ) × FoundAt test count i × (back ≡ number ∷ i ∷ [])
Applies (across number test rows columns) back = (r : ℕ) × (c : ℕ) × Found test rows columns r c × (back ≡ number ∷ r ∷ c ∷ [])

unfoldable pub Clear : Rule → Type 0
Clear (when number test) = test ≡ false
Clear (along number test count) = (k : ℕ) → k < count → test k ≡ false
Clear (across number test rows columns) = Nowhere test rows columns

-- this comes back: a rule applies with it, and each before it does not; or nothing comes back, and none applies
unfoldable pub Judged : List Rule → List ℕ → Type 0
Judged [] back = back ≡ []
Judged (rule ∷ later) back = Applies rule back ⊎ (Clear rule × Judged later back)

-- no rule of the list applies
unfoldable pub AllClear : List Rule → Type 0
AllClear [] = Unit {0}
AllClear (rule ∷ later) = Clear rule × AllClear later

-- the number of a rule
unfoldable pub number_of : Rule → ℕ
number_of (when number test) = number
number_of (along number test count) = number
number_of (across number test rows columns) = number
