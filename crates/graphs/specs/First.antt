-- Maximum cliques, and the first of them.
use Rattle.std.specs.Prelude.{◌≡◌, Bool, false, ◌&&◌, ◌||◌, ◌⊎◌, List, [], ◌∷◌, ◌++◌, ℕ, ◌≤◌, eqb, ltb, length}
use Rattle.graphs.specs.Jobs.{Part}
use Rattle.graphs.specs.Clique.{Clique}

-- "at the first difference of the ascending job lists it has the lower number"; R is the order of the jobs, `◌<◌` today
pub data Before (R : ℕ → ℕ → Type 0) : List ℕ → List ℕ → Type 0 where
  here : {a b : ℕ} {s t : List ℕ} → R a b → Before R (a ∷ s) (b ∷ t)
  later : {a : ℕ} {s t : List ℕ} → Before R s t → Before R (a ∷ s) (a ∷ t)

-- "a maximum clique of the jobs not held, as graph theory defines it: all fit each other, and no larger such set exists"; p lists the jobs not held
pub record MaximumClique (fits : ℕ → ℕ → Bool) (p s : List ℕ) : Type 0 where
  pub inside : Part s p
  pub clique : Clique fits s
  pub largest : (t : List ℕ) → Part t p → Clique fits t → length t ≤ length s

-- "Among equals it is the first"
pub record FirstMaximum (R : ℕ → ℕ → Type 0) (fits : ℕ → ℕ → Bool) (p s : List ℕ) : Type 0 where
  pub maximum : MaximumClique fits p s
  pub first : (t : List ℕ) → MaximumClique fits p t → (s ≡ t) ⊎ Before R s t

-- k is C followed by the first maximum clique of P
pub record FirstFrom (R : ℕ → ℕ → Type 0) (fits : ℕ → ℕ → Bool) (c p k : List ℕ) : Type 0 where
  pub added : List ℕ
  pub same : k ≡ c ++ added
  pub first : FirstMaximum R fits p added

-- whether s has the lower number at the first difference of the two ascending lists
unfoldable pub earlier : List ℕ → List ℕ → Bool
earlier [] t = false
earlier (a ∷ s) [] = false
earlier (a ∷ s) (b ∷ t) = ltb a b || (eqb a b && earlier s t)

-- whether t is to be preferred to s: "the larger; at equal size the earlier"
unfoldable pub ahead : List ℕ → List ℕ → Bool
ahead t s = ltb (length s) (length t) || (eqb (length t) (length s) && earlier t s)
