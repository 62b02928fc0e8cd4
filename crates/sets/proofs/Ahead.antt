-- Which of two sets is ahead, as the code asks it: by the sizes, and at equal size by the lowest job that only one of them has; and what it means. Assumes nothing.
use mathlib.Core.Path.{◌≡◌, ◌∙◌, ap, ap₂}
use mathlib.Core.Bool.{Bool, true, false, ◌&&◌, ◌||◌}
use mathlib.Core.Logic.{◌⊎◌, inl, inr, ⊎_elim}
use mathlib.Core.List.{List}
use Prim.Native.Nat.{ℕ, ◌<◌}
use native.Mathlib.Omega.{arith}
use lib.Dec.{ltb, eqb}
use lib.ListN.{length}
use borrow.Author.Tests.{lt-ltb, le-ltb, eq-eqb, ne_eqb, ltb-true, eqb-true}
use native.Mathlib.Nat.{lt_irrefl, lt_trans}
use Rattle.graphs.specs.Jobs.{lowest, minus}
use Rattle.graphs.specs.First.{Before, earlier, ahead}
use Rattle.graphs.proofs.Bools.{cases, and_left, and_right, and_both, or_cases, or_right}
use Rattle.graphs.proofs.First.{before_irr, before_asym, earlier_before, before_earlier, earlier_lowest}
use Rattle.sets.specs.Words.{jobs}
use Rattle.sets.proofs.Words.{jobs_ascending, jobs_below}

pub ahead_larger : (t s : List ℕ) → length s < length t → ahead t s ≡ true
unfolding ahead
ahead_larger t s h = ap (λ (b : Bool). b || (eqb (length t) (length s) && earlier t s)) (lt-ltb (length s) (length t) h)

pub ahead_smaller : (t s : List ℕ) → length t < length s → ahead t s ≡ false
unfolding ahead
ahead_smaller t s h = ap₂ (λ (a b : Bool). a || (b && earlier t s)) (le-ltb (length s) (length t) (omega arith)) (ne_eqb (length t) (length s) (λ e. omega arith))

pub ahead_equal : (u v : List ℕ) → length (jobs u) ≡ length (jobs v) → ahead (jobs u) (jobs v) ≡ ltb (lowest (minus (jobs u) (jobs v))) (lowest (minus (jobs v) (jobs u)))
unfolding ahead minus
ahead_equal u v e =
    ap₂ (λ (a b : Bool). a || (b && earlier (jobs u) (jobs v))) (le-ltb (length (jobs v)) (length (jobs u)) (omega arith)) (eq-eqb (length (jobs u)) (length (jobs v)) e)
    ∙ earlier_lowest (jobs u) (jobs v) (jobs_ascending u) (jobs_ascending v) e (jobs_below u) (jobs_below v)

-- ---- what it means

-- "the larger; at equal size the earlier by demand 2's order"
pub ahead_means : (t s : List ℕ) → ahead t s ≡ true → (length s < length t) ⊎ ((length t ≡ length s) × Before ◌<◌ t s)
unfolding ahead
ahead_means t s e = ⊎_elim
    (λ l. inl (ltb-true (length s) (length t) l))
    (λ r. inr (eqb-true (length t) (length s) (and_left (eqb (length t) (length s)) (earlier t s) r), earlier_before t s (and_right (eqb (length t) (length s)) (earlier t s) r)))
    (or_cases (ltb (length s) (length t)) (eqb (length t) (length s) && earlier t s) e)

pub means_ahead : (t s : List ℕ) → (length s < length t) ⊎ ((length t ≡ length s) × Before ◌<◌ t s) → ahead t s ≡ true
unfolding ahead
means_ahead t s (inl l) = ahead_larger t s l
means_ahead t s (inr r) = or_right (ltb (length s) (length t)) (eqb (length t) (length s) && earlier t s) (and_both (eqb (length t) (length s)) (earlier t s) (eq-eqb (length t) (length s) r.0) (before_earlier r.1))

-- no set is ahead of itself, and of two sets one at most is ahead
pub ahead_self : (s : List ℕ) → ahead s s ≡ false
ahead_self s = ⊎_elim (λ e. absurd (⊎_elim (λ l. omega arith) (λ r. before_irr ◌<◌ lt_irrefl s r.1) (ahead_means s s e))) (λ e. e) (cases (ahead s s))

pub ahead_one : (t s : List ℕ) → ahead t s ≡ true → ahead s t ≡ false
ahead_one t s e = ⊎_elim (λ f. absurd (clash (ahead_means t s e) (ahead_means s t f))) (λ f. f) (cases (ahead s t))
  where
    clash : (length s < length t) ⊎ ((length t ≡ length s) × Before ◌<◌ t s) → (length t < length s) ⊎ ((length s ≡ length t) × Before ◌<◌ s t) → ⊥
    clash (inl l) (inl m) = omega arith
    clash (inl l) (inr m) = let d = m.0 in omega arith
    clash (inr l) (inl m) = let d = l.0 in omega arith
    clash (inr l) (inr m) = before_asym ◌<◌ lt_irrefl (λ a b c. lt_trans) l.1 m.1
