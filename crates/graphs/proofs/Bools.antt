-- Small laws of Bool that the others cite: a test's two cases, and what `&&`, `||` and `not` say. Assumes nothing.
use mathlib.Core.Path.{◌≡◌, refl, sym, ◌∙◌}
use mathlib.Core.Bool.{Bool, true, false, not, ◌&&◌, ◌||◌, true≢false, false≢true}
use mathlib.Core.Logic.{◌⊎◌, inl, inr}
use Prim.Native.Nat.{ℕ, ◌≤◌, ◌<◌}
use lib.Dec.{eqb, ltb}
use borrow.Author.Tests.{eqb-true, eq-eqb, ltb-true, ltb-false}

-- a test is true or false
pub cases : (b : Bool) → (b ≡ true) ⊎ (b ≡ false)
cases true = inl refl
cases false = inr refl

pub never : {A : Type 0} (b : Bool) → b ≡ true → b ≡ false → A
never b p q = absurd (true≢false (sym p ∙ q))

pub and_left : (a b : Bool) → (a && b) ≡ true → a ≡ true
and_left true b e = refl
and_left false b e = absurd (false≢true e)

pub and_right : (a b : Bool) → (a && b) ≡ true → b ≡ true
and_right true b e = e
and_right false b e = absurd (false≢true e)

pub and_both : (a b : Bool) → a ≡ true → b ≡ true → (a && b) ≡ true
and_both true b p q = q
and_both false b p q = absurd (false≢true p)

pub and_true : (a : Bool) → (a && true) ≡ a
and_true true = refl
and_true false = refl

pub and_no_left : (a b : Bool) → a ≡ false → (a && b) ≡ false
and_no_left true b e = absurd (true≢false e)
and_no_left false b e = refl

pub and_no_right : (a b : Bool) → b ≡ false → (a && b) ≡ false
and_no_right true b e = e
and_no_right false b e = refl

pub and_false : (a b : Bool) → (a && b) ≡ false → (a ≡ false) ⊎ (b ≡ false)
and_false true b e = inr e
and_false false b e = inl refl

pub or_cases : (a b : Bool) → (a || b) ≡ true → (a ≡ true) ⊎ (b ≡ true)
or_cases true b e = inl refl
or_cases false b e = inr e

pub or_comm : (a b : Bool) → (a || b) ≡ (b || a)
or_comm true true = refl
or_comm true false = refl
or_comm false true = refl
or_comm false false = refl

pub or_left : (a b : Bool) → a ≡ true → (a || b) ≡ true
or_left true b e = refl
or_left false b e = absurd (false≢true e)

pub or_right : (a b : Bool) → b ≡ true → (a || b) ≡ true
or_right true b e = refl
or_right false b e = e

pub or_none : (a b : Bool) → a ≡ false → b ≡ false → (a || b) ≡ false
or_none true b p q = absurd (true≢false p)
or_none false b p q = q

pub or_no_left : (a b : Bool) → (a || b) ≡ false → a ≡ false
or_no_left true b e = absurd (true≢false e)
or_no_left false b e = refl

pub or_no_right : (a b : Bool) → (a || b) ≡ false → b ≡ false
or_no_right true b e = absurd (true≢false e)
or_no_right false b e = e

pub not_of_false : (a : Bool) → a ≡ false → not a ≡ true
not_of_false true e = absurd (true≢false e)
not_of_false false e = refl

pub not_of_true : (a : Bool) → a ≡ true → not a ≡ false
not_of_true true e = refl
not_of_true false e = absurd (false≢true e)

-- two tests that are true together are equal
pub both_ways : (a b : Bool) → (a ≡ true → b ≡ true) → (b ≡ true → a ≡ true) → a ≡ b
both_ways true b f g = sym (f refl)
both_ways false true f g = g refl
both_ways false false f g = refl

-- equality of numbers is decided by its test
pub same? : (a b : ℕ) → (a ≡ b) ⊎ (a ≡ b → ⊥)
same? a b = by (cases (eqb a b))
  where
    by : (eqb a b ≡ true) ⊎ (eqb a b ≡ false) → (a ≡ b) ⊎ (a ≡ b → ⊥)
    by (inl e) = inl (eqb-true a b e)
    by (inr e) = inr (λ p. never (eqb a b) (eq-eqb a b p) e)

pub lt_or_le : (a b : ℕ) → (a < b) ⊎ (b ≤ a)
lt_or_le a b = by (cases (ltb a b))
  where
    by : (ltb a b ≡ true) ⊎ (ltb a b ≡ false) → (a < b) ⊎ (b ≤ a)
    by (inl e) = inl (ltb-true a b e)
    by (inr e) = inr (ltb-false a b e)
