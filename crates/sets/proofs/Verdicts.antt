-- Numbers 1 to 4 in the code's terms: each rule applies where its condition holds, and is clear where it fails, and back; the rules of places; that something
-- comes back with every refusal, which says which refusal it was; and verdicts one after another, as `?` takes them. Assumes nothing.
use mathlib.Core.Path.{◌≡◌, refl, sym, ◌∙◌, ap, ap₂, subst}
use mathlib.Core.Logic.{◌↔◌}
use mathlib.Core.Bool.{Bool, true, false, not}
use mathlib.Core.List.{List, [], ◌∷◌, ◌++◌}
use Prim.Native.Nat.{ℕ, ◌*◌, ◌≤◌, ◌<◌}
use native.Mathlib.Omega.{arith}
use lib.Dec.{eqb}
use lib.ListN.{length}
use borrow.Author.Tests.{lt-ltb, le-ltb, ltb-true, eq-eqb, ne_eqb, eqb-true, eqb-false, not-true, not-false}
use Rattle.std.specs.Prelude.{Option, Some, None}
use Rattle.sets.specs.declared.places.Place.{Place}
use Rattle.sets.specs.declared.refusal.Fault.{Fault}
use Rattle.sets.specs.declared.refusal.Refusal.{Refusal}
use Rattle.sets.specs.declared.refusal.Refusal.TheVariants.{Alone, WithOne, At}
use Rattle.sets.specs.Places.{first_place, place_of, Found}
use Rattle.sets.specs.Refusals.{number_of, comes_back}
use Rattle.sets.specs.Rules.{Rule, when, across, numbered, gives, Applies, Clear, first_given}
use Rattle.sets.specs.Tables.{no1, no2, no3, no4}
use Rattle.sets.proofs.Finder.{place_found, place_nowhere}
use Rattle.sets.proofs.Judging.{Back, all_clear, clear_before, given_before, one_given}

-- ---- a rule with a test, and one that asks for a length

pub when_true : {test : Bool} (number : ℕ) → test ≡ true → Applies (when number test) (number ∷ [])
unfolding Applies
when_true number e = (e, refl)

pub when_false : {test : Bool} (number : ℕ) → test ≡ false → Clear (when number test)
unfolding Clear
when_false number e = e

module _ (number m k : ℕ) where
  pub unequal_applies : (m ≡ k → ⊥) → Applies (when number (not (eqb m k))) (number ∷ [])
  unequal_applies n = when_true number (ap not (ne_eqb m k n))

  pub equal_clear : m ≡ k → Clear (when number (not (eqb m k)))
  equal_clear e = when_false number (ap not (eq-eqb m k e))

  pub applies_unequal : (back : List ℕ) → Applies (when number (not (eqb m k))) back → m ≡ k → ⊥
  unfolding Applies
  applies_unequal back a = eqb-false m k (not-true (eqb m k) a.0)

  pub clear_equal : Clear (when number (not (eqb m k))) → m ≡ k
  unfolding Clear
  clear_equal c = eqb-true m k (not-false (eqb m k) c)

-- ---- numbers 1 to 4

pub no1_applies : (n : ℕ) → 256 < n → Applies (no1 n) (1 ∷ [])
unfolding no1
no1_applies n h = when_true 1 (lt-ltb 256 n h)

pub no1_clear : (n : ℕ) → n ≤ 256 → Clear (no1 n)
unfolding no1
no1_clear n h = when_false 1 (le-ltb 256 n h)

pub no1_over : (n : ℕ) (back : List ℕ) → Applies (no1 n) back → 256 < n
unfolding no1 Applies
no1_over n back a = ltb-true 256 n a.0

module _ (n : ℕ) (table : List ℕ) where
  pub no2_applies : (length table ≡ 4 * n → ⊥) → Applies (no2 n table) (2 ∷ [])
  unfolding no2
  no2_applies = unequal_applies 2 (length table) (4 * n)

  pub no2_clear : length table ≡ 4 * n → Clear (no2 n table)
  unfolding no2
  no2_clear = equal_clear 2 (length table) (4 * n)

  pub no2_unequal : (back : List ℕ) → Applies (no2 n table) back → length table ≡ 4 * n → ⊥
  unfolding no2
  no2_unequal = applies_unequal 2 (length table) (4 * n)

module _ (set : List ℕ) where
  pub no3_applies : (length set ≡ 4 → ⊥) → Applies (no3 set) (3 ∷ [])
  unfolding no3
  no3_applies = unequal_applies 3 (length set) 4

  pub no3_clear : length set ≡ 4 → Clear (no3 set)
  unfolding no3
  no3_clear = equal_clear 3 (length set) 4

  pub no3_unequal : (back : List ℕ) → Applies (no3 set) back → length set ≡ 4 → ⊥
  unfolding no3
  no3_unequal = applies_unequal 3 (length set) 4

  pub no3_four : Clear (no3 set) → length set ≡ 4
  unfolding no3
  no3_four = clear_equal 3 (length set) 4

  pub no4_applies : (length set ≡ 4 → ⊥) → Applies (no4 set) (4 ∷ [])
  unfolding no4
  no4_applies = unequal_applies 4 (length set) 4

  pub no4_clear : length set ≡ 4 → Clear (no4 set)
  unfolding no4
  no4_clear = equal_clear 4 (length set) 4

  pub no4_unequal : (back : List ℕ) → Applies (no4 set) back → length set ≡ 4 → ⊥
  unfolding no4
  no4_unequal = applies_unequal 4 (length set) 4

  pub no4_four : Clear (no4 set) → length set ≡ 4
  unfolding no4
  no4_four = clear_equal 4 (length set) 4

-- ---- the places that the code found

-- what is refused at the place that the finder has is what its rule gives
pub place_given : {back place : List ℕ} (number : ℕ) (t : ℕ → ℕ → Bool) (rows columns : ℕ) → back ≡ numbered number place → place ≡ first_place t rows columns
    → back ≡ first_given (across number t rows columns ∷ [])
unfolding gives
place_given number t rows columns e f = e ∙ ap (numbered number) f ∙ one_given (across number t rows columns)

-- the rule applies at the place that the finder has, and is clear where it has none
module _ (p : Option Place) (t : ℕ → ℕ → Bool) (rows columns number : ℕ) (e : place_of p ≡ first_place t rows columns) where
  pub across_at : {place : Place} → p ≡ Some place → Applies (across number t rows columns) (number ∷ place.row ∷ place.column ∷ [])
  unfolding Applies
  across_at {place} f = (place.row, place.column, place_found t rows columns (sym e ∙ ap place_of f), refl)

  pub across_missing : p ≡ None → Clear (across number t rows columns)
  unfolding Clear
  across_missing f = place_nowhere t rows columns (sym e ∙ ap place_of f)

-- a place comes back exactly where it is the first
pub across_exactly : (number : ℕ) (t : ℕ → ℕ → Bool) (rows columns r c : ℕ) → Applies (across number t rows columns) (number ∷ r ∷ c ∷ []) ↔ Found t rows columns r c
unfolding Applies
across_exactly number t rows columns r c = (
  λ a. subst (λ (x : ℕ). Found t rows columns x c) (cc a.3) (subst (λ (y : ℕ). Found t rows columns a.0 y) (cc a.3) a.2),
  λ f. (r, c, f, refl),
)

-- ---- what comes back with a refusal

pub refusal_back : (f : Refusal) → Back (comes_back f)
refusal_back (Alone fault) = record { number = number_of fault; values = []; is = refl }
refusal_back (WithOne fault a) = record { number = number_of fault; values = a ∷ []; is = refl }
refusal_back (At fault place) = record { number = number_of fault; values = place.row ∷ place.column ∷ []; is = refl }

-- no two faults have one number. The cases are left to the tactic, so that no fault is named here
pub fault_once : (f g : Fault) → number_of f ≡ number_of g → f ≡ g
fault_once f g e = grind arith

-- it says which refusal it was
pub refusal_once : (f g : Refusal) → comes_back f ≡ comes_back g → f ≡ g
refusal_once (Alone k) (Alone l) e = ap Alone (fault_once k l (cc))
refusal_once (WithOne k a) (WithOne l b) e = ap₂ WithOne (fault_once k l (cc)) (cc)
refusal_once (At k p) (At l q) e =
    let row : p.row ≡ q.row = cc in
    let column : p.column ≡ q.column = cc in
    let same : p ≡ q = ap₂ (λ (r c : ℕ). let there : Place = record { row = r; column = c } in there) row column in
    ap₂ At (fault_once k l (cc)) same
refusal_once (Alone k) (WithOne l b) e = absurd (let z = ap length e in omega arith)
refusal_once (Alone k) (At l q) e = absurd (let z = ap length e in omega arith)
refusal_once (WithOne k a) (Alone l) e = absurd (let z = ap length e in omega arith)
refusal_once (WithOne k a) (At l q) e = absurd (let z = ap length e in omega arith)
refusal_once (At k p) (Alone l) e = absurd (let z = ap length e in omega arith)
refusal_once (At k p) (WithOne l b) e = absurd (let z = ap length e in omega arith)

-- ---- one verdict after another, as `?` takes them: the first that refuses is given

pub refused_before : (f : Refusal) (rules more : List Rule) → comes_back f ≡ first_given rules → comes_back f ≡ first_given (rules ++ more)
refused_before f rules more e = let b = refusal_back f in b.is ∙ sym (given_before rules more (sym e ∙ b.is))

pub passed_before : (rules more : List Rule) → [] ≡ first_given rules → first_given more ≡ first_given (rules ++ more)
passed_before rules more e = sym (clear_before rules more (all_clear rules (sym e)))
