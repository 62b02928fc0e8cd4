-- Which of two sets Prefer chose, from the words that it handed back: where the second was chosen, its words are not the first's, since no set is ahead of
-- itself. Assumes nothing.
use mathlib.Core.Path.{◌≡◌, sym, ◌∙◌, ap}
use mathlib.Core.Bool.{Bool, true, false, false≢true}
use mathlib.Core.Logic.{⊎_elim}
use mathlib.Core.List.{List, []}
use Prim.Native.Nat.{ℕ, zero, suc, ◌<◌}
use native.Mathlib.Omega.{arith}
use lib.Dec.{eqb}
use lib.ListN.{length, get_or}
use lib.Seq.{ext_get_or}
use borrow.Author.Tests.{eqb-true, eqb-false}
use Rattle.graphs.specs.First.{ahead}
use Rattle.graphs.proofs.Bools.{cases, never, same?}
use Rattle.sets.specs.Words.{jobs}
use Rattle.sets.specs.Prefer.{preferred}
use Rattle.sets.proofs.Ahead.{ahead_self}
use Rattle.sets.proofs.Preferring.{prefers_part, prefers_part_too, prefers_first, prefers_second}

-- r says whether two lists are equal
pub record SameWords (r : Bool) (a b : List ℕ) : Type 0 where
  pub equal : r ≡ true → a ≡ b
  pub different : r ≡ false → a ≡ b → ⊥

-- two lists of four words are equal if their words are
pub four_equal : (a b : List ℕ) → length a ≡ 4 → length b ≡ 4 → get_or a 0 0 ≡ get_or b 0 0 → get_or a 1 0 ≡ get_or b 1 0 → get_or a 2 0 ≡ get_or b 2 0 → get_or a 3 0 ≡ get_or b 3 0 → a ≡ b
four_equal a b m n e f g h = ext_get_or 0 a b (m ∙ sym n) at
  where
    at : (i : ℕ) → i < length a → get_or a i 0 ≡ get_or b i 0
    at zero k = e
    at (suc zero) k = f
    at (suc (suc zero)) k = g
    at (suc (suc (suc zero))) k = h
    at (suc (suc (suc (suc i)))) k = absurd (omega arith)

-- a word that differs tells, and if the first three are equal the last does
pub differ : (a b : List ℕ) (i : ℕ) → (get_or a i 0 ≡ get_or b i 0 → ⊥) → SameWords false a b
differ a b i ne = record { equal = λ e. absurd (false≢true e); different = λ _ e. ne (ap (λ (l : List ℕ). get_or l i 0) e) }

pub by_last : (a b : List ℕ) → length a ≡ 4 → length b ≡ 4 → get_or a 0 0 ≡ get_or b 0 0 → get_or a 1 0 ≡ get_or b 1 0 → get_or a 2 0 ≡ get_or b 2 0 → SameWords (eqb (get_or a 3 0) (get_or b 3 0)) a b
by_last a b m n e f g =
    record {
      equal = λ h. four_equal a b m n e f g (eqb-true (get_or a 3 0) (get_or b 3 0) h);
      different = λ h q. eqb-false (get_or a 3 0) (get_or b 3 0) h (ap (λ (l : List ℕ). get_or l 3 0) q);
    }

module _ (s t chosen : List ℕ) (by : chosen ≡ preferred s t s t []) where
  -- four words came back: so both sets have four
  first_four : length chosen ≡ 4 → length s ≡ 4
  first_four k = ⊎_elim (λ n. n) (λ ne. absurd (let e = ap length (by ∙ sym (prefers_part s t s t [] ne)) in omega arith)) (same? (length s) 4)

  second_four : length chosen ≡ 4 → length t ≡ 4
  second_four k = ⊎_elim (λ n. n) (λ ne. absurd (let e = ap length (by ∙ sym (prefers_part_too s t s t [] ne)) in omega arith)) (same? (length t) 4)

  module _ {A : Type 0} (first second part : A) where
    -- neither is preferred where they are not four
    pub neither : (length chosen ≡ 4 → ⊥) → part ≡ preferred s t first second part
    neither ne = ⊎_elim (λ m. ⊎_elim (λ n. absurd (ne (is_four m n))) (prefers_part_too s t first second part) (same? (length t) 4)) (prefers_part s t first second part) (same? (length s) 4)
      where
        is_four : length s ≡ 4 → length t ≡ 4 → length chosen ≡ 4
        is_four m n = ⊎_elim (λ a. ap length (by ∙ sym (prefers_second s t s t [] m n a)) ∙ n) (λ a. ap length (by ∙ sym (prefers_first s t s t [] m n a)) ∙ m) (cases (ahead (jobs t) (jobs s)))

    pub is_first : length chosen ≡ 4 → chosen ≡ s → first ≡ preferred s t first second part
    is_first k e = ⊎_elim (λ a. never _ a (not_ahead a)) (prefers_first s t first second part (first_four k) (second_four k)) (cases (ahead (jobs t) (jobs s)))
      where
        not_ahead : ahead (jobs t) (jobs s) ≡ true → ahead (jobs t) (jobs s) ≡ false
        not_ahead a = let q : t ≡ s = prefers_second s t s t [] (first_four k) (second_four k) a ∙ sym by ∙ e in ap (λ (l : List ℕ). ahead (jobs l) (jobs s)) q ∙ ahead_self (jobs s)

    pub is_second : length chosen ≡ 4 → (chosen ≡ s → ⊥) → second ≡ preferred s t first second part
    is_second k ne = ⊎_elim (prefers_second s t first second part (first_four k) (second_four k)) (λ a. absurd (ne (by ∙ sym (prefers_first s t s t [] (first_four k) (second_four k) a)))) (cases (ahead (jobs t) (jobs s)))
