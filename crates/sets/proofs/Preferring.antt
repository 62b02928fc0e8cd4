-- Prefer: what comes back on each way through the code, whatever it is that is handed back (words or their place); that two replies which the promise allows are
-- equal; and that what comes back is never behind the other. Assumes nothing.
use mathlib.Core.Path.{◌≡◌, refl, sym, ◌∙◌, ap, ap₂, subst}
use mathlib.Core.Bool.{Bool, true, false, ◌&&◌, cond}
use mathlib.Core.Logic.{⊎_elim}
use mathlib.Core.List.{List, []}
use Prim.Native.Nat.{ℕ}
use lib.Dec.{eqb}
use lib.ListN.{length}
use borrow.Author.Tests.{eq-eqb, ne_eqb}
use Rattle.graphs.specs.First.{ahead}
use Rattle.graphs.proofs.Bools.{cases, and_no_right, and_no_left}
use Rattle.sets.specs.Words.{jobs}
use Rattle.sets.specs.Prefer.{preferred, PreferPromise}
use Rattle.sets.proofs.Ahead.{ahead_self, ahead_one}
use denote.Ref.{Bor}

module _ {A : Type 0} (s t : List ℕ) (first second part : A) where
  -- the two tests of the definition, put in
  by_tests : (four better : Bool) → (eqb (length s) 4 && eqb (length t) 4) ≡ four → ahead (jobs t) (jobs s) ≡ better → preferred s t first second part ≡ cond four (cond better second first) part
  unfolding preferred
  by_tests four better e f = ap₂ (λ (x y : Bool). cond x (cond y second first) part) e f

  pub prefers_part : (length s ≡ 4 → ⊥) → part ≡ preferred s t first second part
  prefers_part n = sym (by_tests false (ahead (jobs t) (jobs s)) (and_no_left (eqb (length s) 4) (eqb (length t) 4) (ne_eqb (length s) 4 n)) refl)

  pub prefers_part_too : (length t ≡ 4 → ⊥) → part ≡ preferred s t first second part
  prefers_part_too n = sym (by_tests false (ahead (jobs t) (jobs s)) (and_no_right (eqb (length s) 4) (eqb (length t) 4) (ne_eqb (length t) 4 n)) refl)

  pub prefers_second : length s ≡ 4 → length t ≡ 4 → ahead (jobs t) (jobs s) ≡ true → second ≡ preferred s t first second part
  prefers_second m n e = sym (by_tests true true (ap₂ ◌&&◌ (eq-eqb (length s) 4 m) (eq-eqb (length t) 4 n)) e)

  pub prefers_first : length s ≡ 4 → length t ≡ 4 → ahead (jobs t) (jobs s) ≡ false → first ≡ preferred s t first second part
  prefers_first m n e = sym (by_tests true false (ap₂ ◌&&◌ (eq-eqb (length s) 4 m) (eq-eqb (length t) 4 n)) e)

-- ---- the promise pins what is handed back

pub prefer_unique : {first second a b : Bor (List ℕ)} → PreferPromise first second a → PreferPromise first second b → (a.now ≡ b.now) × (a.ref_ptr ≡ b.ref_ptr)
prefer_unique p q = (p.words ∙ sym q.words, p.place ∙ sym q.place)

-- of two sets of four words the one that is handed back is never behind the other, and it is the first unless the second is ahead
pub prefers_best : (s t : List ℕ) → length s ≡ 4 → length t ≡ 4 → let r = preferred s t s t [] in (ahead (jobs s) (jobs r) ≡ false) × (ahead (jobs t) (jobs r) ≡ false)
prefers_best s t m n = ⊎_elim
    (λ e. subst (λ (r : List ℕ). (ahead (jobs s) (jobs r) ≡ false) × (ahead (jobs t) (jobs r) ≡ false)) (prefers_second s t s t [] m n e) (ahead_one (jobs t) (jobs s) e, ahead_self (jobs t)))
    (λ e. subst (λ (r : List ℕ). (ahead (jobs s) (jobs r) ≡ false) × (ahead (jobs t) (jobs r) ≡ false)) (prefers_first s t s t [] m n e) (ahead_self (jobs s), e))
    (cases (ahead (jobs t) (jobs s)))

-- "the first of the two when they are equal"
pub prefers_tie : {A : Type 0} (s t : List ℕ) (first second part : A) → length s ≡ 4 → length t ≡ 4 → jobs s ≡ jobs t → preferred s t first second part ≡ first
prefers_tie s t first second part m n e = sym (prefers_first s t first second part m n (ap (λ (l : List ℕ). ahead (jobs t) l) e ∙ ahead_self (jobs t)))
