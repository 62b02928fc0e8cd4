-- The finder, proved once over the test: it gives the first place at which the test holds, and nothing where the test holds nowhere.
-- The rows go as the columns do, each by induction on how many are left. Assumes nothing.
use mathlib.Core.Path.{◌≡◌, refl, sym, ◌∙◌, ap, subst}
use mathlib.Core.Bool.{Bool, true, false, cond}
use mathlib.Core.Logic.{◌⊎◌, inl, inr, ⊎_elim}
use mathlib.Core.List.{List, [], ◌∷◌}
use Prim.Native.Nat.{ℕ, zero, suc, ◌+◌, ◌≤◌, ◌<◌}
use native.Mathlib.Omega.{arith}
use lib.ListN.{length}
use Rattle.graphs.specs.Jobs.{from, up_to, has, ◌∈◌, Ascending}
use Rattle.graphs.proofs.Bools.{cases, same?}
use Rattle.graphs.proofs.Lists.{in_head, in_cons, order_head}
use Rattle.sets.specs.Places.{first_in, in_row, first_place_in, first_place, FirstAt, Found, Nowhere}

-- ---- one row

first_in_here : (t : ℕ → Bool) (at n c : ℕ) → at ≤ c → c < at + n → t c ≡ true → ((k : ℕ) → at ≤ k → k < c → t k ≡ false) → first_in t (from at n) ≡ c ∷ []
unfolding first_in from
first_in_here t at zero c l h y f = absurd (omega arith)
first_in_here t at (suc n) c l h y f = by (same? at c) (λ m. first_in_here t (suc at) n c m (omega arith) y (λ k a b. f k (omega arith) b))
  where
    by : (at ≡ c) ⊎ (at ≡ c → ⊥) → (suc at ≤ c → first_in t (from (suc at) n) ≡ c ∷ []) → cond (t at) (at ∷ []) (first_in t (from (suc at) n)) ≡ c ∷ []
    by (inl e) g = rw (ap t e ∙ y) (ap (λ (x : ℕ). x ∷ []) e)
    by (inr ne) g = rw (f at (omega arith) (omega arith)) (g (omega arith))

first_in_none : (t : ℕ → Bool) (at n : ℕ) → ((k : ℕ) → at ≤ k → k < at + n → t k ≡ false) → first_in t (from at n) ≡ []
unfolding first_in from
first_in_none t at zero f = refl
first_in_none t at (suc n) f = rw (f at (omega arith) (omega arith)) (first_in_none t (suc at) n (λ k a b. f k (omega arith) (omega arith)))

pub first_here : {t : ℕ → Bool} {n c : ℕ} → FirstAt t n c → c < n → first_in t (up_to n) ≡ c ∷ []
unfolding up_to
first_here {t} {n} {c} f h = first_in_here t 0 n c (omega arith) (omega arith) (f.holds h) (λ k a b. f.before k b)

pub first_none : {t : ℕ → Bool} {n c : ℕ} → FirstAt t n c → n ≤ c → first_in t (up_to n) ≡ []
unfolding up_to
first_none {t} {n} {c} f h = first_in_none t 0 n (λ k a b. f.before k (omega arith))

-- there is one, or there is none
pub first_at : (t : ℕ → Bool) (n : ℕ) → (c : ℕ) × FirstAt t n c
first_at t zero = (0, record { within = omega arith; before = λ k h. absurd (omega arith); holds = λ h. absurd (omega arith) })
first_at t (suc n) = by (first_at t n)
  where
    by : (c : ℕ) × FirstAt t n c → (c : ℕ) × FirstAt t (suc n) c
    by r = ⊎_elim (λ e. ⊎_elim
        (λ y. (n, record { within = omega arith; before = λ k h. r.1.before k (omega arith); holds = λ h. y }))
        (λ no. (suc n, record { within = omega arith; before = λ k h. ⊎_elim (λ d. subst (λ (x : ℕ). t x ≡ false) (sym d) no) (λ d. r.1.before k (let w = r.1.within in omega arith)) (same? k n); holds = λ h. absurd (omega arith) }))
        (cases (t n)))
        (λ d. (r.0, record { within = let w = r.1.within in omega arith; before = r.1.before; holds = λ h. r.1.holds (let w = r.1.within in omega arith) }))
        (same? r.0 n)

-- ---- rows and columns

module _ (t : ℕ → ℕ → Bool) where
  row_clear : (columns q : ℕ) → ((k : ℕ) → k < columns → t q k ≡ false) → first_in (t q) (up_to columns) ≡ []
  unfolding up_to
  row_clear columns q f = first_in_none (t q) 0 columns (λ k a b. f k (omega arith))

  place_in_here : (at n columns r c : ℕ) → at ≤ r → r < at + n → FirstAt (t r) columns c → c < columns
      → ((q k : ℕ) → q < r → k < columns → t q k ≡ false) → first_place_in t (from at n) columns ≡ r ∷ c ∷ []
  unfolding first_place_in from
  place_in_here at zero columns r c l h f b g = absurd (omega arith)
  place_in_here at (suc n) columns r c l h f b g = by (same? at r) (λ m. place_in_here (suc at) n columns r c m (omega arith) f b g)
    where
      by : (at ≡ r) ⊎ (at ≡ r → ⊥) → (suc at ≤ r → first_place_in t (from (suc at) n) columns ≡ r ∷ c ∷ [])
          → in_row at (first_in (t at) (up_to columns)) (first_place_in t (from (suc at) n) columns) ≡ r ∷ c ∷ []
      by (inl e) i = rw (ap (λ (x : ℕ). first_in (t x) (up_to columns)) e ∙ first_here f b) (ap (λ (x : ℕ). x ∷ c ∷ []) e)
      by (inr ne) i = rw (row_clear columns at (λ k a. g at k (omega arith) a)) (i (omega arith))

  place_in_none : (at n columns : ℕ) → ((q k : ℕ) → q < at + n → k < columns → t q k ≡ false) → first_place_in t (from at n) columns ≡ []
  unfolding first_place_in from
  place_in_none at zero columns g = refl
  place_in_none at (suc n) columns g = rw (row_clear columns at (λ k a. g at k (omega arith) a)) (place_in_none (suc at) n columns (λ q k a b. g q k (omega arith) b))

  pub place_here : (rows columns r c : ℕ) → r < rows → FirstAt (t r) columns c → c < columns → ((q k : ℕ) → q < r → k < columns → t q k ≡ false)
      → first_place t rows columns ≡ r ∷ c ∷ []
  unfolding first_place up_to
  place_here rows columns r c h f b g = place_in_here 0 rows columns r c (omega arith) (omega arith) f b g

  pub place_none : (rows columns : ℕ) → Nowhere t rows columns → first_place t rows columns ≡ []
  unfolding first_place up_to
  place_none rows columns g = place_in_none 0 rows columns (λ q k a b. g q k (omega arith) b)

  -- one row more in which the test holds nowhere
  pub rows_more : (columns r : ℕ) → Nowhere t r columns → ((k : ℕ) → k < columns → t r k ≡ false) → Nowhere t (r + 1) columns
  rows_more columns r g f h k a b = ⊎_elim (λ e. subst (λ (x : ℕ). t x k ≡ false) (sym e) (f k b)) (λ n. g h k (omega arith) b) (same? h r)

  -- it is found, or the test holds nowhere
  pub place_cases : (rows columns : ℕ) → ((r : ℕ) × (c : ℕ) × Found t rows columns r c) ⊎ Nowhere t rows columns
  place_cases zero columns = inr (λ q k a b. absurd (omega arith))
  place_cases (suc n) columns = by (place_cases n columns)
    where
      by : ((r : ℕ) × (c : ℕ) × Found t n columns r c) ⊎ Nowhere t n columns → ((r : ℕ) × (c : ℕ) × Found t (suc n) columns r c) ⊎ Nowhere t (suc n) columns
      by (inl f) = inl (f.0, f.1, record { row = let h = f.2.row in omega arith; column = f.2.column; holds = f.2.holds; earlier_row = f.2.earlier_row; earlier_column = f.2.earlier_column })
      by (inr g) = last (first_at (t n) columns)
        where
          last : (c : ℕ) × FirstAt (t n) columns c → ((r : ℕ) × (c : ℕ) × Found t (suc n) columns r c) ⊎ Nowhere t (suc n) columns
          last f = ⊎_elim
              (λ e. inr (λ q k a b. ⊎_elim (λ d. subst (λ (x : ℕ). t x k ≡ false) (sym d) (f.1.before k (omega arith))) (λ d. g q k (omega arith) b) (same? q n)))
              (λ d. let h : f.0 < columns = let w = f.1.within in omega arith in
              inl (n, f.0, record { row = omega arith; column = h; holds = f.1.holds h; earlier_row = λ q k a b. g q k a b; earlier_column = f.1.before }))
              (same? f.0 columns)

-- what the list says
pub found_place : {t : ℕ → ℕ → Bool} {rows columns r c : ℕ} → Found t rows columns r c → first_place t rows columns ≡ r ∷ c ∷ []
found_place {t} {rows} {columns} {r} {c} f =
    place_here t rows columns r c f.row (record { within = let h = f.column in omega arith; before = f.earlier_column; holds = λ h. f.holds }) f.column f.earlier_row

module _ (t : ℕ → ℕ → Bool) (rows columns : ℕ) where
  pub place_nowhere : first_place t rows columns ≡ [] → Nowhere t rows columns
  place_nowhere e = ⊎_elim (λ f. absurd (let z = ap length (sym (found_place f.2) ∙ e) in omega arith)) (λ g. g) (place_cases t rows columns)

  pub place_found : {r c : ℕ} → first_place t rows columns ≡ r ∷ c ∷ [] → Found t rows columns r c
  place_found {r} {c} e = ⊎_elim (λ f. same f.0 f.1 f.2 (sym (found_place f.2) ∙ e)) (λ g. absurd (let z = ap length (sym (place_none t rows columns g) ∙ e) in omega arith)) (place_cases t rows columns)
    where
      same : (q k : ℕ) → Found t rows columns q k → q ∷ k ∷ [] ≡ r ∷ c ∷ [] → Found t rows columns r c
      same q k f d = subst (λ (x : ℕ). Found t rows columns x c) (cc d) (subst (λ (y : ℕ). Found t rows columns q y) (cc d) f)

-- the last row alone: there the test holds at the jobs of an ascending list, and in no row before
pub place_last : (t : ℕ → ℕ → Bool) (rows columns r : ℕ) (l : List ℕ) → rows ≡ r + 1 → Ascending l → ((j : ℕ) → j ∈ l → j < columns) → ((c : ℕ) → c < columns → t r c ≡ has l c) → Nowhere t r columns
    → first_place t rows columns ≡ in_row r l []
unfolding has
place_last t rows columns r [] h o b e none = place_none t rows columns (λ q k l i. ⊎_elim
    (λ d. ap (λ (x : ℕ). t x k) d ∙ e k i)
    (λ d. none q k (omega arith) i)
    (same? q r))
place_last t rows columns r (a ∷ l) h o b e none = found_place {r = r} {c = a} (record {
  row = omega arith;
  column = b a (in_head a l);
  holds = e a (b a (in_head a l)) ∙ in_head a l;
  earlier_row = none;
  earlier_column = λ k h. e k (let z = b a (in_head a l) in omega arith) ∙ below_head k h;
})
  where
    below_head : (k : ℕ) → k < a → has (a ∷ l) k ≡ false
    below_head k h = ⊎_elim
        (λ i. ⊎_elim (λ d. absurd (omega arith)) (λ i. absurd (let z = order_head ◌<◌ a l o k i in omega arith)) (in_cons a k l i))
        (λ i. i)
        (cases (has (a ∷ l) k))
