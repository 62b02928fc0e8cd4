-- The table's tests: what a bit that the code reads says, what each test comes to in the cases that the code tells apart, and that a table which no check
-- refuses is symmetric, free of self-pairs and empty from job n on. Rows past the table's end hold nothing, so these facts need no bounds. Assumes nothing.
use mathlib.Core.Path.{◌≡◌, refl, sym, ◌∙◌, ap, ap₂}
use mathlib.Core.Bool.{Bool, true, false, not, ◌&&◌, beq, true≢false}
use mathlib.Core.Logic.{⊎_elim}
use mathlib.Core.List.{List, [], ◌∷◌, ◌++◌}
use Prim.Native.Nat.{ℕ, ◌+◌, ◌*◌, ◌/◌, ◌%◌, ◌≤◌, ◌<◌}
use native.Mathlib.Omega.{arith}
use lib.Dec.{eqb}
use lib.ListN.{length, get_or, take, drop, drop_of_length-le, get_or-append}
use lib.Seq.{get_or-take, get_or-drop, get_or-append-add, take-nil}
use borrow.Author.Tests.{eq-eqb, ne_eqb, eqb-true, le-leb, lt-leb, ltb-false, not-false}
use Rattle.graphs.specs.Jobs.{has, ◌∈◌}
use Rattle.graphs.proofs.Bools.{cases, never, lt_or_le, same?}
use Rattle.sets.specs.Words.{bit, in_words, jobs, row_of, fits}
use Rattle.sets.specs.Places.{Nowhere}
use Rattle.sets.specs.Rules.{Clear, AllClear}
use Rattle.sets.specs.Tables.{no1, no2, no5, no6, no7, beyond, itself, one_way, misfit, Accepted}
use Rattle.sets.proofs.Bits.{bit_zero}
use Rattle.sets.proofs.Words.{has_jobs, jobs_below, fits_row}

-- ---- a bit of the table

-- the word that holds bit c of row r
pub fits_word : (table : List ℕ) (r c : ℕ) → c < 256 → fits table r c ≡ bit (get_or table (4 * r + c / 64) 0) (c % 64)
unfolding fits in_words row_of
fits_word table r c h = ap (λ (w : ℕ). bit w (c % 64)) (get_or-take 4 (drop (4 * r) table) (c / 64) 0 (omega arith) ∙ get_or-drop (4 * r) table (c / 64) 0)

-- no row past the end
pub fits_past : (table : List ℕ) (r c : ℕ) → length table ≤ 4 * r → fits table r c ≡ false
unfolding fits in_words row_of
fits_past table r c h =
    ap (λ (l : List ℕ). bit (get_or l (c / 64) 0) (c % 64)) (ap (take 4) (drop_of_length-le table {i = 4 * r} h) ∙ take-nil 4) ∙ bit_zero (c % 64)

-- no column from 256 on
pub fits_wide : (table : List ℕ) (r c : ℕ) → 256 ≤ c → fits table r c ≡ false
unfolding Rattle.sets.specs.Words.row_jobs
fits_wide table r c h = ⊎_elim (λ e. absurd (let l = jobs_below (row_of table r) c (fits_row table r c ∙ e) in omega arith)) (λ e. e) (cases (fits table r c))

-- with the set behind the table: its rows stay, and row n is the set
module _ (n : ℕ) (table set : List ℕ) (long : length table ≡ 4 * n) where
  pub fits_table : (r c : ℕ) → r < n → fits (table ++ set) r c ≡ fits table r c
  fits_table r c h = ⊎_elim
      (λ b. fits_word (table ++ set) r c b ∙ ap (λ (w : ℕ). bit w (c % 64)) (get_or-append table set 0 (4 * r + c / 64) (omega arith)) ∙ sym (fits_word table r c b))
      (λ b. fits_wide (table ++ set) r c b ∙ sym (fits_wide table r c b))
      (lt_or_le c 256)

  pub fits_set : (c : ℕ) → c < 256 → fits (table ++ set) n c ≡ in_words set c
  unfolding in_words
  fits_set c b =
      let e : 4 * n + c / 64 ≡ length table + c / 64 = omega arith in
      fits_word (table ++ set) n c b ∙ ap (λ (w : ℕ). bit w (c % 64)) (ap (λ (i : ℕ). get_or (table ++ set) i 0) e ∙ get_or-append-add table set (c / 64) 0)

  -- ---- number 5, as the code asks it

  pub beyond_low : (r c : ℕ) → c < n → beyond n table set r c ≡ false
  unfolding beyond
  beyond_low r c h = ap (λ (b : Bool). b && fits (table ++ set) r c) (lt-leb n c h)

  pub beyond_row : (r c : ℕ) → n ≤ c → r < n → beyond n table set r c ≡ fits table r c
  unfolding beyond
  beyond_row r c h l = ap (λ (b : Bool). b && fits (table ++ set) r c) (le-leb n c h) ∙ fits_table r c l

  pub beyond_set : (r c : ℕ) → n ≤ c → c < 256 → n ≤ r → r < n + 1 → beyond n table set r c ≡ has (jobs set) c
  unfolding beyond
  beyond_set r c h b l m =
      let e : r ≡ n = omega arith in
      ap (λ (b : Bool). b && fits (table ++ set) r c) (le-leb n c h) ∙ ap (λ (x : ℕ). fits (table ++ set) x c) e ∙ fits_set c b ∙ sym (has_jobs set c b)

-- ---- the other tests, as the code asks them

pub itself_no : (table : List ℕ) (r c : ℕ) → (r ≡ c → ⊥) → itself table r c ≡ false
unfolding itself
itself_no table r c n = ap (λ (b : Bool). b && fits table r c) (ne_eqb r c n)

pub itself_yes : (table : List ℕ) (r c : ℕ) → r ≡ c → itself table r c ≡ fits table r c
unfolding itself
itself_yes table r c e = ap (λ (b : Bool). b && fits table r c) (eq-eqb r c e)

module _ (table set : List ℕ) (a b : ℕ) where
  pub misfit_same : a ≡ b → misfit table set a b ≡ false
  unfolding misfit
  misfit_same e = ap (λ (x : Bool). not x && not (fits table a b) && in_words set a && in_words set b) (eq-eqb a b e)

  pub misfit_fits : (a ≡ b → ⊥) → fits table a b ≡ true → misfit table set a b ≡ false
  unfolding misfit
  misfit_fits n f = ap₂ (λ (x y : Bool). not x && not y && in_words set a && in_words set b) (ne_eqb a b n) f

  misfit_both : (a ≡ b → ⊥) → fits table a b ≡ false → a < 256 → b < 256 → misfit table set a b ≡ (has (jobs set) a && has (jobs set) b)
  unfolding misfit
  misfit_both n f p q = ap₂ (λ (x y : Bool). not x && not y && in_words set a && in_words set b) (ne_eqb a b n) f ∙ ap₂ ◌&&◌ (sym (has_jobs set a p)) (sym (has_jobs set b q))

  pub misfit_in : (a ≡ b → ⊥) → fits table a b ≡ false → a < 256 → b < 256 → a ∈ jobs set → misfit table set a b ≡ has (jobs set) b
  misfit_in n f p q i = misfit_both n f p q ∙ ap (λ (x : Bool). x && has (jobs set) b) i

  pub misfit_out : (a ≡ b → ⊥) → fits table a b ≡ false → a < 256 → b < 256 → has (jobs set) a ≡ false → misfit table set a b ≡ false
  misfit_out n f p q i = misfit_both n f p q ∙ ap (λ (x : Bool). x && has (jobs set) b) i

-- ---- an accepted table

-- numbers 1 and 2: n is small, and the table has its words
pub few_jobs : (n : ℕ) → Clear (no1 n) → n ≤ 256
unfolding no1 Clear
few_jobs n e = ltb-false 256 n e

pub right_length : (n : ℕ) (table : List ℕ) → Clear (no2 n table) → length table ≡ 4 * n
unfolding no2 Clear
right_length n table e = eqb-true (length table) (4 * n) (not-false (eqb (length table) (4 * n)) e)

module _ (n : ℕ) (table : List ℕ) where
  -- number 5: no bit for a job n or above, in the table and in the set
  module _ (set : List ℕ) (few : n ≤ 256) (long : length table ≡ 4 * n) (none : Clear (no5 n table set)) where
    nowhere : Nowhere (beyond n table set) (n + 1) 256
    unfolding no5 Clear
    nowhere = none

    pub table_inside : (r c : ℕ) → fits table r c ≡ true → (r < n) × (c < n)
    table_inside r c f = (row, column)
      where
        row : r < n
        row = ⊎_elim (λ h. h) (λ h. never (fits table r c) f (fits_past table r c (omega arith))) (lt_or_le r n)

        wide : c < 256
        wide = ⊎_elim (λ h. h) (λ h. never (fits table r c) f (fits_wide table r c h)) (lt_or_le c 256)

        column : c < n
        column = ⊎_elim (λ h. h) (λ h. never (fits table r c) f (sym (beyond_row n table set long r c h row) ∙ nowhere r c (let k = row in omega arith) wide)) (lt_or_le c n)

    pub set_inside : (j : ℕ) → j ∈ jobs set → j < n
    set_inside j i = ⊎_elim (λ h. h) (λ h. never (has (jobs set) j) i (sym (beyond_set n table set long n j h (jobs_below set j i) (omega arith) (omega arith)) ∙ nowhere n j (omega arith) (jobs_below set j i))) (lt_or_le j n)

  -- numbers 6 and 7, where number 5 does not apply
  module _ (inside : (r c : ℕ) → fits table r c ≡ true → (r < n) × (c < n)) where
    pub table_apart : Clear (no6 n table) → (r : ℕ) → fits table r r ≡ false
    unfolding no6 Clear
    table_apart e r = ⊎_elim
        (λ f. let h = inside r r f in never (fits table r r) f (sym (itself_yes table r r refl) ∙ e r r h.0 h.0))
        (λ f. f) (cases (fits table r r))

    pub table_two_way : Clear (no7 n table) → (r c : ℕ) → fits table r c ≡ fits table c r
    unfolding no7 one_way Clear
    table_two_way e r c = by (fits table r c) (fits table c r) refl refl
      where
        same : (a b : Bool) → not (beq a b) ≡ false → a ≡ b
        same true true d = refl
        same true false d = absurd (true≢false d)
        same false true d = absurd (true≢false d)
        same false false d = refl

        here : (r < n) × (c < n) → fits table r c ≡ fits table c r
        here h = same (fits table r c) (fits table c r) (e r c h.0 h.1)

        by : (a b : Bool) → fits table r c ≡ a → fits table c r ≡ b → fits table r c ≡ fits table c r
        by true b f g = here (inside r c f)
        by false true f g = let h = inside c r g in here (h.1, h.0)
        by false false f g = f ∙ sym g

  -- "An accepted table is known to be symmetric, free of self-pairs and empty from job n on"
  pub accepted : (set : List ℕ) → Clear (no1 n) → Clear (no2 n table) → Clear (no5 n table set) → Clear (no6 n table) → Clear (no7 n table) → Accepted n table
  accepted set e1 e2 e5 e6 e7 =
      let few = few_jobs n e1 in
      let long = right_length n table e2 in
      let inside = table_inside set few long e5 in
      record { few = few; long = long; inside = inside; apart = table_apart inside e6; two_way = table_two_way inside e7 }

-- ---- and the way back: an accepted table meets none of the rules

module _ (n : ℕ) (table : List ℕ) (a : Accepted n table) where
  pub no5_clear : (set : List ℕ) → ((j : ℕ) → j ∈ jobs set → j < n) → Clear (no5 n table set)
  unfolding no5 Clear
  no5_clear set inside = clear
    where
      clear : Nowhere (beyond n table set) (n + 1) 256
      clear r c h b = ⊎_elim
          (λ low. beyond_low n table set a.long r c low)
          (λ high. ⊎_elim
          (λ row. beyond_row n table set a.long r c high row ∙ ⊎_elim (λ f. absurd (let k = a.inside r c f in omega arith)) (λ f. f) (cases (fits table r c)))
          (λ past. beyond_set n table set a.long r c high b past h ∙ ⊎_elim (λ i. absurd (let k = inside c i in omega arith)) (λ i. i) (cases (has (jobs set) c)))
          (lt_or_le r n))
          (lt_or_le c n)

  pub no6_clear : Clear (no6 n table)
  unfolding no6 itself Clear
  no6_clear r c h b = ⊎_elim (λ e. itself_yes table r c e ∙ ap (λ (x : ℕ). fits table r x) (sym e) ∙ a.apart r) (λ d. itself_no table r c d) (same? r c)

  pub no7_clear : Clear (no7 n table)
  unfolding no7 one_way Clear
  no7_clear r c h b = ap (λ (x : Bool). not (beq (fits table r c) x)) (a.two_way c r) ∙ equal (fits table r c)
    where
      equal : (x : Bool) → not (beq x x) ≡ false
      equal true = refl
      equal false = refl

  -- "No other" is turned down: no rule on the table applies
  pub marks_clear : (set : List ℕ) → ((j : ℕ) → j ∈ jobs set → j < n) → AllClear (no5 n table set ∷ no6 n table ∷ no7 n table ∷ [])
  unfolding AllClear
  marks_clear set inside = (no5_clear set inside, (no6_clear, (no7_clear, tt)))
