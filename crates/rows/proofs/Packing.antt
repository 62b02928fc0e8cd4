-- Between the four words of the door and the words of the night: the width is enough; a set's first words have the same jobs, where no job is past them; rows copied one by one
-- are the packed rows; and packed rows say what fits as the table does. Assumes nothing.
use mathlib.Core.Path.{◌≡◌, refl, sym, ◌∙◌, ap, subst}
use mathlib.Core.Bool.{false}
use mathlib.Core.Logic.{◌⊎◌, inl, inr, ⊎_elim}
use mathlib.Core.List.{List, [], ◌∷◌, ◌++◌}
use Prim.Native.Nat.{ℕ, zero, suc, ◌+◌, ◌-◌, ◌*◌, ◌/◌, ◌%◌, ◌≤◌, ◌<◌}
use native.Mathlib.Omega.{arith}
use native.Mathlib.Nat.{mul-suc, mul-le-mul_left, mul-le-mul}
use lib.ListN.{length, get_or, set, take, drop, replicate, length-set, length-take, length-drop, get_or-append, get_or-replicate, get_or-eq_default}
use lib.Seq.{take-take, get_or-set_same, get_or-set_other, get_or-take, get_or-drop, get_or-append_right, ext_get_or}
use borrow.Rule.Slice.PartMut.{mid_of, put_mid}
use Rattle.graphs.proofs.Bools.{cases, same?, lt_or_le}
use Rattle.sets.specs.Words.{bit, in_words, jobs, row_of, fits}
use Rattle.sets.specs.Tables.{Accepted}
use Rattle.sets.specs.Tables.{Inside}
use Rattle.sets.proofs.Words.{has_jobs, jobs_of, jobs_below}
use Rattle.rows.specs.Rows.{width_of, set_at, fits_at, SetIn, SetWithin, Packed}
use Rattle.rows.proofs.Onward.{past_last}
use Rattle.rows.proofs.Rows.{set_length, set_short, part_is_set, put_here, put_other}

-- ---- the width of a night of n jobs

pub width_few : (n : ℕ) → n ≤ 256 → width_of n ≤ 4
unfolding width_of
width_few n h = omega arith

pub width_enough : (n : ℕ) → n ≤ 64 * width_of n
unfolding width_of
width_enough n = omega arith

pub inside_width : {n : ℕ} {p : List ℕ} {w : ℕ} → w ≡ width_of n → Inside n p → SetWithin w p
inside_width {n} e i = record { within = λ j h. let l = i.inside j h in let m = width_enough n in omega arith }

-- ---- a set's words, copied

-- the same word, the same jobs of it
same_word : (u v : List ℕ) (j : ℕ) → get_or u (j / 64) 0 ≡ get_or v (j / 64) 0 → in_words u j ≡ in_words v j
unfolding in_words
same_word u v j e = ap (λ (x : ℕ). bit x (j % 64)) e

same_jobs : (u v : List ℕ) → ((j : ℕ) → j < 256 → in_words u j ≡ in_words v j) → jobs u ≡ jobs v
unfolding jobs
same_jobs u v e = jobs_of u (in_words v) e

-- the first q words are copied
pub record Copied (q : ℕ) (src dst : List ℕ) : Type 0 where
  pub each : (v : ℕ) → v < q → get_or dst v 0 ≡ get_or src v 0

-- none at the start, and then one word more
pub copied_none : (src dst : List ℕ) → Copied 0 src dst
copied_none src dst = record { each = λ v h. absurd (omega arith) }

pub copied_next : {q : ℕ} {src dst : List ℕ} → Copied q src dst → q < length dst → Copied (q + 1) src (set dst q (get_or src q 0))
copied_next {q} {src} {dst} c l = record { each = λ v h. by v h (same? v q) }
  where
    by : (v : ℕ) → v < q + 1 → (v ≡ q) ⊎ (v ≡ q → ⊥) → get_or (set dst q (get_or src q 0)) v 0 ≡ get_or src v 0
    by v h (inl e) = subst (λ (x : ℕ). get_or (set dst q (get_or src q 0)) x 0 ≡ get_or src x 0) (sym e) (get_or-set_same dst q (get_or src q 0) 0 l)
    by v h (inr n) = get_or-set_other dst q v (get_or src q 0) 0 n ∙ c.each v (apart (lt_or_le v q))
      where
        apart : (v < q) ⊎ (q ≤ v) → v < q
        apart (inl k) = k
        apart (inr k) = absurd (n (omega arith))

-- where no job is past the first m words, words that have these and no more have the set's jobs
same_front : {m : ℕ} (src dst : List ℕ) → Copied m src dst → SetWithin m (jobs src) → length dst ≤ m → jobs dst ≡ jobs src
same_front {m} src dst c s n = same_jobs dst src (λ j b. ⊎_elim (λ l. same_word dst src j (c.each (j / 64) (omega arith))) (λ l. past_last dst j (omega arith) ∙ sym (none j b l)) (lt_or_le j (64 * m)))
  where
    none : (j : ℕ) → j < 256 → 64 * m ≤ j → in_words src j ≡ false
    none j b l = ⊎_elim (λ e. absurd (let k = s.within j (has_jobs src j b ∙ e) in omega arith)) (λ e. e) (cases (in_words src j))

-- so do as many copied words
pub narrowed : {q m : ℕ} (src dst : List ℕ) → Copied q src dst → SetWithin m (jobs src) → length dst ≡ m → m ≤ q → jobs dst ≡ jobs src
narrowed {q} {m} src dst c s n h = same_front src dst (record { each = λ v l. c.each v (omega arith) }) s (omega arith)

-- and its first m words
pub first_narrowed : (m : ℕ) (ws : List ℕ) → SetWithin m (jobs ws) → jobs (take m ws) ≡ jobs ws
first_narrowed m ws s = same_front ws (take m ws) (record { each = λ v h. get_or-take m ws v 0 h }) s (let k = length-take m ws in omega arith)

-- with empty words after it, a set has the same jobs
pub widened : (m : ℕ) (ws : List ℕ) → m ≤ 4 → jobs (ws ++ drop m (0 ∷ 0 ∷ 0 ∷ 0 ∷ [])) ≡ jobs ws
widened m ws h = same_jobs (ws ++ drop m (replicate 4 none)) ws (λ j b. same_word (ws ++ drop m (replicate 4 none)) ws j (⊎_elim
    (λ l. get_or-append ws (drop m (replicate 4 none)) 0 (j / 64) l)
    (λ l. get_or-append_right ws (drop m (replicate 4 none)) (j / 64) 0 l ∙ empty (j / 64 - length ws) ∙ sym (get_or-eq_default ws 0 {n = j / 64} l))
    (lt_or_le (j / 64) (length ws))))
  where
    none : ℕ
    none = 0

    empty : (k : ℕ) → get_or (drop m (replicate 4 none)) k 0 ≡ 0
    empty k = get_or-drop m (replicate 4 none) k 0 ∙ ⊎_elim (λ l. get_or-replicate 4 (m + k) 0 0 l) (λ l. get_or-eq_default (replicate 4 none) 0 {n = m + k} l) (lt_or_le (m + k) 4)

-- four words, of which the first q are copied and the others are empty
pub record Widened (q : ℕ) (src dst : List ℕ) : Type 0 where
  pub four : length dst ≡ 4
  pub copied : Copied q src dst
  pub empty : (v : ℕ) → q ≤ v → get_or dst v 0 ≡ 0

-- none at the start, then one word more, and in the end the sets are the same
pub widened_none : (src : List ℕ) → Widened 0 src (0 ∷ 0 ∷ 0 ∷ 0 ∷ [])
widened_none src = record { four = refl; copied = copied_none src (0 ∷ 0 ∷ 0 ∷ 0 ∷ []); empty = λ v h. by v }
  where
    none : List ℕ
    none = 0 ∷ 0 ∷ 0 ∷ 0 ∷ []

    by : (v : ℕ) → get_or none v 0 ≡ 0
    by zero = refl
    by (suc zero) = refl
    by (suc (suc zero)) = refl
    by (suc (suc (suc zero))) = refl
    by (suc (suc (suc (suc v)))) = refl

pub widened_next : {q : ℕ} {src dst : List ℕ} → Widened q src dst → q < 4 → Widened (q + 1) src (set dst q (get_or src q 0))
widened_next {q} {src} {dst} w l = record {
  four = simp length-set w.four;
  copied = copied_next w.copied (let f = w.four in omega arith);
  empty = λ v h. get_or-set_other dst q v (get_or src q 0) 0 (λ e. omega arith) ∙ w.empty v (omega arith);
}

pub widened_all : {q : ℕ} (src dst : List ℕ) → Widened q src dst → length src ≤ q → jobs dst ≡ jobs src
widened_all {q} src dst w n = same_jobs dst src (λ j h. same_word dst src j (by (j / 64) (lt_or_le (j / 64) q)))
  where
    by : (v : ℕ) → (v < q) ⊎ (q ≤ v) → get_or dst v 0 ≡ get_or src v 0
    by v (inl h) = w.copied.each v h
    by v (inr h) = w.empty v h ∙ sym (get_or-eq_default src 0 {n = v} (omega arith))

-- ---- rows, copied one by one

-- the words of row r are within the rows
pub row_room : (w : ℕ) {r n : ℕ} → r < n → w * r + w ≤ w * n
row_room w {r} {n} h =
    let p = mul-le-mul_left {m = suc r} {n = n} w h in
    let q = mul-suc w r in
    omega arith

pub rows_few : {w n : ℕ} → w ≤ 4 → n ≤ 256 → w * n ≤ 1024
rows_few {w} {n} a b = mul-le-mul {n₁ = w} {m₁ = n} {n₂ = 4} {m₂ = 256} a b

-- room for 1024 words has the row of every job
pub all_rows : (w : ℕ) (rows set : List ℕ) → w ≤ 4 → length set ≡ w → 1024 ≤ length rows → SetIn w rows set
all_rows w rows set few words room = record {
  narrow = few;
  words = words;
  row = λ j i.
      let a = row_room w {r = j} {n = 256} (jobs_below set j i) in
      let b = rows_few {w = w} {n = 256} few (omega arith) in
      omega arith;
}

-- the first r rows are packed
pub record PackedRows (w r : ℕ) (table rows : List ℕ) : Type 0 where
  pub each : (m : ℕ) → m < r → set_at w rows m ≡ take w (row_of table m)

pub no_rows : (w : ℕ) (table rows : List ℕ) → PackedRows w 0 table rows
no_rows w table rows = record { each = λ m h. absurd (omega arith) }

-- the first words of a row, as a part of the table
row_words : (w : ℕ) (table : List ℕ) (r : ℕ) → w ≤ 4 → mid_of (4 * r) (4 * r + w - 4 * r) table ≡ take w (row_of table r)
unfolding row_of
row_words w table r h =
    let k : 4 * r + w - 4 * r ≡ w = omega arith in
    ap (λ (n : ℕ). take n (drop (4 * r) table)) k ∙ sym (take-take w 4 (drop (4 * r) table) h)

-- one row more
pub row_more : {w r n : ℕ} {table rows t : List ℕ} → PackedRows w r table rows → w ≤ 4 → length rows ≡ w * n → r < n → length t ≡ length (mid_of (w * r) (w * r + w - w * r) rows) → t ≡ mid_of (4 * r) (4 * r + w - 4 * r) table
    → PackedRows w (r + 1) table (put_mid (w * r) (w * r + w - w * r) rows t)
row_more {w} {r} {n} {table} {rows} {t} p few long h same_length is = record { each = λ m l. by m l (same? m r) }
  where
    room : w * r + w ≤ length rows
    room = let a = row_room w h in omega arith

    wide : length t ≡ w
    wide = same_length ∙ ap length (part_is_set w r rows refl refl) ∙ set_length w rows r room

    by : (m : ℕ) → m < r + 1 → (m ≡ r) ⊎ (m ≡ r → ⊥) → set_at w (put_mid (w * r) (w * r + w - w * r) rows t) m ≡ take w (row_of table m)
    by m l (inl e) = subst (λ (x : ℕ). set_at w (put_mid (w * r) (w * r + w - w * r) rows t) x ≡ take w (row_of table x)) (sym e)
        (put_here w r rows refl refl t wide room ∙ is ∙ row_words w table r few)
    by m l (inr d) = put_other w r rows refl refl m t d wide room ∙ p.each m (⊎_elim (λ k. k) (λ k. absurd (d (omega arith))) (lt_or_le m r))

pub all_packed : {w r n : ℕ} {table rows : List ℕ} → PackedRows w r table rows → length rows ≡ w * n → n ≤ r → Packed w n table rows
all_packed p long all = record { long = long; each = λ m h. p.each m (omega arith) }

-- ---- rows, copied word by word

-- the first r rows are packed, and the first q words of row r
pub record PackedTo (w r q : ℕ) (table rows : List ℕ) : Type 0 where
  pub whole : (m v : ℕ) → m < r → v < w → get_or rows (w * m + v) 0 ≡ get_or table (4 * m + v) 0
  pub part : (v : ℕ) → v < q → get_or rows (w * r + v) 0 ≡ get_or table (4 * r + v) 0

-- nothing at the start, then one word more, and the next row
pub packed_none : (w : ℕ) (table rows : List ℕ) → PackedTo w 0 0 table rows
packed_none w table rows = record { whole = λ m v h l. absurd (omega arith); part = λ v h. absurd (omega arith) }

pub packed_word : {w r q : ℕ} {table rows : List ℕ} → PackedTo w r q table rows → q < w → w * r + q < length rows
    → PackedTo w r (q + 1) table (set rows (w * r + q) (get_or table (4 * r + q) 0))
packed_word {w} {r} {q} {table} {rows} p l room = record {
  whole = λ m v h k.
      let z = row_room w h in
      get_or-set_other rows (w * r + q) (w * m + v) (get_or table (4 * r + q) 0) 0 (λ e. omega arith) ∙ p.whole m v h k;
  part = λ v h. by v h (same? v q);
}
  where
    by : (v : ℕ) → v < q + 1 → (v ≡ q) ⊎ (v ≡ q → ⊥) → get_or (set rows (w * r + q) (get_or table (4 * r + q) 0)) (w * r + v) 0 ≡ get_or table (4 * r + v) 0
    by v h (inl e) = subst (λ (x : ℕ). get_or (set rows (w * r + q) (get_or table (4 * r + q) 0)) (w * r + x) 0 ≡ get_or table (4 * r + x) 0) (sym e) (get_or-set_same rows (w * r + q) (get_or table (4 * r + q) 0) 0 room)
    by v h (inr n) = get_or-set_other rows (w * r + q) (w * r + v) (get_or table (4 * r + q) 0) 0 (λ e. n (omega arith)) ∙ p.part v (apart (lt_or_le v q))
      where
        apart : (v < q) ⊎ (q ≤ v) → v < q
        apart (inl k) = k
        apart (inr k) = absurd (n (omega arith))

pub packed_row : {w r q : ℕ} {table rows : List ℕ} → PackedTo w r q table rows → w ≤ q → PackedTo w (r + 1) 0 table rows
packed_row {w} {r} {q} {table} {rows} p all = record { whole = λ m v h l. by m v h l (same? m r); part = λ v h. absurd (omega arith) }
  where
    by : (m v : ℕ) → m < r + 1 → v < w → (m ≡ r) ⊎ (m ≡ r → ⊥) → get_or rows (w * m + v) 0 ≡ get_or table (4 * m + v) 0
    by m v h l (inl e) = subst (λ (x : ℕ). get_or rows (w * x + v) 0 ≡ get_or table (4 * x + v) 0) (sym e) (p.part v (omega arith))
    by m v h l (inr n) = p.whole m v (apart (lt_or_le m r)) l
      where
        apart : (m < r) ⊎ (r ≤ m) → m < r
        apart (inl k) = k
        apart (inr k) = absurd (n (omega arith))

-- the first words of a row of the table
first_words : (w : ℕ) (table : List ℕ) (r n : ℕ) → w ≤ 4 → r < n → length table ≡ 4 * n → length (take w (row_of table r)) ≡ w
unfolding row_of
first_words w table r n h l e = simp (length-take, length-drop) (omega arith)

-- a word of it, and of a row
first_word : (w : ℕ) (table : List ℕ) (r v : ℕ) → w ≤ 4 → v < w → get_or (take w (row_of table r)) v 0 ≡ get_or table (4 * r + v) 0
unfolding row_of
first_word w table r v h l = get_or-take w (take 4 (drop (4 * r) table)) v 0 l ∙ get_or-take 4 (drop (4 * r) table) v 0 (omega arith) ∙ get_or-drop (4 * r) table v 0

set_word : (w : ℕ) (rows : List ℕ) (r v : ℕ) → v < w → get_or (set_at w rows r) v 0 ≡ get_or rows (w * r + v) 0
unfolding set_at
set_word w rows r v l = get_or-take w (drop (w * r) rows) v 0 l ∙ get_or-drop (w * r) rows v 0

-- in the end all rows are packed
pub packed_all : {w r q n : ℕ} {table rows : List ℕ} → PackedTo w r q table rows → w ≤ 4 → length table ≡ 4 * n → length rows ≡ w * n → n ≤ r → Packed w n table rows
packed_all {w} {r} {q} {n} {table} {rows} p few long-table long-rows all = record { long = long-rows; each = each }
  where
    each : (m : ℕ) → m < n → set_at w rows m ≡ take w (row_of table m)
    each m h =
        let z = row_room w h in
        let a = set_length w rows m (omega arith) in
        let b = first_words w table m n few h long-table in
        ext_get_or 0 (set_at w rows m) (take w (row_of table m)) (a ∙ sym b) (λ v l.
        let k : v < w = omega arith in
        set_word w rows m v k ∙ p.whole m v (omega arith) k ∙ sym (first_word w table m v few k))

-- ---- packed rows say what fits as the table does

past_rows : (w n : ℕ) (rows : List ℕ) (r : ℕ) → length rows ≡ w * n → n ≤ r → length (set_at w rows r) ≡ 0
unfolding set_at
past_rows w n rows r e h =
    let p = mul-le-mul_left {m = n} {n = r} w h in
    simp (length-take, length-drop) (omega arith)

-- over any width that has all n jobs
module _ (w n : ℕ) (enough : n ≤ 64 * w) (table : List ℕ) {rows : List ℕ} (accepted : Accepted n table) (packed : Packed w n table rows) where
  -- a place out of the table
  outside : (r c : ℕ) → (r < n → c < n → ⊥) → fits table r c ≡ false
  outside r c h = ⊎_elim (λ e. let i = accepted.inside r c e in absurd (h i.0 i.1)) (λ e. e) (cases (fits table r c))

  in_width : (r c : ℕ) → r < n → c < 64 * w → fits_at w rows r c ≡ fits table r c
  unfolding fits_at fits
  in_width r c h l =
      let k : c / 64 < w = omega arith in
      ap (λ (ws : List ℕ). in_words ws c) (packed.each r h)
      ∙ same_word (take w (row_of table r)) (row_of table r) c (get_or-take w (row_of table r) (c / 64) 0 k)

  past_width : (r c : ℕ) → 64 * w ≤ c → fits_at w rows r c ≡ false
  unfolding fits_at
  past_width r c l =
      let s = set_short w rows r in
      past_last (set_at w rows r) c (omega arith)

  past_all : (r c : ℕ) → n ≤ r → fits_at w rows r c ≡ false
  unfolding fits_at
  past_all r c h =
      let s = past_rows w n rows r packed.long h in
      past_last (set_at w rows r) c (omega arith)

  pub packed_fit : (r c : ℕ) → fits_at w rows r c ≡ fits table r c
  packed_fit r c = ⊎_elim
      (λ h. ⊎_elim (λ l. in_width r c h l) (λ l. past_width r c l ∙ sym (outside r c (λ a b. omega arith))) (lt_or_le c (64 * w)))
      (λ h. past_all r c h ∙ sym (outside r c (λ a b. omega arith)))
      (lt_or_le r n)

  pub packed_fits : fits_at w rows ≡ fits table
  packed_fits = λ i r c. packed_fit r c i
