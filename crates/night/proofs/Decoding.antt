-- What a file's bytes fill: the rows of the table, one behind the other, and the holds. The widths and lengths that a night file can have, and its mark. By the laws
-- of pieces of one length. Assumes nothing.
use mathlib.Core.Path.{◌≡◌, refl, sym, ◌∙◌, ap, ap₂}
use mathlib.Core.Bool.{Bool, true, false, cond}
use mathlib.Core.Logic.{◌⊎◌, inl, inr}
use mathlib.Core.List.{List, [], ◌∷◌, ◌++◌, flat_map, append_assoc, append-nil}
use Prim.Native.Nat.{ℕ, zero, suc, ◌+◌, ◌-◌, ◌*◌, ◌/◌, ◌%◌, ◌≤◌, ◌<◌}
use native.Mathlib.Omega.{arith}
use native.Mathlib.Nat.{mul-le-mul}
use lib.Dec.{eqb}
use lib.Pointwise.{pointwise}
use lib.ListN.{length, get_or, take, drop, set, replicate, length-append, length-take, length-drop, length-replicate, get_or-replicate, get_or-append, drop_of_length-le}
use borrow.Rule.Slice.PartMut.{put_mid}
use lib.Seq.{take_at, drop_at, drop-drop, get_or-append-add, get_or-set_same, get_or-set_other, ext_get_or}
use Rattle.graphs.specs.Jobs.{up_to, has}
use Rattle.graphs.proofs.Bools.{same?}
use Rattle.sets.specs.Words.{number, words}
use Rattle.sets.proofs.Words.{length_words}
use Rattle.night.specs.Format.{mark, width, file_length}
use Rattle.night.specs.Reading.{marked, flagged, set_at, row_at, table_in, holds_in, filled_table}
use Rattle.night.proofs.Pieces.{length_pieces, pieces_more, piece, in_piece, row_end}

-- ---- widths and lengths

pub width_le : (n : ℕ) → n ≤ 256 → width n ≤ 32
unfolding width
width_le n h = omega arith

pub width_covers : (n : ℕ) → n ≤ 8 * width n
unfolding width
width_covers n = omega arith

pub area_le : (m n w : ℕ) → m ≤ n → n ≤ 256 → w ≤ 32 → m * w ≤ 8192
area_le m n w l h k = mul-le-mul {n₁ = m} {m₁ = w} {n₂ = 256} {m₂ = 32} (omega arith) k

pub length_flagged : (n : ℕ) → file_length n true ≡ 8 + n * width n + width n
unfolding file_length
length_flagged n = refl

pub length_plain : (n : ℕ) → file_length n false ≡ 8 + n * width n
unfolding file_length
length_plain n = let z : 8 + n * width n + 0 ≡ 8 + n * width n = omega arith in z

pub length_least : (n : ℕ) (b : Bool) → 8 + n * width n ≤ file_length n b
unfolding file_length
length_least n b = omega arith

-- ---- the mark

-- what the code's test of the first three bytes comes to
pub starts_marked : (file : List ℕ) → pointwise eqb mark (take 3 file) ≡ marked file
unfolding marked
starts_marked [] = refl
starts_marked (a ∷ []) = grind arith
starts_marked (a ∷ b ∷ []) = grind arith
starts_marked (a ∷ b ∷ c ∷ l) = grind arith

-- ---- the words of a row

pub length_row : (file : List ℕ) (w r : ℕ) → length (row_at file w r) ≡ 4
unfolding row_at
length_row file w r = length_words (set_at file (8 + r * w) w)

row_word : (file : List ℕ) (w r q : ℕ) → q < 4 → get_or (row_at file w r) q 0 ≡ number (has (set_at file (8 + r * w) w)) (64 * q) 64
unfolding row_at words
row_word file w r zero h = refl
row_word file w r (suc zero) h = refl
row_word file w r (suc (suc zero)) h = refl
row_word file w r (suc (suc (suc zero))) h = refl
row_word file w r (suc (suc (suc (suc q)))) h = absurd (omega arith)

module _ (file : List ℕ) (n : ℕ) where
  pub length_table : length (table_in file n) ≡ 4 * n
  unfolding table_in
  length_table = length_pieces (row_at file (width n)) 4 (length_row file (width n)) n ∙ omega arith

  pub length_filled : n ≤ 256 → length (filled_table file n) ≡ 1024
  unfolding filled_table
  length_filled h = length-append (table_in file n) (replicate (1024 - 4 * n) 0) ∙ ap₂ ◌+◌ length_table (length-replicate (1024 - 4 * n) 0) ∙ omega arith

  pub take_filled : take (4 * n) (filled_table file n) ≡ table_in file n
  unfolding filled_table
  take_filled = take_at (table_in file n) (replicate (1024 - 4 * n) 0) (4 * n) length_table

  -- a word of the rows, and a word past them
  pub row_of_table : (r : ℕ) → r < n → take 4 (drop (4 * r) (table_in file n)) ≡ row_at file (width n) r
  unfolding table_in
  row_of_table r h =
      let e : 4 * r ≡ r * 4 = omega arith in
      ap (λ (x : ℕ). take 4 (drop x (flat_map (row_at file (width n)) (up_to n)))) e ∙ piece (row_at file (width n)) 4 (length_row file (width n)) n r h

  pub word_in : (k : ℕ) → k < 4 * n → get_or (table_in file n) k 0 ≡ number (has (set_at file (8 + k / 4 * width n) (width n))) (64 * (k % 4)) 64
  unfolding table_in
  word_in k h =
      let e : k ≡ k / 4 * 4 + k % 4 = omega arith in
      ap (λ (x : ℕ). get_or (flat_map (row_at file (width n)) (up_to n)) x 0) e
      ∙ in_piece (row_at file (width n)) 4 (length_row file (width n)) n (k / 4) (k % 4) (omega arith) (omega arith)
      ∙ row_word file (width n) (k / 4) (k % 4) (omega arith)

  -- the same words in the room for the most rows, and the zeros behind them
  pub table_word : (k : ℕ) → k < 4 * n → get_or (filled_table file n) k 0 ≡ number (has (set_at file (8 + k / 4 * width n) (width n))) (64 * (k % 4)) 64
  unfolding filled_table
  table_word k h = get_or-append (table_in file n) (replicate (1024 - 4 * n) 0) 0 k (let l = length_table in omega arith) ∙ word_in k h

  pub table_past : (k : ℕ) → 4 * n ≤ k → k < 1024 → get_or (filled_table file n) k 0 ≡ 0
  unfolding filled_table
  table_past k l h =
      let e : k ≡ length (table_in file n) + (k - 4 * n) = (let m = length_table in omega arith) in
      ap (λ (x : ℕ). get_or (table_in file n ++ replicate (1024 - 4 * n) 0) x 0) e ∙ get_or-append-add (table_in file n) (replicate (1024 - 4 * n) 0) (k - 4 * n) 0
      ∙ get_or-replicate (1024 - 4 * n) (k - 4 * n) 0 0 (omega arith)

  -- ---- the holds

  pub holds_listed : flagged file ≡ true → holds_in file n ≡ words (set_at file (8 + n * width n) (width n))
  unfolding holds_in row_at
  holds_listed e = ap (λ (b : Bool). cond b (words (set_at file (8 + n * width n) (width n))) (0 ∷ 0 ∷ 0 ∷ 0 ∷ [])) e

  pub holds_plain : flagged file ≡ false → holds_in file n ≡ 0 ∷ 0 ∷ 0 ∷ 0 ∷ []
  unfolding holds_in
  holds_plain e = ap (λ (b : Bool). cond b (row_at file (width n) n) (0 ∷ 0 ∷ 0 ∷ 0 ∷ [])) e

-- ---- filling a list from the front

-- one word more agrees with what is to be filled in
pub filled_more : (goal l : List ℕ) (k v : ℕ) → k < length l → ((i : ℕ) → i < k → get_or l i 0 ≡ get_or goal i 0) → v ≡ get_or goal k 0
    → (i : ℕ) → i < k + 1 → get_or (set l k v) i 0 ≡ get_or goal i 0
filled_more goal l k v h e d i b = by (same? i k)
  where
    by : (i ≡ k) ⊎ (i ≡ k → ⊥) → get_or (set l k v) i 0 ≡ get_or goal i 0
    by (inl s) = ap (λ (x : ℕ). get_or (set l k v) x 0) s ∙ get_or-set_same l k v 0 h ∙ d ∙ ap (λ (x : ℕ). get_or goal x 0) (sym s)
    by (inr s) = get_or-set_other l k i v 0 s ∙ e i (omega arith)

-- filled as far as it is long, it is what is to be filled in
pub filled_all : (goal l : List ℕ) (k : ℕ) → length goal ≡ k → length l ≡ k → ((i : ℕ) → i < k → get_or l i 0 ≡ get_or goal i 0) → l ≡ goal
filled_all goal l k g h e = ext_get_or 0 l goal (h ∙ sym g) (λ i b. e i (omega arith))

-- four words that were put together one by one
pub words_of_four : (l : List ℕ) {a b c d : ℕ} → a ≡ number (has l) 0 64 → b ≡ number (has l) 64 64 → c ≡ number (has l) 128 64 → d ≡ number (has l) 192 64 → a ∷ b ∷ c ∷ d ∷ [] ≡ words l
unfolding words
words_of_four l p q r s = ap₂ ◌∷◌ p (ap₂ ◌∷◌ q (ap₂ ◌∷◌ r (ap₂ ◌∷◌ s refl)))

-- ---- filling the table, row by row

-- a row stands within the file
pub row_within : (file : List ℕ) (n r : ℕ) (listed : Bool) → length file ≡ file_length n listed → r < n → 8 + r * width n + width n ≤ length file
row_within file n r listed e h = let k = row_end r n (width n) h in let l = length_least n listed in omega arith

module _ (file : List ℕ) (w r : ℕ) (table₀ table : List ℕ) (is : table ≡ flat_map (row_at file w) (up_to r) ++ drop (4 * r) table₀) where
  long : length (flat_map (row_at file w) (up_to r)) ≡ 4 * r
  long = length_pieces (row_at file w) 4 (length_row file w) r ∙ omega arith

  front : take (4 * r) table ≡ flat_map (row_at file w) (up_to r)
  front = ap (take (4 * r)) is ∙ take_at (flat_map (row_at file w) (up_to r)) (drop (4 * r) table₀) (4 * r) long

  back : drop (4 * r) table ≡ drop (4 * r) table₀
  back = ap (drop (4 * r)) is ∙ drop_at (flat_map (row_at file w) (up_to r)) (drop (4 * r) table₀) (4 * r) long

  -- one row more
  pub rows_more : (k : ℕ) (row : List ℕ) → k ≡ 4 → row ≡ row_at file w r → put_mid (4 * r) k table row ≡ flat_map (row_at file w) (up_to (r + 1)) ++ drop (4 * (r + 1)) table₀
  rows_more k row e d =
      let z : 4 * r + 4 ≡ 4 * (r + 1) = omega arith in
      ap₂ (λ (x : ℕ) (l : List ℕ). take (4 * r) table ++ (l ++ drop x (drop (4 * r) table))) e d
      ∙ ap₂ (λ (f b : List ℕ). f ++ (row_at file w r ++ drop 4 b)) front back
      ∙ ap (λ (b : List ℕ). flat_map (row_at file w) (up_to r) ++ (row_at file w r ++ b)) (drop-drop 4 (4 * r) table₀ ∙ ap (λ (x : ℕ). drop x table₀) z)
      ∙ sym (append_assoc (flat_map (row_at file w) (up_to r)) (row_at file w r) (drop (4 * (r + 1)) table₀))
      ∙ ap (λ (f : List ℕ). f ++ drop (4 * (r + 1)) table₀) (sym (pieces_more (row_at file w) r))

-- all rows, where the words are as many as theirs
pub rows_done : (file : List ℕ) (n r : ℕ) (table₀ table : List ℕ) → table ≡ flat_map (row_at file (width n)) (up_to r) ++ drop (4 * r) table₀ → r ≡ n → length table₀ ≡ 4 * n → table ≡ table_in file n
unfolding table_in
rows_done file n r table₀ table is e l =
    is ∙ ap₂ (λ (x : ℕ) (b : List ℕ). flat_map (row_at file (width n)) (up_to x) ++ b) e (drop_of_length-le table₀ (omega arith)) ∙ append-nil (flat_map (row_at file (width n)) (up_to n))

-- the rows in front, and zeros behind them
pub zeros_behind : (file : List ℕ) (n : ℕ) (table₀ rows zeros : List ℕ) {table : List ℕ} → rows ≡ table_in file n → table ≡ rows ++ drop (4 * n) table₀ → length table₀ ≡ 1024 → n ≤ 256
    → zeros ≡ replicate (length (take (length table - 4 * n) (drop (4 * n) table))) 0 → put_mid (4 * n) (length table - 4 * n) table zeros ≡ filled_table file n
unfolding filled_table
zeros_behind file n table₀ rows zeros {table} d is l few z =
    let long : length rows ≡ 4 * n = ap length d ∙ length_table file n in
    let all : length table ≡ 1024 = ap length is ∙ simp (length-append, length-drop) (omega arith) in
    let front : take (4 * n) table ≡ table_in file n = ap (take (4 * n)) is ∙ take_at rows (drop (4 * n) table₀) (4 * n) long ∙ d in
    let many : length (take (length table - 4 * n) (drop (4 * n) table)) ≡ 1024 - 4 * n = simp (length-take, length-drop) (omega arith) in
    let none : drop (length table - 4 * n) (drop (4 * n) table) ≡ [] = drop_of_length-le (drop (4 * n) table) (simp length-drop (omega arith)) in
    let zero : zeros ≡ replicate (1024 - 4 * n) 0 = z ∙ ap (λ (k : ℕ). replicate k 0) many in
    let back : zeros ++ drop (length table - 4 * n) (drop (4 * n) table) ≡ replicate (1024 - 4 * n) 0 = ap₂ ◌++◌ zero none ∙ append-nil (replicate (1024 - 4 * n) 0) in
    ap₂ ◌++◌ front back
