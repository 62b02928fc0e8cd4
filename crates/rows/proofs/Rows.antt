-- Sets and rows as wide as the night: a set's jobs have their rows, a row beside a set, and sets that lie side by side in one room. Assumes nothing.
use mathlib.Core.Path.{◌≡◌, sym, ◌∙◌, ap}
use mathlib.Core.Bool.{false, not}
use mathlib.Core.Logic.{⊎_elim}
use mathlib.Core.List.{List, ◌++◌}
use Prim.Native.Nat.{ℕ, suc, ◌+◌, ◌-◌, ◌*◌, ◌≤◌, ◌<◌}
use native.Mathlib.Omega.{arith}
use native.Mathlib.Nat.{mul-suc, mul-le-mul_left}
use lib.ListN.{length, take, drop, length-take, length-drop, length-append, take-append-drop}
use lib.Seq.{length-take-le, take-append-le, drop-append-le, drop-drop, take_at, drop_at}
use borrow.Rule.Slice.PartMut.{mid_of, post_of, put_mid, drop_put}
use Rattle.graphs.specs.Jobs.{keep, has, ◌∈◌, Part, both, minus}
use Rattle.graphs.proofs.Bools.{lt_or_le}
use Rattle.graphs.proofs.Lists.{part_in, keep_same}
use Rattle.sets.specs.Words.{in_words, jobs}
use Rattle.sets.proofs.Words.{has_jobs, has_jobs_none, far_word}
use Rattle.rows.specs.Rows.{set_at, fits_at, SetIn, Since}

-- ---- a set's jobs have their rows

pub set_here : {w : ℕ} {rows set : List ℕ} (y : ℕ) → SetIn w rows set → y ∈ jobs set → w * y + w ≤ length rows
set_here y s h = s.row y h

pub set_part : {w : ℕ} {rows set : List ℕ} (t : List ℕ) → SetIn w rows set → Part (jobs t) (jobs set) → length t ≡ w → SetIn w rows t
set_part t s p n = record { narrow = s.narrow; words = n; row = λ j h. s.row j (part_in p j h) }

pub since_part : {low : ℕ} {l m : List ℕ} → Since low l → Part m l → Since low m
since_part s p = record { since = λ j h. s.since j (part_in p j h) }

-- ---- a row

pub set_length : (w : ℕ) (room : List ℕ) (i : ℕ) → w * i + w ≤ length room → length (set_at w room i) ≡ w
unfolding set_at
set_length w room i h = simp (length-take, length-drop) (omega arith)

pub set_short : (w : ℕ) (room : List ℕ) (i : ℕ) → length (set_at w room i) ≤ w
unfolding set_at
set_short w room i = simp length-take (omega arith)

-- "Bit c of row r says that r and c fit": whatever c is
pub in_row : (w : ℕ) (rows : List ℕ) (y j : ℕ) → w ≤ 4 → has (jobs (set_at w rows y)) j ≡ fits_at w rows y j
unfolding fits_at
in_row w rows y j n = ⊎_elim (λ h. has_jobs (set_at w rows y) j h) (λ h. has_jobs_none (set_at w rows y) j h ∙ sym (past h)) (lt_or_le j 256)
  where
    past : 256 ≤ j → in_words (set_at w rows y) j ≡ false
    past h = far_word (set_at w rows y) j (let l = set_short w rows y in omega arith) h

-- the row of a job of a set is as wide as the night
pub row_long : {w : ℕ} {rows set row : List ℕ} (y : ℕ) → SetIn w rows set → y ∈ jobs set → row ≡ set_at w rows y → length row ≡ w
row_long {w} {rows} y s i e = ap length e ∙ set_length w rows y (set_here y s i)

-- the jobs of l that y fits, and those that it does not
module _ (w : ℕ) (rows : List ℕ) (y : ℕ) {row : List ℕ} (n : w ≤ 4) (e : row ≡ set_at w rows y) where
  pub row_has : (j : ℕ) → has (jobs row) j ≡ fits_at w rows y j
  row_has j = ap (λ (l : List ℕ). has (jobs l) j) e ∙ in_row w rows y j n

  pub near_row : (l : List ℕ) → both l (jobs row) ≡ keep (fits_at w rows y) l
  unfolding both
  near_row l = keep_same (has (jobs row)) (fits_at w rows y) l row_has

  pub far_row : (l : List ℕ) → minus l (jobs row) ≡ keep (λ j. not (fits_at w rows y j)) l
  unfolding minus
  far_row l = keep_same (λ j. not (has (jobs row) j)) (λ j. not (fits_at w rows y j)) l (λ j. ap not (row_has j))

-- ---- sets side by side. `a..e` is the part of set i: a ≡ w * i and e ≡ a + w

-- a set that lies before a, whatever comes from there on
pub set_before : (w i a : ℕ) (s rest : List ℕ) → w * i + w ≤ a → a ≤ length s → set_at w (take a s ++ rest) i ≡ set_at w s i
unfolding set_at
set_before w i a s rest h l = first rest ∙ sym (first (drop a s)) ∙ ap (λ (x : List ℕ). take w (drop (w * i) x)) (take-append-drop a s)
  where
    first : (m : List ℕ) → take w (drop (w * i) (take a s ++ m)) ≡ take w (drop (w * i) (take a s))
    first m =
        let n = length-take-le a s l in
        let d = length-drop (w * i) (take a s) in
        ap (λ (x : List ℕ). take w x) (drop-append-le (w * i) (take a s) m (omega arith))
        ∙ take-append-le w (drop (w * i) (take a s)) m (omega arith)

module _ (w i : ℕ) (s : List ℕ) {a e : ℕ} (starts : a ≡ w * i) (ends : e ≡ a + w) where
  -- the part of set i is set i
  pub part_is_set : mid_of a (e - a) s ≡ set_at w s i
  unfolding set_at
  part_is_set =
      let k : e - a ≡ w = omega arith in
      ap (λ (x : ℕ). take x (drop a s)) k ∙ ap (λ (x : ℕ). take w (drop x s)) starts

  -- the set that was written
  pub put_here : (t : List ℕ) → length t ≡ w → e ≤ length s → set_at w (put_mid a (e - a) s t) i ≡ t
  unfolding set_at
  put_here t n h =
      ap (λ (l : List ℕ). take w l) (drop_at (take a s) (t ++ post_of a (e - a) s) (w * i) (length-take-le a s (omega arith) ∙ starts))
      ∙ take_at t (post_of a (e - a) s) w n

  -- a set before it, and a set after it
  put_before : (m : ℕ) (t : List ℕ) → m < i → e ≤ length s → set_at w (put_mid a (e - a) s t) m ≡ set_at w s m
  put_before m t h l =
      let p = mul-le-mul_left {m = suc m} {n = i} w h in
      let q = mul-suc w m in
      set_before w m a s (t ++ post_of a (e - a) s) (omega arith) (omega arith)

  put_after : (m : ℕ) (t : List ℕ) → i < m → length t ≡ w → e ≤ length s → set_at w (put_mid a (e - a) s t) m ≡ set_at w s m
  unfolding set_at
  put_after m t h n l =
      let p = mul-le-mul_left {m = suc i} {n = m} w h in
      let q = mul-suc w i in
      let k : e + (w * m - e) ≡ w * m = omega arith in
      let d : drop e (put_mid a (e - a) s t) ≡ drop e s = drop_put a e s t (omega arith) l (omega arith) in
      ap (λ (x : ℕ). take w (drop x (put_mid a (e - a) s t))) (sym k)
      ∙ ap (λ (x : List ℕ). take w x) (sym (drop-drop (w * m - e) e (put_mid a (e - a) s t)) ∙ ap (λ (x : List ℕ). drop (w * m - e) x) d ∙ drop-drop (w * m - e) e s)
      ∙ ap (λ (x : ℕ). take w (drop x s)) k

  -- every other set is as it was
  pub put_other : (m : ℕ) (t : List ℕ) → (m ≡ i → ⊥) → length t ≡ w → e ≤ length s → set_at w (put_mid a (e - a) s t) m ≡ set_at w s m
  put_other m t d n l = ⊎_elim (λ h. put_before m t h l) (λ h. put_after m t (apart h) n l) (lt_or_le m i)
    where
      apart : i ≤ m → i < m
      apart h = ⊎_elim (λ g. g) (λ g. absurd (d (omega arith))) (lt_or_le i m)

-- ---- a part at the front

-- the first so many words have that length
pub first_words : (w : ℕ) (l : List ℕ) → w ≤ length l → w ≡ length (take w l)
first_words w l h = simp length-take (omega arith)

-- of words in front of others
pub front_fits : (l m : List ℕ) {w : ℕ} → length l ≡ w → w ≤ length (l ++ m)
front_fits l m e = let a = length-append l m in omega arith
