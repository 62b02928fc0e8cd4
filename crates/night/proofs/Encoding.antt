-- What the stores of Write leave: the header, a set in its part of the output, a row more of the table, and the whole file. A store to a part is a run of stores,
-- and runs that stand one behind the other are one. Assumes nothing.
use mathlib.Core.Path.{◌≡◌, refl, sym, ◌∙◌, ap, ap₂}
use mathlib.Core.Bool.{Bool, true, false, not, cond}
use mathlib.Core.List.{List, [], ◌∷◌, ◌++◌, flat_map, append_assoc, append-nil}
use Prim.Native.Nat.{ℕ, ◌+◌, ◌*◌, ◌/◌, ◌%◌, ◌≤◌}
use borrow.Rule.Slice.PartMut.{put_mid}
use mir.Val.{bool_byte}
use native.Mathlib.Omega.{arith}
use lib.ListN.{length, take, drop, set, length-append, length-take, length-drop}
use lib.Seq.{drop-drop, sets, sets-eq}
use borrow.Author.Tests.{eq-eqb, ne_eqb}
use Rattle.graphs.specs.Jobs.{up_to}
use Rattle.sets.specs.Words.{jobs, row_jobs}
use Rattle.night.specs.Format.{mark, header, width, byte_of, set_bytes, row_bytes, held, flags_of, hold_bytes, bytes, file_length}
use Rattle.night.specs.Versions.{Version, one, bytes_as, length_as}
use Rattle.night.proofs.Pieces.{values_more, pieces_more, length_pieces, sets_append}
use Rattle.night.proofs.Bytes.{length_set_bytes}
use Rattle.night.proofs.Decoding.{length_flagged, length_plain}

-- ---- the header

-- what the four stores of a header leave
pub header_laid : (out : List ℕ) (n flags : ℕ) → n ≤ 256 → 8 ≤ length out
    → set (put_mid 5 2 (put_mid 3 2 (mark ++ drop 3 out) (1 ∷ 0 ∷ [])) (n % 256 ∷ n / 256 % 256 ∷ [])) 7 flags ≡ sets out 0 (header n flags)
unfolding header
header_laid [] n flags h l = absurd (omega arith)
header_laid (a ∷ []) n flags h l = absurd (omega arith)
header_laid (a ∷ b ∷ []) n flags h l = absurd (omega arith)
header_laid (a ∷ b ∷ c ∷ []) n flags h l = absurd (omega arith)
header_laid (a ∷ b ∷ c ∷ d ∷ []) n flags h l = absurd (omega arith)
header_laid (a ∷ b ∷ c ∷ d ∷ e ∷ []) n flags h l = absurd (omega arith)
header_laid (a ∷ b ∷ c ∷ d ∷ e ∷ f ∷ []) n flags h l = absurd (omega arith)
header_laid (a ∷ b ∷ c ∷ d ∷ e ∷ f ∷ g ∷ []) n flags h l = absurd (omega arith)
header_laid (a ∷ b ∷ c ∷ d ∷ e ∷ f ∷ g ∷ i ∷ rest) n flags h l =
    let z : n / 256 % 256 ≡ n / 256 = omega arith in ap (λ (x : ℕ). 80 ∷ 82 ∷ 83 ∷ 1 ∷ 0 ∷ n % 256 ∷ x ∷ flags ∷ rest) z

pub flag_byte : (b : Bool) → bool_byte b ≡ cond b 1 0
flag_byte true = refl
flag_byte false = refl

-- ---- stores

-- stores behind a run of stores
pub put_behind : (out₀ out : List ℕ) (at k : ℕ) (vs ws : List ℕ) → out ≡ sets out₀ at vs → k ≡ at + length vs → sets out k ws ≡ sets out₀ at (vs ++ ws)
put_behind out₀ out at k vs ws e d = ap₂ (λ (o : List ℕ) (x : ℕ). sets o x ws) e d ∙ sets_append out₀ at vs ws

-- one byte more of a set
pub put_more : (out₀ out : List ℕ) (at : ℕ) (l : List ℕ) (i v : ℕ) → out ≡ sets out₀ at (set_bytes i l) → v ≡ byte_of l i → set out (at + i) v ≡ sets out₀ at (set_bytes (i + 1) l)
unfolding set_bytes
put_more out₀ out at l i v e d =
    put_behind out₀ out at (at + i) (set_bytes i l) (v ∷ []) e (ap (λ (x : ℕ). at + x) (sym (length_set_bytes i l)))
    ∙ ap (λ (x : ℕ). sets out₀ at (set_bytes i l ++ x ∷ [])) d ∙ ap (sets out₀ at) (sym (values_more (byte_of l) i))

-- a write to a part
pub put_part : (out : List ℕ) (at k : ℕ) (vs : List ℕ) → length vs ≡ k → at + k ≤ length out → put_mid at k out vs ≡ sets out at vs
put_part out at k vs l h =
    ap (λ (x : List ℕ). take at out ++ (vs ++ x)) (drop-drop k at out ∙ ap (λ (x : ℕ). drop (at + x) out) (sym l))
    ∙ sym (append_assoc (take at out) vs (drop (at + length vs) out)) ∙ sym (sets-eq vs out at (omega arith))

-- the bytes of a set, written to a part that is as long as they are
pub put_bytes : (out : List ℕ) (at k w : ℕ) (l vs : List ℕ) → k ≡ w → at + w ≤ length out → vs ≡ set_bytes (length (take k (drop at out))) l → put_mid at k out vs ≡ sets out at (set_bytes w l)
put_bytes out at k w l vs e h is =
    let m : length (take k (drop at out)) ≡ w = simp (length-take, length-drop) (omega arith) in
    let d : vs ≡ set_bytes w l = is ∙ ap (λ (x : ℕ). set_bytes x l) m in
    put_part out at k vs (ap length d ∙ length_set_bytes w l ∙ sym e) (omega arith) ∙ ap (sets out at) d

module _ (w : ℕ) (table : List ℕ) where
  pub length_row_bytes : (r : ℕ) → length (row_bytes w table r) ≡ w
  unfolding row_bytes
  length_row_bytes r = length_set_bytes w (row_jobs table r)

  pub length_rows : (n : ℕ) → length (flat_map (row_bytes w table) (up_to n)) ≡ n * w
  length_rows = length_pieces (row_bytes w table) w length_row_bytes

  -- a row more of the table
  pub put_row : (out₀ out : List ℕ) (r : ℕ) (row : List ℕ) → out ≡ sets out₀ 8 (flat_map (row_bytes w table) (up_to r)) → row ≡ row_jobs table r
      → sets out (8 + r * w) (set_bytes w row) ≡ sets out₀ 8 (flat_map (row_bytes w table) (up_to (r + 1)))
  unfolding row_bytes
  put_row out₀ out r row e d =
      put_behind out₀ out 8 (8 + r * w) (flat_map (row_bytes w table) (up_to r)) (set_bytes w row) e (ap (λ (x : ℕ). 8 + x) (sym (length_rows r)))
      ∙ ap (λ (x : List ℕ). sets out₀ 8 (flat_map (row_bytes w table) (up_to r) ++ set_bytes w x)) d ∙ ap (sets out₀ 8) (sym (pieces_more (row_bytes w table) r))

  -- the same, written to its part of the output
  pub put_row_part : (out₀ out : List ℕ) (r at k : ℕ) (row vs : List ℕ) → out ≡ sets out₀ 8 (flat_map (row_bytes w table) (up_to r)) → row ≡ row_jobs table r → at ≡ 8 + r * w → k ≡ w → at + w ≤ length out
      → vs ≡ set_bytes (length (take k (drop at out))) row → put_mid at k out vs ≡ sets out₀ 8 (flat_map (row_bytes w table) (up_to (r + 1)))
  put_row_part out₀ out r at k row vs e d a f h is =
      put_bytes out at k w row vs f h is ∙ ap (λ (x : ℕ). sets out x (set_bytes w row)) a ∙ put_row out₀ out r row e d

-- ---- the whole file

pub held_none : (holds : List ℕ) → length (jobs holds) ≡ 0 → held holds ≡ false
unfolding held
held_none holds e = ap not (eq-eqb (length (jobs holds)) 0 e)

pub held_some : (holds : List ℕ) → (length (jobs holds) ≡ 0 → ⊥) → held holds ≡ true
unfolding held
held_some holds n = ap not (ne_eqb (length (jobs holds)) 0 n)

module _ (n : ℕ) (table holds : List ℕ) where
  pub bytes_plain : held holds ≡ false → bytes n table holds ≡ header n 0 ++ flat_map (row_bytes (width n) table) (up_to n)
  unfolding bytes flags_of hold_bytes
  bytes_plain e = ap (λ (b : Bool). header n (cond b 1 0) ++ (flat_map (row_bytes (width n) table) (up_to n) ++ cond b (set_bytes (width n) (jobs holds)) [])) e
      ∙ ap (λ (l : List ℕ). header n 0 ++ l) (append-nil (flat_map (row_bytes (width n) table) (up_to n)))

  pub bytes_flagged : held holds ≡ true → bytes n table holds ≡ (header n 1 ++ flat_map (row_bytes (width n) table) (up_to n)) ++ set_bytes (width n) (jobs holds)
  unfolding bytes flags_of hold_bytes
  bytes_flagged e = ap (λ (b : Bool). header n (cond b 1 0) ++ (flat_map (row_bytes (width n) table) (up_to n) ++ cond b (set_bytes (width n) (jobs holds)) [])) e
      ∙ sym (append_assoc (header n 1) (flat_map (row_bytes (width n) table) (up_to n)) (set_bytes (width n) (jobs holds)))

  length_front : (flags : ℕ) → length (header n flags ++ flat_map (row_bytes (width n) table) (up_to n)) ≡ 8 + n * width n
  unfolding header
  length_front flags = length-append (header n flags) (flat_map (row_bytes (width n) table) (up_to n)) ∙ ap (λ (x : ℕ). 8 + x) (length_rows (width n) table n)

  -- "The length is 8 + nw, or 8 + nw + w"
  pub length_bytes : length (bytes n table holds) ≡ file_length n (held holds)
  length_bytes = by (held holds) refl
    where
      by : (b : Bool) → held holds ≡ b → length (bytes n table holds) ≡ file_length n b
      by true e = ap length (bytes_flagged e) ∙ length-append (header n 1 ++ flat_map (row_bytes (width n) table) (up_to n)) (set_bytes (width n) (jobs holds))
          ∙ ap₂ ◌+◌ (length_front 1) (length_set_bytes (width n) (jobs holds)) ∙ sym (length_flagged n)
      by false e = ap length (bytes_plain e) ∙ length_front 0 ∙ sym (length_plain n)

  -- stores from the front of an output that is long enough
  from_front : (out : List ℕ) → file_length n (held holds) ≤ length out → sets out 0 (bytes n table holds) ≡ bytes n table holds ++ drop (file_length n (held holds)) out
  from_front out h =
      let e = length_bytes in
      let z : 0 + length (bytes n table holds) ≡ file_length n (held holds) = omega arith in
      sets-eq (bytes n table holds) out 0 (omega arith) ∙ ap (λ (k : ℕ). bytes n table holds ++ drop k out) z

  module _ (out out₁ out₂ : List ℕ) (long : file_length n (held holds) ≤ length out) where
    both : (flags : ℕ) → out₁ ≡ sets out 0 (header n flags) → out₂ ≡ sets out₁ 8 (flat_map (row_bytes (width n) table) (up_to n))
        → out₂ ≡ sets out 0 (header n flags ++ flat_map (row_bytes (width n) table) (up_to n))
    unfolding header
    both flags e d = d ∙ put_behind out out₁ 0 8 (header n flags) (flat_map (row_bytes (width n) table) (up_to n)) e refl

    pub put_unlisted : held holds ≡ false → out₁ ≡ sets out 0 (header n 0) → out₂ ≡ sets out₁ 8 (flat_map (row_bytes (width n) table) (up_to n))
        → out₂ ≡ bytes n table holds ++ drop (file_length n (held holds)) out
    put_unlisted z e d = both 0 e d ∙ ap (sets out 0) (sym (bytes_plain z)) ∙ from_front out long

    pub put_listed : held holds ≡ true → out₁ ≡ sets out 0 (header n 1) → out₂ ≡ sets out₁ 8 (flat_map (row_bytes (width n) table) (up_to n))
        → sets out₂ (8 + n * width n) (set_bytes (width n) (jobs holds)) ≡ bytes n table holds ++ drop (file_length n (held holds)) out
    put_listed s e d =
        let z : 8 + n * width n ≡ 0 + length (header n 1 ++ flat_map (row_bytes (width n) table) (up_to n)) = (let l = length_front 1 in omega arith) in
        put_behind out out₂ 0 (8 + n * width n) (header n 1 ++ flat_map (row_bytes (width n) table) (up_to n)) (set_bytes (width n) (jobs holds)) (both 1 e d) z
        ∙ ap (sets out 0) (sym (bytes_flagged s)) ∙ from_front out long

    -- the same, by how many jobs are held
    pub put_plain : length (jobs holds) ≡ 0 → out₁ ≡ sets out 0 (header n 0) → out₂ ≡ sets out₁ 8 (flat_map (row_bytes (width n) table) (up_to n))
        → out₂ ≡ bytes n table holds ++ drop (file_length n (held holds)) out
    put_plain z = put_unlisted (held_none holds z)

    pub put_flagged : (length (jobs holds) ≡ 0 → ⊥) → out₁ ≡ sets out 0 (header n 1) → out₂ ≡ sets out₁ 8 (flat_map (row_bytes (width n) table) (up_to n))
        → sets out₂ (8 + n * width n) (set_bytes (width n) (jobs holds)) ≡ bytes n table holds ++ drop (file_length n (held holds)) out
    put_flagged s = put_listed (held_some holds s)

-- the bytes of a version are as many as its length says
pub length_as_lem : (v : Version) (n : ℕ) (table holds : List ℕ) → length (bytes_as v n table holds) ≡ length_as v n (held holds)
length_as_lem one = length_bytes
