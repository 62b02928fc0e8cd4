-- The bytes of a table and its holds that no rule refuses: Read accepts them, and finds n, the table and the holds again. Assumes nothing.
use mathlib.Core.Path.{◌≡◌, refl, sym, ◌∙◌, ap, ap₂, subst}
use mathlib.Core.Bool.{Bool, true, false, not, ◌&&◌, cond}
use mathlib.Core.Logic.{⊎_elim}
use mathlib.Core.List.{List, [], ◌∷◌, ◌++◌, flat_map}
use Prim.Native.Nat.{ℕ, ◌+◌, ◌*◌, ◌/◌, ◌%◌, ◌≤◌, ◌<◌}
use native.Mathlib.Omega.{arith}
use lib.Dec.{eqb}
use lib.ListN.{length, get_or, take, drop, length-take, length-drop, get_or-append, get_or-eq_default}
use lib.Seq.{get_or-append-add, get_or-take, get_or-drop}
use mir.Syntax.{w64}
use mir.Val.{Fits}
use borrow.Author.Tests.{eqb-true, not-false}
use Rattle.graphs.specs.Jobs.{up_to, ◌∈◌}
use Rattle.graphs.proofs.Bools.{lt_or_le}
use Rattle.sets.specs.Words.{Words, words, jobs, row_of, row_jobs}
use Rattle.sets.specs.Rules.{AllClear, Clear, first_given}
use Rattle.sets.specs.Tables.{no5, no6, no7}
use Rattle.sets.proofs.Bits.{bit_low}
use Rattle.sets.proofs.Words.{jobs_ascending, fits_row, words_jobs, no_jobs}
use Rattle.sets.proofs.Tables.{few_jobs, right_length, table_inside, set_inside}
use Rattle.sets.proofs.Judging.{all_clear, clear_all, clear_before}
use Rattle.sets.proofs.Verdicts.{no3_four}
use Rattle.night.specs.Format.{header, width, byte_of, set_bytes, row_bytes, held, flags_of, hold_bytes, bytes, file_length}
use Rattle.night.specs.Reading.{number_at, version_in, jobs_in, flagged, marked, empty_list, row_at, table_in, holds_in, no26, header_rules, word_rules, file_rules}
use Rattle.night.specs.Writing.{table_rules}
use Rattle.night.proofs.Pieces.{in_piece, cut, row_end}
use Rattle.night.proofs.Bytes.{set_of_bytes, set_byte}
use Rattle.night.proofs.Decoding.{width_le, width_covers, length_least, holds_listed, holds_plain}
use Rattle.night.proofs.Encoding.{length_row_bytes, length_rows, length_bytes}
use Rattle.night.proofs.Accepting.{zero_words}
use Rattle.night.proofs.Refusing as C

-- what the rules of a table and its holds let through
pub record Good (n : ℕ) (table holds : List ℕ) : Type 0 where
  pub few : n ≤ 256
  pub long : length table ≡ 4 * n
  pub four : length holds ≡ 4
  pub inside : Clear (no5 n table holds)
  pub apart : Clear (no6 n table)
  pub two_way : Clear (no7 n table)

pub good : (n : ℕ) (table holds : List ℕ) → AllClear (table_rules n table holds) → Good n table holds
unfolding table_rules AllClear
good n table holds c =
    record {
      few = few_jobs n c.0;
      long = right_length n table c.1.0;
      four = no3_four holds c.1.1.0;
      inside = c.1.1.1.0;
      apart = c.1.1.1.1.0;
      two_way = c.1.1.1.1.1.0;
    }

nothing : (l : List ℕ) → length l ≡ 0 → l ≡ []
nothing [] d = refl
nothing (a ∷ l) d = absurd (omega arith)

none_held : (holds : List ℕ) → held holds ≡ false → jobs holds ≡ []
unfolding held
none_held holds d = nothing (jobs holds) (eqb-true (length (jobs holds)) 0 (not-false (eqb (length (jobs holds)) 0) d))

module _ (n : ℕ) (table holds : List ℕ) (g : Good n table holds) (tw : Words table) (hw : Words holds) where
  -- ---- the header

  pub jobs_back : jobs_in (bytes n table holds) ≡ n
  unfolding jobs_in number_at bytes header
  jobs_back = let e : n % 256 + 256 * (n / 256) ≡ n = omega arith in e

  flag_back : flagged (bytes n table holds) ≡ held holds
  unfolding flagged bytes header flags_of
  flag_back = bit_low (cond (held holds) 1 0) ∙ by (held holds)
    where
      by : (b : Bool) → eqb (cond b 1 0 % 2) 1 ≡ b
      by true = refl
      by false = refl

  header_passes : first_given (header_rules (bytes n table holds)) ≡ []
  unfolding marked version_in jobs_in number_at bytes header flags_of
  header_passes =
      let file = bytes n table holds in
      let l = length_bytes n table holds in
      let k = length_least n (held holds) in
      C.header_none file (omega arith) refl refl (subst (λ (x : ℕ). x ≤ 256) (sym jobs_back) g.few) (known (held holds)) (l ∙ ap₂ file_length (sym jobs_back) (sym flag_back))
    where
      known : (b : Bool) → cond b 1 0 / 2 ≡ 0
      known true = refl
      known false = refl

  -- ---- the rows

  byte_of_row : (r i : ℕ) → r < n → i < width n → get_or (bytes n table holds) (8 + r * width n + i) 0 ≡ byte_of (row_jobs table r) i
  unfolding bytes header row_bytes
  byte_of_row r i h l =
      let w = width n in
      let k = row_end r n w h in
      let m = length_rows w table n in
      let z : 8 + r * w + i ≡ 8 + (r * w + i) = omega arith in
      ap (λ (x : ℕ). get_or (header n (flags_of holds) ++ (flat_map (row_bytes w table) (up_to n) ++ hold_bytes n holds)) x 0) z
      ∙ get_or-append-add (header n (flags_of holds)) (flat_map (row_bytes w table) (up_to n) ++ hold_bytes n holds) (r * w + i) 0
      ∙ get_or-append (flat_map (row_bytes w table) (up_to n)) (hold_bytes n holds) 0 (r * w + i) (omega arith)
      ∙ in_piece (row_bytes w table) w (length_row_bytes w table) n r i h l ∙ set_byte w (row_jobs table r) i l

  row_back : (r : ℕ) → r < n → row_at (bytes n table holds) (width n) r ≡ take 4 (drop (r * 4) table)
  unfolding row_at row_jobs row_of
  row_back r h =
      let w = width n in
      let z : 4 * r ≡ r * 4 = omega arith in
      ap words (set_of_bytes (bytes n table holds) (8 + r * w) w (row_jobs table r) (jobs_ascending (row_of table r)) below (width_le n g.few) (λ i l. byte_of_row r i h l))
      ∙ words_jobs (row_of table r) four small ∙ ap (λ (x : ℕ). take 4 (drop x table)) z
    where
      below : (j : ℕ) → j ∈ row_jobs table r → j < 8 * width n
      below j i =
          let k = table_inside n table holds g.few g.long g.inside r j (sym (fits_row table r j) ∙ i) in
          let c = width_covers n in
          let d = k.1 in
          omega arith

      four : length (row_of table r) ≡ 4
      four = let l = g.long in simp (length-take, length-drop) (omega arith)

      small : Words (row_of table r)
      small = record {
        each = λ k. ⊎_elim
            (λ b. subst (Fits w64) (sym (get_or-take 4 (drop (4 * r) table) k 0 b ∙ get_or-drop (4 * r) table k 0)) (tw.each (4 * r + k)))
            (λ b. subst (Fits w64) (sym (get_or-eq_default (take 4 (drop (4 * r) table)) 0 {n = k} (let f = four in omega arith))) (record { fits = omega arith }))
            (lt_or_le k 4);
      }

  pub table_back : table_in (bytes n table holds) n ≡ table
  unfolding table_in
  table_back = cut (row_at (bytes n table holds) (width n)) 4 n table (let l = g.long in omega arith) row_back

  -- ---- the holds

  byte_of_list : held holds ≡ true → (i : ℕ) → i < width n → get_or (bytes n table holds) (8 + n * width n + i) 0 ≡ byte_of (jobs holds) i
  unfolding bytes header hold_bytes
  byte_of_list e i l =
      let w = width n in
      let m = length_rows w table n in
      let z : 8 + n * w + i ≡ 8 + (length (flat_map (row_bytes w table) (up_to n)) + i) = omega arith in
      ap (λ (x : ℕ). get_or (header n (flags_of holds) ++ (flat_map (row_bytes w table) (up_to n) ++ hold_bytes n holds)) x 0) z
      ∙ get_or-append-add (header n (flags_of holds)) (flat_map (row_bytes w table) (up_to n) ++ hold_bytes n holds) (length (flat_map (row_bytes w table) (up_to n)) + i) 0
      ∙ get_or-append-add (flat_map (row_bytes w table) (up_to n)) (hold_bytes n holds) i 0
      ∙ ap (λ (b : Bool). get_or (cond b (set_bytes w (jobs holds)) []) i 0) e ∙ set_byte w (jobs holds) i l

  pub holds_back : holds_in (bytes n table holds) n ≡ holds
  holds_back = by (held holds) refl
    where
      below : (j : ℕ) → j ∈ jobs holds → j < 8 * width n
      below j i =
          let k = set_inside n table holds g.few g.long g.inside j i in
          let c = width_covers n in
          omega arith

      by : (b : Bool) → held holds ≡ b → holds_in (bytes n table holds) n ≡ holds
      by true e =
          holds_listed (bytes n table holds) n (flag_back ∙ e)
          ∙ ap words (set_of_bytes (bytes n table holds) (8 + n * width n) (width n) (jobs holds) (jobs_ascending holds) below (width_le n g.few) (byte_of_list e))
          ∙ words_jobs holds g.four hw
      by false e = holds_plain (bytes n table holds) n (flag_back ∙ e) ∙ sym (words_jobs (0 ∷ 0 ∷ 0 ∷ 0 ∷ []) refl zero_words) ∙ ap words (no_jobs ∙ sym (none_held holds e)) ∙ words_jobs holds g.four hw

  -- ---- the rules

  list_kept : Clear (no26 (held holds) holds)
  unfolding held empty_list
  list_kept = C.no26_clear (held holds) holds (by (eqb (length (jobs holds)) 0))
    where
      by : (b : Bool) → (not b && b) ≡ false
      by true = refl
      by false = refl

  pub accepts : AllClear (file_rules (bytes n table holds))
  unfolding file_rules word_rules AllClear
  accepts =
      let file = bytes n table holds in
      all_clear (file_rules file)
      (clear_before (header_rules file) _ (all_clear (header_rules file) header_passes)
      ∙ ap (λ (k : ℕ). first_given (word_rules (flagged file) k (table_in file k) (holds_in file k))) jobs_back
      ∙ C.words_same flag_back refl table_back holds_back
      ∙ clear_all (word_rules (held holds) n table holds) (g.inside, (list_kept, (g.apart, (g.two_way, tt)))))
