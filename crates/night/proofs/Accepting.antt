-- A file that no rule refuses: what its header says, that its table and holds can be written, that their bytes are the file's own, and that Search takes them.
-- Assumes nothing.
use mathlib.Core.Path.{◌≡◌, refl, sym, ◌∙◌, ap, ap₂, subst}
use mathlib.Core.Bool.{Bool, true, false, ◌&&◌}
use mathlib.Core.Logic.{◌⊎◌, inl, inr, ⊎_elim}
use mathlib.Core.List.{List, [], ◌∷◌, ◌++◌, flat_map, append_assoc}
use Prim.Native.Nat.{ℕ, zero, suc, ◌+◌, ◌*◌, ◌/◌, ◌%◌, ◌≤◌, ◌<◌}
use native.Mathlib.Omega.{arith}
use native.Mathlib.Nat.{suc-mul}
use native.Mathlib.Numerals.{add-one}
use lib.Dec.{eqb}
use lib.ListN.{length, get_or, take, drop, length-drop, take-append-drop, get_or-eq_default}
use lib.Seq.{drop-drop}
use mir.Syntax.{w64}
use mir.Val.{Fits}
use borrow.Author.Tests.{ltb-false, eqb-true, eqb-false, not-false}
use Rattle.graphs.specs.Jobs.{up_to, has}
use Rattle.graphs.proofs.Bools.{and_left, and_right, lt_or_le}
use Rattle.sets.specs.Words.{Words, jobs, row_of, row_jobs}
use Rattle.sets.specs.Rules.{AllClear, Clear}
use Rattle.question.specs.Question.{asked, no_pins, Answerable}
use Rattle.question.proofs.Asking.{unpinned_answerable}
use Rattle.sets.proofs.Bits.{bit_low, number_lt}
use Rattle.sets.proofs.Words.{jobs_words, words_fit, length_words, no_jobs}
use Rattle.sets.proofs.Tables.{few_jobs, right_length, accepted, set_inside}
use Rattle.sets.proofs.Judging.{clear_split}
use Rattle.sets.proofs.Verdicts.{clear_equal, no1_clear, no2_clear, no3_clear}
use Rattle.night.specs.Format.{Bytes, mark, header, width, set_bytes, row_bytes, held, bytes, file_length}
use Rattle.night.specs.Reading.{number_at, version_in, jobs_in, flagged, marked, empty_list, set_at, row_at, table_in, holds_in, no21, no22, no23, no24, no25, no26, header_rules, word_rules, file_rules}
use Rattle.night.specs.Writing.{table_rules}
use Rattle.night.proofs.Pieces.{pieces_more, pieces_agree, cut, row_end}
use Rattle.night.proofs.Bytes.{byte_lt, set_ascending, set_below, bytes_of_set}
use Rattle.night.proofs.Decoding.{width_le, length_least, length_flagged, length_plain, length_table, row_of_table, word_in, holds_listed, holds_plain}
use Rattle.night.proofs.Encoding.{held_none, held_some, bytes_plain, bytes_flagged}

-- ---- the header of an accepted file

pub record Headed (file : List ℕ) : Type 0 where
  pub long : 8 ≤ length file
  pub mark : marked file ≡ true
  pub version : version_in file ≡ 1
  pub few : jobs_in file ≤ 256
  pub known : get_or file 7 0 / 2 ≡ 0
  pub size : length file ≡ file_length (jobs_in file) (flagged file)

pub headed : (file : List ℕ) → AllClear (header_rules file) → Headed file
unfolding AllClear Clear header_rules no21 no22 no23 no24 no25
headed file c =
    record {
      long = ltb-false (length file) 8 c.0;
      mark = not-false (marked file) c.1.0;
      version = clear_equal 23 (version_in file) 1 c.1.1.0;
      few = few_jobs (jobs_in file) c.1.1.1.0;
      known = clear_equal 24 (get_or file 7 0 / 2) 0 c.1.1.1.1.0;
      size = clear_equal 25 (length file) (file_length (jobs_in file) (flagged file)) c.1.1.1.1.1.0;
    }

-- ---- the empty set

pub zero_words : Words (0 ∷ 0 ∷ 0 ∷ 0 ∷ [])
zero_words = record { each = by }
  where
    by : (k : ℕ) → Fits w64 (get_or (0 ∷ 0 ∷ 0 ∷ 0 ∷ []) k 0)
    by zero = record { fits = omega arith }
    by (suc zero) = record { fits = omega arith }
    by (suc (suc zero)) = record { fits = omega arith }
    by (suc (suc (suc zero))) = record { fits = omega arith }
    by (suc (suc (suc (suc k)))) = record { fits = omega arith }

-- ---- the header's bytes

eight : (l : List ℕ) → 8 ≤ length l
    → take 8 l ≡ get_or l 0 0 ∷ get_or l 1 0 ∷ get_or l 2 0 ∷ get_or l 3 0 ∷ get_or l 4 0 ∷ get_or l 5 0 ∷ get_or l 6 0 ∷ get_or l 7 0 ∷ []
eight [] h = absurd (omega arith)
eight (a ∷ []) h = absurd (omega arith)
eight (a ∷ b ∷ []) h = absurd (omega arith)
eight (a ∷ b ∷ c ∷ []) h = absurd (omega arith)
eight (a ∷ b ∷ c ∷ d ∷ []) h = absurd (omega arith)
eight (a ∷ b ∷ c ∷ d ∷ e ∷ []) h = absurd (omega arith)
eight (a ∷ b ∷ c ∷ d ∷ e ∷ f ∷ []) h = absurd (omega arith)
eight (a ∷ b ∷ c ∷ d ∷ e ∷ f ∷ g ∷ []) h = absurd (omega arith)
eight (a ∷ b ∷ c ∷ d ∷ e ∷ f ∷ g ∷ i ∷ l) h = refl

module _ (file : List ℕ) (small : Bytes file) (h : Headed file) where
  header_is : take 8 file ≡ header (jobs_in file) (get_or file 7 0)
  unfolding header jobs_in version_in number_at marked
  header_is =
      let m = h.mark in
      let p = eqb (get_or file 0 0) (get_or mark 0 0) in
      let q = eqb (get_or file 1 0) (get_or mark 1 0) in
      let r = eqb (get_or file 2 0) (get_or mark 2 0) in
      let e0 = eqb-true (get_or file 0 0) (get_or mark 0 0) (and_left p q (and_left (p && q) r m)) in
      let e1 = eqb-true (get_or file 1 0) (get_or mark 1 0) (and_right p q (and_left (p && q) r m)) in
      let e2 = eqb-true (get_or file 2 0) (get_or mark 2 0) (and_right (p && q) r m) in
      let v = h.version in
      let b3 = byte_lt small 3 in
      let b5 = byte_lt small 5 in
      let e3 : get_or file 3 0 ≡ 1 = omega arith in
      let e4 : get_or file 4 0 ≡ 0 = omega arith in
      let e5 : get_or file 5 0 ≡ (get_or file 5 0 + 256 * get_or file 6 0) % 256 = omega arith in
      let e6 : get_or file 6 0 ≡ (get_or file 5 0 + 256 * get_or file 6 0) / 256 = omega arith in
      eight file h.long ∙ ap₂ ◌∷◌ e0 (ap₂ ◌∷◌ e1 (ap₂ ◌∷◌ e2 (ap₂ ◌∷◌ e3 (ap₂ ◌∷◌ e4 (ap₂ ◌∷◌ e5 (ap₂ ◌∷◌ e6 refl))))))

  flag_yes : flagged file ≡ true → get_or file 7 0 ≡ 1
  unfolding flagged
  flag_yes e =
      let o = eqb-true (get_or file 7 0 % 2) 1 (sym (bit_low (get_or file 7 0)) ∙ e) in
      let k = h.known in
      omega arith

  flag_no : flagged file ≡ false → get_or file 7 0 ≡ 0
  unfolding flagged
  flag_no e =
      let o = eqb-false (get_or file 7 0 % 2) 1 (sym (bit_low (get_or file 7 0)) ∙ e) in
      let k = h.known in
      ⊎_elim (λ z. z) (λ z. absurd (o (omega arith))) (zero_or (get_or file 7 0) k)
    where
      zero_or : (x : ℕ) → x / 2 ≡ 0 → (x ≡ 0) ⊎ (x ≡ 1)
      zero_or zero k = inl refl
      zero_or (suc zero) k = inr refl
      zero_or (suc (suc x)) k = absurd (omega arith)

  -- ---- the rows' bytes

  row_is : (r : ℕ) → r < jobs_in file → row_bytes (width (jobs_in file)) (table_in file (jobs_in file)) r ≡ take (width (jobs_in file)) (drop (r * width (jobs_in file)) (drop 8 file))
  unfolding row_bytes row_jobs row_of row_at
  row_is r l =
      let w = width (jobs_in file) in
      let k = row_end r (jobs_in file) w l in
      let z = length_least (jobs_in file) (flagged file) in
      let y = h.size in
      ap (λ (row : List ℕ). set_bytes w (jobs row)) (row_of_table file (jobs_in file) r l)
      ∙ ap (set_bytes w) (jobs_words (set_at file (8 + r * w) w) (set_ascending file (8 + r * w) w) (set_below file (8 + r * w) w))
      ∙ bytes_of_set file (8 + r * w) w small (width_le (jobs_in file) h.few) (omega arith)
      ∙ ap (take w) (sym (drop-drop (r * w) 8 file))

  hold_list_is : flagged file ≡ true → set_bytes (width (jobs_in file)) (jobs (holds_in file (jobs_in file))) ≡ take (width (jobs_in file)) (drop (jobs_in file * width (jobs_in file)) (drop 8 file))
  hold_list_is e =
      let n = jobs_in file in
      let w = width (jobs_in file) in
      let z = h.size ∙ ap (file_length (jobs_in file)) e ∙ length_flagged (jobs_in file) in
      ap (λ (ws : List ℕ). set_bytes w (jobs ws)) (holds_listed file n e)
      ∙ ap (set_bytes w) (jobs_words (set_at file (8 + n * w) w) (set_ascending file (8 + n * w) w) (set_below file (8 + n * w) w))
      ∙ bytes_of_set file (8 + n * w) w small (width_le (jobs_in file) h.few) (omega arith)
      ∙ ap (take w) (sym (drop-drop (n * w) 8 file))

  body_plain : flagged file ≡ false → flat_map (row_bytes (width (jobs_in file)) (table_in file (jobs_in file))) (up_to (jobs_in file)) ≡ drop 8 file
  body_plain e =
      let z = h.size ∙ ap (file_length (jobs_in file)) e ∙ length_plain (jobs_in file) in
      cut (row_bytes (width (jobs_in file)) (table_in file (jobs_in file))) (width (jobs_in file)) (jobs_in file) (drop 8 file) (length-drop 8 file ∙ omega arith) row_is

  body_flagged : flagged file ≡ true
      → flat_map (row_bytes (width (jobs_in file)) (table_in file (jobs_in file))) (up_to (jobs_in file)) ++ set_bytes (width (jobs_in file)) (jobs (holds_in file (jobs_in file))) ≡ drop 8 file
  body_flagged e =
      let n = jobs_in file in
      let w = width (jobs_in file) in
      let z = h.size ∙ ap (file_length (jobs_in file)) e ∙ length_flagged (jobs_in file) in
      let m : (n + 1) * w ≡ n * w + w = ap (λ (x : ℕ). x * w) (add-one n) ∙ suc-mul n w in
      let g : ℕ → List ℕ = λ r. take w (drop (r * w) (drop 8 file)) in
      ap₂ ◌++◌ (pieces_agree (row_bytes w (table_in file n)) g n row_is) (hold_list_is e) ∙ sym (pieces_more g n)
      ∙ cut g w (n + 1) (drop 8 file) (length-drop 8 file ∙ omega arith) (λ r l. refl)

  -- a list is flagged exactly if some job is held
  module _ (none : Clear (no26 (flagged file) (holds_in file (jobs_in file)))) where
    pub held_is : held (holds_in file (jobs_in file)) ≡ flagged file
    unfolding no26 empty_list Clear
    held_is = by (flagged file) refl
      where
        by : (b : Bool) → flagged file ≡ b → held (holds_in file (jobs_in file)) ≡ b
        by true e = held_some (holds_in file (jobs_in file)) (eqb-false (length (jobs (holds_in file (jobs_in file)))) 0
            (ap (λ (b : Bool). b && eqb (length (jobs (holds_in file (jobs_in file)))) 0) (sym e) ∙ none))
        by false e = held_none (holds_in file (jobs_in file)) (ap length (ap jobs (holds_plain file (jobs_in file) e) ∙ no_jobs))

    -- the bytes of the table and the holds are the file's
    pub bytes_are : bytes (jobs_in file) (table_in file (jobs_in file)) (holds_in file (jobs_in file)) ≡ file
    bytes_are = by (flagged file) refl
      where
        by : (b : Bool) → flagged file ≡ b → bytes (jobs_in file) (table_in file (jobs_in file)) (holds_in file (jobs_in file)) ≡ file
        by true e =
            bytes_flagged (jobs_in file) (table_in file (jobs_in file)) (holds_in file (jobs_in file)) (held_is ∙ e)
            ∙ append_assoc (header (jobs_in file) 1) (flat_map (row_bytes (width (jobs_in file)) (table_in file (jobs_in file))) (up_to (jobs_in file))) (set_bytes (width (jobs_in file)) (jobs (holds_in file (jobs_in file))))
            ∙ ap₂ ◌++◌ (sym (header_is ∙ ap (header (jobs_in file)) (flag_yes e))) (body_flagged e) ∙ take-append-drop 8 file
        by false e =
            bytes_plain (jobs_in file) (table_in file (jobs_in file)) (holds_in file (jobs_in file)) (held_is ∙ e)
            ∙ ap₂ ◌++◌ (sym (header_is ∙ ap (header (jobs_in file)) (flag_no e))) (body_plain e) ∙ take-append-drop 8 file

-- ---- the words of an accepted file

module _ (file : List ℕ) (n : ℕ) where
  pub table_words : Words (table_in file n)
  table_words = record {
    each = λ k. ⊎_elim
        (λ h. subst (Fits w64) (sym (word_in file n k h)) (record { fits = number_lt (has (set_at file (8 + k / 4 * width n) (width n))) (64 * (k % 4)) 64 }))
        (λ h. subst (Fits w64) (sym (get_or-eq_default (table_in file n) 0 {n = k} (let l = length_table file n in omega arith))) (record { fits = omega arith }))
        (lt_or_le k (4 * n));
  }

  pub hold_words : Words (holds_in file n)
  hold_words = by (flagged file) refl
    where
      by : (b : Bool) → flagged file ≡ b → Words (holds_in file n)
      by true e = subst Words (sym (holds_listed file n e)) (words_fit (set_at file (8 + n * width n) (width n)))
      by false e = subst Words (sym (holds_plain file n e)) zero_words

  pub length_holds : length (holds_in file n) ≡ 4
  length_holds = by (flagged file) refl
    where
      by : (b : Bool) → flagged file ≡ b → length (holds_in file n) ≡ 4
      by true e = ap length (holds_listed file n e) ∙ length_words (set_at file (8 + n * width n) (width n))
      by false e = ap length (holds_plain file n e)

  -- Write refuses nothing that Read has let through
  pub can_write : n ≤ 256 → AllClear (word_rules (flagged file) n (table_in file n) (holds_in file n)) → AllClear (table_rules n (table_in file n) (holds_in file n))
  unfolding word_rules table_rules AllClear
  can_write few c = (no1_clear n few, (no2_clear n (table_in file n) (length_table file n), (no3_clear (holds_in file n) length_holds, (c.0, (c.1.1.0, (c.1.1.1.0, tt))))))

  pub list_kept : AllClear (word_rules (flagged file) n (table_in file n) (holds_in file n)) → Clear (no26 (flagged file) (holds_in file n))
  unfolding word_rules AllClear
  list_kept c = c.1.0

-- what an accepted file holds is, without pins, a question that Search takes
pub answerable : (file : List ℕ) → AllClear (file_rules file) → Answerable (asked (jobs_in file) (table_in file (jobs_in file)) (holds_in file (jobs_in file)) no_pins)
unfolding file_rules table_rules AllClear
answerable file c =
    let n = jobs_in file in
    let t = table_in file n in
    let h = holds_in file n in
    let both = clear_split (header_rules file) (word_rules (flagged file) n t h) c in
    let k = can_write file n (headed file both.0).few both.1 in
    let marks = k.1.1.1 in
    unpinned_answerable
    (accepted n t h k.0 k.1.0 marks.0 marks.1.0 marks.1.1.0)
    (length_holds file n)
    (set_inside n t h (few_jobs n k.0) (right_length n t k.1.0) marks.0)
