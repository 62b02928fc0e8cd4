-- The rules of Read and Write in the code's order: what comes back on each way through the code. Then, from any reply that the promises allow, that a refusal comes
-- back exactly as the rules say, and leaves what was lent (`read_refuses`, `write_refuses`). Assumes nothing.
use mathlib.Core.Path.{◌≡◌, refl, sym, ◌∙◌, ap, ap₂}
use mathlib.Core.Bool.{Bool, true, false, not, ◌&&◌}
use Rattle.std.specs.Prelude.{Result, Ok, Err, IsTrue, ◌↔◌}
use Rattle.std.proofs.lemmas.Bool.{false≢true}
use mathlib.Core.List.{List, [], ◌∷◌, ◌++◌}
use native.Mathlib.Omega.{arith}
use Prim.Native.Nat.{ℕ, ◌+◌, ◌*◌, ◌/◌, ◌%◌, ◌≤◌, ◌<◌}
use lib.Dec.{eqb}
use lib.ListN.{length, get_or}
use borrow.Author.Tests.{lt-ltb, le-ltb, eq-eqb, ne_eqb}
use Rattle.sets.specs.declared.refusal.Refusal.{Refusal}
use Rattle.sets.specs.Refusals.{comes_back}
use Rattle.sets.specs.Words.{jobs}
use Rattle.sets.specs.Rules.{Rule, AllClear, Applies, Clear, numbered, first_given}
use Rattle.sets.specs.Places.{first_place}
use Rattle.sets.specs.Tables.{beyond, no1, no2, no3, no5, no6, no7}
use Rattle.sets.proofs.Bits.{bit_low}
use Rattle.sets.proofs.Tables.{few_jobs}
use Rattle.sets.proofs.Judging.{first_applies, first_clear, nothing_given, judged_gives, judged_exactly, all_clear, clear_all, clear_before, given_before, clear_split}
use Rattle.sets.proofs.Verdicts.{refusal_back, when_true, when_false, unequal_applies, equal_clear, clear_equal, no1_applies, no1_clear, no2_applies, no2_clear, no3_applies, no3_clear, place_given, refused_before, passed_before}
use Rattle.night.specs.Format.{mark, held, file_length}
use Rattle.night.specs.Versions.{Version, length_as}
use Rattle.night.specs.Reading.{number_at, version_in, jobs_in, flagged, table_in, holds_in, marked, empty_list, no21, no22, no23, no24, no25, no26, header_rules, word_rules, file_rules, read_rules}
use Rattle.night.specs.Writing.{no27, table_rules, write_rules}
use Rattle.night.specs.Answers.{night_answer, read_says, write_says}
use Rattle.night.specs.Promises.{ReadPromise, WritePromise}
use Rattle.night.specs.Refusing.{ReadRefuses, WriteRefuses}
use Rattle.night.proofs.Promises.{was_answered, was_turned_down, read_refused, read_filled, write_refused, write_done, read_unique, write_unique}

-- equal words give equal outcomes
pub words_same : {n n' : ℕ} {listed listed' : Bool} {table table' holds holds' : List ℕ} → listed ≡ listed' → n ≡ n' → table ≡ table' → holds ≡ holds'
    → first_given (word_rules listed n table holds) ≡ first_given (word_rules listed' n' table' holds')
words_same {n} {n'} {listed} {listed'} {table} {table'} {holds} {holds'} a b c d =
    ap₂ (λ (x : Bool) (k : ℕ). first_given (word_rules x k table holds)) a b ∙ ap₂ (λ (x y : List ℕ). first_given (word_rules listed' n' x y)) c d

-- the rules of what a file's bytes hold, by the code's values for them
abbrev pub sets_of : List ℕ → List Rule
sets_of file = word_rules (flagged file) (jobs_in file) (table_in file (jobs_in file)) (holds_in file (jobs_in file))

pub sets_are : (file : List ℕ) {n : ℕ} {listed : Bool} {table holds : List ℕ} → listed ≡ flagged file → n ≡ jobs_in file → table ≡ table_in file n → holds ≡ holds_in file n
    → first_given (word_rules listed n table holds) ≡ first_given (sets_of file)
sets_are file a b c d = words_same a b (c ∙ ap (table_in file) b) (d ∙ ap (holds_in file) b)

abbrev pub set_rules : ℕ → List ℕ → List ℕ → List Rule
set_rules n table holds = no5 n table holds ∷ no6 n table ∷ no7 n table ∷ []

pub sets_same : {n n' : ℕ} {table table' holds holds' : List ℕ} → n ≡ n' → table ≡ table' → holds ≡ holds' → first_given (set_rules n table holds) ≡ first_given (set_rules n' table' holds')
sets_same {n} {n'} {table} {table'} {holds} {holds'} a b c =
    ap (λ (k : ℕ). first_given (set_rules k table holds)) a ∙ ap₂ (λ (x y : List ℕ). first_given (set_rules n' x y)) b c

-- ---- the mark

module _ (file : List ℕ) where
  -- a byte that differs tells, and if the first two are equal the third does
  pub mark_first : (get_or file 0 0 ≡ (get_or mark 0 0) → ⊥) → false ≡ marked file
  unfolding marked
  mark_first n = sym (ap (λ (b : Bool). b && eqb (get_or file 1 0) (get_or mark 1 0) && eqb (get_or file 2 0) (get_or mark 2 0)) (ne_eqb (get_or file 0 0) (get_or mark 0 0) n))

  pub mark_second : get_or file 0 0 ≡ (get_or mark 0 0) → (get_or file 1 0 ≡ (get_or mark 1 0) → ⊥) → false ≡ marked file
  unfolding marked
  mark_second e n = sym (ap₂ (λ (a b : Bool). a && b && eqb (get_or file 2 0) (get_or mark 2 0)) (eq-eqb (get_or file 0 0) (get_or mark 0 0) e) (ne_eqb (get_or file 1 0) (get_or mark 1 0) n))

  pub mark_third : get_or file 0 0 ≡ (get_or mark 0 0) → get_or file 1 0 ≡ (get_or mark 1 0) → eqb (get_or file 2 0) (get_or mark 2 0) ≡ marked file
  unfolding marked
  mark_third e d = sym (ap₂ (λ (a b : Bool). a && b && eqb (get_or file 2 0) (get_or mark 2 0)) (eq-eqb (get_or file 0 0) (get_or mark 0 0) e) (eq-eqb (get_or file 1 0) (get_or mark 1 0) d))

-- ---- the header

module _ (file : List ℕ) where
  pub header_21 : length file < 8 → first_given (header_rules file) ≡ 21 ∷ []
  unfolding header_rules no21
  header_21 h = first_applies _ _ (when_true 21 (lt-ltb (length file) 8 h))

  module _ (long : 8 ≤ length file) where
    from_22 : first_given (header_rules file) ≡ first_given (no22 file ∷ no23 file ∷ no1 (jobs_in file) ∷ no24 file ∷ no25 file ∷ [])
    unfolding header_rules no21
    from_22 = first_clear _ _ (when_false 21 (le-ltb (length file) 8 long))

    pub header_22 : marked file ≡ false → first_given (header_rules file) ≡ 22 ∷ []
    unfolding no22
    header_22 e = from_22 ∙ first_applies _ _ (when_true 22 (ap not e))

    module _ (mark : marked file ≡ true) where
      from_23 : first_given (header_rules file) ≡ first_given (no23 file ∷ no1 (jobs_in file) ∷ no24 file ∷ no25 file ∷ [])
      unfolding no22
      from_23 = from_22 ∙ first_clear _ _ (when_false 22 (ap not mark))

      pub header_23 : (number_at file 3 ≡ 1 → ⊥) → first_given (header_rules file) ≡ 23 ∷ []
      unfolding no23 version_in
      header_23 n = from_23 ∙ first_applies _ _ (unequal_applies 23 (version_in file) 1 n)

      module _ (version : number_at file 3 ≡ 1) where
        from_1 : first_given (header_rules file) ≡ first_given (no1 (jobs_in file) ∷ no24 file ∷ no25 file ∷ [])
        unfolding no23 version_in
        from_1 = from_23 ∙ first_clear _ _ (equal_clear 23 (version_in file) 1 version)

        pub header_1 : 256 < number_at file 5 → first_given (header_rules file) ≡ 1 ∷ []
        unfolding jobs_in
        header_1 h = from_1 ∙ first_applies _ _ (no1_applies (jobs_in file) h)

        module _ (few : number_at file 5 ≤ 256) where
          from_24 : first_given (header_rules file) ≡ first_given (no24 file ∷ no25 file ∷ [])
          unfolding jobs_in
          from_24 = from_1 ∙ first_clear _ _ (no1_clear (jobs_in file) few)

          pub header_24 : (get_or file 7 0 / 2 ≡ 0 → ⊥) → first_given (header_rules file) ≡ 24 ∷ []
          unfolding no24
          header_24 n = from_24 ∙ first_applies _ _ (unequal_applies 24 (get_or file 7 0 / 2) 0 n)

          module _ (known : get_or file 7 0 / 2 ≡ 0) where
            from_25 : first_given (header_rules file) ≡ first_given (no25 file ∷ [])
            unfolding no24
            from_25 = from_24 ∙ first_clear _ _ (equal_clear 24 (get_or file 7 0 / 2) 0 known)

            pub header_25 : (length file ≡ file_length (number_at file 5) (flagged file) → ⊥) → first_given (header_rules file) ≡ 25 ∷ []
            unfolding no25 jobs_in
            header_25 n = from_25 ∙ first_applies _ _ (unequal_applies 25 (length file) (file_length (jobs_in file) (flagged file)) n)

            pub header_none : length file ≡ file_length (number_at file 5) (flagged file) → first_given (header_rules file) ≡ []
            unfolding no25 jobs_in
            header_none e = from_25 ∙ first_clear _ _ (equal_clear 25 (length file) (file_length (jobs_in file) (flagged file)) e) ∙ nothing_given

  -- with no other bit set, the lowest is set exactly if the flags are 1
  pub flag_alone : get_or file 7 0 / 2 ≡ 0 → eqb (get_or file 7 0) 1 ≡ flagged file
  unfolding flagged
  flag_alone k = ap (λ (x : ℕ). eqb x 1) (let z : get_or file 7 0 ≡ get_or file 7 0 % 2 = omega arith in z) ∙ sym (bit_low (get_or file 7 0))

  -- a file whose header passes has at most 256 jobs
  pub few_in : AllClear (header_rules file) → jobs_in file ≤ 256
  unfolding header_rules AllClear
  few_in c = few_jobs (jobs_in file) c.1.1.1.0

  pub few_in_file : first_given (file_rules file) ≡ [] → jobs_in file ≤ 256
  unfolding file_rules
  few_in_file e = few_in (clear_split (header_rules file) _ (all_clear (file_rules file) e)).0

-- ---- numbers 5, 26, 6 and 7

-- the code's test for no job at all
empty_is : {b : Bool} (l : List ℕ) → IsTrue b ↔ (l ≡ []) → b ≡ eqb (length l) 0
empty_is {b = true} l e = sym (eq-eqb (length l) 0 (ap length (e.0 refl)))
empty_is {b = false} [] e = absurd (false≢true (e.1 refl))
empty_is {b = false} (a ∷ l) e = sym (ne_eqb (length (a ∷ l)) 0 (λ z. absurd (omega arith)))

pub held_is : {b : Bool} (holds : List ℕ) → IsTrue b ↔ (jobs holds ≡ []) → not b ≡ held holds
unfolding held
held_is holds e = ap not (empty_is (jobs holds) e)

pub size_is : (n : ℕ) {size : ℕ} {b : Bool} {words holds : List ℕ} → size ≡ file_length n (not b) → IsTrue b ↔ (jobs words ≡ []) → words ≡ holds → size ≡ file_length n (held holds)
size_is n {words = words} e f g = e ∙ ap (file_length n) (held_is words f ∙ ap held g)

pub empty_list_is : {b : Bool} (listed : Bool) (holds : List ℕ) → IsTrue b ↔ (jobs holds ≡ []) → (listed && b) ≡ empty_list listed holds
unfolding empty_list
empty_list_is listed holds e = ap (λ (x : Bool). listed && x) (empty_is (jobs holds) e)

pub unlisted : {listed : Bool} (holds : List ℕ) → listed ≡ false → empty_list listed holds ≡ false
unfolding empty_list
unlisted holds e = ap (λ (x : Bool). x && eqb (length (jobs holds)) 0) e

pub no26_applies : (present : Bool) (holds : List ℕ) → empty_list present holds ≡ true → Applies (no26 present holds) (26 ∷ [])
unfolding no26
no26_applies present holds e = when_true 26 e

pub no26_clear : (present : Bool) (holds : List ℕ) → empty_list present holds ≡ false → Clear (no26 present holds)
unfolding no26
no26_clear present holds e = when_false 26 e

-- the finder's place for number 5, in the code's order of the rules
module _ (listed : Bool) (n : ℕ) (table holds : List ℕ) {place : List ℕ} (found : place ≡ first_place (beyond n table holds) (n + 1) 256) where
  pub word_5 : (f : Refusal) → comes_back f ≡ numbered 5 place → comes_back f ≡ first_given (word_rules listed n table holds)
  unfolding word_rules no5
  word_5 f e = refused_before f (no5 n table holds ∷ []) (no26 listed holds ∷ no6 n table ∷ no7 n table ∷ []) (place_given 5 (beyond n table holds) (n + 1) 256 e found)

  module _ (none : [] ≡ numbered 5 place) where
    from_26 : first_given (no26 listed holds ∷ no6 n table ∷ no7 n table ∷ []) ≡ first_given (word_rules listed n table holds)
    unfolding word_rules no5
    from_26 = passed_before (no5 n table holds ∷ []) (no26 listed holds ∷ no6 n table ∷ no7 n table ∷ []) (place_given 5 (beyond n table holds) (n + 1) 256 none found)

    pub word_26 : empty_list listed holds ≡ true → 26 ∷ [] ≡ first_given (word_rules listed n table holds)
    word_26 e = sym (first_applies _ _ (no26_applies listed holds e)) ∙ from_26

    pub word_pairs : empty_list listed holds ≡ false → first_given (no6 n table ∷ no7 n table ∷ []) ≡ first_given (word_rules listed n table holds)
    word_pairs e = sym (first_clear _ _ (no26_clear listed holds e)) ∙ from_26

-- ---- number 27

pub no27_applies : (v : Version) (n : ℕ) (holds out : List ℕ) → length out < length_as v n (held holds) → Applies (no27 v n holds out) (27 ∷ [])
unfolding no27
no27_applies v n holds out h = when_true 27 (lt-ltb (length out) (length_as v n (held holds)) h)

pub no27_clear : (v : Version) (n : ℕ) (holds out : List ℕ) → length_as v n (held holds) ≤ length out → Clear (no27 v n holds out)
unfolding no27
no27_clear v n holds out h = when_false 27 (le-ltb (length out) (length_as v n (held holds)) h)

-- ---- Read

module _ (file table holds : List ℕ) where
  pub read_2 : (length table ≡ 1024 → ⊥) → first_given (read_rules file table holds) ≡ 2 ∷ []
  unfolding read_rules
  read_2 n = first_applies _ _ (no2_applies 256 table n)

  pub read_3 : length table ≡ 1024 → (length holds ≡ 4 → ⊥) → first_given (read_rules file table holds) ≡ 3 ∷ []
  unfolding read_rules
  read_3 t n = first_clear _ _ (no2_clear 256 table t) ∙ first_applies _ _ (no3_applies holds n)

  pub read_file : length table ≡ 1024 → length holds ≡ 4 → first_given (read_rules file table holds) ≡ first_given (file_rules file)
  unfolding read_rules
  read_file t h = first_clear _ _ (no2_clear 256 table t) ∙ first_clear _ _ (no3_clear holds h)

-- ---- Write

module _ (v : Version) (n : ℕ) (table holds out : List ℕ) where
  pub write_sized : (f : Refusal) → comes_back f ≡ first_given (no1 n ∷ no2 n table ∷ []) → first_given (write_rules v n table holds out) ≡ comes_back f
  unfolding write_rules table_rules
  write_sized f e = sym (refused_before f (no1 n ∷ no2 n table ∷ []) ((no3 holds ∷ set_rules n table holds) ++ no27 v n holds out ∷ []) e)

  -- the numbers in the code's order: each comes back where those before it do not apply
  pub write_1 : 256 < n → first_given (write_rules v n table holds out) ≡ 1 ∷ []
  unfolding write_rules table_rules
  write_1 h = first_applies _ _ (no1_applies n h)

  pub write_2 : n ≤ 256 → (length table ≡ 4 * n → ⊥) → first_given (write_rules v n table holds out) ≡ 2 ∷ []
  unfolding write_rules table_rules
  write_2 h l = first_clear _ _ (no1_clear n h) ∙ first_applies _ _ (no2_applies n table l)

  pub write_3 : n ≤ 256 → length table ≡ 4 * n → (length holds ≡ 4 → ⊥) → first_given (write_rules v n table holds out) ≡ 3 ∷ []
  unfolding write_rules table_rules
  write_3 h l s = first_clear _ _ (no1_clear n h) ∙ first_clear _ _ (no2_clear n table l) ∙ first_applies _ _ (no3_applies holds s)

  module _ (few : n ≤ 256) (long : length table ≡ 4 * n) (four : length holds ≡ 4) where
    write_from_5 : first_given (write_rules v n table holds out) ≡ first_given ((no5 n table holds ∷ no6 n table ∷ no7 n table ∷ []) ++ no27 v n holds out ∷ [])
    unfolding write_rules table_rules
    write_from_5 = first_clear _ _ (no1_clear n few) ∙ first_clear _ _ (no2_clear n table long) ∙ first_clear _ _ (no3_clear holds four)

    pub write_table : {number : ℕ} {values : List ℕ} → first_given (no5 n table holds ∷ no6 n table ∷ no7 n table ∷ []) ≡ number ∷ values → first_given (write_rules v n table holds out) ≡ number ∷ values
    write_table e = write_from_5 ∙ given_before (no5 n table holds ∷ no6 n table ∷ no7 n table ∷ []) (no27 v n holds out ∷ []) e

    module _ (good : first_given (no5 n table holds ∷ no6 n table ∷ no7 n table ∷ []) ≡ []) where
      write_from_27 : first_given (write_rules v n table holds out) ≡ first_given (no27 v n holds out ∷ [])
      write_from_27 = write_from_5 ∙ clear_before (no5 n table holds ∷ no6 n table ∷ no7 n table ∷ []) (no27 v n holds out ∷ []) (all_clear _ good)

      pub write_27 : length out < length_as v n (held holds) → first_given (write_rules v n table holds out) ≡ 27 ∷ []
      write_27 h = write_from_27 ∙ first_applies _ _ (no27_applies v n holds out h)

      pub write_none : length_as v n (held holds) ≤ length out → first_given (write_rules v n table holds out) ≡ []
      write_none h = write_from_27 ∙ first_clear _ _ (no27_clear v n holds out h) ∙ nothing_given

  -- the same, where neither of the first two rules gave anything
  module _ (sized : [] ≡ first_given (no1 n ∷ no2 n table ∷ [])) where
    sized_few : n ≤ 256
    unfolding AllClear
    sized_few = few_jobs n (all_clear (no1 n ∷ no2 n table ∷ []) (sym sized)).0

    sized_long : length table ≡ 4 * n
    unfolding AllClear no2
    sized_long = clear_equal 2 (length table) (4 * n) (all_clear (no1 n ∷ no2 n table ∷ []) (sym sized)).1.0

    -- the rules from 3 on decide
    write_from_3 : first_given (write_rules v n table holds out) ≡ first_given ((no3 holds ∷ set_rules n table holds) ++ no27 v n holds out ∷ [])
    unfolding write_rules table_rules
    write_from_3 = sym (passed_before (no1 n ∷ no2 n table ∷ []) ((no3 holds ∷ set_rules n table holds) ++ no27 v n holds out ∷ []) sized)

    pub sized_3 : (length holds ≡ 4 → ⊥) → first_given (write_rules v n table holds out) ≡ 3 ∷ []
    sized_3 = write_3 sized_few sized_long

    module _ (four : length holds ≡ 4) where
      pub sized_table : (f : Refusal) → comes_back f ≡ first_given (set_rules n table holds) → first_given (write_rules v n table holds out) ≡ comes_back f
      sized_table f e = let b = refusal_back f in write_table sized_few sized_long four (sym e ∙ b.is) ∙ sym b.is

      module _ (good : [] ≡ first_given (set_rules n table holds)) where
        pub sized_27 : length out < length_as v n (held holds) → first_given (write_rules v n table holds out) ≡ 27 ∷ []
        sized_27 = write_27 sized_few sized_long four (sym good)

        pub sized_none : length_as v n (held holds) ≤ length out → first_given (write_rules v n table holds out) ≡ []
        sized_none = write_none sized_few sized_long four (sym good)

-- ---- "Given exactly when"

module _ {file t h table_now holds_now : List ℕ} {reply : Result ℕ Refusal} (p : ReadPromise file t h reply table_now holds_now) where
  -- what the rules give is the refusal, and nothing where n is answered
  read_gives : (f : Refusal) → reply ≡ Err f → first_given (read_rules file t h) ≡ comes_back f
  unfolding night_answer read_says
  read_gives f e = was_turned_down (first_given (read_rules file t h)) (jobs_in file) (sym (ap night_answer e) ∙ p.reply_is)

  read_passes : reply ≡ Ok (jobs_in file) → first_given (read_rules file t h) ≡ []
  unfolding night_answer read_says
  read_passes e = (was_answered (first_given (read_rules file t h)) (sym (ap night_answer e) ∙ p.reply_is)).0

pub read_refuses : ReadRefuses
read_refuses =
    record {
      by_the_list = λ {file} {t} {h} p f. (
        λ e. (judged_exactly (read_rules file t h) (comes_back f)).0 (read_gives p f e),
        λ j. (read_unique p (read_refused file t h f (judged_gives (read_rules file t h) j))).same_reply,
      );
      unchanged = λ {file} {t} {h} p f e. let same = read_unique p (read_refused file t h f (read_gives p f e)) in (same.same_table, same.same_holds);
      no_other = λ {file} {t} {h} p. (
        λ e. all_clear (read_rules file t h) (read_passes p e),
        λ c. (read_unique p (read_filled file t h (jobs_in file) _ _ (clear_all (read_rules file t h) c) refl refl refl)).same_reply,
      );
    }

module _ {v : Version} {n : ℕ} {table holds out out_now : List ℕ} {reply : Result ℕ Refusal} (p : WritePromise v n table holds out reply out_now) where
  write_gives : (f : Refusal) → reply ≡ Err f → first_given (write_rules v n table holds out) ≡ comes_back f
  unfolding night_answer write_says
  write_gives f e = was_turned_down (first_given (write_rules v n table holds out)) (length_as v n (held holds)) (sym (ap night_answer e) ∙ p.reply_is)

  write_passes : reply ≡ Ok (length_as v n (held holds)) → first_given (write_rules v n table holds out) ≡ []
  unfolding night_answer write_says
  write_passes e = (was_answered (first_given (write_rules v n table holds out)) (sym (ap night_answer e) ∙ p.reply_is)).0

pub write_refuses : WriteRefuses
write_refuses =
    record {
      by_the_list = λ {v} {n} {table} {holds} {out} p f. (
        λ e. (judged_exactly (write_rules v n table holds out) (comes_back f)).0 (write_gives p f e),
        λ j. (write_unique p (write_refused v n table holds out f (judged_gives (write_rules v n table holds out) j))).same_reply,
      );
      unchanged = λ {v} {n} {table} {holds} {out} p f e. (write_unique p (write_refused v n table holds out f (write_gives p f e))).same_out;
      no_other = λ {v} {n} {table} {holds} {out} p. (
        λ e. all_clear (write_rules v n table holds out) (write_passes p e),
        λ c. (write_unique p (write_done v n table holds out (length_as v n (held holds)) _ (clear_all (write_rules v n table holds out) c) refl refl)).same_reply,
      );
    }
