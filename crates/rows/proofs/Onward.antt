-- Going up through the jobs of a set word by word and bit by bit. `onward` are those from a word on, `left_of` those left of the word at hand. One law for the start, the next word, the end
-- and the next job; and what a loop cites of the jobs to come, which are a part of the set's. Assumes nothing.
use mathlib.Core.Path.{◌≡◌, refl, sym, ◌∙◌, ap, ap₂, subst}
use mathlib.Core.Bool.{Bool, true, false, not, ◌&&◌}
use mathlib.Core.Logic.{⊎_elim}
use mathlib.Core.List.{List, [], ◌∷◌, ◌++◌}
use Prim.Native.Nat.{ℕ, zero, suc, ◌+◌, ◌-◌, ◌*◌, ◌/◌, ◌%◌, ◌^◌, ◌≤◌, ◌<◌}
use native.Mathlib.Omega.{arith}
use lib.Bits.{bit_and}
use lib.Count.{count_trailing_zeros}
use lib.Dec.{eqb, leb}
use lib.ListN.{length, get_or, get_or-eq_default}
use borrow.Author.Tests.{eqb-true, eq-eqb, ne_eqb, le-leb, lt-leb, leb-true}
use Rattle.std.proofs.Common.{rules, Some}
use Rattle.std.specs.Iterator.{MakesProgress, item_count}
use Rattle.graphs.specs.Jobs.{from, up_to, keep, has, ◌∈◌, Ascending, Part, without, both}
use Rattle.graphs.proofs.Bools.{never, both_ways, lt_or_le}
use Rattle.graphs.proofs.Lists.{from_append, from_in, keep_append, keep_agree, keep_all, keep_none, keep_in, keep_test, in_keep, keep_keep, keep_part, in_head, in_tail, order_head, order_part, ascending_from, ascending_distinct, part_refl, part_in, part_trans, part_keep, part_antisym, part_length, part_of_members}
use Rattle.graphs.proofs.Pigeonhole.{without_head}
use Rattle.sets.specs.Words.{bit, in_words, jobs}
use Rattle.sets.proofs.Bits.{bit_zero, bit_lowered, bit_and_lem, members, members_zero, members_some, members_lowest, head_or}
use Rattle.sets.proofs.Words.{has_jobs, jobs_below, jobs_that}
use Rattle.rows.specs.Rows.{Since, onward}
use Rattle.rows.specs.declared.word.WordJobs.{WordJobs}
use Rattle.rows.specs.Word.{left_of}

-- ---- within the set's words

-- a word past the last has no job
pub past_last : (ws : List ℕ) (j : ℕ) → length ws ≤ j / 64 → in_words ws j ≡ false
unfolding in_words
past_last ws j h = ap (λ (x : ℕ). bit x (j % 64)) (get_or-eq_default ws 0 {n = j / 64} h) ∙ bit_zero (j % 64)

in_jobs : (ws : List ℕ) (j : ℕ) → j ∈ jobs ws → in_words ws j ≡ true
in_jobs ws j h = sym (has_jobs ws j (jobs_below ws j h)) ∙ h

pub jobs_within : (ws : List ℕ) (j : ℕ) → j ∈ jobs ws → j < 64 * length ws
jobs_within ws j h = ⊎_elim (λ l. l) (λ l. never (in_words ws j) (in_jobs ws j h) (past_last ws j (omega arith))) (lt_or_le j (64 * length ws))

-- where a set has a job, its first word in use is one of its words
pub low_lt : {low : ℕ} (ws : List ℕ) (y : ℕ) → Since low (jobs ws) → y ∈ jobs ws → low < length ws
low_lt ws y s h =
    let a = s.since y h in
    let b = jobs_within ws y h in
    omega arith

-- every set is a set since word 0
pub since_all : (l : List ℕ) → Since 0 l
since_all l = record { since = λ j h. omega arith }

-- ---- the jobs from a word on

pub words_from : (ws : List ℕ) (q : ℕ) → q ≤ 4 → onward (jobs ws) q ≡ keep (in_words ws) (from (64 * q) (256 - 64 * q))
unfolding jobs up_to onward
words_from ws q h =
    let t = λ (j : ℕ). leb (64 * q) j in
    let low = keep (in_words ws) (from 0 (64 * q)) in
    let high = keep (in_words ws) (from (64 * q) (256 - 64 * q)) in
    let e : 256 ≡ 64 * q + (256 - 64 * q) = omega arith in
    let z : 0 + 64 * q ≡ 64 * q = omega arith in
    ap (λ (n : ℕ). keep t (keep (in_words ws) (from 0 n))) e
    ∙ ap (λ (l : List ℕ). keep t (keep (in_words ws) l)) (from_append 0 (64 * q) (256 - 64 * q))
    ∙ ap (λ (n : ℕ). keep t (keep (in_words ws) (from 0 (64 * q) ++ from n (256 - 64 * q)))) z
    ∙ ap (keep t) (keep_append (in_words ws) (from 0 (64 * q)) (from (64 * q) (256 - 64 * q)))
    ∙ keep_append t low high
    ∙ ap₂ ◌++◌
    (keep_none t low (λ j i. let r = from_in 0 (64 * q) j (keep_in (in_words ws) (from 0 (64 * q)) j i) in lt-leb (64 * q) j (omega arith)))
    (keep_all t high (λ j i. let r = from_in (64 * q) (256 - 64 * q) j (keep_in (in_words ws) (from (64 * q) (256 - 64 * q)) j i) in le-leb (64 * q) j (omega arith)))

word_jobs : (ws : List ℕ) (q : ℕ) → keep (in_words ws) (from (64 * q) 64) ≡ members (get_or ws q 0) (64 * q) 64
unfolding members in_words
word_jobs ws q = keep_agree (in_words ws) (λ j. bit (get_or ws q 0) (j - 64 * q)) (from (64 * q) 64) (λ j h.
    let r = from_in (64 * q) 64 j h in
    let d : j / 64 ≡ q = omega arith in
    let m : j % 64 ≡ j - 64 * q = omega arith in
    ap₂ (λ (x y : ℕ). bit (get_or ws x 0) y) d m)

-- those of word q come first
pub word_then : (ws : List ℕ) (q : ℕ) → q < 4 → onward (jobs ws) q ≡ members (get_or ws q 0) (64 * q) 64 ++ onward (jobs ws) (q + 1)
word_then ws q h =
    let e : 256 - 64 * q ≡ 64 + (256 - 64 * (q + 1)) = omega arith in
    let f : 64 * q + 64 ≡ 64 * (q + 1) = omega arith in
    words_from ws q (omega arith)
    ∙ ap (λ (n : ℕ). keep (in_words ws) (from (64 * q) n)) e
    ∙ ap (keep (in_words ws)) (from_append (64 * q) 64 (256 - 64 * (q + 1)))
    ∙ keep_append (in_words ws) (from (64 * q) 64) (from (64 * q + 64) (256 - 64 * (q + 1)))
    ∙ ap₂ ◌++◌ (word_jobs ws q) (ap (λ (n : ℕ). keep (in_words ws) (from n (256 - 64 * (q + 1)))) f ∙ sym (words_from ws (q + 1) (omega arith)))

-- past the last word there are none
pub onward_none : (ws : List ℕ) (q : ℕ) → length ws ≤ q → onward (jobs ws) q ≡ []
unfolding onward
onward_none ws q h = keep_none (λ j. leb (64 * q) j) (jobs ws) (λ j i. let l = jobs_within ws j i in lt-leb (64 * q) j (omega arith))

-- where no job is before `low`, all are from there on
pub onward_all : {l : List ℕ} (low : ℕ) → Since low l → onward l low ≡ l
unfolding onward
onward_all {l} low s = keep_all (λ j. leb (64 * low) j) l (λ j i. le-leb (64 * low) j (s.since j i))

-- of a part of a set that has all from word q on, these are the same
pub onward_same : {l m : List ℕ} (q : ℕ) → Ascending m → Part l m → Part (onward m q) l → onward l q ≡ onward m q
unfolding onward
onward_same {l} {m} q o part all =
    let t = λ (j : ℕ). leb (64 * q) j in
    part_antisym
    (part_of_members (keep t l) (keep t m) (order_part ◌<◌ (keep_part t l) (order_part ◌<◌ part o)) (order_part ◌<◌ (keep_part t m) o) (λ j i. in_keep t m j (part_in part j (keep_in t l j i)) (keep_test t l j i)))
    (part_length (part_keep t all (λ j i. keep_test t m j i)))

-- those from the next word on are a part
pub onward_next : (l : List ℕ) (q : ℕ) → Part (onward l (q + 1)) (onward l q)
unfolding onward
onward_next l q =
    part_keep (λ j. leb (64 * q) j) (keep_part (λ j. leb (64 * (q + 1)) j) l) (λ j i. let k = leb-true (64 * (q + 1)) j (keep_test (λ j. leb (64 * (q + 1)) j) l j i) in le-leb (64 * q) j (omega arith))

-- so a word that is read in such a part has the set's jobs too
pub word_same : {l m : List ℕ} (q : ℕ) → Ascending m → Part l m → Part (onward m q) l → (left : List ℕ) → onward l q ≡ left ++ onward l (q + 1) → onward m q ≡ left ++ onward m (q + 1)
word_same {l} {m} q o part all left e =
    sym (onward_same q o part all) ∙ e ∙ ap (λ (k : List ℕ). left ++ k) (onward_same (q + 1) o part (part_trans (onward_next m q) all))

-- ---- the jobs left of a word

left_is : (w : WordJobs) → left_of w ≡ members w.rest w.first 64
unfolding left_of members
left_is w = refl

-- at the start they are the word's
pub word_of : (ws : List ℕ) (q : ℕ) (w : WordJobs) → q < 4 → w.first ≡ 64 * q → w.rest ≡ get_or ws q 0 → onward (jobs ws) q ≡ left_of w ++ onward (jobs ws) (q + 1)
word_of ws q w h f r =
    word_then ws q h ∙ ap (λ (l : List ℕ). l ++ onward (jobs ws) (q + 1)) (ap₂ (λ (x y : ℕ). members x y 64) (sym r) (sym f) ∙ sym (left_is w))

pub left_none : (w : WordJobs) → w.rest ≡ 0 → left_of w ≡ []
left_none w z = left_is w ∙ ap (λ (x : ℕ). members x w.first 64) z ∙ members_zero w.first 64

module _ (rest first : ℕ) (fit : rest < 2 ^ 64) (some : rest ≡ 0 → ⊥) where
  -- `rest & (rest - 1)`
  abbrev less : ℕ
  less = bit_and rest (rest - 1)

  members_less : members less first 64 ≡ without (first + count_trailing_zeros 64 rest) (members rest first 64)
  unfolding members without
  members_less =
      keep_agree (λ j. bit less (j - first)) (λ j. bit rest (j - first) && not (eqb (first + count_trailing_zeros 64 rest) j)) (from first 64) (λ j h.
      let r = from_in first 64 j h in
      bit_lowered 64 rest (j - first) fit some
      ∙ ap (λ (b : Bool). bit rest (j - first) && not b) (both_ways (eqb (count_trailing_zeros 64 rest) (j - first)) (eqb (first + count_trailing_zeros 64 rest) j)
      (λ e. let d = eqb-true (count_trailing_zeros 64 rest) (j - first) e in eq-eqb (first + count_trailing_zeros 64 rest) j (omega arith))
      (λ e. let d = eqb-true (first + count_trailing_zeros 64 rest) j e in eq-eqb (count_trailing_zeros 64 rest) (j - first) (omega arith))))
      ∙ sym (keep_keep (λ j. not (eqb (first + count_trailing_zeros 64 rest) j)) (λ j. bit rest (j - first)) (from first 64))

  members_ascending : Ascending (members rest first 64)
  unfolding members
  members_ascending = order_part ◌<◌ (keep_part (λ j. bit rest (j - first)) (from first 64)) (ascending_from first 64)

  pub members_next : members rest first 64 ≡ (first + count_trailing_zeros 64 rest) ∷ members less first 64
  members_next = by (members rest first 64) refl (members_lowest rest first 64 fit) members_ascending ∙ ap (λ (l : List ℕ). (first + count_trailing_zeros 64 rest) ∷ l) (sym members_less)
    where
      by : (l : List ℕ) → members rest first 64 ≡ l → head_or (first + 64) l ≡ first + count_trailing_zeros 64 rest → Ascending l → l ≡ (first + count_trailing_zeros 64 rest) ∷ without (first + count_trailing_zeros 64 rest) l
      by [] e f o = absurd (some (members_some rest first 64 fit e))
      by (a ∷ l) e f o = subst (λ (x : ℕ). a ∷ l ≡ x ∷ without x (a ∷ l)) f (ap (λ (m : List ℕ). a ∷ m) (sym (without_head a l (ascending_distinct (a ∷ l) o))))

-- the lowest comes first
pub left_first : (w v : WordJobs) → w.rest < 2 ^ 64 → (w.rest ≡ 0 → ⊥) → v.first ≡ w.first → v.rest ≡ bit_and w.rest (w.rest - 1) → left_of w ≡ (w.first + count_trailing_zeros 64 w.rest) ∷ left_of v
left_first w v fit some f r =
    left_is w ∙ members_next w.rest w.first fit some
    ∙ ap (λ (l : List ℕ). (w.first + count_trailing_zeros 64 w.rest) ∷ l) (ap₂ (λ (x y : ℕ). members x y 64) (sym r) (sym f) ∙ sym (left_is v))

-- then one fewer is left
pub left_goes : {can : WordJobs → Type 0} → ((v : WordJobs) → can v) → (w v : WordJobs) {job : ℕ} → left_of w ≡ job ∷ left_of v → MakesProgress can (item_count left_of) w (Some job) v
left_goes free w v e =
    let shorter = ap length e in
    let may = free v in
    search rules

-- ---- two sets at once

-- the words of both
unfoldable pub common : List ℕ → List ℕ → List ℕ
common [] row = []
common (a ∷ p) [] = []
common (a ∷ p) (b ∷ row) = bit_and a b ∷ common p row

-- it has as many words as p
pub common_long : (p row : List ℕ) → length row ≡ length p → length (common p row) ≡ length p
unfolding common
common_long [] row e = refl
common_long (a ∷ p) [] e = absurd (omega arith)
common_long (a ∷ p) (b ∷ row) e = let h = common_long p row (omega arith) in omega arith

-- its word q
pub common_at : (p row : List ℕ) → length row ≡ length p → (q : ℕ) → get_or (common p row) q 0 ≡ bit_and (get_or p q 0) (get_or row q 0)
unfolding common
common_at [] [] e q = refl
common_at [] (b ∷ row) e q = absurd (omega arith)
common_at (a ∷ p) [] e q = absurd (omega arith)
common_at (a ∷ p) (b ∷ row) e zero = refl
common_at (a ∷ p) (b ∷ row) e (suc q) = common_at p row (omega arith) q

-- its jobs are those of both
pub common_jobs : (p row : List ℕ) → length row ≡ length p → jobs (common p row) ≡ both (jobs p) (jobs row)
unfolding both in_words
common_jobs p row e = jobs_that (common p row) p (has (jobs row)) (λ j h.
    ap (λ (x : ℕ). bit x (j % 64)) (common_at p row e (j / 64))
    ∙ bit_and_lem (get_or p (j / 64) 0) (get_or row (j / 64) 0) (j % 64)
    ∙ ap (λ (b : Bool). in_words p j && b) (sym (has_jobs row j h)))

module _ (p row : List ℕ) (e : length row ≡ length p) (q : ℕ) where
  pub word_of_both : (w : WordJobs) → q < 4 → w.first ≡ 64 * q → w.rest ≡ bit_and (get_or p q 0) (get_or row q 0)
      → onward (both (jobs p) (jobs row)) q ≡ left_of w ++ onward (both (jobs p) (jobs row)) (q + 1)
  word_of_both w h f r =
      subst (λ (l : List ℕ). onward l q ≡ left_of w ++ onward l (q + 1)) (common_jobs p row e) (word_of (common p row) q w h f (r ∙ sym (common_at p row e q)))

  pub onward_none_both : length p ≤ q → onward (both (jobs p) (jobs row)) q ≡ []
  onward_none_both h = subst (λ (l : List ℕ). onward l q ≡ []) (common_jobs p row e) (onward_none (common p row) q (let l = common_long p row e in omega arith))

-- ---- what a loop cites: `come` are the jobs to come, a part of the set l

pub part_start : {l come : List ℕ} → come ≡ l → Part come l
part_start {l} e = subst (λ (m : List ℕ). Part m l) (sym e) (part_refl l)

-- the next of a word is the next of all
pub step_on : {left later : List ℕ} {y : ℕ} (others : List ℕ) → left ≡ y ∷ later → left ++ others ≡ y ∷ (later ++ others)
step_on others e = ap (λ (l : List ℕ). l ++ others) e

-- the next job, y
module _ {come : List ℕ} {y : ℕ} {later : List ℕ} (n : come ≡ y ∷ later) where
  pub next_comes : y ∈ come
  next_comes = subst (λ (m : List ℕ). y ∈ m) (sym n) (in_head y later)

  pub later_comes : (z : ℕ) → z ∈ later → z ∈ come
  later_comes z i = subst (λ (m : List ℕ). z ∈ m) (sym n) (in_tail y z later i)

  module _ {l : List ℕ} (part : Part come l) where
    pub next_in : y ∈ l
    next_in = part_in part y next_comes

    with_later : Part (y ∷ later) l
    with_later = subst (λ (m : List ℕ). Part m l) n part

    pub next_part : Part later l
    next_part = part_trans (Part.left (part_refl later)) with_later

    -- it is before the others
    pub next_before : Ascending l → (z : ℕ) → z ∈ later → y < z
    next_before o = order_head ◌<◌ y later (order_part ◌<◌ with_later o)

    -- it is taken out of the set, and the others are to come
    pub next_taken : Ascending l → Part later (without y l)
    unfolding without
    next_taken o = part_keep (λ j. not (eqb y j)) next_part (λ j i. let k = next_before o j i in ap not (ne_eqb y j (λ e. omega arith)))
