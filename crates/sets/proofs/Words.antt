-- Four words and the list of their jobs: membership, size, lowest job, the set operations, rows, the jobs of a list as a set, and the way back from a list to its words.
-- A law on words is stated for each job j; one law, `jobs_of`, lifts it to the list. Assumes nothing.
use mathlib.Core.Path.{◌≡◌, refl, sym, ◌∙◌, ap, ap₂, subst}
use mathlib.Core.Bool.{Bool, true, false, not, ◌&&◌, ◌||◌}
use mathlib.Core.Logic.{◌⊎◌, inl, inr, ⊎_elim}
use mathlib.Core.List.{List, [], ◌∷◌, ◌++◌, append-nil}
use Prim.Native.Nat.{ℕ, zero, suc, ◌+◌, ◌-◌, ◌*◌, ◌/◌, ◌%◌, ◌^◌, ◌≤◌, ◌<◌, min}
use native.Mathlib.Omega.{arith}
use lib.Bits.{bit_and, bit_or, or_zero_r, and_le_l}
use lib.Count.{ones, ones-le, count_trailing_zeros}
use lib.Dec.{eqb, ltb}
use lib.Pow.{pow-lt}
use native.Mathlib.Nat.{mod-eq_of_lt}
use lib.ListN.{length, get_or, set, take, drop, length-append, length-take, length-drop, get_or-eq_default}
use lib.Seq.{get_or-set_same, get_or-set_other, get_or-take, get_or-drop, ext_get_or}
use mir.Syntax.{w64}
use mir.Val.{Fits}
use borrow.Author.Tests.{lt-ltb, le-ltb, ltb-true, eqb-true, eq-eqb, ne_eqb}
use Rattle.graphs.specs.Jobs.{from, up_to, keep, has, ◌∈◌, Within, Alike, Ascending, Distinct, lowest, both, minus, without}
use Rattle.graphs.proofs.Bools.{cases, never, both_ways, same?, and_left, or_comm, or_cases, or_left, or_right, and_true, lt_or_le}
use Rattle.graphs.proofs.Lists.{from_append, from_in, up_to_in, in_up_to, has_up_to, has_keep, in_keep, keep_test, keep_append, keep_same, keep_agree, keep_keep, keep_part, in_snoc, in_last, in_append_left, order_part, ascending_up_to, ascending_distinct, ascending_snoc, ascending_ext}
use Rattle.graphs.proofs.Filter.{length_without}
use Rattle.graphs.proofs.Pigeonhole.{in_without, without_in, without_unequal, both_in, in_both, part_both, both_alike}
use Rattle.sets.specs.Words.{Words, Wordwise, bit, in_words, jobs, number, words, set_of, added, row_of, row_jobs, fits}
use Rattle.sets.proofs.Bits.{bit_zero, bit_and_lem, bit_or_lem, bit_not, bit_pow, bit_ones, bit_ext, number_lt, bit_number, members, members_zero, members_ones, head_or, members_lowest, members_some, trailing_lt, bit_lowered}

pub word_lt : {ws : List ℕ} → Words ws → (k : ℕ) → get_or ws k 0 < 2 ^ 64
word_lt w k = (w.each k).fits

-- a word has 64 ones at most
pub word_ones : {ws : List ℕ} → Words ws → (k : ℕ) → ones (get_or ws k 0) ≤ 64
word_ones {ws} w k = ones-le 64 (get_or ws k 0) (word_lt w k)

-- ---- membership

pub has_jobs : (ws : List ℕ) (j : ℕ) → j < 256 → has (jobs ws) j ≡ in_words ws j
unfolding jobs
has_jobs ws j h = has_keep (in_words ws) (up_to 256) j ∙ ap (λ (b : Bool). b && in_words ws j) (has_up_to 256 j ∙ lt-ltb j 256 h)

pub jobs_below : (ws : List ℕ) (j : ℕ) → j ∈ jobs ws → j < 256
unfolding jobs
jobs_below ws j h = up_to_in 256 j (and_left (has (up_to 256) j) (in_words ws j) (sym (has_keep (in_words ws) (up_to 256) j) ∙ h))

pub has_jobs_none : (ws : List ℕ) (j : ℕ) → 256 ≤ j → has (jobs ws) j ≡ false
has_jobs_none ws j h = ⊎_elim (λ e. absurd (let l = jobs_below ws j e in omega arith)) (λ e. e) (cases (has (jobs ws) j))

pub jobs_ascending : (ws : List ℕ) → Ascending (jobs ws)
unfolding jobs
jobs_ascending ws = order_part ◌<◌ (keep_part (in_words ws) (up_to 256)) (ascending_up_to 256)

-- words that hold the jobs of a test have the list of these
pub jobs_of : (ws : List ℕ) (t : ℕ → Bool) → ((j : ℕ) → j < 256 → in_words ws j ≡ t j) → jobs ws ≡ keep t (up_to 256)
unfolding jobs
jobs_of ws t e = keep_agree (in_words ws) t (up_to 256) (λ j h. e j (up_to_in 256 j h))

-- words that hold those jobs of a set that pass a test
pub jobs_that : (rs ws : List ℕ) (t : ℕ → Bool) → ((j : ℕ) → j < 256 → in_words rs j ≡ (in_words ws j && t j)) → jobs rs ≡ keep t (jobs ws)
unfolding jobs
jobs_that rs ws t e = keep_agree (in_words rs) (λ j. in_words ws j && t j) (up_to 256) (λ j h. e j (up_to_in 256 j h)) ∙ sym (keep_keep t (in_words ws) (up_to 256))

-- ---- word by word

-- what holds at the four words holds at each word, and at the word of every job
pub at_each : (P : ℕ → Type 0) → P 0 → P 1 → P 2 → P 3 → (q : ℕ) → q < 4 → P q
at_each P a b c d zero l = a
at_each P a b c d (suc zero) l = b
at_each P a b c d (suc (suc zero)) l = c
at_each P a b c d (suc (suc (suc zero))) l = d
at_each P a b c d (suc (suc (suc (suc q)))) l = absurd (omega arith)

pub at_word : (P : ℕ → Type 0) → P 0 → P 1 → P 2 → P 3 → (j : ℕ) → j < 256 → P (j / 64)
at_word P a b c d j h = at_each P a b c d (j / 64) (omega arith)

-- Word by word, for four words that are written out
abbrev pub wordwise : (ℕ → ℕ → ℕ) → List ℕ → List ℕ → List ℕ
wordwise f u v = f (get_or u 0 0) (get_or v 0 0) ∷ f (get_or u 1 0) (get_or v 1 0) ∷ f (get_or u 2 0) (get_or v 2 0) ∷ f (get_or u 3 0) (get_or v 3 0) ∷ []

as_written : (f : ℕ → ℕ → ℕ) (u v : List ℕ) → Wordwise f u v (wordwise f u v)
as_written f u v = at_each (λ (q : ℕ). get_or (wordwise f u v) q 0 ≡ f (get_or u q 0) (get_or v q 0)) refl refl refl refl

-- where f goes bit by bit, as g does, the operation goes job by job
module _ (f : ℕ → ℕ → ℕ) (g : Bool → Bool → Bool) (law : (a b i : ℕ) → b < 2 ^ 64 → i < 64 → bit (f a b) i ≡ g (bit a i) (bit b i)) where
  in_wordwise : (u v rs : List ℕ) → Words v → Wordwise f u v rs → (j : ℕ) → j < 256 → in_words rs j ≡ g (in_words u j) (in_words v j)
  unfolding in_words
  in_wordwise u v rs w e j h =
      ap (λ (x : ℕ). bit x (j % 64)) (e (j / 64) (omega arith))
      ∙ law (get_or u (j / 64) 0) (get_or v (j / 64) 0) (j % 64) (word_lt w (j / 64)) (omega arith)

pub each_both : (u v rs : List ℕ) → Words v → Wordwise bit_and u v rs → jobs rs ≡ both (jobs u) (jobs v)
unfolding both
each_both u v rs w e = jobs_that rs u (has (jobs v)) (λ j h.
    in_wordwise bit_and ◌&&◌ (λ a b i l k. bit_and_lem a b i) u v rs w e j h ∙ ap (λ (b : Bool). in_words u j && b) (sym (has_jobs v j h)))

-- `a & !b`
abbrev pub and_not : ℕ → ℕ → ℕ
and_not a b = bit_and a (18446744073709551615 - b)

pub each_minus : (u v rs : List ℕ) → Words v → Wordwise and_not u v rs → jobs rs ≡ minus (jobs u) (jobs v)
unfolding minus
each_minus u v rs w e = jobs_that rs u (λ j. not (has (jobs v) j)) (λ j h.
    in_wordwise and_not (λ x y. x && not y) (λ a b i l k. bit_and_lem a (18446744073709551615 - b) i ∙ ap (λ (x : Bool). bit a i && x) (bit_not 64 b i l k)) u v rs w e j h
    ∙ ap (λ (b : Bool). in_words u j && not b) (sym (has_jobs v j h)))

-- both operations, for four words that are written out
pub jobs_both : (u v : List ℕ) → Words v → jobs (wordwise bit_and u v) ≡ both (jobs u) (jobs v)
jobs_both u v w = each_both u v (wordwise bit_and u v) w (as_written bit_and u v)

pub jobs_minus : (u v : List ℕ) → Words v → jobs (wordwise and_not u v) ≡ minus (jobs u) (jobs v)
jobs_minus u v w = each_minus u v (wordwise and_not u v) w (as_written and_not u v)

-- ---- the four words of a test

abbrev pub numbers : (ℕ → Bool) → List ℕ
numbers t = number t 0 64 ∷ number t 64 64 ∷ number t 128 64 ∷ number t 192 64 ∷ []

in_numbers : (t : ℕ → Bool) (j : ℕ) → j < 256 → in_words (numbers t) j ≡ t j
unfolding in_words
in_numbers t j h =
    let z : j / 64 * 64 + j % 64 ≡ j = omega arith in
    let b : j % 64 < 64 = omega arith in
    at_word (λ (q : ℕ). bit (get_or (numbers t) q 0) (j % 64) ≡ t (q * 64 + j % 64))
    (bit_number t 0 64 (j % 64) b) (bit_number t 64 64 (j % 64) b) (bit_number t 128 64 (j % 64) b) (bit_number t 192 64 (j % 64) b) j h
    ∙ ap t z

numbers_fit : (t : ℕ → Bool) → Words (numbers t)
numbers_fit t = record { each = by }
  where
    by : (k : ℕ) → Fits w64 (get_or (numbers t) k 0)
    by zero = record { fits = number_lt t 0 64 }
    by (suc zero) = record { fits = number_lt t 64 64 }
    by (suc (suc zero)) = record { fits = number_lt t 128 64 }
    by (suc (suc (suc zero))) = record { fits = number_lt t 192 64 }
    by (suc (suc (suc (suc k)))) = record { fits = omega arith }

-- ---- one job more, one job less

-- two equations that say the same have the same test
same_test : (a b x y : ℕ) → (a ≡ b → x ≡ y) → (x ≡ y → a ≡ b) → eqb a b ≡ eqb x y
same_test a b x y f g = both_ways (eqb a b) (eqb x y) (λ e. eq-eqb x y (f (eqb-true a b e))) (λ e. eq-eqb a b (g (eqb-true x y e)))

-- `1 << k` at 64 bits
pub one_shifted : (k : ℕ) → k < 64 → 1 * 2 ^ k % 18446744073709551616 ≡ 2 ^ k
one_shifted k h =
    let e : 1 * 2 ^ k ≡ 2 ^ k = omega arith in
    ap (λ (x : ℕ). x % 18446744073709551616) e ∙ mod-eq_of_lt (pow-lt {i = k} {j = 64} h)

-- job a in word q: its bit there, or no bit
pub one_here : (a q : ℕ) → a / 64 ≡ q → 1 * 2 ^ (a % 64) % 18446744073709551616 ≡ number (eqb a) (q * 64) 64
one_here a q e = one_shifted (a % 64) (omega arith)
    ∙ bit_ext 64 (2 ^ (a % 64)) (number (eqb a) (q * 64) 64) (pow-lt {i = a % 64} {j = 64} (omega arith)) (number_lt (eqb a) (q * 64) 64)
    (λ i h. bit_pow (a % 64) i ∙ same_test (a % 64) i a (q * 64 + i) (λ d. omega arith) (λ d. omega arith) ∙ sym (bit_number (eqb a) (q * 64) 64 i h))

pub none_here : (a q : ℕ) → (a / 64 ≡ q → ⊥) → 0 ≡ number (eqb a) (q * 64) 64
none_here a q n = bit_ext 64 0 (number (eqb a) (q * 64) 64) (omega arith) (number_lt (eqb a) (q * 64) 64)
    (λ i h. bit_zero i ∙ sym (ne_eqb a (q * 64 + i) (λ d. n (omega arith))) ∙ sym (bit_number (eqb a) (q * 64) 64 i h))

-- `w & !0`
all_ones : (w : ℕ) → w < 2 ^ 64 → and_not w 0 ≡ w
all_ones w h = bit_ext 64 (and_not w 0) w (omega (arith, and_le_l w (18446744073709551615 - 0))) h (λ i l. bit_and_lem w (18446744073709551615 - 0) i ∙ ap (λ (b : Bool). bit w i && b) (bit_not 64 0 i (omega arith) l ∙ ap not (bit_zero i)) ∙ and_true (bit w i))

-- its bit in each word
number_at : (a q : ℕ) → q < 4 → get_or (numbers (eqb a)) q 0 ≡ number (eqb a) (q * 64) 64
number_at a = at_each (λ (q : ℕ). get_or (numbers (eqb a)) q 0 ≡ number (eqb a) (q * 64) 64) refl refl refl refl

-- a set with job a, and without it
abbrev pub WithBit : ℕ → List ℕ → List ℕ → Type 0
WithBit a ws rs = (q : ℕ) → q < 4 → get_or rs q 0 ≡ bit_or (get_or ws q 0) (number (eqb a) (q * 64) 64)

pub each_with : (a : ℕ) (ws rs : List ℕ) → WithBit a ws rs → jobs rs ≡ added a (jobs ws)
unfolding added
each_with a ws rs e = jobs_of rs (λ j. eqb a j || has (jobs ws) j) (λ j h.
    in_wordwise bit_or ◌||◌ (λ x y i l k. bit_or_lem x y i) ws (numbers (eqb a)) rs (numbers_fit (eqb a)) (λ q l. e q l ∙ ap (bit_or (get_or ws q 0)) (sym (number_at a q l))) j h
    ∙ or_comm (in_words ws j) (in_words (numbers (eqb a)) j) ∙ ap₂ ◌||◌ (in_numbers (eqb a) j h) (sym (has_jobs ws j h)))

-- a set with job v, in order
module _ (ws : List ℕ) (v : ℕ) (small : v < 256) where
  abbrev joined : List ℕ
  joined = added v (jobs ws)

  joined_up : Ascending joined
  unfolding added
  joined_up = order_part ◌<◌ (keep_part (λ j. eqb v j || has (jobs ws) j) (up_to 256)) (ascending_up_to 256)

  added_in : (b : ℕ) → b ∈ joined → (b ∈ jobs ws) ⊎ (v ≡ b)
  unfolding added
  added_in b i = ⊎_elim (λ e. inr (eqb-true v b e)) (λ h. inl h) (or_cases (eqb v b) (has (jobs ws) b) (keep_test (λ j. eqb v j || has (jobs ws) j) (up_to 256) b i))

  in_added : (b : ℕ) → (b ∈ jobs ws) ⊎ (v ≡ b) → b ∈ joined
  unfolding added
  in_added b (inl i) = in_keep (λ j. eqb v j || has (jobs ws) j) (up_to 256) b (in_up_to 256 b (jobs_below ws b i)) (or_right (eqb v b) (has (jobs ws) b) i)
  in_added b (inr e) = in_keep (λ j. eqb v j || has (jobs ws) j) (up_to 256) b (in_up_to 256 b (omega arith)) (or_left (eqb v b) (has (jobs ws) b) (eq-eqb v b e))

  -- it has the jobs of the list where v comes last
  joined_has : (b : ℕ) → has joined b ≡ has (jobs ws ++ v ∷ []) b
  joined_has b = both_ways (has joined b) (has (jobs ws ++ v ∷ []) b)
      (λ i. ⊎_elim (in_append_left (jobs ws) (v ∷ []) b) (λ e. subst (λ (a : ℕ). a ∈ (jobs ws ++ v ∷ [])) e (in_last (jobs ws) v)) (added_in b i))
      (λ i. in_added b (in_snoc (jobs ws) v b i))

  -- a job above all others is added last
  pub added_last : ((a : ℕ) → a ∈ jobs ws → a < v) → added v (jobs ws) ≡ jobs ws ++ v ∷ []
  added_last low = ascending_ext joined (jobs ws ++ v ∷ []) joined_up (ascending_snoc (jobs ws) v (jobs_ascending ws) low) joined_has

  -- a new job makes one more, wherever it comes
  module _ (new : v ∈ jobs ws → ⊥) where
    taken_again : without v joined ≡ jobs ws
    unfolding without
    taken_again = ascending_ext (without v joined) (jobs ws) (order_part ◌<◌ (keep_part (λ j. not (eqb v j)) joined) joined_up) (jobs_ascending ws) (λ b. both_ways (has (without v joined) b) (has (jobs ws) b)
        (λ i. ⊎_elim (λ h. h) (λ e. absurd (without_unequal v b joined i e)) (added_in b (without_in v b joined i)))
        (λ i. in_without v b joined (in_added b (inl i)) (λ e. new (subst (λ (a : ℕ). a ∈ jobs ws) (sym e) i))))

    pub added_alike : Alike (added v (jobs ws)) (jobs ws ++ v ∷ [])
    added_alike = record {
      size =
          let l = length_without joined v (ascending_distinct joined joined_up) (in_added v (inr refl)) in
          let m = ap length taken_again in
          let n = length-append (jobs ws) (v ∷ []) in
          omega arith;
      members = joined_has;
    }

abbrev pub WithoutBit : ℕ → List ℕ → List ℕ → Type 0
WithoutBit a ws rs = (q : ℕ) → q < 4 → get_or rs q 0 ≡ and_not (get_or ws q 0) (number (eqb a) (q * 64) 64)

pub each_without : (a : ℕ) (ws rs : List ℕ) → WithoutBit a ws rs → jobs rs ≡ without a (jobs ws)
unfolding without minus
each_without a ws rs e = each_minus ws (numbers (eqb a)) rs (numbers_fit (eqb a)) (λ q l. e q l ∙ ap (and_not (get_or ws q 0)) (sym (number_at a q l)))
    ∙ keep_agree (λ j. not (has (jobs (numbers (eqb a))) j)) (λ j. not (eqb a j)) (jobs ws) (λ j i.
    let h = jobs_below ws j i in
    ap not (has_jobs (numbers (eqb a)) j h ∙ in_numbers (eqb a) j h))

-- the same where a's word alone is stored to, in any number of words that has it
module _ (ws : List ℕ) (a : ℕ) (here : a / 64 < length ws) where
  -- what is stored is f of the old word and the bit, and f of any word and no bit is that word
  module _ (f : ℕ → ℕ → ℕ) (same : (w : ℕ) → w < 2 ^ 64 → w ≡ f w 0) (fit : Words ws) where
    stored_bit : (q : ℕ) → q < 4 → get_or (set ws (a / 64) (f (get_or ws (a / 64) 0) (1 * 2 ^ (a % 64) % 18446744073709551616))) q 0 ≡ f (get_or ws q 0) (number (eqb a) (q * 64) 64)
    stored_bit q l = by (same? q (a / 64))
      where
        new : ℕ
        new = f (get_or ws (a / 64) 0) (1 * 2 ^ (a % 64) % 18446744073709551616)

        by : (q ≡ a / 64) ⊎ (q ≡ a / 64 → ⊥) → get_or (set ws (a / 64) new) q 0 ≡ f (get_or ws q 0) (number (eqb a) (q * 64) 64)
        by (inl e) = subst (λ (p : ℕ). get_or (set ws (a / 64) new) p 0 ≡ f (get_or ws p 0) (number (eqb a) (p * 64) 64)) (sym e)
            (get_or-set_same ws (a / 64) new 0 here ∙ ap (f (get_or ws (a / 64) 0)) (one_here a (a / 64) refl))
        by (inr m) = get_or-set_other ws (a / 64) q new 0 m ∙ same (get_or ws q 0) (word_lt fit q) ∙ ap (f (get_or ws q 0)) (none_here a q (λ e. m (sym e)))

  pub jobs_put : Words ws → jobs (set ws (a / 64) (bit_or (get_or ws (a / 64) 0) (1 * 2 ^ (a % 64) % 18446744073709551616))) ≡ added a (jobs ws)
  jobs_put w = each_with a ws _ (stored_bit bit_or (λ x l. sym (or_zero_r x)) w)

  pub jobs_taken : Words ws → jobs (set ws (a / 64) (and_not (get_or ws (a / 64) 0) (1 * 2 ^ (a % 64) % 18446744073709551616))) ≡ without a (jobs ws)
  jobs_taken w = each_without a ws _ (stored_bit and_not (λ x l. sym (all_ones x l)) w)

-- a number of 256 or more is no job
pub without_none : (ws : List ℕ) (a : ℕ) → 256 ≤ a → jobs ws ≡ without a (jobs ws)
unfolding without
without_none ws a h = jobs_that ws ws (λ j. not (eqb a j)) (λ j l. sym (and_true (in_words ws j)) ∙ ap (λ (b : Bool). in_words ws j && not b) (sym (ne_eqb a j (λ e. omega arith))))

-- the empty set
pub no_jobs : jobs (0 ∷ 0 ∷ 0 ∷ 0 ∷ []) ≡ []
unfolding jobs keep up_to from in_words bit
no_jobs = refl

-- ---- the list, word by word

-- the jobs of word q
part_of : (ws : List ℕ) (q : ℕ) → keep (in_words ws) (from (q * 64) 64) ≡ members (get_or ws q 0) (q * 64) 64
unfolding members in_words
part_of ws q = keep_agree (in_words ws) (λ j. bit (get_or ws q 0) (j - q * 64)) (from (q * 64) 64) (λ j h.
    let r = from_in (q * 64) 64 j h in
    let d : j / 64 ≡ q = omega arith in
    let m : j % 64 ≡ j - q * 64 = omega arith in
    ap₂ (λ (x y : ℕ). bit (get_or ws x 0) y) d m)

pub jobs_parts : (ws : List ℕ) → jobs ws ≡ members (get_or ws 0 0) 0 64 ++ (members (get_or ws 1 0) 64 64 ++ (members (get_or ws 2 0) 128 64 ++ members (get_or ws 3 0) 192 64))
unfolding jobs up_to
jobs_parts ws =
    ap (keep (in_words ws)) (from_append 0 64 192) ∙ keep_append (in_words ws) (from 0 64) (from 64 192)
    ∙ ap₂ ◌++◌ (part_of ws 0)
    (ap (keep (in_words ws)) (from_append 64 64 128) ∙ keep_append (in_words ws) (from 64 64) (from 128 128)
    ∙ ap₂ ◌++◌ (part_of ws 1)
    (ap (keep (in_words ws)) (from_append 128 64 64) ∙ keep_append (in_words ws) (from 128 64) (from 192 64) ∙ ap₂ ◌++◌ (part_of ws 2) (part_of ws 3)))

-- "The size of a set is the number of ones in its words"
pub jobs_size : (ws : List ℕ) → Words ws → length (jobs ws) ≡ ones (get_or ws 0 0) + ones (get_or ws 1 0) + ones (get_or ws 2 0) + ones (get_or ws 3 0)
jobs_size ws w =
    let a = members (get_or ws 0 0) 0 64 in
    let b = members (get_or ws 1 0) 64 64 in
    let c = members (get_or ws 2 0) 128 64 in
    let d = members (get_or ws 3 0) 192 64 in
    let e = ap length (jobs_parts ws) in
    let e0 = length-append a (b ++ (c ++ d)) in
    let e1 = length-append b (c ++ d) in
    let e2 = length-append c d in
    let m0 = members_ones (get_or ws 0 0) 0 64 (word_lt w 0) in
    let m1 = members_ones (get_or ws 1 0) 64 64 (word_lt w 1) in
    let m2 = members_ones (get_or ws 2 0) 128 64 (word_lt w 2) in
    let m3 = members_ones (get_or ws 3 0) 192 64 (word_lt w 3) in
    omega arith

-- ---- the lowest job

-- from word q on: where the word is not 0 its trailing zeros say the lowest job
lowest_here : (w at : ℕ) (rest : List ℕ) → w < 2 ^ 64 → (w ≡ 0 → ⊥) → lowest (members w at 64 ++ rest) ≡ at + count_trailing_zeros 64 w
unfolding lowest
lowest_here w at rest h n = by (members w at 64) refl (members_lowest w at 64 h)
  where
    by : (l : List ℕ) → members w at 64 ≡ l → head_or (at + 64) l ≡ at + count_trailing_zeros 64 w → lowest (l ++ rest) ≡ at + count_trailing_zeros 64 w
    by [] e f = absurd (n (members_some w at 64 h e))
    by (a ∷ l) e f = f

lowest_on : (w at : ℕ) (rest : List ℕ) → w ≡ 0 → lowest (members w at 64 ++ rest) ≡ lowest rest
lowest_on w at rest e = ap (λ (l : List ℕ). lowest (l ++ rest)) (ap (λ (x : ℕ). members x at 64) e ∙ members_zero at 64)

module _ (ws : List ℕ) (w : Words ws) where
  lowest_from_1 : get_or ws 0 0 ≡ 0 → lowest (jobs ws) ≡ lowest (members (get_or ws 1 0) 64 64 ++ (members (get_or ws 2 0) 128 64 ++ members (get_or ws 3 0) 192 64))
  lowest_from_1 z0 = ap lowest (jobs_parts ws) ∙ lowest_on (get_or ws 0 0) 0 _ z0

  lowest_from_2 : get_or ws 0 0 ≡ 0 → get_or ws 1 0 ≡ 0 → lowest (jobs ws) ≡ lowest (members (get_or ws 2 0) 128 64 ++ members (get_or ws 3 0) 192 64)
  lowest_from_2 z0 z1 = lowest_from_1 z0 ∙ lowest_on (get_or ws 1 0) 64 _ z1

  lowest_from_3 : get_or ws 0 0 ≡ 0 → get_or ws 1 0 ≡ 0 → get_or ws 2 0 ≡ 0 → lowest (jobs ws) ≡ lowest (members (get_or ws 3 0) 192 64 ++ [])
  lowest_from_3 z0 z1 z2 = lowest_from_2 z0 z1 ∙ lowest_on (get_or ws 2 0) 128 _ z2 ∙ ap lowest (sym (append-nil (members (get_or ws 3 0) 192 64)))

  pub lowest_0 : (get_or ws 0 0 ≡ 0 → ⊥) → count_trailing_zeros 64 (get_or ws 0 0) ≡ lowest (jobs ws)
  lowest_0 n =
      let z : 0 + count_trailing_zeros 64 (get_or ws 0 0) ≡ count_trailing_zeros 64 (get_or ws 0 0) = omega arith in
      sym (ap lowest (jobs_parts ws) ∙ lowest_here (get_or ws 0 0) 0 _ (word_lt w 0) n ∙ z)

  pub lowest_1 : get_or ws 0 0 ≡ 0 → (get_or ws 1 0 ≡ 0 → ⊥) → 64 + count_trailing_zeros 64 (get_or ws 1 0) ≡ lowest (jobs ws)
  lowest_1 z0 n = sym (lowest_from_1 z0 ∙ lowest_here (get_or ws 1 0) 64 _ (word_lt w 1) n)

  pub lowest_2 : get_or ws 0 0 ≡ 0 → get_or ws 1 0 ≡ 0 → (get_or ws 2 0 ≡ 0 → ⊥) → 128 + count_trailing_zeros 64 (get_or ws 2 0) ≡ lowest (jobs ws)
  lowest_2 z0 z1 n = sym (lowest_from_2 z0 z1 ∙ lowest_here (get_or ws 2 0) 128 _ (word_lt w 2) n)

  pub lowest_3 : get_or ws 0 0 ≡ 0 → get_or ws 1 0 ≡ 0 → get_or ws 2 0 ≡ 0 → (get_or ws 3 0 ≡ 0 → ⊥) → 192 + count_trailing_zeros 64 (get_or ws 3 0) ≡ lowest (jobs ws)
  lowest_3 z0 z1 z2 n = sym (lowest_from_3 z0 z1 z2 ∙ lowest_here (get_or ws 3 0) 192 [] (word_lt w 3) n)

  pub lowest_none : get_or ws 0 0 ≡ 0 → get_or ws 1 0 ≡ 0 → get_or ws 2 0 ≡ 0 → get_or ws 3 0 ≡ 0 → 256 ≡ lowest (jobs ws)
  unfolding lowest
  lowest_none z0 z1 z2 z3 = sym (lowest_from_3 z0 z1 z2 ∙ lowest_on (get_or ws 3 0) 192 [] z3)

-- the same for any word q: the words before it are 0, and it is not
pub lowest_at : (ws : List ℕ) → Words ws → (q : ℕ) → q < 4 → ((k : ℕ) → k < q → get_or ws k 0 ≡ 0) → (get_or ws q 0 ≡ 0 → ⊥)
    → 64 * q + count_trailing_zeros 64 (get_or ws q 0) ≡ lowest (jobs ws)
lowest_at ws w zero l z n = omega (arith, lowest_0 ws w n)
lowest_at ws w (suc zero) l z n = lowest_1 ws w (z 0 (omega arith)) n
lowest_at ws w (suc (suc zero)) l z n = lowest_2 ws w (z 0 (omega arith)) (z 1 (omega arith)) n
lowest_at ws w (suc (suc (suc zero))) l z n = lowest_3 ws w (z 0 (omega arith)) (z 1 (omega arith)) (z 2 (omega arith)) n
lowest_at ws w (suc (suc (suc (suc q)))) l z n = absurd (omega arith)

pub lowest_nowhere : (ws : List ℕ) → Words ws → ((k : ℕ) → k < 4 → get_or ws k 0 ≡ 0) → 256 ≡ lowest (jobs ws)
lowest_nowhere ws w z = lowest_none ws w (z 0 (omega arith)) (z 1 (omega arith)) (z 2 (omega arith)) (z 3 (omega arith))

-- ---- without the lowest job

-- words that are those of a set, but for word q, which has lost its lowest bit: where the lowest job is in word q, it is the job that this takes out
lowest_out : (ws rs : List ℕ) (q : ℕ) → Words ws → (get_or ws q 0 ≡ 0 → ⊥) → 64 * q + count_trailing_zeros 64 (get_or ws q 0) ≡ lowest (jobs ws) → get_or rs q 0 ≡ bit_and (get_or ws q 0) (get_or ws q 0 - 1)
    → ((p : ℕ) → p < 4 → (p ≡ q → ⊥) → get_or rs p 0 ≡ get_or ws p 0) → jobs rs ≡ without (lowest (jobs ws)) (jobs ws)
unfolding without in_words
lowest_out ws rs q w n e here others = rw (← e) (jobs_that rs ws (λ j. not (eqb (64 * q + t) j)) (λ j h. by j h (same? (j / 64) q)))
  where
    t : ℕ
    t = count_trailing_zeros 64 (get_or ws q 0)

    t_lt : t < 64
    t_lt = trailing_lt 64 (get_or ws q 0) (word_lt w q) n

    by : (j : ℕ) → j < 256 → (j / 64 ≡ q) ⊎ (j / 64 ≡ q → ⊥) → bit (get_or rs (j / 64) 0) (j % 64) ≡ (bit (get_or ws (j / 64) 0) (j % 64) && not (eqb (64 * q + t) j))
    by j h (inl e) =
        ap (λ (x : ℕ). bit x (j % 64)) (ap (λ (x : ℕ). get_or rs x 0) e ∙ here)
        ∙ bit_lowered 64 (get_or ws q 0) (j % 64) (word_lt w q) n
        ∙ ap₂ (λ (x : ℕ) (b : Bool). bit (get_or ws x 0) (j % 64) && not b) (sym e) (same_test t (j % 64) (64 * q + t) j (λ d. omega arith) (λ d. omega (arith, t_lt)))
    by j h (inr m) =
        ap (λ (x : ℕ). bit x (j % 64)) (others (j / 64) (omega arith) m)
        ∙ sym (and_true (bit (get_or ws (j / 64) 0) (j % 64)))
        ∙ ap (λ (b : Bool). bit (get_or ws (j / 64) 0) (j % 64) && not b) (sym (ne_eqb (64 * q + t) j (λ e. m (omega (arith, t_lt)))))

-- the same where word q alone is stored to, in any number of words that has it
pub lowered_in : (ws : List ℕ) (q : ℕ) → Words ws → q < length ws → (get_or ws q 0 ≡ 0 → ⊥) → 64 * q + count_trailing_zeros 64 (get_or ws q 0) ≡ lowest (jobs ws)
    → jobs (set ws q (bit_and (get_or ws q 0) (get_or ws q 0 - 1))) ≡ without (lowest (jobs ws)) (jobs ws)
lowered_in ws q w l n e = lowest_out ws _ q w n e (get_or-set_same ws q _ 0 l) (λ p h m. get_or-set_other ws q p _ 0 m)

-- and where four words are read one by one
abbrev each_word : List ℕ → List ℕ
each_word ws = get_or ws 0 0 ∷ get_or ws 1 0 ∷ get_or ws 2 0 ∷ get_or ws 3 0 ∷ []

abbrev lowered : List ℕ → ℕ → List ℕ
lowered ws q = set (each_word ws) q (bit_and (get_or ws q 0) (get_or ws q 0 - 1))

pub jobs_lowered : (ws : List ℕ) (q : ℕ) → Words ws → q < 4 → (get_or ws q 0 ≡ 0 → ⊥) → q * 64 + count_trailing_zeros 64 (get_or ws q 0) ≡ lowest (jobs ws)
    → jobs (lowered ws q) ≡ without (lowest (jobs ws)) (jobs ws)
jobs_lowered ws q w l n e =
    let d : 64 * q + count_trailing_zeros 64 (get_or ws q 0) ≡ q * 64 + count_trailing_zeros 64 (get_or ws q 0) = omega arith in
    lowest_out ws (lowered ws q) q w n (d ∙ e) (get_or-set_same (each_word ws) q (bit_and (get_or ws q 0) (get_or ws q 0 - 1)) 0 l)
    (λ p h m. get_or-set_other (each_word ws) q p (bit_and (get_or ws q 0) (get_or ws q 0 - 1)) 0 m ∙ at_each (λ (x : ℕ). get_or (each_word ws) x 0 ≡ get_or ws x 0) refl refl refl refl p h)

-- ---- the first n jobs

pub jobs_first : (n a b c d : ℕ) → a ≡ 2 ^ min 64 (n - 0) - 1 → b ≡ 2 ^ min 64 (n - 64) - 1 → c ≡ 2 ^ min 64 (n - 128) - 1 → d ≡ 2 ^ min 64 (n - 192) - 1
    → jobs (a ∷ b ∷ c ∷ d ∷ []) ≡ up_to (min 256 n)
unfolding in_words
jobs_first n a b c d ea eb ec ed =
    ascending_ext (jobs (a ∷ b ∷ c ∷ d ∷ [])) (up_to (min 256 n)) (jobs_ascending (a ∷ b ∷ c ∷ d ∷ [])) (ascending_up_to (min 256 n)) (λ j. by j (lt_or_le j 256))
  where
    run : (q w j : ℕ) → q ≡ j / 64 → w ≡ 2 ^ min 64 (n - q * 64) - 1 → bit w (j % 64) ≡ ltb j n
    run q w j e f = ap (λ (x : ℕ). bit x (j % 64)) f ∙ bit_ones (min 64 (n - q * 64)) (j % 64)
        ∙ both_ways (ltb (j % 64) (min 64 (n - q * 64))) (ltb j n) (λ h. let l = ltb-true (j % 64) (min 64 (n - q * 64)) h in lt-ltb j n (omega arith)) (λ h. let l = ltb-true j n h in lt-ltb (j % 64) (min 64 (n - q * 64)) (omega arith))

    inside : (j : ℕ) → j < 256 → in_words (a ∷ b ∷ c ∷ d ∷ []) j ≡ ltb j n
    inside j h = at_word (λ (q : ℕ). q ≡ j / 64 → bit (get_or (a ∷ b ∷ c ∷ d ∷ []) q 0) (j % 64) ≡ ltb j n) (λ e. run 0 a j e ea) (λ e. run 1 b j e eb) (λ e. run 2 c j e ec) (λ e. run 3 d j e ed) j h refl

    by : (j : ℕ) → (j < 256) ⊎ (256 ≤ j) → has (jobs (a ∷ b ∷ c ∷ d ∷ [])) j ≡ has (up_to (min 256 n)) j
    by j (inl h) = has_jobs (a ∷ b ∷ c ∷ d ∷ []) j h ∙ inside j h ∙ both_ways (ltb j n) (ltb j (min 256 n)) (λ k. let l = ltb-true j n k in lt-ltb j (min 256 n) (omega arith)) (λ k. let l = ltb-true j (min 256 n) k in lt-ltb j n (omega arith)) ∙ sym (has_up_to (min 256 n) j)
    by j (inr h) = has_jobs_none (a ∷ b ∷ c ∷ d ∷ []) j h ∙ sym (has_up_to (min 256 n) j ∙ le-ltb j (min 256 n) (omega arith))

-- ---- rows

-- a row that the table has, word for word
pub row_words : (table : List ℕ) (r : ℕ) → 4 * r + 4 ≤ length table
    → row_of table r ≡ get_or table (4 * r) 0 ∷ get_or table (4 * r + 1) 0 ∷ get_or table (4 * r + 2) 0 ∷ get_or table (4 * r + 3) 0 ∷ []
unfolding row_of
row_words table r h =
    ext_get_or 0 (take 4 (drop (4 * r) table)) (get_or table (4 * r) 0 ∷ get_or table (4 * r + 1) 0 ∷ get_or table (4 * r + 2) 0 ∷ get_or table (4 * r + 3) 0 ∷ []) four
    (λ i l. get_or-take 4 (drop (4 * r) table) i 0 (omega (arith, four)) ∙ get_or-drop (4 * r) table i 0 ∙ by i (omega (arith, four)))
  where
    four : length (take 4 (drop (4 * r) table)) ≡ 4
    four = simp (length-take, length-drop) (omega arith)

    by : (i : ℕ) → i < 4 → get_or table (4 * r + i) 0 ≡ get_or (get_or table (4 * r) 0 ∷ get_or table (4 * r + 1) 0 ∷ get_or table (4 * r + 2) 0 ∷ get_or table (4 * r + 3) 0 ∷ []) i 0
    by zero l = let z : 4 * r + 0 ≡ 4 * r = omega arith in ap (λ (x : ℕ). get_or table x 0) z
    by (suc zero) l = refl
    by (suc (suc zero)) l = refl
    by (suc (suc (suc zero))) l = refl
    by (suc (suc (suc (suc i)))) l = absurd (omega arith)

-- words past the last are 0
pub far_word : (ws : List ℕ) (j : ℕ) → length ws ≤ 4 → 256 ≤ j → in_words ws j ≡ false
unfolding in_words
far_word ws j l h = ap (λ (x : ℕ). bit x (j % 64)) (get_or-eq_default ws 0 {n = j / 64} (omega arith)) ∙ bit_zero (j % 64)

pub in_words_job : (ws : List ℕ) (j : ℕ) → length ws ≤ 4 → in_words ws j ≡ true → j ∈ jobs ws
in_words_job ws j l e = ⊎_elim (λ h. has_jobs ws j h ∙ e) (λ h. never (in_words ws j) e (far_word ws j l h)) (lt_or_le j 256)

short : (table : List ℕ) (r : ℕ) → length (row_of table r) ≤ 4
unfolding row_of
short table r = simp length-take (omega arith)

-- "Bit c of row r says that r and c fit": whatever c is
pub fits_row : (table : List ℕ) (r c : ℕ) → has (row_jobs table r) c ≡ fits table r c
unfolding row_jobs fits
fits_row table r c = ⊎_elim (λ h. has_jobs (row_of table r) c h) (λ h. has_jobs_none (row_of table r) c h ∙ sym (past h)) (lt_or_le c 256)
  where
    past : 256 ≤ c → in_words (row_of table r) c ≡ false
    past h = far_word (row_of table r) c (short table r) h

-- four words, read one by one, are the words themselves
pub four_words : (ws : List ℕ) → length ws ≡ 4 → each_word ws ≡ ws
four_words [] n = absurd (omega arith)
four_words (a ∷ []) n = absurd (omega arith)
four_words (a ∷ b ∷ []) n = absurd (omega arith)
four_words (a ∷ b ∷ c ∷ []) n = absurd (omega arith)
four_words (a ∷ b ∷ c ∷ d ∷ []) n = refl
four_words (a ∷ b ∷ c ∷ d ∷ e ∷ l) n = absurd (omega arith)

-- four stores write all of a list of four
pub stored : (old ws : List ℕ) → length old ≡ 4 → length ws ≡ 4 → set (set (set (set old 0 (get_or ws 0 0)) 1 (get_or ws 1 0)) 2 (get_or ws 2 0)) 3 (get_or ws 3 0) ≡ ws
stored [] ws m n = absurd (omega arith)
stored (a ∷ []) ws m n = absurd (omega arith)
stored (a ∷ b ∷ []) ws m n = absurd (omega arith)
stored (a ∷ b ∷ c ∷ []) ws m n = absurd (omega arith)
stored (a ∷ b ∷ c ∷ d ∷ []) ws m n = four_words ws n
stored (a ∷ b ∷ c ∷ d ∷ e ∷ l) ws m n = absurd (omega arith)

-- ---- the jobs of a list as a set

pub ascending_set : (l : List ℕ) → Ascending (set_of l)
unfolding set_of
ascending_set l = order_part ◌<◌ (keep_part (has l) (up_to 256)) (ascending_up_to 256)

pub set_members : (l : List ℕ) (j : ℕ) → j < 256 → has (set_of l) j ≡ has l j
unfolding set_of
set_members l j h = has_keep (has l) (up_to 256) j ∙ ap (λ (b : Bool). b && has l j) (in_up_to 256 j h)

-- where the list has jobs only, whatever j is
set_has : (l : List ℕ) → ((j : ℕ) → j ∈ l → j < 256) → (j : ℕ) → has (set_of l) j ≡ has l j
unfolding set_of
set_has l b j = both_ways (has (set_of l) j) (has l j) (λ i. keep_test (has l) (up_to 256) j i) (λ i. set_members l j (b j i) ∙ i)

pub set_same : {l : List ℕ} → Ascending l → ((j : ℕ) → j ∈ l → j < 256) → set_of l ≡ l
set_same {l} o b = ascending_ext (set_of l) l (ascending_set l) o (set_has l b)

-- a list all of whose jobs are in an ascending one, in the order of that one
pub set_both : (u l : List ℕ) → Ascending u → ((j : ℕ) → j ∈ u → j < 256) → Within l u → set_of l ≡ both u l
set_both u l o b w = ascending_ext (set_of l) (both u l) (ascending_set l) (order_part ◌<◌ (part_both u l) o) (λ j.
    set_has l (λ i h. b i (w i h)) j ∙ both_ways (has l j) (has (both u l) j) (λ h. in_both u l j (w j h) h) (λ h. (both_in u l j h).1))

-- a list in which each job stands once has as many jobs as the set, and the same
pub set_alike : {l : List ℕ} → Distinct l → ((j : ℕ) → j ∈ l → j < 256) → Alike (set_of l) l
unfolding set_of both
set_alike {l} d b = both_alike (up_to 256) l (ascending_distinct (up_to 256) (ascending_up_to 256)) d (λ j i. in_up_to 256 j (b j i))

-- ---- from a list back to its words

pub in_words_lem : (l : List ℕ) (j : ℕ) → j < 256 → in_words (words l) j ≡ has l j
unfolding words
in_words_lem l = in_numbers (has l)

pub jobs_of_words : (l : List ℕ) → jobs (words l) ≡ set_of l
unfolding set_of
jobs_of_words l = jobs_of (words l) (has l) (in_words_lem l)

pub jobs_words : (l : List ℕ) → Ascending l → ((j : ℕ) → j ∈ l → j < 256) → jobs (words l) ≡ l
jobs_words l o b = jobs_of_words l ∙ set_same o b

pub words_fit : (l : List ℕ) → Words (words l)
unfolding words
words_fit l = numbers_fit (has l)

-- words with the same jobs are the same words
pub words_ext : (u v : List ℕ) → length u ≡ 4 → length v ≡ 4 → Words u → Words v → jobs u ≡ jobs v → u ≡ v
unfolding in_words
words_ext u v lu lv wu wv e = ext_get_or 0 u v (lu ∙ sym lv) (λ q l. bit_ext 64 (get_or u q 0) (get_or v q 0) (word_lt wu q) (word_lt wv q) (λ i h.
    let b : q * 64 + i < 256 = omega arith in
    let d : (q * 64 + i) / 64 ≡ q = omega arith in
    let m : (q * 64 + i) % 64 ≡ i = omega arith in
    subst (λ (x : ℕ). bit (get_or u x 0) i ≡ bit (get_or v x 0) i) d
    (subst (λ (y : ℕ). bit (get_or u ((q * 64 + i) / 64) 0) y ≡ bit (get_or v ((q * 64 + i) / 64) 0) y) m
    (sym (has_jobs u (q * 64 + i) b) ∙ ap (λ (l : List ℕ). has l (q * 64 + i)) e ∙ has_jobs v (q * 64 + i) b))))

pub length_words : (l : List ℕ) → length (words l) ≡ 4
unfolding words
length_words l = refl

pub words_jobs : (ws : List ℕ) → length ws ≡ 4 → Words ws → words (jobs ws) ≡ ws
words_jobs ws n w = words_ext (words (jobs ws)) ws (length_words (jobs ws)) n (words_fit (jobs ws)) w (jobs_words (jobs ws) (jobs_ascending ws) (jobs_below ws))

-- two lists with the same jobs have the same words
pub words_same : (l m : List ℕ) → ((j : ℕ) → has l j ≡ has m j) → words l ≡ words m
unfolding set_of
words_same l m e = words_ext (words l) (words m) (length_words l) (length_words m) (words_fit l) (words_fit m) (jobs_of_words l ∙ keep_same (has l) (has m) (up_to 256) e ∙ sym (jobs_of_words m))
