-- Sets of up to four words: the size of what an operation keeps of a set, as the ones of its words from the first in use on; the lowest job; and for the loops of the crates above, a word with
-- no job in it is 0, the lowest job as that of the first word that is not 0, and a copy made word by word. Assumes nothing.
use mathlib.Core.Path.{◌≡◌, refl, sym, ◌∙◌, ap, ap₂, subst}
use mathlib.Core.Bool.{Bool, false, not, ◌&&◌}
use mathlib.Core.Logic.{◌⊎◌, inl, inr, ⊎_elim}
use mathlib.Core.List.{List, [], ◌∷◌, ◌++◌}
use Prim.Native.Nat.{ℕ, zero, suc, ◌+◌, ◌-◌, ◌*◌, ◌/◌, ◌%◌, ◌^◌, ◌≤◌, ◌<◌}
use native.Mathlib.Omega.{arith}
use lib.Bits.{bit_and, and_le_l, and_zero_l}
use lib.Count.{ones, ones-le, count_trailing_zeros}
use lib.ListN.{length, get_or, set, length-set, length-append, get_or-eq_default}
use lib.Seq.{get_or-set_same, get_or-set_other, ext_get_or}
use mir.Syntax.{w64}
use mir.Val.{Fits}
use borrow.Author.Count.{below_more}
use Rattle.graphs.specs.Jobs.{from, keep, has, ◌∈◌, lowest, both, minus}
use Rattle.graphs.proofs.Bools.{cases, never, lt_or_le}
use Rattle.graphs.proofs.Lists.{from_in, in_head, keep_append, keep_keep, keep_agree}
use Rattle.sets.specs.Words.{Words, bit, in_words, jobs}
use Rattle.sets.proofs.Bits.{bit_zero, bit_ext, members, members_ones}
use Rattle.sets.proofs.Words.{word_lt, has_jobs, jobs_below, wordwise, and_not, jobs_both, jobs_minus, jobs_size, lowest_0, lowest_1, lowest_2, lowest_3}
use Rattle.rows.specs.Rows.{Since, onward}
use Rattle.rows.specs.Sizes.{KeepsBits, kept}
use Rattle.rows.proofs.Onward.{word_then, onward_all, onward_none}

-- ---- words with no job

-- a word with no job in it is 0
empty_word : (ws : List ℕ) (q : ℕ) → Words ws → q < 4 → ((j : ℕ) → j ∈ jobs ws → j / 64 ≡ q → ⊥) → get_or ws q 0 ≡ 0
unfolding in_words
empty_word ws q w l none = bit_ext 64 (get_or ws q 0) 0 (word_lt w q) (omega arith) (λ i h.
    let j : q * 64 + i < 256 = omega arith in
    let d : (q * 64 + i) / 64 ≡ q = omega arith in
    let m : (q * 64 + i) % 64 ≡ i = omega arith in
    subst (λ (x : ℕ). bit (get_or ws x 0) i ≡ false) d
    (subst (λ (y : ℕ). bit (get_or ws ((q * 64 + i) / 64) 0) y ≡ false) m
    (sym (has_jobs ws (q * 64 + i) j) ∙ ⊎_elim (λ e. absurd (none (q * 64 + i) e d)) (λ e. e) (cases (has (jobs ws) (q * 64 + i)))))
    ∙ sym (bit_zero i))

-- the words before the first that may have a job
pub zero_before : (ws : List ℕ) (low : ℕ) → Words ws → Since low (jobs ws) → (q : ℕ) → q < low → q < 4 → get_or ws q 0 ≡ 0
zero_before ws low w s q h l = empty_word ws q w l (λ j i e. let k = s.since j i in omega arith)

-- ---- sizes

-- the operation gives r of the words q: it has as many ones as the word has jobs that are kept
pub kept_word : {gives : ℕ → ℕ → ℕ → Type 0} (t : Bool → Bool) → KeepsBits gives t → (ws ms : List ℕ) (q r : ℕ) → q < 4 → Words ms → r < 2 ^ 64 → gives (get_or ws q 0) (get_or ms q 0) r
    → length (kept t (onward (jobs ws) q) (jobs ms)) ≡ ones r + length (kept t (onward (jobs ws) (q + 1)) (jobs ms))
unfolding kept members in_words
kept_word t k ws ms q r h w f g =
    let test = λ (j : ℕ). t (has (jobs ms) j) in
    let word = λ (j : ℕ). bit (get_or ws q 0) (j - 64 * q) in
    ap (λ (l : List ℕ). length (keep test l)) (word_then ws q h)
    ∙ ap length (keep_append test (keep word (from (64 * q) 64)) (onward (jobs ws) (q + 1)))
    ∙ length-append (keep test (keep word (from (64 * q) 64))) (keep test (onward (jobs ws) (q + 1)))
    ∙ ap (λ (n : ℕ). n + length (keep test (onward (jobs ws) (q + 1))))
    (ap length (keep_keep test word (from (64 * q) 64) ∙ keep_agree (λ j. word j && test j) (λ j. bit r (j - 64 * q)) (from (64 * q) 64) (λ j i.
    let b = from_in (64 * q) 64 j i in
    let d : j / 64 ≡ q = omega arith in
    let m : j % 64 ≡ j - 64 * q = omega arith in
    ap (λ (x : Bool). word j && t x) (has_jobs ms j (omega arith) ∙ ap₂ (λ (x y : ℕ). bit (get_or ms x 0) y) d m)
    ∙ sym (k.each (get_or ws q 0) (get_or ms q 0) r (j - 64 * q) (word_lt w q) (omega arith) g)))
    ∙ members_ones r (64 * q) 64 f)

-- all are from the first word in use on, and none past the last
pub kept_all : (t : Bool → Bool) {l : List ℕ} (m : List ℕ) (low : ℕ) → Since low l → length (kept t (onward l low) m) ≡ length (kept t l m)
kept_all t m low s = ap (λ (k : List ℕ). length (kept t k m)) (onward_all low s)

pub kept_none : (t : Bool → Bool) (ws m : List ℕ) (q : ℕ) → length ws ≤ q → length (kept t (onward (jobs ws) q) m) ≡ 0
unfolding kept keep
kept_none t ws m q h = ap (λ (k : List ℕ). length (kept t k m)) (onward_none ws q h)

pub kept_at : (t : Bool → Bool) (l m : List ℕ) (p q : ℕ) → p ≡ q → length (kept t (onward l p) m) ≡ length (kept t (onward l q) m)
kept_at t l m p q e = ap (λ (x : ℕ). length (kept t (onward l x) m)) e

pub both_kept : (l m : List ℕ) → kept (λ b. b) l m ≡ both l m
unfolding kept both
both_kept l m = refl

pub minus_kept : (l m : List ℕ) → kept not l m ≡ minus l m
unfolding kept minus
minus_kept l m = refl

-- ---- the same for one to four words whose outcome is written out: the sum of its words' ones

-- four numbers, of which those before `low` and from `end` on are 0
abbrev Nothing : (ℕ → ℕ) → ℕ → ℕ → Type 0
Nothing s low end = (q : ℕ) → (q < low) ⊎ (end ≤ q) → q < 4 → s q ≡ 0

-- the others alone make up the sum of the four
sum_1 : (s : ℕ → ℕ) (low : ℕ) → Nothing s low (low + 1) → low < 4 → s low ≡ s 0 + s 1 + s 2 + s 3
sum_1 s zero z l = omega (arith, z 1 (inr (omega arith)) (omega arith), z 2 (inr (omega arith)) (omega arith), z 3 (inr (omega arith)) (omega arith))
sum_1 s (suc zero) z l = omega (arith, z 0 (inl (omega arith)) (omega arith), z 2 (inr (omega arith)) (omega arith), z 3 (inr (omega arith)) (omega arith))
sum_1 s (suc (suc zero)) z l = omega (arith, z 0 (inl (omega arith)) (omega arith), z 1 (inl (omega arith)) (omega arith), z 3 (inr (omega arith)) (omega arith))
sum_1 s (suc (suc (suc zero))) z l = omega (arith, z 0 (inl (omega arith)) (omega arith), z 1 (inl (omega arith)) (omega arith), z 2 (inl (omega arith)) (omega arith))
sum_1 s (suc (suc (suc (suc n)))) z l = absurd (omega arith)

sum_2 : (s : ℕ → ℕ) (low : ℕ) → Nothing s low (low + 2) → low < 3 → s low + s (low + 1) ≡ s 0 + s 1 + s 2 + s 3
sum_2 s zero z l = omega (arith, z 2 (inr (omega arith)) (omega arith), z 3 (inr (omega arith)) (omega arith))
sum_2 s (suc zero) z l = omega (arith, z 0 (inl (omega arith)) (omega arith), z 3 (inr (omega arith)) (omega arith))
sum_2 s (suc (suc zero)) z l = omega (arith, z 0 (inl (omega arith)) (omega arith), z 1 (inl (omega arith)) (omega arith))
sum_2 s (suc (suc (suc n))) z l = absurd (omega arith)

sum_3 : (s : ℕ → ℕ) (low : ℕ) → Nothing s low (low + 3) → low < 2 → s low + s (low + 1) + s (low + 2) ≡ s 0 + s 1 + s 2 + s 3
sum_3 s zero z l = omega (arith, z 3 (inr (omega arith)) (omega arith))
sum_3 s (suc zero) z l = omega (arith, z 0 (inl (omega arith)) (omega arith))
sum_3 s (suc (suc n)) z l = absurd (omega arith)

-- Both set operations are an `and` with something made of the second set's word, so no word grows and 0 stays 0.
module _ (g : ℕ → ℕ) (a b : List ℕ) (w : Words a) where
  -- how many jobs word q of the outcome has
  abbrev pub at : ℕ → ℕ
  at q = ones (bit_and (get_or a q 0) (g (get_or b q 0)))

  and_lt : (q : ℕ) → bit_and (get_or a q 0) (g (get_or b q 0)) < 2 ^ 64
  and_lt q = omega (arith, word_lt w q, and_le_l (get_or a q 0) (g (get_or b q 0)))

  pub few : (q : ℕ) → at q ≤ 64
  few q = ones-le 64 (bit_and (get_or a q 0) (g (get_or b q 0))) (and_lt q)

  abbrev made : List ℕ
  made = wordwise (λ x y. bit_and x (g y)) a b

  made_words : Words made
  made_words = record { each = by }
    where
      by : (k : ℕ) → Fits w64 (get_or made k 0)
      by zero = record { fits = and_lt 0 }
      by (suc zero) = record { fits = and_lt 1 }
      by (suc (suc zero)) = record { fits = and_lt 2 }
      by (suc (suc (suc zero))) = record { fits = and_lt 3 }
      by (suc (suc (suc (suc k)))) = record { fits = omega arith }

  -- the size is the sum over all four words, or over one, two or three from the first in use on
  pub size_4 : at 0 + at 1 + at 2 + at 3 ≡ length (jobs made)
  size_4 = sym (jobs_size made made_words)

  module _ (low : ℕ) (since : Since low (jobs a)) (short : length a ≤ 4) where
    zero_at : (end : ℕ) → length a ≤ end → Nothing at low end
    unfolding ones
    zero_at end e q o l = ap (λ (x : ℕ). ones (bit_and x (g (get_or b q 0)))) (⊎_elim
        (λ h. zero_before a low w since q h l)
        (λ h. get_or-eq_default a 0 {n = q} (omega arith)) o)
        ∙ ap ones (and_zero_l (g (get_or b q 0)))

    pub size_1 : low < length a → length a - low ≡ 1 → at low ≡ length (jobs made)
    size_1 h e = sum_1 at low (zero_at (low + 1) (omega arith)) (omega arith) ∙ size_4

    pub size_2 : low < length a → length a - low ≡ 2 → at low + at (low + 1) ≡ length (jobs made)
    size_2 h e = sum_2 at low (zero_at (low + 2) (omega arith)) (omega arith) ∙ size_4

    pub size_3 : low < length a → length a - low ≡ 3 → at low + at (low + 1) + at (low + 2) ≡ length (jobs made)
    size_3 h e = sum_3 at low (zero_at (low + 3) (omega arith)) (omega arith) ∙ size_4

-- the second set's word as it is, and turned over
abbrev pub same : ℕ → ℕ
same y = y

abbrev pub turned : ℕ → ℕ
turned y = 18446744073709551615 - y

-- so it is the size of what the operations make of the two lists
pub both_size : (a b : List ℕ) → Words b → length (jobs (wordwise bit_and a b)) ≡ length (both (jobs a) (jobs b))
both_size a b w = ap length (jobs_both a b w)

pub minus_size : (a b : List ℕ) → Words b → length (jobs (wordwise and_not a b)) ≡ length (minus (jobs a) (jobs b))
minus_size a b w = ap length (jobs_minus a b w)

-- ---- the lowest job: that of the first word that has one

pub lowest_first : {l left later : List ℕ} (others : List ℕ) {y : ℕ} → left ++ others ≡ l → left ≡ y ∷ later → y ≡ lowest l
unfolding lowest
lowest_first others {y} e f = subst (λ (k : List ℕ). y ≡ lowest k) (ap (λ (k : List ℕ). k ++ others) (sym f) ∙ e) refl

pub lowest_none : {l : List ℕ} → l ≡ [] → 256 ≡ lowest l
unfolding lowest
lowest_none e = ap lowest (sym e)

-- ---- the lowest job

-- the word of a job is not 0
job_word_lem : (ws : List ℕ) (j : ℕ) → j ∈ jobs ws → get_or ws (j / 64) 0 ≡ 0 → ⊥
unfolding in_words
job_word_lem ws j i e = never (has (jobs ws) j) i (has_jobs ws j (jobs_below ws j i) ∙ ap (λ (x : ℕ). bit x (j % 64)) e ∙ bit_zero (j % 64))

-- past a word that is 0
pub since_more : (ws : List ℕ) (q : ℕ) → Since q (jobs ws) → get_or ws q 0 ≡ 0 → Since (q + 1) (jobs ws)
since_more ws q s e = record {
  since = λ j i. ⊎_elim
      (λ h. let k = s.since j i in let d : q ≡ j / 64 = omega arith in absurd (job_word_lem ws j i (subst (λ (x : ℕ). get_or ws x 0 ≡ 0) d e)))
      (λ h. h)
      (lt_or_le j (64 * (q + 1)));
}

-- word q is the first that is not 0
pub lowest_in : (ws : List ℕ) (q : ℕ) → Words ws → q < 4 → Since q (jobs ws) → (get_or ws q 0 ≡ 0 → ⊥) → 64 * q + count_trailing_zeros 64 (get_or ws q 0) ≡ lowest (jobs ws)
lowest_in ws q w l s n = by q l (λ p h. zero_before ws q w s p h (omega arith)) n
  where
    by : (q : ℕ) → q < 4 → ((p : ℕ) → p < q → get_or ws p 0 ≡ 0) → (get_or ws q 0 ≡ 0 → ⊥) → 64 * q + count_trailing_zeros 64 (get_or ws q 0) ≡ lowest (jobs ws)
    by zero l z n = let e : 64 * 0 + count_trailing_zeros 64 (get_or ws 0 0) ≡ count_trailing_zeros 64 (get_or ws 0 0) = omega arith in e ∙ lowest_0 ws w n
    by (suc zero) l z n = lowest_1 ws w (z 0 (omega arith)) n
    by (suc (suc zero)) l z n = lowest_2 ws w (z 0 (omega arith)) (z 1 (omega arith)) n
    by (suc (suc (suc zero))) l z n = lowest_3 ws w (z 0 (omega arith)) (z 1 (omega arith)) (z 2 (omega arith)) n
    by (suc (suc (suc (suc q)))) l z n = absurd (omega arith)

-- no job at all
no_lowest : (l : List ℕ) → ((j : ℕ) → j ∈ l → ⊥) → 256 ≡ lowest l
unfolding lowest
no_lowest [] n = refl
no_lowest (a ∷ l) n = absurd (n a (in_head a l))

-- no word is left
pub lowest_nowhere : (ws : List ℕ) (q : ℕ) → length ws ≤ q → Since q (jobs ws) → 256 ≡ lowest (jobs ws)
lowest_nowhere ws q h s = no_lowest (jobs ws) (λ j i. let k = s.since j i in job_word_lem ws j i (get_or-eq_default ws 0 {n = j / 64} (omega arith)))

-- ---- a copy

-- as long, and the same before q
pub record CopiedTo (q : ℕ) (a b : List ℕ) : Type 0 where
  pub long : length b ≡ length a
  pub same_before : (p : ℕ) → p < q → get_or b p 0 ≡ get_or a p 0

pub copied_more : (q : ℕ) (a b : List ℕ) → q < length a → CopiedTo q a b → CopiedTo (q + 1) a (set b q (get_or a q 0))
copied_more q a b h s = record {
  long = simp length-set s.long;
  same_before = below_more (λ (p : ℕ). get_or (set b q (get_or a q 0)) p 0 ≡ get_or a p 0) q (λ p l. get_or-set_other b q p (get_or a q 0) 0 (λ e. absurd (omega arith)) ∙ s.same_before p l) (get_or-set_same b q (get_or a q 0) 0 (omega (arith, s.long)));
}

pub copied : (q : ℕ) (a b : List ℕ) → length a ≤ q → CopiedTo q a b → b ≡ a
copied q a b h s = ext_get_or 0 b a s.long (λ p l. s.same_before p (omega (arith, s.long)))
