-- Going through a set by the numbers of the word at hand, which holds the jobs from `first` on that are left of it, and the words from q on, which are whole: which jobs are still to come.
-- One law for the start, the next word, the end, the next job, and a job taken out of the set behind. Assumes nothing.
use mathlib.Core.Path.{◌≡◌, refl, sym, ◌∙◌, ap, subst}
use mathlib.Core.Bool.{Bool, false, not, ◌&&◌}
use mathlib.Core.Logic.{⊎_elim}
use mathlib.Core.List.{List, [], ◌∷◌, ◌++◌}
use Prim.Native.Nat.{ℕ, ◌+◌, ◌-◌, ◌*◌, ◌^◌, ◌≤◌, ◌<◌}
use native.Mathlib.Omega.{arith}
use lib.Bits.{bit_and, and_le_l}
use lib.Count.{count_trailing_zeros}
use lib.Dec.{eqb}
use lib.ListN.{length, get_or}
use mir.Syntax.{w64}
use mir.Val.{Fits}
use borrow.Author.Tests.{ne_eqb}
use Rattle.graphs.specs.Jobs.{from, up_to, keep, has, ◌∈◌, without}
use Rattle.graphs.proofs.Bools.{cases, and_true, lt_or_le}
use Rattle.graphs.proofs.Lists.{from_in, keep_agree, keep_none, has_keep, in_head}
use Rattle.sets.specs.Words.{in_words, jobs}
use Rattle.sets.proofs.Bits.{members, members_zero, trailing_lt}
use Rattle.sets.proofs.Words.{has_jobs}
use Rattle.rows.specs.Rows.{Since}
use Rattle.rows.proofs.Onward.{past_last, since_all, words_from, word_then, onward_all, members_next}

-- the jobs still to come: those left of the word at hand, whose first job is `first`, then those of the words from q on
unfoldable pub to_come : List ℕ → ℕ → ℕ → ℕ → List ℕ
to_come ws q first rest = members rest first 64 ++ keep (in_words ws) (from (64 * q) (256 - 64 * q))

-- `left` are the jobs still to come, the word at hand is a word, and where it has a job it is behind word q
pub record Going (ws : List ℕ) (q first rest : ℕ) (left : List ℕ) : Type 0 where
  pub left_is : left ≡ to_come ws q first rest
  pub word : Fits w64 rest
  pub behind : (rest ≡ 0 → ⊥) → first + 64 ≤ 64 * q

-- the numbers from word q on
on_from : (q j : ℕ) → j ∈ from (64 * q) (256 - 64 * q) → (64 * q ≤ j) × (j < 256)
on_from q j h = let r = from_in (64 * q) (256 - 64 * q) j h in omega arith

-- ---- the start: nothing of a word at hand, and all the words from `low` on

from_nothing : (ws : List ℕ) (q first rest : ℕ) → rest ≡ 0 → to_come ws q first rest ≡ keep (in_words ws) (from (64 * q) (256 - 64 * q))
unfolding to_come
from_nothing ws q first rest e = ap (λ (l : List ℕ). l ++ keep (in_words ws) (from (64 * q) (256 - 64 * q))) (ap (λ (x : ℕ). members x first 64) e ∙ members_zero first 64)

-- no job before `low`
none_before : (ws : List ℕ) (low j : ℕ) → Since low (jobs ws) → j < 256 → j < 64 * low → in_words ws j ≡ false
none_before ws low j s b h = ⊎_elim (λ e. absurd (let k = s.since j (has_jobs ws j b ∙ e) in omega arith)) (λ e. e) (cases (in_words ws j))

since_here : (ws : List ℕ) (low : ℕ) → Since low (jobs ws) → 64 * low ≤ 256 → jobs ws ≡ keep (in_words ws) (from (64 * low) (256 - 64 * low))
since_here ws low s h = sym (onward_all low s) ∙ words_from ws low (omega arith)

since_past : (ws : List ℕ) (low : ℕ) → Since low (jobs ws) → 256 ≤ 64 * low → jobs ws ≡ keep (in_words ws) (from (64 * low) (256 - 64 * low))
unfolding jobs up_to
since_past ws low s h =
    keep_none (in_words ws) (from 0 256) (λ j i. let r = from_in 0 256 j i in none_before ws low j s (omega arith) (omega arith))
    ∙ sym (keep_none (in_words ws) (from (64 * low) (256 - 64 * low)) (λ j i. absurd (let r = on_from low j i in omega arith)))

pub going_start : (ws : List ℕ) (low first : ℕ) → Since low (jobs ws) → jobs ws ≡ to_come ws low first 0
going_start ws low first s =
    ⊎_elim (λ h. since_here ws low s (omega arith)) (λ h. since_past ws low s h) (lt_or_le (64 * low) 256) ∙ sym (from_nothing ws low first 0 refl)

pub going_start_0 : (ws : List ℕ) (first : ℕ) → jobs ws ≡ to_come ws 0 first 0
going_start_0 ws first = going_start ws 0 first (since_all (jobs ws))

-- ---- the next word

pub going_word : (ws : List ℕ) (q first rest : ℕ) → q < 4 → rest ≡ 0 → to_come ws (q + 1) (64 * q) (get_or ws q 0) ≡ to_come ws q first rest
unfolding to_come
going_word ws q first rest h z =
    ap (λ (l : List ℕ). members (get_or ws q 0) (64 * q) 64 ++ l) (sym (words_from ws (q + 1) (omega arith)))
    ∙ sym (word_then ws q h)
    ∙ words_from ws q (omega arith)
    ∙ sym (from_nothing ws q first rest z)

-- ---- the end

pub going_end : (ws : List ℕ) (q first rest : ℕ) → rest ≡ 0 → length ws ≤ q → to_come ws q first rest ≡ []
going_end ws q first rest z h =
    from_nothing ws q first rest z
    ∙ keep_none (in_words ws) (from (64 * q) (256 - 64 * q)) (λ j i. let r = on_from q j i in past_last ws j (omega arith))

-- ---- the next job

module _ (rest first : ℕ) (fit : rest < 2 ^ 64) (some : rest ≡ 0 → ⊥) where
  -- `rest & (rest - 1)`
  abbrev less : ℕ
  less = bit_and rest (rest - 1)

  pub less_lt : less < 2 ^ 64
  less_lt = let l = and_le_l rest (rest - 1) in omega arith

  pub less_fits : Fits w64 less
  less_fits = record { fits = less_lt }

  pub job_lt : count_trailing_zeros 64 rest < 64
  job_lt = trailing_lt 64 rest fit some

  pub going_job : (ws : List ℕ) (q : ℕ) → to_come ws q first rest ≡ (first + count_trailing_zeros 64 rest) ∷ to_come ws q first (bit_and rest (rest - 1))
  unfolding to_come
  going_job ws q = ap (λ (l : List ℕ). l ++ keep (in_words ws) (from (64 * q) (256 - 64 * q))) (members_next rest first fit some)

-- ---- a job behind is taken out

pub going_taken : (vs ws : List ℕ) (y q first rest : ℕ) → jobs vs ≡ without y (jobs ws) → y < 64 * q → to_come vs q first rest ≡ to_come ws q first rest
unfolding to_come without
going_taken vs ws y q first rest e h = ap (λ (l : List ℕ). members rest first 64 ++ l) (keep_agree (in_words vs) (in_words ws) (from (64 * q) (256 - 64 * q)) (λ j i.
    let r = on_from q j i in
    let n : y ≡ j → ⊥ = λ d. omega arith in
    sym (has_jobs vs j r.1) ∙ ap (λ (l : List ℕ). has l j) e ∙ has_keep (λ j. not (eqb y j)) (jobs ws) j
    ∙ ap (λ (b : Bool). has (jobs ws) j && not b) (ne_eqb y j n) ∙ and_true (has (jobs ws) j) ∙ has_jobs ws j r.1))

-- ---- the same of `Going`

pub starts : (ws : List ℕ) (low first : ℕ) → Since low (jobs ws) → Going ws low first 0 (jobs ws)
starts ws low first s = record { left_is = going_start ws low first s; word = record { fits = omega arith }; behind = λ n. absurd (n refl) }

pub starts_0 : (ws : List ℕ) (first : ℕ) → Going ws 0 first 0 (jobs ws)
starts_0 ws first = starts ws 0 first (since_all (jobs ws))

module _ {ws : List ℕ} {q first rest : ℕ} {left : List ℕ} (g : Going ws q first rest left) where
  pub next_word : rest ≡ 0 → q < 4 → Fits w64 (get_or ws q 0) → Going ws (q + 1) (64 * q) (get_or ws q 0) left
  next_word z h f = record { left_is = g.left_is ∙ sym (going_word ws q first rest h z); word = f; behind = λ n. omega arith }

  pub at_end : rest ≡ 0 → length ws ≤ q → left ≡ []
  at_end z h = g.left_is ∙ going_end ws q first rest z h

  pub next_job : (rest ≡ 0 → ⊥) → left ≡ (first + count_trailing_zeros 64 rest) ∷ to_come ws q first (bit_and rest (rest - 1))
  next_job n = g.left_is ∙ going_job rest first g.word.fits n ws q

  pub past_job : (rest ≡ 0 → ⊥) → Going ws q first (bit_and rest (rest - 1)) (to_come ws q first (bit_and rest (rest - 1)))
  past_job n = record { left_is = refl; word = less_fits rest first g.word.fits n; behind = λ m. g.behind n }

  -- the job at hand is behind the words to come, so it may be taken out
  pub job_behind : (rest ≡ 0 → ⊥) → first + count_trailing_zeros 64 rest < 64 * q
  job_behind n =
      let l = job_lt rest first g.word.fits n in
      let b = g.behind n in
      omega arith

  pub job_left : (rest ≡ 0 → ⊥) → (first + count_trailing_zeros 64 rest) ∈ left
  job_left n = subst (λ (l : List ℕ). (first + count_trailing_zeros 64 rest) ∈ l) (sym (next_job n)) (in_head (first + count_trailing_zeros 64 rest) (to_come ws q first (bit_and rest (rest - 1))))

  pub taken_behind : (vs : List ℕ) (y : ℕ) → jobs vs ≡ without y (jobs ws) → y < 64 * q → Going vs q first rest left
  taken_behind vs y e h = record { left_is = g.left_is ∙ sym (going_taken vs ws y q first rest e h); word = g.word; behind = g.behind }
