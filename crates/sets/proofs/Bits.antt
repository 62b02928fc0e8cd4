-- One word and its bits: what `&`, `|`, `!`, a shifted one, a run of ones, a count of ones, the trailing zeros and `w & (w - 1)` say of each bit.
-- All goes by the lowest bit and the half of the word, by induction on the bit's place or the width. Assumes nothing.
use mathlib.Core.Path.{◌≡◌, refl, sym, ◌∙◌, ap, ap₂, subst}
use mathlib.Core.Bool.{Bool, true, false, not, ◌&&◌, ◌||◌, cond}
use mathlib.Core.List.{List, [], ◌∷◌}
use Prim.Native.Nat.{ℕ, zero, suc, ◌+◌, ◌-◌, ◌*◌, ◌/◌, ◌%◌, ◌^◌, ◌<◌}
use native.Mathlib.Omega.{arith}
use native.Mathlib.Nat.{mod-lt, zero-lt-suc}
use lib.Bits.{bit_and, bit_or, and_shr, or_shr, and_mod, or_mod}
use lib.Count.{ones, ones_in, ones_step, count_trailing_zeros, under}
use lib.Pow.{shr-shr, pow_pos}
use lib.Dec.{eqb, ltb, leb-suc-suc, eqb-zero-suc, eqb-suc-suc}
use lib.ListN.{length}
use borrow.Author.Tests.{ne_eqb, lt-ltb, le-ltb}
use Rattle.graphs.specs.Jobs.{from, put, keep, ◌∈◌}
use Rattle.graphs.proofs.Bools.{and_no_left, and_true}
use Rattle.graphs.proofs.Lists.{from_in, keep_agree, keep_none}
use Rattle.sets.specs.Words.{bit, number}

-- ---- a bit, from the lowest up

pub bit_low : (w : ℕ) → bit w 0 ≡ eqb (w % 2) 1
unfolding bit
bit_low w = let e : w / 1 ≡ w = omega arith in rw e

pub bit_step : (w b : ℕ) → bit w (suc b) ≡ bit (w / 2) b
unfolding bit
bit_step w b =
    let e : 1 + b ≡ suc b = omega arith in
    ap (λ (x : ℕ). eqb (x % 2) 1) (ap (λ (x : ℕ). w / 2 ^ x) (sym e) ∙ sym (shr-shr w 1 b))

pub bit_zero : (b : ℕ) → bit 0 b ≡ false
bit_zero zero = bit_low 0
bit_zero (suc b) = bit_step 0 b ∙ bit_zero b

-- the lowest bit is the remainder
digit : (w : ℕ) → w % 2 ≡ cond (eqb (w % 2) 1) 1 0
digit w = by (w % 2) (mod-lt w (zero-lt-suc 1))
  where
    by : (x : ℕ) → x < 2 → x ≡ cond (eqb x 1) 1 0
    by zero h = refl
    by (suc zero) h = refl
    by (suc (suc x)) h = absurd (omega arith)

-- ---- the word operations

and_digit : (x y : ℕ) → x < 2 → y < 2 → eqb (bit_and x y) 1 ≡ (eqb x 1 && eqb y 1)
and_digit zero y h k = refl
and_digit (suc zero) zero h k = refl
and_digit (suc zero) (suc zero) h k = refl
and_digit (suc zero) (suc (suc y)) h k = absurd (omega arith)
and_digit (suc (suc x)) y h k = absurd (omega arith)

or_digit : (x y : ℕ) → x < 2 → y < 2 → eqb (bit_or x y) 1 ≡ (eqb x 1 || eqb y 1)
or_digit zero zero h k = refl
or_digit zero (suc zero) h k = refl
or_digit zero (suc (suc y)) h k = absurd (omega arith)
or_digit (suc zero) zero h k = refl
or_digit (suc zero) (suc zero) h k = refl
or_digit (suc zero) (suc (suc y)) h k = absurd (omega arith)
or_digit (suc (suc x)) y h k = absurd (omega arith)

pub bit_and_lem : (a b i : ℕ) → bit (bit_and a b) i ≡ (bit a i && bit b i)
unfolding bit
bit_and_lem a b i =
    ap (λ (x : ℕ). eqb (x % 2) 1) (and_shr a b i) ∙ ap (λ (x : ℕ). eqb x 1) (and_mod (a / 2 ^ i) (b / 2 ^ i) 1)
    ∙ and_digit (a / 2 ^ i % 2) (b / 2 ^ i % 2) (mod-lt (a / 2 ^ i) (zero-lt-suc 1)) (mod-lt (b / 2 ^ i) (zero-lt-suc 1))

pub bit_or_lem : (a b i : ℕ) → bit (bit_or a b) i ≡ (bit a i || bit b i)
unfolding bit
bit_or_lem a b i =
    ap (λ (x : ℕ). eqb (x % 2) 1) (or_shr a b i) ∙ ap (λ (x : ℕ). eqb x 1) (or_mod (a / 2 ^ i) (b / 2 ^ i) 1)
    ∙ or_digit (a / 2 ^ i % 2) (b / 2 ^ i % 2) (mod-lt (a / 2 ^ i) (zero-lt-suc 1)) (mod-lt (b / 2 ^ i) (zero-lt-suc 1))

not_digit : (x y : ℕ) → x + y ≡ 1 → eqb x 1 ≡ not (eqb y 1)
not_digit zero zero e = absurd (omega arith)
not_digit zero (suc zero) e = refl
not_digit zero (suc (suc y)) e = absurd (omega arith)
not_digit (suc zero) zero e = refl
not_digit (suc zero) (suc y) e = absurd (omega arith)
not_digit (suc (suc x)) y e = absurd (omega arith)

-- `!b` at a width of k bits
pub bit_not : (k b i : ℕ) → b < 2 ^ k → i < k → bit (2 ^ k - 1 - b) i ≡ not (bit b i)
bit_not zero b i h l = absurd (omega arith)
bit_not (suc k) b zero h l =
    let e : (2 ^ suc k - 1 - b) % 2 + b % 2 ≡ 1 = omega arith in
    bit_low (2 ^ suc k - 1 - b) ∙ not_digit ((2 ^ suc k - 1 - b) % 2) (b % 2) e ∙ ap not (sym (bit_low b))
bit_not (suc k) b (suc i) h l =
    let e : (2 ^ suc k - 1 - b) / 2 ≡ 2 ^ k - 1 - b / 2 = omega arith in
    bit_step (2 ^ suc k - 1 - b) i ∙ ap (λ (x : ℕ). bit x i) e ∙ bit_not k (b / 2) i (omega arith) (omega arith) ∙ ap not (sym (bit_step b i))

-- `1 << k`
pub bit_pow : (k i : ℕ) → bit (2 ^ k) i ≡ eqb k i
bit_pow zero zero = bit_low 1
bit_pow zero (suc i) = bit_step 1 i ∙ bit_zero i ∙ sym (ne_eqb 0 (suc i) (λ e. omega arith))
bit_pow (suc k) zero =
    let e : 2 ^ suc k % 2 ≡ 0 = omega arith in
    bit_low (2 ^ suc k) ∙ ap (λ (x : ℕ). eqb x 1) e ∙ sym (ne_eqb (suc k) 0 (λ d. omega arith))
bit_pow (suc k) (suc i) =
    let e : 2 ^ suc k / 2 ≡ 2 ^ k = omega arith in
    bit_step (2 ^ suc k) i ∙ ap (λ (x : ℕ). bit x i) e ∙ bit_pow k i ∙ sym (eqb-suc-suc k i)

-- a run of k ones
pub bit_ones : (k i : ℕ) → bit (2 ^ k - 1) i ≡ ltb i k
bit_ones zero i = bit_zero i ∙ sym (le-ltb i 0 (omega arith))
bit_ones (suc k) zero =
    let p = pow_pos k in
    let e : (2 ^ suc k - 1) % 2 ≡ 1 = omega arith in
    bit_low (2 ^ suc k - 1) ∙ ap (λ (x : ℕ). eqb x 1) e ∙ sym (lt-ltb 0 (suc k) (omega arith))
bit_ones (suc k) (suc i) =
    let p = pow_pos k in
    let e : (2 ^ suc k - 1) / 2 ≡ 2 ^ k - 1 = omega arith in
    bit_step (2 ^ suc k - 1) i ∙ ap (λ (x : ℕ). bit x i) e ∙ bit_ones k i ∙ sym (leb-suc-suc (suc i) k)

-- words of k bits are equal if their bits are
pub bit_ext : (k v w : ℕ) → v < 2 ^ k → w < 2 ^ k → ((i : ℕ) → i < k → bit v i ≡ bit w i) → v ≡ w
bit_ext zero v w h l e = omega arith
bit_ext (suc k) v w h l e =
    let d : v % 2 ≡ w % 2 = digit v ∙ ap (λ (b : Bool). cond b 1 0) (sym (bit_low v) ∙ e 0 (omega arith) ∙ bit_low w) ∙ sym (digit w) in
    let q : v / 2 ≡ w / 2 = bit_ext k (v / 2) (w / 2) (omega arith) (omega arith) (λ i b. sym (bit_step v i) ∙ e (suc i) (omega arith) ∙ bit_step w i) in
    omega arith

-- ---- the number of a test

pub number_lt : (t : ℕ → Bool) (at k : ℕ) → number t at k < 2 ^ k
unfolding number
number_lt t at zero = omega arith
number_lt t at (suc k) = by (t at) (number_lt t (suc at) k)
  where
    by : (b : Bool) → number t (suc at) k < 2 ^ k → cond b 1 0 + 2 * number t (suc at) k < 2 ^ suc k
    by true h = omega arith
    by false h = omega arith

pub bit_number : (t : ℕ → Bool) (at k i : ℕ) → i < k → bit (number t at k) i ≡ t (at + i)
unfolding number
bit_number t at zero i h = absurd (omega arith)
bit_number t at (suc k) zero h =
    let z : at + 0 ≡ at = omega arith in
    bit_low (cond (t at) 1 0 + 2 * number t (suc at) k) ∙ by (t at) (number t (suc at) k) ∙ ap t (sym z)
  where
    by : (b : Bool) (m : ℕ) → eqb ((cond b 1 0 + 2 * m) % 2) 1 ≡ b
    by true m = let e : (1 + 2 * m) % 2 ≡ 1 = omega arith in rw e
    by false m = let e : (0 + 2 * m) % 2 ≡ 0 = omega arith in rw e
bit_number t at (suc k) (suc i) h =
    let s : suc at + i ≡ at + suc i = omega arith in
    bit_step (cond (t at) 1 0 + 2 * number t (suc at) k) i ∙ ap (λ (x : ℕ). bit x i) (by (t at) (number t (suc at) k)) ∙ bit_number t (suc at) k i (omega arith) ∙ ap t s
  where
    by : (b : Bool) (m : ℕ) → (cond b 1 0 + 2 * m) / 2 ≡ m
    by true m = omega arith
    by false m = omega arith

-- ---- a word's bits as jobs: those of the k numbers from `at` on whose bit is set

unfoldable pub members : ℕ → ℕ → ℕ → List ℕ
members w at k = keep (λ j. bit w (j - at)) (from at k)

-- the test goes over to the half of the word
half_agrees : (w at k j : ℕ) → j ∈ from (suc at) k → bit w (j - at) ≡ bit (w / 2) (j - suc at)
half_agrees w at k j h =
    let r = from_in (suc at) k j h in
    let e : j - at ≡ suc (j - suc at) = omega arith in
    ap (bit w) e ∙ bit_step w (j - suc at)

pub members_step : (w at k : ℕ) → members w at (suc k) ≡ put (bit w 0) at (members (w / 2) (suc at) k)
unfolding members from keep
members_step w at k =
    let z : at - at ≡ 0 = omega arith in
    ap (λ (b : Bool). put b at (keep (λ (j : ℕ). bit w (j - at)) (from (suc at) k))) (ap (bit w) z)
    ∙ ap (λ (l : List ℕ). put (bit w 0) at l) (keep_agree (λ j. bit w (j - at)) (λ j. bit (w / 2) (j - suc at)) (from (suc at) k) (half_agrees w at k))

pub members_zero : (at k : ℕ) → members 0 at k ≡ []
unfolding members
members_zero at k = keep_none (λ j. bit 0 (j - at)) (from at k) (λ a h. bit_zero (a - at))

nothing : (at : ℕ) → length (members 0 at 0) ≡ ones 0
unfolding members from keep ones ones_in
nothing at = refl

-- "The size of a set is the number of ones in its words"
pub members_ones : (w at k : ℕ) → w < 2 ^ k → length (members w at k) ≡ ones w
members_ones w at zero h =
    let e : w ≡ 0 = omega arith in
    subst (λ (x : ℕ). length (members x at 0) ≡ ones x) (sym e) (nothing at)
members_ones w at (suc k) h =
    ap length (members_step w at k) ∙ by (bit w 0) refl (members_ones (w / 2) (suc at) k (omega arith)) ∙ sym (ones_step w)
  where
    by : (b : Bool) → bit w 0 ≡ b → length (members (w / 2) (suc at) k) ≡ ones (w / 2) → length (put b at (members (w / 2) (suc at) k)) ≡ w % 2 + ones (w / 2)
    by true e ih =
        let d : w % 2 ≡ 1 = digit w ∙ ap (λ (x : Bool). cond x 1 0) (sym (bit_low w) ∙ e) in
        omega arith
    by false e ih =
        let d : w % 2 ≡ 0 = digit w ∙ ap (λ (x : Bool). cond x 1 0) (sym (bit_low w) ∙ e) in
        omega arith

-- what comes first: the head, or something else for the empty list
abbrev pub head_or : ℕ → List ℕ → ℕ
head_or d [] = d
head_or d (a ∷ l) = a

-- "its lowest job comes from their trailing zeros"
pub members_lowest : (w at k : ℕ) → w < 2 ^ k → head_or (at + k) (members w at k) ≡ at + count_trailing_zeros k w
unfolding count_trailing_zeros
members_lowest w at zero h = let e : w ≡ 0 = omega arith in ap (λ (x : ℕ). head_or (at + 0) (members x at 0)) e ∙ ap (head_or (at + 0)) (members_zero at 0)
members_lowest w at (suc k) h =
    ap (head_or (at + suc k)) (members_step w at k) ∙ by (bit w 0) refl (members_lowest (w / 2) (suc at) k (omega arith))
  where
    by : (b : Bool) → bit w 0 ≡ b → head_or (suc at + k) (members (w / 2) (suc at) k) ≡ suc at + count_trailing_zeros k (w / 2)
        → head_or (at + suc k) (put b at (members (w / 2) (suc at) k)) ≡ at + under (w % 2) (count_trailing_zeros k (w / 2))
    by true e ih =
        let d : w % 2 ≡ 1 = digit w ∙ ap (λ (x : Bool). cond x 1 0) (sym (bit_low w) ∙ e) in
        let z : at ≡ at + 0 = omega arith in
        z ∙ ap (λ (x : ℕ). at + under x (count_trailing_zeros k (w / 2))) (sym d)
    by false e ih =
        let d : w % 2 ≡ 0 = digit w ∙ ap (λ (x : Bool). cond x 1 0) (sym (bit_low w) ∙ e) in
        let m : at + suc k ≡ suc at + k = omega arith in
        let n : suc at + count_trailing_zeros k (w / 2) ≡ at + suc (count_trailing_zeros k (w / 2)) = omega arith in
        ap (λ (x : ℕ). head_or x (members (w / 2) (suc at) k)) m ∙ ih ∙ n ∙ ap (λ (x : ℕ). at + under x (count_trailing_zeros k (w / 2))) (sym d)

-- a word that is not 0 has a bit set
pub members_some : (w at k : ℕ) → w < 2 ^ k → members w at k ≡ [] → w ≡ 0
members_some w at zero h e = omega arith
members_some w at (suc k) h e = by (bit w 0) refl (sym (members_step w at k) ∙ e) (members_some (w / 2) (suc at) k (omega arith))
  where
    by : (b : Bool) → bit w 0 ≡ b → put b at (members (w / 2) (suc at) k) ≡ [] → (members (w / 2) (suc at) k ≡ [] → w / 2 ≡ 0) → w ≡ 0
    by true f g ih = absurd (let z = ap length g in omega arith)
    by false f g ih =
        let d : w % 2 ≡ 0 = digit w ∙ ap (λ (x : Bool). cond x 1 0) (sym (bit_low w) ∙ f) in
        let q = ih g in
        omega arith

-- ---- the lowest bit taken out

and_same : (b : Bool) → (b && b) ≡ b
and_same true = refl
and_same false = refl

pub trailing_lt : (k w : ℕ) → w < 2 ^ k → (w ≡ 0 → ⊥) → count_trailing_zeros k w < k
unfolding count_trailing_zeros
trailing_lt zero w h n = absurd (n (omega arith))
trailing_lt (suc k) w h n = by (w % 2) refl (trailing_lt k (w / 2) (omega arith))
  where
    by : (r : ℕ) → w % 2 ≡ r → ((w / 2 ≡ 0 → ⊥) → count_trailing_zeros k (w / 2) < k) → under r (count_trailing_zeros k (w / 2)) < suc k
    by zero e ih = let l = ih (λ z. n (omega arith)) in omega arith
    by (suc r) e ih = omega arith

-- `w - 1` differs from w at the place of w's lowest bit and below it, and below it w has no bit
lower : (k w i : ℕ) → w < 2 ^ k → (w ≡ 0 → ⊥) → (bit w i && bit (w - 1) i) ≡ (bit w i && not (eqb (count_trailing_zeros k w) i))
unfolding count_trailing_zeros
lower zero w i h n = absurd (n (omega arith))
lower (suc k) w i h n = by (w % 2) refl i (λ j m. lower k (w / 2) j (omega arith) m)
  where
    by : (r : ℕ) → w % 2 ≡ r → (i : ℕ) → ((j : ℕ) → (w / 2 ≡ 0 → ⊥) → (bit (w / 2) j && bit (w / 2 - 1) j) ≡ (bit (w / 2) j && not (eqb (count_trailing_zeros k (w / 2)) j)))
        → (bit w i && bit (w - 1) i) ≡ (bit w i && not (eqb (under r (count_trailing_zeros k (w / 2))) i))
    by zero e zero ih =
        let z : bit w 0 ≡ false = bit_low w ∙ ap (λ (x : ℕ). eqb x 1) e in
        and_no_left (bit w 0) (bit (w - 1) 0) z ∙ sym (and_no_left (bit w 0) (not (eqb (suc (count_trailing_zeros k (w / 2))) 0)) z)
    by zero e (suc i) ih =
        let d : (w - 1) / 2 ≡ w / 2 - 1 = omega arith in
        ap₂ ◌&&◌ (bit_step w i) (bit_step (w - 1) i ∙ ap (λ (x : ℕ). bit x i) d) ∙ ih i (λ z. n (omega arith))
        ∙ ap₂ (λ (x y : Bool). x && not y) (sym (bit_step w i)) (sym (eqb-suc-suc (count_trailing_zeros k (w / 2)) i))
    by (suc r) e zero ih =
        let d : (w - 1) % 2 ≡ 0 = omega arith in
        ap (λ (b : Bool). bit w 0 && b) (bit_low (w - 1) ∙ ap (λ (x : ℕ). eqb x 1) d)
    by (suc r) e (suc i) ih =
        let d : (w - 1) / 2 ≡ w / 2 = omega arith in
        ap (λ (b : Bool). bit w (suc i) && b) (bit_step (w - 1) i ∙ ap (λ (x : ℕ). bit x i) d ∙ sym (bit_step w i))
        ∙ and_same (bit w (suc i)) ∙ sym (and_true (bit w (suc i))) ∙ ap (λ (b : Bool). bit w (suc i) && not b) (sym (eqb-zero-suc i))

-- `w & (w - 1)`
pub bit_lowered : (k w i : ℕ) → w < 2 ^ k → (w ≡ 0 → ⊥) → bit (bit_and w (w - 1)) i ≡ (bit w i && not (eqb (count_trailing_zeros k w) i))
bit_lowered k w i h n = bit_and_lem w (w - 1) i ∙ lower k w i h n
