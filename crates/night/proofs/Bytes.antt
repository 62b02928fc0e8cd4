-- Sets of jobs as bytes: byte i of a set, the words that bytes stand for, and that the bytes of a set and the set of these bytes determine each other; and the code's
-- two ways, from bytes filled up to 32 to words, and from words to their first bytes. All goes bit by bit, "job j being bit j % 8 of byte j / 8". Assumes nothing.
use mathlib.Core.Path.{◌≡◌, refl, sym, ◌∙◌, ap, ap₂}
use mathlib.Core.Bool.{Bool, false, ◌&&◌, cond}
use mathlib.Core.Logic.{⊎_elim}
use mathlib.Core.List.{List, [], ◌∷◌, ◌++◌, flat_map}
use Prim.Native.Nat.{ℕ, zero, suc, ◌+◌, ◌-◌, ◌*◌, ◌/◌, ◌%◌, ◌^◌, ◌≤◌, ◌<◌}
use native.Mathlib.Omega.{arith}
use native.Mathlib.Nat.{zero-add, suc-add, mul_assoc, pow-succ', one-mul, mod-lt, zero-lt-suc}
use lib.Dec.{eqb, ltb}
use lib.Pow.{shr-shr}
use lib.ListN.{length, get_or, take, drop, replicate, length-take, length-drop, length-append, length-replicate, get_or-append, get_or-replicate, get_or-eq_default}
use lib.Seq.{drop-drop, get_or-take, get_or-drop, get_or-append-add, ext_get_or}
use borrow.Author.Tests.{lt-ltb, le-ltb}
use Rattle.std.specs.List.{flat_map as pieces}
use Rattle.std.specs.Simd.{first_chunks}
use Rattle.std.specs.Int.{w64, to_le_bytes, from_le_bytes}
use Rattle.graphs.specs.Jobs.{from, up_to, has, ◌∈◌, Ascending}
use Rattle.graphs.proofs.Bools.{cases, never, lt_or_le}
use Rattle.graphs.proofs.Lists.{keep_same, has_keep, has_up_to, keep_part, order_part, ascending_up_to, ascending_ext}
use Rattle.sets.specs.Words.{bit, in_words, number, words, jobs}
use Rattle.sets.proofs.Bits.{bit_zero, bit_ext, bit_number, number_lt}
use Rattle.sets.proofs.Words.{has_jobs}
use Rattle.night.specs.Format.{Bytes, byte_of, set_bytes}
use Rattle.night.specs.Reading.{byte_at, bit_at, set_at}
use Rattle.night.proofs.Pieces.{length_values, value_at, length_pieces, in_piece}
use Rattle.night.proofs.Decoding.{words_of_four}

pub byte_lt : {file : List ℕ} → Bytes file → (k : ℕ) → get_or file k 0 < 256
byte_lt b k = (b.each k).fits

-- ---- numbers of bits

pub number_agree : (t u : ℕ → Bool) (at k : ℕ) → ((j : ℕ) → at ≤ j → j < at + k → t j ≡ u j) → number t at k ≡ number u at k
unfolding number
number_agree t u at zero e = refl
number_agree t u at (suc k) e = ap₂ (λ (b : Bool) (m : ℕ). cond b 1 0 + 2 * m) (e at (omega arith) (omega arith)) (number_agree t u (suc at) k (λ j a b. e j (omega arith) (omega arith)))

number_add : (t : ℕ → Bool) (at a b : ℕ) → number t at (a + b) ≡ number t at a + 2 ^ a * number t (at + a) b
unfolding number
number_add t at zero b =
    let z : at ≡ at + 0 = omega arith in
    ap (number t at) (zero-add b) ∙ ap (λ (x : ℕ). number t x b) z ∙ (let e = one-mul (number t (at + 0) b) in omega arith)
number_add t at (suc a) b =
    let s : suc at + a ≡ at + suc a = omega arith in
    let ih = number_add t (suc at) a b ∙ ap (λ (x : ℕ). number t (suc at) a + 2 ^ a * number t x b) s in
    let e : 2 ^ suc a * number t (at + suc a) b ≡ 2 * (2 ^ a * number t (at + suc a) b) = ap (λ (x : ℕ). x * number t (at + suc a) b) (pow-succ' 2 a) ∙ mul_assoc 2 (2 ^ a) (number t (at + suc a) b) in
    ap (number t at) (suc-add a b) ∙ omega arith

-- eight bytes make a word
pub eight_bytes : (t : ℕ → Bool) (i : ℕ) → number t (8 * i) 64
    ≡ number t (8 * i) 8 + 256 * (number t (8 * (i + 1)) 8 + 256 * (number t (8 * (i + 2)) 8 + 256 * number t (8 * (i + 3)) 8))
    + 4294967296 * (number t (8 * (i + 4)) 8 + 256 * (number t (8 * (i + 5)) 8 + 256 * (number t (8 * (i + 6)) 8 + 256 * number t (8 * (i + 7)) 8)))
eight_bytes t i =
    let n : ℕ → ℕ → ℕ = number t in
    let step : (x k : ℕ) → n (8 * x) (8 + k) ≡ n (8 * x) 8 + 256 * n (8 * (x + 1)) k = λ x k. number_add t (8 * x) 8 k ∙ ap (λ (y : ℕ). n (8 * x) 8 + 256 * n y k) (let e : 8 * x + 8 ≡ 8 * (x + 1) = omega arith in e) in
    let s0 = step i 56 in
    let s1 = step (i + 1) 48 ∙ ap (λ (y : ℕ). n (8 * (i + 1)) 8 + 256 * n (8 * y) 48) (let e : i + 1 + 1 ≡ i + 2 = omega arith in e) in
    let s2 = step (i + 2) 40 ∙ ap (λ (y : ℕ). n (8 * (i + 2)) 8 + 256 * n (8 * y) 40) (let e : i + 2 + 1 ≡ i + 3 = omega arith in e) in
    let s3 = step (i + 3) 32 ∙ ap (λ (y : ℕ). n (8 * (i + 3)) 8 + 256 * n (8 * y) 32) (let e : i + 3 + 1 ≡ i + 4 = omega arith in e) in
    let s4 = step (i + 4) 24 ∙ ap (λ (y : ℕ). n (8 * (i + 4)) 8 + 256 * n (8 * y) 24) (let e : i + 4 + 1 ≡ i + 5 = omega arith in e) in
    let s5 = step (i + 5) 16 ∙ ap (λ (y : ℕ). n (8 * (i + 5)) 8 + 256 * n (8 * y) 16) (let e : i + 5 + 1 ≡ i + 6 = omega arith in e) in
    let s6 = step (i + 6) 8 ∙ ap (λ (y : ℕ). n (8 * (i + 6)) 8 + 256 * n (8 * y) 8) (let e : i + 6 + 1 ≡ i + 7 = omega arith in e) in
    omega arith

-- ---- the byte of a set

pub bit_byte : (l : List ℕ) (i b : ℕ) → b < 8 → bit (byte_of l i) b ≡ has l (8 * i + b)
unfolding byte_of
bit_byte l i b h = bit_number (has l) (8 * i) 8 b h

-- the lowest eight bits
low_byte : (x b : ℕ) → b < 8 → bit (x % 256) b ≡ bit x b
unfolding bit
low_byte x zero h = ap (λ (y : ℕ). eqb y 1) (let e : x % 256 / 1 % 2 ≡ x / 1 % 2 = omega arith in e)
low_byte x (suc zero) h = ap (λ (y : ℕ). eqb y 1) (let e : x % 256 / 2 % 2 ≡ x / 2 % 2 = omega arith in e)
low_byte x (suc (suc zero)) h = ap (λ (y : ℕ). eqb y 1) (let e : x % 256 / 4 % 2 ≡ x / 4 % 2 = omega arith in e)
low_byte x (suc (suc (suc zero))) h = ap (λ (y : ℕ). eqb y 1) (let e : x % 256 / 8 % 2 ≡ x / 8 % 2 = omega arith in e)
low_byte x (suc (suc (suc (suc zero)))) h = ap (λ (y : ℕ). eqb y 1) (let e : x % 256 / 16 % 2 ≡ x / 16 % 2 = omega arith in e)
low_byte x (suc (suc (suc (suc (suc zero))))) h = ap (λ (y : ℕ). eqb y 1) (let e : x % 256 / 32 % 2 ≡ x / 32 % 2 = omega arith in e)
low_byte x (suc (suc (suc (suc (suc (suc zero)))))) h = ap (λ (y : ℕ). eqb y 1) (let e : x % 256 / 64 % 2 ≡ x / 64 % 2 = omega arith in e)
low_byte x (suc (suc (suc (suc (suc (suc (suc zero))))))) h = ap (λ (y : ℕ). eqb y 1) (let e : x % 256 / 128 % 2 ≡ x / 128 % 2 = omega arith in e)
low_byte x (suc (suc (suc (suc (suc (suc (suc (suc b)))))))) h = absurd (omega arith)

-- a word shifted down
bit_shifted : (x s b : ℕ) → bit (x / 2 ^ s) b ≡ bit x (s + b)
unfolding bit
bit_shifted x s b = ap (λ (y : ℕ). eqb (y % 2) 1) (shr-shr x s b)

-- the byte that the code takes out of a word
pub byte_of_word : (ws : List ℕ) (i : ℕ) → i < 32 → get_or ws (i / 8) 0 / 2 ^ (8 * (i % 8)) % 256 ≡ byte_of (jobs ws) i
unfolding byte_of in_words
byte_of_word ws i h = bit_ext 8 (get_or ws (i / 8) 0 / 2 ^ (8 * (i % 8)) % 256) (number (has (jobs ws)) (8 * i) 8) (mod-lt (get_or ws (i / 8) 0 / 2 ^ (8 * (i % 8))) (zero-lt-suc 255)) (number_lt (has (jobs ws)) (8 * i) 8) (λ b k.
    let d : i / 8 ≡ (8 * i + b) / 64 = omega arith in
    let m : 8 * (i % 8) + b ≡ (8 * i + b) % 64 = omega arith in
    low_byte (get_or ws (i / 8) 0 / 2 ^ (8 * (i % 8))) b k ∙ bit_shifted (get_or ws (i / 8) 0) (8 * (i % 8)) b
    ∙ ap₂ (λ (x y : ℕ). bit (get_or ws x 0) y) d m ∙ sym (has_jobs ws (8 * i + b) (omega arith)) ∙ sym (bit_number (has (jobs ws)) (8 * i) 8 b k))

pub length_set_bytes : (w : ℕ) (l : List ℕ) → length (set_bytes w l) ≡ w
unfolding set_bytes
length_set_bytes w l = length_values (byte_of l) w

pub set_byte : (w : ℕ) (l : List ℕ) (i : ℕ) → i < w → get_or (set_bytes w l) i 0 ≡ byte_of l i
unfolding set_bytes
set_byte w l i h = value_at (byte_of l) w i h

-- ---- the set of w bytes of a file

module _ (file : List ℕ) (at w : ℕ) where
  pub byte_in : (i : ℕ) → i < w → byte_at file at w i ≡ get_or file (at + i) 0
  unfolding byte_at
  byte_in i h = ap (λ (b : Bool). cond b (get_or file (at + i) 0) 0) (lt-ltb i w h)

  pub byte_past : (i : ℕ) → w ≤ i → byte_at file at w i ≡ 0
  unfolding byte_at
  byte_past i h = ap (λ (b : Bool). cond b (get_or file (at + i) 0) 0) (le-ltb i w h)

  pub byte_small : Bytes file → (i : ℕ) → byte_at file at w i < 256
  byte_small b i = ⊎_elim (λ h. let e = byte_in i h in let k = byte_lt b (at + i) in omega arith) (λ h. let e = byte_past i h in omega arith) (lt_or_le i w)

  pub set_ascending : Ascending (set_at file at w)
  unfolding set_at
  set_ascending = order_part ◌<◌ (keep_part (bit_at file at w) (up_to 256)) (ascending_up_to 256)

  pub has_set : (j : ℕ) → has (set_at file at w) j ≡ (ltb j 256 && bit_at file at w j)
  unfolding set_at
  has_set j = has_keep (bit_at file at w) (up_to 256) j ∙ ap (λ (b : Bool). b && bit_at file at w j) (has_up_to 256 j)

  pub set_below : (j : ℕ) → j ∈ set_at file at w → j < 256
  set_below j h = ⊎_elim (λ l. l) (λ l. never (has (set_at file at w) j) h (has_set j ∙ ap (λ (b : Bool). b && bit_at file at w j) (le-ltb j 256 l))) (lt_or_le j 256)

  has_bit : (j : ℕ) → j < 256 → has (set_at file at w) j ≡ bit_at file at w j
  has_bit j h = has_set j ∙ ap (λ (b : Bool). b && bit_at file at w j) (lt-ltb j 256 h)

  -- byte i of the set is byte i of the file's
  pub byte_of_set : Bytes file → (i : ℕ) → i < 32 → byte_of (set_at file at w) i ≡ byte_at file at w i
  unfolding byte_of bit_at
  byte_of_set s i h = bit_ext 8 (number (has (set_at file at w)) (8 * i) 8) (byte_at file at w i) (number_lt (has (set_at file at w)) (8 * i) 8) (byte_small s i) (λ b k.
      let d : (8 * i + b) / 8 ≡ i = omega arith in
      let m : (8 * i + b) % 8 ≡ b = omega arith in
      bit_number (has (set_at file at w)) (8 * i) 8 b k ∙ has_bit (8 * i + b) (omega arith) ∙ ap₂ (λ (x y : ℕ). bit (byte_at file at w x) y) d m)

  -- eight bytes, put together in two halves, the lowest first, are a word of the set
  pub word_of_set : Bytes file → (q : ℕ) → q < 4 → (b0 b1 b2 b3 b4 b5 b6 b7 : ℕ)
      → b0 ≡ byte_at file at w (8 * q) → b1 ≡ byte_at file at w (8 * q + 1) → b2 ≡ byte_at file at w (8 * q + 2) → b3 ≡ byte_at file at w (8 * q + 3)
      → b4 ≡ byte_at file at w (8 * q + 4) → b5 ≡ byte_at file at w (8 * q + 5) → b6 ≡ byte_at file at w (8 * q + 6) → b7 ≡ byte_at file at w (8 * q + 7)
      → b0 + 256 * (b1 + 256 * (b2 + 256 * b3)) + 4294967296 * (b4 + 256 * (b5 + 256 * (b6 + 256 * b7))) ≡ number (has (set_at file at w)) (64 * q) 64
  unfolding byte_of
  word_of_set s q h b0 b1 b2 b3 b4 b5 b6 b7 e0 e1 e2 e3 e4 e5 e6 e7 =
      let k : 64 * q ≡ 8 * (8 * q) = omega arith in
      let t = eight_bytes (has (set_at file at w)) (8 * q) in
      let f0 = byte_of_set s (8 * q) (omega arith) in
      let f1 = byte_of_set s (8 * q + 1) (omega arith) in
      let f2 = byte_of_set s (8 * q + 2) (omega arith) in
      let f3 = byte_of_set s (8 * q + 3) (omega arith) in
      let f4 = byte_of_set s (8 * q + 4) (omega arith) in
      let f5 = byte_of_set s (8 * q + 5) (omega arith) in
      let f6 = byte_of_set s (8 * q + 6) (omega arith) in
      let f7 = byte_of_set s (8 * q + 7) (omega arith) in
      let g = ap (λ (x : ℕ). number (has (set_at file at w)) x 64) k in
      omega arith

  -- so are the library's eight bytes
  pub word_of_chunk : Bytes file → (q : ℕ) → q < 4 → (chunk : List ℕ) → ((i : ℕ) → i < 8 → get_or chunk i 0 ≡ byte_at file at w (8 * q + i)) → from_le_bytes w64 chunk ≡ number (has (set_at file at w)) (64 * q) 64
  word_of_chunk s q h chunk e =
      let byte : ℕ → ℕ = λ i. get_or chunk i 0 in
      let first : byte 0 ≡ byte_at file at w (8 * q) = e 0 (omega arith) ∙ ap (byte_at file at w) (let z : 8 * q + 0 ≡ 8 * q = omega arith in z) in
      let k = word_of_set s q h (byte 0) (byte 1) (byte 2) (byte 3) (byte 4) (byte 5) (byte 6) (byte 7)
      first (e 1 (omega arith)) (e 2 (omega arith)) (e 3 (omega arith)) (e 4 (omega arith)) (e 5 (omega arith)) (e 6 (omega arith)) (e 7 (omega arith)) in
      omega arith

  -- the bytes of the set of w bytes are these bytes
  pub bytes_of_set : Bytes file → w ≤ 32 → at + w ≤ length file → set_bytes w (set_at file at w) ≡ take w (drop at file)
  bytes_of_set s h l = ext_get_or 0 (set_bytes w (set_at file at w)) (take w (drop at file)) (length_set_bytes w (set_at file at w) ∙ sym long) (λ i k.
      let m = length_set_bytes w (set_at file at w) in
      let b : i < w = omega arith in
      set_byte w (set_at file at w) i b ∙ byte_of_set s i (omega arith) ∙ byte_in i b ∙ sym (get_or-drop at file i 0) ∙ sym (get_or-take w (drop at file) i 0 b))
    where
      long : length (take w (drop at file)) ≡ w
      long = simp (length-take, length-drop) (omega arith)

  -- the set of the w bytes of a set is this set
  pub set_of_bytes : (l : List ℕ) → Ascending l → ((j : ℕ) → j ∈ l → j < 8 * w) → w ≤ 32 → ((i : ℕ) → i < w → get_or file (at + i) 0 ≡ byte_of l i) → set_at file at w ≡ l
  unfolding bit_at
  set_of_bytes l o b h e = ascending_ext (set_at file at w) l set_ascending o (λ j. ⊎_elim (inside j) (outside j) (lt_or_le j (8 * w)))
    where
      inside : (j : ℕ) → j < 8 * w → has (set_at file at w) j ≡ has l j
      inside j k =
          let d : 8 * (j / 8) + j % 8 ≡ j = omega arith in
          has_bit j (omega arith) ∙ ap (λ (x : ℕ). bit x (j % 8)) (byte_in (j / 8) (omega arith) ∙ e (j / 8) (omega arith)) ∙ bit_byte l (j / 8) (j % 8) (omega arith) ∙ ap (has l) d

      none : (j : ℕ) → 8 * w ≤ j → has l j ≡ false
      none j k = ⊎_elim (λ y. absurd (let m = b j y in omega arith)) (λ n. n) (cases (has l j))

      clear : (j : ℕ) → 8 * w ≤ j → has (set_at file at w) j ≡ false
      clear j k = ⊎_elim (λ m. has_bit j m ∙ ap (λ (x : ℕ). bit x (j % 8)) (byte_past (j / 8) (omega arith)) ∙ bit_zero (j % 8))
          (λ m. has_set j ∙ ap (λ (x : Bool). x && bit (byte_at file at w (j / 8)) (j % 8)) (le-ltb j 256 m)) (lt_or_le j 256)

      outside : (j : ℕ) → 8 * w ≤ j → has (set_at file at w) j ≡ has l j
      outside j k = clear j k ∙ sym (none j k)

-- ---- sets' bytes, cut out of a file and filled up to 32

-- the set of a part is the set in these bytes
pub set_of_part : (file : List ℕ) (at w : ℕ) → at + w ≤ length file → set_at (take w (drop at file)) 0 (length (take w (drop at file))) ≡ set_at file at w
unfolding set_at bit_at
set_of_part file at w h = ap (set_at part 0) long ∙ keep_same (bit_at part 0 w) (bit_at file at w) (up_to 256) (λ j. ap (λ (x : ℕ). bit x (j % 8)) (same (j / 8)))
  where
    part : List ℕ
    part = take w (drop at file)

    long : length (take w (drop at file)) ≡ w
    long = simp (length-take, length-drop) (omega arith)

    same : (i : ℕ) → byte_at (take w (drop at file)) 0 w i ≡ byte_at file at w i
    same i = ⊎_elim
        (λ l. let z : 0 + i ≡ i = omega arith in
        byte_in (take w (drop at file)) 0 w i l ∙ ap (λ (x : ℕ). get_or (take w (drop at file)) x 0) z ∙ get_or-take w (drop at file) i 0 l ∙ get_or-drop at file i 0 ∙ sym (byte_in file at w i l))
        (λ l. byte_past (take w (drop at file)) 0 w i l ∙ sym (byte_past file at w i l))
        (lt_or_le i w)

module _ (bytes padded : List ℕ) (small : Bytes bytes) (few : length bytes ≤ 32) (is : padded ≡ bytes ++ drop (length bytes) (replicate {A = ℕ} 32 0)) where
  padded_at : (k : ℕ) → get_or padded k 0 ≡ byte_at bytes 0 (length bytes) k
  padded_at k = ap (λ (l : List ℕ). get_or l k 0) is ∙ ⊎_elim
      (λ l. let z : k ≡ 0 + k = omega arith in get_or-append bytes zeros 0 k l ∙ ap (λ (x : ℕ). get_or bytes x 0) z ∙ sym (byte_in bytes 0 (length bytes) k l))
      (λ l. let e : k ≡ length bytes + (k - length bytes) = omega arith in
      ap (λ (x : ℕ). get_or (bytes ++ zeros) x 0) e ∙ get_or-append-add bytes zeros (k - length bytes) 0
      ∙ get_or-drop (length bytes) (replicate {A = ℕ} 32 0) (k - length bytes) 0 ∙ zero_at (length bytes + (k - length bytes)) ∙ sym (byte_past bytes 0 (length bytes) k l))
      (lt_or_le k (length bytes))
    where
      zeros : List ℕ
      zeros = drop (length bytes) (replicate {A = ℕ} 32 0)

      zero_at : (i : ℕ) → get_or (replicate {A = ℕ} 32 0) i 0 ≡ 0
      zero_at i = ⊎_elim (λ l. get_or-replicate 32 i 0 0 l) (λ l. get_or-eq_default (replicate {A = ℕ} 32 0) 0 {n = i} l) (lt_or_le i 32)

  padded_word : (q : ℕ) → q < 4 → from_le_bytes w64 (take 8 (drop (8 * q) padded)) ≡ number (has (set_at bytes 0 (length bytes))) (64 * q) 64
  padded_word q h = word_of_chunk bytes 0 (length bytes) small q h (take 8 (drop (8 * q) padded)) (λ i k. get_or-take 8 (drop (8 * q) padded) i 0 k ∙ get_or-drop (8 * q) padded i 0 ∙ padded_at (8 * q + i))

  -- the words of the set of these bytes
  pub words_padded : {chunks : List (List ℕ)} {a b c d : ℕ} → chunks ≡ first_chunks 8 (length padded / 8) padded → a ≡ from_le_bytes w64 (get_or chunks 0 []) → b ≡ from_le_bytes w64 (get_or chunks 1 [])
      → c ≡ from_le_bytes w64 (get_or chunks 2 []) → d ≡ from_le_bytes w64 (get_or chunks 3 []) → a ∷ b ∷ c ∷ d ∷ [] ≡ words (set_at bytes 0 (length bytes))
  words_padded {chunks} e p q r s = words_of_four (set_at bytes 0 (length bytes)) (p ∙ word 0 (omega arith) refl) (q ∙ word 1 (omega arith) second) (r ∙ word 2 (omega arith) third) (s ∙ word 3 (omega arith) fourth)
    where
      long : length padded / 8 ≡ 4
      long = ap (λ (l : List ℕ). length l / 8) is ∙ (let f = few in simp (length-append, length-drop, length-replicate) (omega arith))

      four : List (List ℕ)
      four = first_chunks 8 4 padded

      word : (q : ℕ) → q < 4 → get_or four q [] ≡ take 8 (drop (8 * q) padded) → from_le_bytes w64 (get_or chunks q []) ≡ number (has (set_at bytes 0 (length bytes))) (64 * q) 64
      word q h f = ap (λ (l : List (List ℕ)). from_le_bytes w64 (get_or l q [])) (e ∙ ap (λ (k : ℕ). first_chunks 8 k padded) long) ∙ ap (from_le_bytes w64) f ∙ padded_word q h

      second : get_or four 1 [] ≡ take 8 (drop 8 padded)
      second = refl

      third : get_or four 2 [] ≡ take 8 (drop 16 padded)
      third = ap (take 8) (drop-drop 8 8 padded)

      fourth : get_or four 3 [] ≡ take 8 (drop 24 padded)
      fourth = ap (λ (l : List ℕ). take 8 (drop 8 l)) (drop-drop 8 8 padded) ∙ ap (take 8) (drop-drop 8 16 padded)

-- ---- the bytes of a set's words

-- a list of four, element by element
four_are : {A : Type 0} (l : List A) (e : A) (f : ℕ → A) → length l ≡ 4 → ((i : ℕ) → i < 4 → get_or l i e ≡ f i) → l ≡ f 0 ∷ f 1 ∷ f 2 ∷ f 3 ∷ []
four_are [] e f h g = absurd (omega arith)
four_are (x ∷ []) e f h g = absurd (omega arith)
four_are (x ∷ y ∷ []) e f h g = absurd (omega arith)
four_are (x ∷ y ∷ z ∷ []) e f h g = absurd (omega arith)
four_are (x ∷ y ∷ z ∷ w ∷ []) e f h g = ap₂ ◌∷◌ (g 0 (omega arith)) (ap₂ ◌∷◌ (g 1 (omega arith)) (ap₂ ◌∷◌ (g 2 (omega arith)) (ap₂ ◌∷◌ (g 3 (omega arith)) refl)))
four_are (x ∷ y ∷ z ∷ w ∷ v ∷ l) e f h g = absurd (omega arith)

-- the first bytes of four words, the lowest of each first, are the set's
pub bytes_of_words : (ws : List ℕ) (chunks : List (List ℕ)) (k : ℕ) → k ≤ 32 → length chunks ≡ 4 → ((i : ℕ) → i < 4 → get_or chunks i [] ≡ to_le_bytes w64 (get_or ws i 0))
    → take k (pieces (λ l. l) chunks) ≡ set_bytes k (jobs ws)
unfolding up_to from flat_map
bytes_of_words ws chunks k h four e = ap (λ (c : List (List ℕ)). take k (pieces (λ l. l) c)) (four_are chunks [] word four e)
    ∙ ext_get_or 0 (take k (flat_map word (up_to 4))) (set_bytes k (jobs ws)) (long ∙ sym (length_set_bytes k (jobs ws))) (λ i l.
    let b : i < k = (let z = long in omega arith) in
    let d : i ≡ i / 8 * 8 + i % 8 = omega arith in
    get_or-take k (flat_map word (up_to 4)) i 0 b ∙ ap (λ (x : ℕ). get_or (flat_map word (up_to 4)) x 0) d ∙ in_piece word 8 each 4 (i / 8) (i % 8) (omega arith) (omega arith)
    ∙ byte_there (get_or ws (i / 8) 0) (i % 8) (omega arith) ∙ byte_of_word ws i (omega arith) ∙ sym (set_byte k (jobs ws) i b))
  where
    word : ℕ → List ℕ
    word r = to_le_bytes w64 (get_or ws r 0)

    each : (r : ℕ) → length (word r) ≡ 8
    each r = refl

    long : length (take k (flat_map word (up_to 4))) ≡ k
    long = length-take k (flat_map word (up_to 4)) ∙ (let z = length_pieces word 8 each 4 in omega arith)

    byte_there : (x b : ℕ) → b < 8 → get_or (to_le_bytes w64 x) b 0 ≡ x / 2 ^ (8 * b) % 256
    byte_there x zero l = (let z : x % 256 ≡ x / 1 % 256 = omega arith in z)
    byte_there x (suc zero) l = refl
    byte_there x (suc (suc zero)) l = refl
    byte_there x (suc (suc (suc zero))) l = refl
    byte_there x (suc (suc (suc (suc zero)))) l = refl
    byte_there x (suc (suc (suc (suc (suc zero))))) l = refl
    byte_there x (suc (suc (suc (suc (suc (suc zero)))))) l = refl
    byte_there x (suc (suc (suc (suc (suc (suc (suc zero))))))) l = refl
    byte_there x (suc (suc (suc (suc (suc (suc (suc (suc b)))))))) l = absurd (omega arith)
