-- Lists that are put together from pieces: a list of a function's values, a list of pieces of one length, and a run of stores. Assumes nothing.
use mathlib.Core.Path.{◌≡◌, refl, sym, ◌∙◌, ap, ap₂}
use mathlib.Core.List.{List, [], ◌∷◌, ◌++◌, map, flat_map, map-append, append_assoc, append-nil}
use Prim.Native.Nat.{ℕ, zero, suc, ◌+◌, ◌*◌, ◌≤◌, ◌<◌}
use native.Mathlib.Omega.{arith}
use native.Mathlib.Nat.{zero-mul, suc-mul, mul-le-mul_right}
use lib.ListN.{length, get_or, take, drop, set, length-append, length-drop, length-map, take-append-drop}
use lib.Seq.{take_at, drop-append-add, drop-drop, get_or-take, get_or-drop, sets}
use Rattle.graphs.specs.Jobs.{from, up_to}
use Rattle.graphs.proofs.Lists.{from_append, length_up_to}

-- ---- the values of a function, one after the other

module _ (f : ℕ → ℕ) where
  pub length_values : (n : ℕ) → length (map f (up_to n)) ≡ n
  length_values n = length-map (up_to n) f ∙ length_up_to n

  value_from : (at n i : ℕ) → i < n → get_or (map f (from at n)) i 0 ≡ f (at + i)
  unfolding from
  value_from at zero i h = absurd (omega arith)
  value_from at (suc n) zero h = let z : at ≡ at + 0 = omega arith in ap f z
  value_from at (suc n) (suc i) h = let s : suc at + i ≡ at + suc i = omega arith in value_from (suc at) n i (omega arith) ∙ ap f s

  pub value_at : (n i : ℕ) → i < n → get_or (map f (up_to n)) i 0 ≡ f i
  unfolding up_to
  value_at n i h = let z : 0 + i ≡ i = omega arith in value_from 0 n i h ∙ ap f z

  -- one value more
  pub values_more : (n : ℕ) → map f (up_to (n + 1)) ≡ map f (up_to n) ++ f n ∷ []
  unfolding up_to from
  values_more n = let z : 0 + n ≡ n = omega arith in ap (map f) (from_append 0 n 1) ∙ map-append f (from 0 n) (from (0 + n) 1) ∙ ap (λ (x : ℕ). map f (from 0 n) ++ f x ∷ []) z

-- ---- pieces

module _ (f : ℕ → List ℕ) where
  pieces_append : (l m : List ℕ) → flat_map f (l ++ m) ≡ flat_map f l ++ flat_map f m
  unfolding flat_map
  pieces_append [] m = refl
  pieces_append (a ∷ l) m = ap (λ (r : List ℕ). f a ++ r) (pieces_append l m) ∙ sym (append_assoc (f a) (flat_map f l) (flat_map f m))

  -- one piece more
  pub pieces_more : (n : ℕ) → flat_map f (up_to (n + 1)) ≡ flat_map f (up_to n) ++ f n
  unfolding up_to from flat_map
  pieces_more n = let z : 0 + n ≡ n = omega arith in ap (flat_map f) (from_append 0 n 1) ∙ pieces_append (from 0 n) (from (0 + n) 1) ∙ ap (λ (x : ℕ). flat_map f (from 0 n) ++ (f x ++ [])) z ∙ ap (λ (l : List ℕ). flat_map f (from 0 n) ++ l) (append-nil (f n))

  pieces_agree_from : (g : ℕ → List ℕ) (at n : ℕ) → ((r : ℕ) → at ≤ r → r < at + n → f r ≡ g r) → flat_map f (from at n) ≡ flat_map g (from at n)
  unfolding flat_map from
  pieces_agree_from g at zero e = refl
  pieces_agree_from g at (suc n) e = ap₂ ◌++◌ (e at (omega arith) (omega arith)) (pieces_agree_from g (suc at) n (λ r a b. e r (omega arith) (omega arith)))

  pub pieces_agree : (g : ℕ → List ℕ) (n : ℕ) → ((r : ℕ) → r < n → f r ≡ g r) → flat_map f (up_to n) ≡ flat_map g (up_to n)
  unfolding up_to
  pieces_agree g n e = pieces_agree_from g 0 n (λ r a b. e r (omega arith))

  module _ (w : ℕ) (each : (r : ℕ) → length (f r) ≡ w) where
    length_pieces_of : (l : List ℕ) → length (flat_map f l) ≡ length l * w
    unfolding flat_map
    length_pieces_of [] = sym (zero-mul w)
    length_pieces_of (a ∷ l) = length-append (f a) (flat_map f l) ∙ ap₂ ◌+◌ (each a) (length_pieces_of l) ∙ (let e = suc-mul (length l) w in omega arith)

    pub length_pieces : (n : ℕ) → length (flat_map f (up_to n)) ≡ n * w
    length_pieces n = length_pieces_of (up_to n) ∙ ap (λ (x : ℕ). x * w) (length_up_to n)

    piece_from : (at n r : ℕ) → r < n → take w (drop (r * w) (flat_map f (from at n))) ≡ f (at + r)
    unfolding flat_map from
    piece_from at zero r h = absurd (omega arith)
    piece_from at (suc n) zero h =
        let z : at ≡ at + 0 = omega arith in
        ap (λ (x : ℕ). take w (drop x (f at ++ flat_map f (from (suc at) n)))) (zero-mul w) ∙ take_at (f at) (flat_map f (from (suc at) n)) w (each at) ∙ ap f z
    piece_from at (suc n) (suc r) h =
        let s : suc at + r ≡ at + suc r = omega arith in
        let e : suc r * w ≡ length (f at) + r * w = (let a = suc-mul r w in let b = each at in omega arith) in
        ap (λ (x : ℕ). take w (drop x (f at ++ flat_map f (from (suc at) n)))) e ∙ ap (take w) (drop-append-add (f at) (flat_map f (from (suc at) n)) (r * w))
        ∙ piece_from (suc at) n r (omega arith) ∙ ap f s

    pub piece : (n r : ℕ) → r < n → take w (drop (r * w) (flat_map f (up_to n))) ≡ f r
    unfolding up_to
    piece n r h = let z : 0 + r ≡ r = omega arith in piece_from 0 n r h ∙ ap f z

    pub in_piece : (n r i : ℕ) → r < n → i < w → get_or (flat_map f (up_to n)) (r * w + i) 0 ≡ get_or (f r) i 0
    in_piece n r i h l = sym (get_or-drop (r * w) (flat_map f (up_to n)) i 0) ∙ sym (get_or-take w (drop (r * w) (flat_map f (up_to n))) i 0 l) ∙ ap (λ (x : List ℕ). get_or x i 0) (piece n r h)

  -- a list is the pieces that it is cut into
  cut_from : (w at n : ℕ) (l : List ℕ) → length l ≡ n * w → ((r : ℕ) → r < n → f (at + r) ≡ take w (drop (r * w) l)) → flat_map f (from at n) ≡ l
  unfolding flat_map from
  cut_from w at zero [] e g = refl
  cut_from w at zero (a ∷ l) e g = absurd (let z = zero-mul w in omega arith)
  cut_from w at (suc n) l e g =
      let z : at ≡ at + 0 = omega arith in
      let m = suc-mul n w in
      ap₂ ◌++◌ (ap f z ∙ g 0 (omega arith) ∙ ap (λ (x : ℕ). take w (drop x l)) (zero-mul w))
      (cut_from w (suc at) n (drop w l) (length-drop w l ∙ omega arith) (λ r h.
      let s : suc at + r ≡ at + suc r = omega arith in
      let k : suc r * w ≡ w + r * w = (let a = suc-mul r w in omega arith) in
      ap f s ∙ g (suc r) (omega arith) ∙ ap (λ (x : ℕ). take w (drop x l)) k ∙ ap (take w) (sym (drop-drop (r * w) w l))))
      ∙ take-append-drop w l

  pub cut : (w n : ℕ) (l : List ℕ) → length l ≡ n * w → ((r : ℕ) → r < n → f r ≡ take w (drop (r * w) l)) → flat_map f (up_to n) ≡ l
  unfolding up_to
  cut w n l e g = cut_from w 0 n l e (λ r h. let z : 0 + r ≡ r = omega arith in ap f z ∙ g r h)

-- a row ends within the rows
pub row_end : (r n w : ℕ) → r < n → r * w + w ≤ n * w
row_end r n w h = let a = suc-mul r w in let b = mul-le-mul_right {m = suc r} {n = n} w h in omega arith

-- ---- a run of stores

pub sets_append : (l : List ℕ) (i : ℕ) (vs ws : List ℕ) → sets (sets l i vs) (i + length vs) ws ≡ sets l i (vs ++ ws)
sets_append l i [] ws = let z : i + 0 ≡ i = omega arith in ap (λ (x : ℕ). sets l x ws) z
sets_append l i (v ∷ vs) ws =
    let s : i + suc (length vs) ≡ suc i + length vs = omega arith in
    ap (λ (x : ℕ). sets (sets (set l i v) (suc i) vs) x ws) s ∙ sets_append (set l i v) (suc i) vs ws
