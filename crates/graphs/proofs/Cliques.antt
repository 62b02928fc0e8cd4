-- Cliques: the test says what the definition says, cliques are taken apart and put together, and the enumeration lists
-- every clique of p once, so that `clique_count fits p` is their number. The laws of that number follow from the equation
-- `cliques_cons`: the cliques of v ∷ p are those with v, which are cliques of the jobs that fit v, and those without.
use mathlib.Core.Path.{◌≡◌, refl, sym, ◌∙◌, ap}
use mathlib.Core.Bool.{Bool, true, false, ◌&&◌, ◌||◌}
use mathlib.Core.Logic.{◌⊎◌, inl, inr, ⊎_elim}
use mathlib.Core.List.Memᴰ.{append_cases as among-append}
use mathlib.Core.List.Memᴰ.{append_left as among-left}
use mathlib.Core.List.Memᴰ.{append_right as among-right}
use mathlib.Core.List.Memᴰ.{cases_cons as among-cons}
use mathlib.Core.List.Memᴰ.{cast as Among-same}
use mathlib.Core.List.Memᴰ.{head as first}
use mathlib.Core.List.Memᴰ.{map as among-map}
use mathlib.Core.List.Memᴰ.{not-nil as none-in-nil}
use mathlib.Core.List.Memᴰ.{of_map as map-among}
use mathlib.Core.List.Memᴰ.{tail as further}
use mathlib.Core.List.{List, [], ◌∷◌, ◌++◌, map, tail-eq_of_cons-eq, Memᴰ as Among}
use Prim.Native.Nat.{ℕ, ◌+◌, ◌≤◌, ◌<◌}
use native.Mathlib.Omega.{arith}
use native.Mathlib.Nat.{le_refl}
use lib.Dec.{eqb}
use lib.ListN.{length, length-append, length-map}
use borrow.Author.Tests.{eqb-true, eq-eqb}
use Rattle.graphs.specs.Jobs.{put, keep, has, ◌∈◌, every, Distinct, Part}
use Rattle.graphs.specs.Jobs.Part.{none, taken, left}
use Rattle.graphs.specs.Clique.{Clique, fits_all, is_clique, parts, cliques, clique_count}
use Rattle.graphs.proofs.Bools.{cases, never, and_left, and_right, and_both, or_cases, or_left, or_right, both_ways, same?}
use Rattle.graphs.proofs.Lists.{every_in, in_every, part_out, in_head, in_tail, in_cons, not_in_nil, in_append, in_append_left, in_append_right, keep_append, keep_keep, order_head, order_tail, part_nil, part_in}

-- ---- lists

-- what is kept is just what is among the list and passes the test
module _ {A : Type 0} (t : A → Bool) where
  pub keep_among : (a : A) (l : List A) → Among a (keep t l) → Among a l × (t a ≡ true)
  unfolding keep
  keep_among a [] m = absurd (none-in-nil m)
  keep_among a (c ∷ l) m = by (cases (t c)) m (λ k. keep_among a l k)
    where
      by : (t c ≡ true) ⊎ (t c ≡ false) → Among a (put (t c) c (keep t l)) → (Among a (keep t l) → Among a l × (t a ≡ true)) → Among a (c ∷ l) × (t a ≡ true)
      by (inl y) m f = ⊎_elim (λ e. (first e, ap t e ∙ y)) (λ k. (further (f k).0, (f k).1)) (among-cons (rw y at m))
      by (inr n) m f = let r = f (rw n at m) in (further r.0, r.1)

  pub among_keep : (a : A) (l : List A) → Among a l → t a ≡ true → Among a (keep t l)
  unfolding keep
  among_keep a [] m y = absurd (none-in-nil m)
  among_keep a (c ∷ l) m y = by (cases (t c)) (among-cons m) (λ k. among_keep a l k y)
    where
      by : (t c ≡ true) ⊎ (t c ≡ false) → (a ≡ c) ⊎ Among a l → (Among a l → Among a (keep t l)) → Among a (put (t c) c (keep t l))
      by (inl z) (inl e) f = rw z (first e)
      by (inl z) (inr k) f = rw z (further (f k))
      by (inr n) (inl e) f = never (t c) (sym (ap t e) ∙ y) n
      by (inr n) (inr k) f = rw n (f k)

pub keep_among_agree : {A : Type 0} (t u : A → Bool) (l : List A) → ((a : A) → Among a l → t a ≡ u a) → keep t l ≡ keep u l
unfolding keep
keep_among_agree t u [] e = refl
keep_among_agree t u (a ∷ l) e = rw (e a (first refl), keep_among_agree t u l (λ b m. e b (further m)))

pub keep_map : {A B : Type 0} (t : B → Bool) (f : A → B) (l : List A) → keep t (map f l) ≡ map f (keep (λ a. t (f a)) l)
unfolding keep
keep_map t f [] = refl
keep_map t f (a ∷ l) = rw (keep_map t f l) (by (t (f a)))
  where
    by : (b : Bool) → put b (f a) (map f (keep (λ a. t (f a)) l)) ≡ map f (put b a (keep (λ a. t (f a)) l))
    by true = refl
    by false = refl

keep_never : {A : Type 0} (l : List A) → keep (λ a. false) l ≡ []
unfolding keep
keep_never [] = refl
keep_never (a ∷ l) = keep_never l

-- each of the list differs from every later one
abbrev pub Differ : {A : Type 0} → List A → Type 0
Differ [] = Unit {0}
Differ (s ∷ l) = ((t : _) → Among t l → s ≡ t → ⊥) × Differ l

pub differ_append : {A : Type 0} (l m : List A) → Differ l → Differ m → ((s : A) → Among s l → Among s m → ⊥) → Differ (l ++ m)
differ_append [] m d e f = e
differ_append (s ∷ l) m d e f =
    (λ t k q. ⊎_elim (λ i. d.0 t i q) (λ i. f s (first refl) (Among-same q i)) (among-append l k), differ_append l m d.1 e (λ t i j. f t (further i) j))

pub differ_map : {A B : Type 0} (f : A → B) → ((a b : A) → f a ≡ f b → a ≡ b) → (l : List A) → Differ l → Differ (map f l)
differ_map f inj [] d = tt
differ_map f inj (a ∷ l) d = (λ t k q. let r = map-among f l k in d.0 r.0 r.1 (inj a r.0 (q ∙ sym r.2)), differ_map f inj l d.1)

pub differ_keep : {A : Type 0} (t : A → Bool) (l : List A) → Differ l → Differ (keep t l)
unfolding keep
differ_keep t [] d = tt
differ_keep t (a ∷ l) d = by (t a) (differ_keep t l d.1)
  where
    by : (b : Bool) → Differ (keep t l) → Differ (put b a (keep t l))
    by true e = (λ s k q. d.0 s (keep_among t s l k).0 q, e)
    by false e = e

module _ (fits : ℕ → ℕ → Bool) where
  -- ---- the test

  pub is_clique_lem : (s : List ℕ) → is_clique fits s ≡ true → Clique fits s
  unfolding Clique is_clique fits_all
  is_clique_lem s e a b i j n =
      let h = every_in (λ c. eqb a c || fits a c) s (every_in (fits_all fits s) s e a i) b j in
      ⊎_elim (λ q. absurd (n (eqb-true a b q))) (λ y. y) (or_cases (eqb a b) (fits a b) h)

  pub clique_is : (s : List ℕ) → Clique fits s → is_clique fits s ≡ true
  unfolding Clique is_clique fits_all
  clique_is s c = in_every (fits_all fits s) s (λ a i. in_every (λ b. eqb a b || fits a b) s (λ b j. by a b i j (same? a b)))
    where
      by : (a b : ℕ) → a ∈ s → b ∈ s → (a ≡ b) ⊎ (a ≡ b → ⊥) → (eqb a b || fits a b) ≡ true
      by a b i j (inl q) = or_left (eqb a b) (fits a b) (eq-eqb a b q)
      by a b i j (inr n) = or_right (eqb a b) (fits a b) (c a b i j n)

  -- ---- cliques put together and taken apart

  pub clique_nil : Clique fits []
  unfolding Clique
  clique_nil a b i j n = not_in_nil a i

  pub clique_one : (a : ℕ) → Clique fits (a ∷ [])
  unfolding Clique
  clique_one c a b i j n = absurd (n (sym (only a i) ∙ only b j))
    where
      only : (x : ℕ) → x ∈ (c ∷ []) → c ≡ x
      only x h = ⊎_elim (λ q. q) (λ k. not_in_nil x k) (in_cons c x [] h)

  -- a set of jobs of a clique is a clique
  pub clique_among : (s p : List ℕ) → ((b : ℕ) → b ∈ s → b ∈ p) → Clique fits p → Clique fits s
  unfolding Clique
  clique_among s p f c a b i j n = c a b (f a i) (f b j) n

  pub clique_part : {s p : List ℕ} → Part s p → Clique fits p → Clique fits s
  clique_part {s} {p} h c = clique_among s p (part_in h) c

  pub clique_append : (c s : List ℕ) → Clique fits c → Clique fits s
      → ((a b : ℕ) → a ∈ c → b ∈ s → (fits a b ≡ true) × (fits b a ≡ true)) → Clique fits (c ++ s)
  unfolding Clique
  clique_append c s x y f a b i j n = by (in_append c s a i) (in_append c s b j)
    where
      by : (a ∈ c) ⊎ (a ∈ s) → (b ∈ c) ⊎ (b ∈ s) → fits a b ≡ true
      by (inl i) (inl j) = x a b i j n
      by (inl i) (inr j) = (f a b i j).0
      by (inr i) (inl j) = (f b a j i).1
      by (inr i) (inr j) = y a b i j n

  pub clique_left : (c s : List ℕ) → Clique fits (c ++ s) → Clique fits c
  clique_left c s = clique_among c (c ++ s) (in_append_left c s)

  pub clique_right : (c s : List ℕ) → Clique fits (c ++ s) → Clique fits s
  clique_right c s = clique_among s (c ++ s) (in_append_right c s)

  pub clique_cons : (a : ℕ) (s : List ℕ) → Clique fits s → ((b : ℕ) → b ∈ s → fits a b ≡ true) → ((b : ℕ) → b ∈ s → fits b a ≡ true)
      → Clique fits (a ∷ s)
  clique_cons a s c f g = clique_append (a ∷ []) s (clique_one a) c (λ x b i j. by x b (in_cons a x [] i) j)
    where
      by : (x b : ℕ) → (a ≡ x) ⊎ (x ∈ []) → b ∈ s → (fits x b ≡ true) × (fits b x ≡ true)
      by x b (inl q) j = (rw (← q) (f b j), rw (← q) (g b j))
      by x b (inr k) j = not_in_nil x k

  pub clique_snoc : (c : List ℕ) (a : ℕ) → Clique fits c → ((b : ℕ) → b ∈ c → fits b a ≡ true) → ((b : ℕ) → b ∈ c → fits a b ≡ true)
      → Clique fits (c ++ a ∷ [])
  clique_snoc c a x f g = clique_append c (a ∷ []) x (clique_one a) (λ b y i j. by b y i (in_cons a y [] j))
    where
      by : (b y : ℕ) → b ∈ c → (a ≡ y) ⊎ (y ∈ []) → (fits b y ≡ true) × (fits y b ≡ true)
      by b y i (inl q) = (rw (← q) (f b i), rw (← q) (g b i))
      by b y i (inr k) = not_in_nil y k

  pub clique_tail : (a : ℕ) (s : List ℕ) → Clique fits (a ∷ s) → Clique fits s
  clique_tail a s = clique_right (a ∷ []) s

  -- the head of a clique fits every later job, both ways, if it does not stand in the list again
  pub clique_head : (a : ℕ) (s : List ℕ) → has s a ≡ false → Clique fits (a ∷ s) → (b : ℕ) → b ∈ s → (fits a b ≡ true) × (fits b a ≡ true)
  unfolding Clique
  clique_head a s o c b j =
      let n : a ≡ b → ⊥ = λ q. never (has s a) (rw q j) o in
      (c a b (in_head a s) (in_tail a b s j) n, c b a (in_tail a b s j) (in_head a s) (λ q. n (sym q)))

-- ---- the enumeration

pub part_listed : {s p : List ℕ} → Part s p → Among s (parts p)
unfolding parts
part_listed none = first refl
part_listed (taken {a = a} {p = p} h) = among-left (parts p) (among-map (λ s. a ∷ s) (part_listed h))
part_listed (left {a = a} {p = p} h) = among-right (map (λ s. a ∷ s) (parts p)) (part_listed h)

pub listed_part : (s p : List ℕ) → Among s (parts p) → Part s p
unfolding parts
listed_part s [] m = ⊎_elim (λ e. rw e none) (λ k. absurd (none-in-nil k)) (among-cons m)
listed_part s (a ∷ p) m =
    ⊎_elim (λ k. let r = map-among (λ t. a ∷ t) (parts p) k in rw (← r.2) (taken (listed_part r.0 p r.1))) (λ k. left (listed_part s p k))
    (among-append (map (λ t. a ∷ t) (parts p)) m)

-- no set is listed twice
pub parts_differ : (p : List ℕ) → Distinct p → Differ (parts p)
unfolding parts
parts_differ [] o = (λ t k q. none-in-nil k, tt)
parts_differ (a ∷ p) o =
    let d = parts_differ p (order_tail _ a p o) in
    differ_append (map (λ s. a ∷ s) (parts p)) (parts p) (differ_map (λ s. a ∷ s) (λ s t. tail-eq_of_cons-eq) (parts p) d) d
    (λ s i j. let r = map-among (λ s. a ∷ s) (parts p) i in order_head _ a p o a (part_in (listed_part s p j) a (rw (← r.2) (in_head a r.0))) refl)

module _ (fits : ℕ → ℕ → Bool) where
  pub clique_listed : {s p : List ℕ} → Part s p → Clique fits s → Among s (cliques fits p)
  unfolding cliques
  clique_listed {s} {p} h c = among_keep (is_clique fits) s (parts p) (part_listed h) (clique_is fits s c)

  pub listed_clique : (s p : List ℕ) → Among s (cliques fits p) → Part s p × Clique fits s
  unfolding cliques
  listed_clique s p m = let r = keep_among (is_clique fits) s (parts p) m in (listed_part s p r.0, is_clique_lem fits s r.1)

  pub cliques_differ : (p : List ℕ) → Distinct p → Differ (cliques fits p)
  unfolding cliques
  cliques_differ p o = differ_keep (is_clique fits) (parts p) (parts_differ p o)

-- ---- the number of cliques

-- what a test keeps of the parts of a ∷ p: some with a, then some without
parts_cons : (t : List ℕ → Bool) (a : ℕ) (p : List ℕ) → keep t (parts (a ∷ p)) ≡ map (λ s. a ∷ s) (keep (λ s. t (a ∷ s)) (parts p)) ++ keep t (parts p)
unfolding parts
parts_cons t a p = rw (keep_append t (map (λ s. a ∷ s) (parts p)) (parts p), keep_map t (λ s. a ∷ s) (parts p))

length_map_append : {A B : Type 0} (f : A → B) (l : List A) (m : List B) → length (map f l ++ m) ≡ length l + length m
length_map_append f l m = simp (length-append, length-map)

-- the parts of p all of whose jobs pass a test are the parts of what is kept
pub parts_keep : (t : ℕ → Bool) (p : List ℕ) → keep (every t) (parts p) ≡ parts (keep t p)
unfolding keep every parts
parts_keep t [] = refl
parts_keep t (a ∷ p) = parts_cons (every t) a p ∙ by (t a) (parts_keep t p)
  where
    by : (b : Bool) → keep (every t) (parts p) ≡ parts (keep t p)
        → map (λ s. a ∷ s) (keep (λ s. b && every t s) (parts p)) ++ keep (every t) (parts p) ≡ parts (put b a (keep t p))
    by true ih = rw ih
    by false ih = rw (keep_never (parts p)) ih

-- of more jobs a test keeps more parts
parts_more : {s p : List ℕ} → Part s p → (t : List ℕ → Bool) → length (keep t (parts s)) ≤ length (keep t (parts p))
parts_more none t = le_refl _
parts_more (taken {a = a} {s = s} {p = p} h) t =
    let i = parts_more h t in
    let j = parts_more h (λ u. t (a ∷ u)) in
    simp (parts_cons t a s, parts_cons t a p, length_map_append) (omega arith)
parts_more (left {a = a} {p = p} h) t = let i = parts_more h t in rw (parts_cons t a p, length_map_append) (omega arith)

module _ (fits : ℕ → ℕ → Bool) where
  pub count_nil : clique_count fits [] ≡ 1
  unfolding clique_count cliques parts is_clique every keep
  count_nil = refl

  pub count_part : {s p : List ℕ} → Part s p → clique_count fits s ≤ clique_count fits p
  unfolding clique_count cliques
  count_part h = parts_more h (is_clique fits)

  pub count_pos : (p : List ℕ) → 0 < clique_count fits p
  count_pos p = let h = count_part (part_nil p) in let e = count_nil in omega arith

  module _ (two_way : (a b : ℕ) → fits a b ≡ fits b a) where
    with_head : (v : ℕ) (s : List ℕ) → has s v ≡ false → is_clique fits (v ∷ s) ≡ (every (fits v) s && is_clique fits s)
    with_head v s o = both_ways (is_clique fits (v ∷ s)) (every (fits v) s && is_clique fits s) apart together
      where
        apart : is_clique fits (v ∷ s) ≡ true → (every (fits v) s && is_clique fits s) ≡ true
        apart e =
            let c = is_clique_lem fits (v ∷ s) e in
            and_both (every (fits v) s) (is_clique fits s) (in_every (fits v) s (λ b i. (clique_head fits v s o c b i).0)) (clique_is fits s (clique_tail fits v s c))

        together : (every (fits v) s && is_clique fits s) ≡ true → is_clique fits (v ∷ s) ≡ true
        together e =
            let f = every_in (fits v) s (and_left (every (fits v) s) (is_clique fits s) e) in
            let c = is_clique_lem fits s (and_right (every (fits v) s) (is_clique fits s) e) in
            clique_is fits (v ∷ s) (clique_cons fits v s c f (λ b i. two_way b v ∙ f b i))

    -- the cliques of v ∷ p, in their order: v with each clique of the jobs that fit v, then the cliques of p
    pub cliques_cons : (v : ℕ) (p : List ℕ) → has p v ≡ false → cliques fits (v ∷ p) ≡ map (λ s. v ∷ s) (cliques fits (keep (fits v) p)) ++ cliques fits p
    unfolding cliques
    cliques_cons v p o = parts_cons (is_clique fits) v p ∙ rw (same, ← keep_keep (is_clique fits) (every (fits v)) (parts p), parts_keep (fits v) p)
      where
        same : keep (λ s. is_clique fits (v ∷ s)) (parts p) ≡ keep (λ s. every (fits v) s && is_clique fits s) (parts p)
        same = keep_among_agree _ _ (parts p) (λ s m. with_head v s (part_out (listed_part s p m) v o))

    pub count_cons : (v : ℕ) (p : List ℕ) → has p v ≡ false → clique_count fits (v ∷ p) ≡ clique_count fits p + clique_count fits (keep (fits v) p)
    unfolding clique_count
    count_cons v p o = rw (cliques_cons v p o, length_map_append) (omega arith)
