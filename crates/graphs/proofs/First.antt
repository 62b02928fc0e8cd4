-- The order of sets of equal size is total, and among the maximum cliques there is exactly one first. The order of the jobs
-- is any R, of which each law takes what it needs; at the end R is `◌<◌`, where the order has a test.
use mathlib.Core.Path.{◌≡◌, refl, sym, ◌∙◌, ap}
use mathlib.Core.Bool.{Bool, true, false, not, ◌&&◌, ◌||◌, false≢true}
use mathlib.Core.Logic.{◌⊎◌, inl, inr, ⊎_elim, ◌↔◌}
use mathlib.Core.List.Memᴰ.{cases_cons as among-cons}
use mathlib.Core.List.Memᴰ.{head as at_head}
use mathlib.Core.List.Memᴰ.{not-nil as none-in-nil}
use mathlib.Core.List.Memᴰ.{tail as further}
use mathlib.Core.List.{List, [], ◌∷◌, ◌++◌, head-eq_of_cons-eq, tail-eq_of_cons-eq, Memᴰ as Among}
use Prim.Native.Nat.{ℕ, ◌<◌}
use native.Mathlib.Omega.{arith}
use native.Mathlib.Nat.{le_refl, le_of_lt, lt_irrefl, lt_trans}
use lib.Dec.{eqb, ltb}
use lib.ListN.{length}
use borrow.Author.Tests.{eqb-true, eq-eqb, ne_eqb, ltb-true, ltb-false, lt-ltb, le-ltb}
use Rattle.graphs.specs.Jobs.{keep, has, ◌∈◌, lowest, minus, Ascending, Part}
use Rattle.graphs.specs.Clique.{Clique, cliques}
use Rattle.graphs.specs.First.{Before, FirstMaximum, FirstFrom, earlier}
use Rattle.graphs.specs.First.Before.{here, later}
use Rattle.graphs.proofs.Bools.{cases, or_cases, or_left, or_right, and_left, and_right, and_both, and_no_left, or_none, not_of_true, not_of_false, same?}
use Rattle.graphs.proofs.Lists.{in_head, in_tail, in_cons, keep_in, keep_yes, keep_no, keep_agree, order_head, order_tail, order_part, part_nil, part_in, part_of_members}
use Rattle.graphs.proofs.Cliques.{clique_nil, clique_listed, listed_clique}

-- ---- lists

-- a list has a best member, by any order in which every two can be compared
module _ {A : Type 0} (G : A → A → Type 0) (total : (a b : A) → G a b ⊎ G b a) (trans : (a b c : A) → G a b → G b c → G a c) where
  itself : (a : A) → G a a
  itself a = ⊎_elim (λ g. g) (λ g. g) (total a a)

  pub best_exists : (a : A) (l : List A) → (b : A) × Among b (a ∷ l) × ((c : A) → Among c (a ∷ l) → G b c)
  best_exists a [] = (a, at_head refl, λ c m. ⊎_elim (λ e. rw e (itself a)) (λ k. absurd (none-in-nil k)) (among-cons m))
  best_exists a (d ∷ l) = let r = best_exists d l in by r.0 r.1 r.2 (total a r.0)
    where
      by : (b : A) → Among b (d ∷ l) → ((c : A) → Among c (d ∷ l) → G b c) → G a b ⊎ G b a → (b : A) × Among b (a ∷ d ∷ l) × ((c : A) → Among c (a ∷ d ∷ l) → G b c)
      by b m f (inl g) = (a, at_head refl, λ c n. ⊎_elim (λ e. rw e (itself a)) (λ k. trans a b c g (f c k)) (among-cons n))
      by b m f (inr g) = (b, further m, λ c n. ⊎_elim (λ e. rw e g) (λ k. f c k) (among-cons n))

-- ---- the order

pub <-tri : (a b : ℕ) → (a ≡ b) ⊎ ((a < b) ⊎ (b < a))
<-tri a b = by (same? a b) (cases (ltb a b))
  where
    by : (a ≡ b) ⊎ (a ≡ b → ⊥) → (ltb a b ≡ true) ⊎ (ltb a b ≡ false) → (a ≡ b) ⊎ ((a < b) ⊎ (b < a))
    by (inl e) t = inl e
    by (inr n) (inl y) = inr (inl (ltb-true a b y))
    by (inr n) (inr y) = inr (inr (let h = ltb-false a b y in omega arith))

-- s is larger than t; or as large, and t itself or before it
abbrev AsGood : (ℕ → ℕ → Type 0) → List ℕ → List ℕ → Type 0
AsGood R s t = (length t < length s) ⊎ ((length s ≡ length t) × ((s ≡ t) ⊎ Before R s t))

module _ (R : ℕ → ℕ → Type 0) where
  pub before_total : ((a b : ℕ) → (a ≡ b) ⊎ (R a b ⊎ R b a)) → (s t : List ℕ) → length s ≡ length t → (s ≡ t) ⊎ (Before R s t ⊎ Before R t s)
  before_total tri [] [] e = inl refl
  before_total tri [] (b ∷ t) e = absurd (omega arith)
  before_total tri (a ∷ s) [] e = absurd (omega arith)
  before_total tri (a ∷ s) (b ∷ t) e = by (tri a b) (before_total tri s t (omega arith))
    where
      by : (a ≡ b) ⊎ (R a b ⊎ R b a) → (s ≡ t) ⊎ (Before R s t ⊎ Before R t s) → (a ∷ s ≡ b ∷ t) ⊎ (Before R (a ∷ s) (b ∷ t) ⊎ Before R (b ∷ t) (a ∷ s))
      by (inl p) (inl q) = inl (cc)
      by (inl p) (inr (inl h)) = inr (inl (rw p (later h)))
      by (inl p) (inr (inr h)) = inr (inr (rw p (later h)))
      by (inr (inl r)) d = inr (inl (here r))
      by (inr (inr r)) d = inr (inr (here r))

  before_differ : ((a : ℕ) → R a a → ⊥) → {s t : List ℕ} → Before R s t → s ≡ t → ⊥
  before_differ irr (here {b = b} r) e = irr b (rw (head-eq_of_cons-eq e) at r)
  before_differ irr (later h) e = before_differ irr h (tail-eq_of_cons-eq e)

  pub before_irr : ((a : ℕ) → R a a → ⊥) → (s : List ℕ) → Before R s s → ⊥
  before_irr irr s h = before_differ irr h refl

  pub before_trans : ((a b c : ℕ) → R a b → R b c → R a c) → {s t u : List ℕ} → Before R s t → Before R t u → Before R s u
  before_trans trans (here {a = a} {b = b} r) (here {b = c} q) = here (trans a b c r q)
  before_trans trans (here r) (later k) = here r
  before_trans trans (later h) (here q) = here q
  before_trans trans (later h) (later k) = later (before_trans trans h k)

  pub before_asym : ((a : ℕ) → R a a → ⊥) → ((a b c : ℕ) → R a b → R b c → R a c) → {s t : List ℕ} → Before R s t → Before R t s → ⊥
  before_asym irr trans {s} h k = before_irr irr s (before_trans trans h k)

  good_total : ((a b : ℕ) → (a ≡ b) ⊎ (R a b ⊎ R b a)) → (s t : List ℕ) → AsGood R s t ⊎ AsGood R t s
  good_total tri s t = by (<-tri (length s) (length t))
    where
      by : (length s ≡ length t) ⊎ ((length s < length t) ⊎ (length t < length s)) → AsGood R s t ⊎ AsGood R t s
      by (inl e) = ⊎_elim (λ q. inl (inr (e, inl q))) (λ d. ⊎_elim (λ h. inl (inr (e, inr h))) (λ h. inr (inr (sym e, inr h))) d) (before_total tri s t e)
      by (inr (inl h)) = inr (inl h)
      by (inr (inr h)) = inl (inl h)

  good_trans : ((a b c : ℕ) → R a b → R b c → R a c) → (s t u : List ℕ) → AsGood R s t → AsGood R t u → AsGood R s u
  good_trans trans s t u (inl h) (inl k) = inl (omega arith)
  good_trans trans s t u (inl h) (inr k) = inl (let e = k.0 in omega arith)
  good_trans trans s t u (inr h) (inl k) = inl (let e = h.0 in omega arith)
  good_trans trans s t u (inr h) (inr k) = inr (h.0 ∙ k.0, by h.1 k.1)
    where
      by : (s ≡ t) ⊎ Before R s t → (t ≡ u) ⊎ Before R t u → (s ≡ u) ⊎ Before R s u
      by (inl p) (inl q) = inl (p ∙ q)
      by (inl p) (inr k) = inr (rw p k)
      by (inr h) (inl q) = inr (rw q at h)
      by (inr h) (inr k) = inr (before_trans trans h k)

  -- ---- the first maximum clique

  -- among the maximum cliques there is a first, and only one
  pub first_exists : ((a b : ℕ) → (a ≡ b) ⊎ (R a b ⊎ R b a)) → ((a b c : ℕ) → R a b → R b c → R a c)
      → (fits : ℕ → ℕ → Bool) (p : List ℕ) → (s : List ℕ) × FirstMaximum R fits p s
  first_exists tri trans fits p = let r = best_exists (AsGood R) (good_total tri) (good_trans trans) [] (cliques fits p) in by r.0 r.1 r.2
    where
      by : (s : List ℕ) → Among s ([] ∷ cliques fits p) → ((t : List ℕ) → Among t ([] ∷ cliques fits p) → AsGood R s t) → (s : List ℕ) × FirstMaximum R fits p s
      by s m f = (
        s,
        record {
          maximum = record { inside = c.0; clique = c.1; largest = λ t i k. ⊎_elim (λ h. omega arith) (λ h. let e = h.0 in omega arith) (f t (further (clique_listed fits i k))) };
          first = λ t k. ⊎_elim (λ h. absurd (let l = k.largest s c.0 c.1 in omega arith)) (λ h. h.1) (f t (further (clique_listed fits k.inside k.clique)));
        },
      )
        where
          c : Part s p × Clique fits s
          c = ⊎_elim (λ e. rw e (part_nil p, clique_nil fits)) (λ k. listed_clique fits s p k) (among-cons m)

  pub first_unique : ((a : ℕ) → R a a → ⊥) → ((a b c : ℕ) → R a b → R b c → R a c)
      → {fits : ℕ → ℕ → Bool} {p s t : List ℕ} → FirstMaximum R fits p s → FirstMaximum R fits p t → s ≡ t
  first_unique irr trans {s = s} {t = t} x y = by (x.first t y.maximum) (y.first s x.maximum)
    where
      by : (s ≡ t) ⊎ Before R s t → (t ≡ s) ⊎ Before R t s → s ≡ t
      by (inl e) d = e
      by (inr h) (inl e) = sym e
      by (inr h) (inr k) = absurd (before_asym irr trans h k)

  -- so it is with C before it
  pub first_from_unique : ((a : ℕ) → R a a → ⊥) → ((a b c : ℕ) → R a b → R b c → R a c)
      → {fits : ℕ → ℕ → Bool} {c p k m : List ℕ} → FirstFrom R fits c p k → FirstFrom R fits c p m → k ≡ m
  first_from_unique irr trans {c = c} x y = x.same ∙ ap (λ (s : List ℕ). c ++ s) (first_unique irr trans x.first y.first) ∙ sym y.same

-- ---- in ascending order

pub first_exists_ascending : (fits : ℕ → ℕ → Bool) (p : List ℕ) → (s : List ℕ) × FirstMaximum ◌<◌ fits p s
first_exists_ascending = first_exists ◌<◌ <-tri (λ a b c. lt_trans)

pub first_unique_ascending : {fits : ℕ → ℕ → Bool} {p s t : List ℕ} → FirstMaximum ◌<◌ fits p s → FirstMaximum ◌<◌ fits p t → s ≡ t
first_unique_ascending = first_unique ◌<◌ lt_irrefl (λ a b c. lt_trans)

-- of an ascending list the parts are the ascending lists of its jobs
pub ascending_part : (s p : List ℕ) → Ascending p → Part s p ↔ (Ascending s × ((b : ℕ) → b ∈ s → b ∈ p))
ascending_part s p o = (λ h. (order_part ◌<◌ h o, part_in h), λ k. part_of_members s p k.0 o k.1)

-- ---- the test of the order

pub earlier_before : (s t : List ℕ) → earlier s t ≡ true → Before ◌<◌ s t
unfolding earlier
earlier_before [] t e = absurd (false≢true e)
earlier_before (a ∷ s) [] e = absurd (false≢true e)
earlier_before (a ∷ s) (b ∷ t) e =
    ⊎_elim (λ h. here (ltb-true a b h)) (λ h. rw (eqb-true a b (and_left (eqb a b) (earlier s t) h)) (later (earlier_before s t (and_right (eqb a b) (earlier s t) h))))
    (or_cases (ltb a b) (eqb a b && earlier s t) e)

pub before_earlier : {s t : List ℕ} → Before ◌<◌ s t → earlier s t ≡ true
unfolding earlier
before_earlier (here {a = a} {b = b} {s = s} {t = t} r) = or_left (ltb a b) (eqb a b && earlier s t) (lt-ltb a b r)
before_earlier (later {a = a} {s = s} {t = t} h) = or_right (ltb a a) (eqb a a && earlier s t) (and_both (eqb a a) (earlier s t) (eq-eqb a a refl) (before_earlier h))

-- ---- the first difference, by the jobs that only one of the two has

lowest_above : (x : ℕ) (l : List ℕ) → x < 256 → ((j : ℕ) → j ∈ l → x < j) → x < lowest l
unfolding lowest
lowest_above x [] h f = h
lowest_above x (a ∷ l) h f = f a (in_head a l)

-- a common head is no difference
same_head : (c : ℕ) (s t : List ℕ) → Ascending (c ∷ s) → minus (c ∷ s) (c ∷ t) ≡ minus s t
unfolding has minus
same_head c s t o =
    keep_no (λ j. not (has (c ∷ t) j)) c s (not_of_true (has (c ∷ t) c) (in_head c t))
    ∙ keep_agree (λ j. not (has (c ∷ t) j)) (λ j. not (has t j)) s (λ j i. rw (ne_eqb c j (let h = order_head ◌<◌ c s o j i in omega arith)))

-- the list with the lower head has the lowest job that the other lacks
lower_head : (a b : ℕ) (s t : List ℕ) → Ascending (b ∷ t) → a < b → a < 256
    → lowest (minus (a ∷ s) (b ∷ t)) < lowest (minus (b ∷ t) (a ∷ s))
unfolding lowest minus
lower_head a b s t o h k =
    rw (keep_yes (λ j. not (has (b ∷ t) j)) a s (not_of_false (has (b ∷ t) a) own))
    (lowest_above a (minus (b ∷ t) (a ∷ s)) k (λ j i. above j (keep_in (λ j. not (has (a ∷ s) j)) (b ∷ t) j i)))
  where
    above : (j : ℕ) → j ∈ (b ∷ t) → a < j
    above j i = ⊎_elim (λ e. omega arith) (λ m. let l = order_head ◌<◌ b t o j m in omega arith) (in_cons b j t i)

    own : has (b ∷ t) a ≡ false
    own = ⊎_elim (λ i. absurd (let l = above a i in omega arith)) (λ n. n) (cases (has (b ∷ t) a))

-- the lowest jobs are the same: what comes after them tells
alike_heads : {a b : ℕ} (s t : List ℕ) → a ≡ b → Ascending (a ∷ s) → Ascending (b ∷ t) → earlier s t ≡ ltb (lowest (minus s t)) (lowest (minus t s))
    → (ltb a b || (eqb a b && earlier s t)) ≡ ltb (lowest (minus (a ∷ s) (b ∷ t))) (lowest (minus (b ∷ t) (a ∷ s)))
alike_heads {a} {b} s t q os ot ih = rw (← q, le-ltb a a (le_refl a), eq-eqb a a refl, same_head a s t os, same_head a t s (rw (← q) at ot)) ih

-- of two ascending sets of one size, that one is earlier which has the lowest job that the other lacks
pub earlier_lowest : (s t : List ℕ) → Ascending s → Ascending t → length s ≡ length t → ((j : ℕ) → j ∈ s → j < 256) → ((j : ℕ) → j ∈ t → j < 256)
    → earlier s t ≡ ltb (lowest (minus s t)) (lowest (minus t s))
unfolding earlier keep lowest minus
earlier_lowest [] [] os ot e f g = refl
earlier_lowest [] (b ∷ t) os ot e f g = absurd (omega arith)
earlier_lowest (a ∷ s) [] os ot e f g = absurd (omega arith)
earlier_lowest (a ∷ s) (b ∷ t) os ot e f g =
    by (<-tri a b) (earlier_lowest s t (order_tail ◌<◌ a s os) (order_tail ◌<◌ b t ot) (omega arith) (λ j i. f j (in_tail a j s i)) (λ j i. g j (in_tail b j t i)))
  where
    by : (a ≡ b) ⊎ ((a < b) ⊎ (b < a)) → earlier s t ≡ ltb (lowest (minus s t)) (lowest (minus t s))
        → (ltb a b || (eqb a b && earlier s t)) ≡ ltb (lowest (minus (a ∷ s) (b ∷ t))) (lowest (minus (b ∷ t) (a ∷ s)))
    by (inl q) ih = alike_heads s t q os ot ih
    by (inr (inl h)) ih =
        or_left (ltb a b) (eqb a b && earlier s t) (lt-ltb a b h) ∙ sym (lt-ltb _ _ (lower_head a b s t ot h (f a (in_head a s))))
    by (inr (inr h)) ih =
        or_none (ltb a b) (eqb a b && earlier s t) (le-ltb a b (omega arith)) (and_no_left (eqb a b) (earlier s t) (ne_eqb a b (omega arith)))
        ∙ sym (le-ltb _ _ (le_of_lt (lower_head b a t s os h (g b (in_head b t)))))
