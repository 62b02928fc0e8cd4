-- Among the cliques that hold every pin the walk finds the first of the largest. The pins stand in both of two such sets, so the first difference is
-- that of the candidates (`before_more`). With no pin it is the first maximum clique. Assumes nothing.
use mathlib.Core.Path.{◌≡◌, refl, sym, ◌∙◌, ap, subst}
use mathlib.Core.Bool.{Bool, true, false, ◌||◌, true≢false}
use mathlib.Core.Logic.{◌⊎◌, inl, inr, ⊎_elim, ◌↔◌}
use mathlib.Core.List.{List, [], ◌∷◌, ◌++◌}
use Prim.Native.Nat.{ℕ, ◌+◌, ◌≤◌, ◌<◌}
use native.Mathlib.Omega.{arith}
use lib.ListN.{length, length-append}
use Rattle.graphs.specs.Jobs.{put, keep, has, ◌∈◌, Within, both, minus, InOrder, Distinct, Part}
use Rattle.graphs.specs.Clique.{Clique, Extends}
use Rattle.graphs.specs.First.{Before, MaximumClique, FirstMaximum, FirstFrom}
use Rattle.graphs.specs.First.Before.{here, later}
use Rattle.graphs.specs.Pins.{fitting_each, MaximumHolding, FirstHolding}
use Rattle.graphs.proofs.Bools.{cases, or_right, both_ways}
use Rattle.graphs.proofs.Lists.{in_head, not_in_nil, has_append, in_append, in_append_left, in_append_right, keep_in, keep_same, keep_more, order_head, order_tail, order_weaken, order_part, part_in, part_trans, part_keep, part_antisym}
use Rattle.graphs.proofs.Pigeonhole.{Unequal, in_minus, minus_in, part_both, both_alike}
use Rattle.graphs.proofs.Pins.{fitting_part, fitting_apart, joined_alike, joined_holds, joined_clique, holding_split}

-- ---- lists

-- a part is its own set of jobs of u
pub both_part : {t u : List ℕ} → Part t u → Distinct u → both u t ≡ t
unfolding both
both_part {t} {u} h d = sym (part_antisym (part_keep (has t) h (λ b i. i)) (omega (arith, (both_alike u t d (order_part Unequal h d) (part_in h)).size)))

-- ---- the first difference

module _ (R : ℕ → ℕ → Type 0) where
  before_cons : {a b : ℕ} {s t : List ℕ} → Before R (a ∷ s) (b ∷ t) → R a b ⊎ ((a ≡ b) × Before R s t)
  before_cons (here r) = inl r
  before_cons (later h) = inr (refl, h)

  before_some : {s t : List ℕ} → Before R s t → 0 < length t
  before_some (here r) = omega arith
  before_some (later h) = omega arith

  ahead_of : (a : ℕ) (s t : List ℕ) → 0 < length t → ((b : ℕ) → b ∈ t → R a b) → Before R (a ∷ s) t
  ahead_of a s [] l f = absurd (omega arith)
  ahead_of a s (b ∷ t) l f = here (f b (in_head b t))

  module _ (asym : (a b : ℕ) → R a b → R b a → ⊥) where
    pub order_distinct : (u : List ℕ) → InOrder R u → Distinct u
    order_distinct u o = order_weaken R Unequal (λ a b r e. let q = rw e at r in asym b b q q) u o

    -- no list of later jobs is before one with a at its head
    behind : (a : ℕ) (s t : List ℕ) → ((b : ℕ) → b ∈ s → R a b) → Before R s (a ∷ t) → ⊥
    behind a [] t f h = elim h [ ]
    behind a (b ∷ s) t f h = ⊎_elim (λ r. asym a b (f b (in_head b s)) r) (λ k. let r = rw k.0 at (f b (in_head b s)) in asym a a r r) (before_cons h)

    -- one job more, a: a pin (x), or a candidate of the one set (y), of the other (z), of both or of none
    step : (a : ℕ) {s t m n : List ℕ} (x y z : Bool) → (x ≡ true → y ≡ false) → (x ≡ true → z ≡ false) → ((b : ℕ) → b ∈ s → R a b) → ((b : ℕ) → b ∈ n → R a b)
        → length t ≤ length n → (Before R s t → Before R m n) → Before R (put y a s) (put z a t) → Before R (put (x || y) a m) (put (x || z) a n)
    step a true true z p q f g l ih h = absurd (true≢false (p refl))
    step a true false true p q f g l ih h = absurd (true≢false (q refl))
    step a true false false p q f g l ih h = later (ih h)
    step a false true true p q f g l ih h = ⊎_elim (λ r. absurd (asym a a r r)) (λ k. later (ih k.1)) (before_cons h)
    step a {m = m} {n = n} false true false p q f g l ih h = ahead_of a m n (omega (arith, before_some h)) g
    step a {s} {t} false false true p q f g l ih h = absurd (behind a s t f h)
    step a false false false p q f g l ih h = ih h

    -- what is put into both sets moves no difference
    pub before_more : (d f g : ℕ → Bool) (u : List ℕ) → InOrder R u → ((j : ℕ) → d j ≡ true → f j ≡ false) → ((j : ℕ) → d j ≡ true → g j ≡ false)
        → Before R (keep f u) (keep g u) → Before R (keep (λ j. d j || f j) u) (keep (λ j. d j || g j) u)
    unfolding keep
    before_more d f g [] o p q h = elim h [ ]
    before_more d f g (a ∷ u) o p q h =
        step a (d a) (f a) (g a) (p a) (q a) (λ b i. order_head R a u o b (keep_in f u b i)) (λ b i. order_head R a u o b (keep_in (λ j. d j || g j) u b i))
        (keep_more g (λ j. d j || g j) u (λ b i e. or_right (d b) (g b) e)) (before_more d f g u (order_tail R a u o) p q) h

    module _ (fits : ℕ → ℕ → Bool) (c u : List ℕ) (order : InOrder R u) (once : Distinct c) (held : Within c u) where
      distinct : Distinct u
      distinct = order_distinct u order

      -- of two cliques of candidates the earlier one is the earlier with the pins too
      before_joined : {s t : List ℕ} → Part s (fitting_each fits c u) → Part t (fitting_each fits c u) → Before R s t → Before R (both u (c ++ s)) (both u (c ++ t))
      unfolding both
      before_joined {s} {t} g h b =
          rw (keep_same (has (c ++ s)) (λ j. has c j || has s j) u (has_append c s), keep_same (has (c ++ t)) (λ j. has c j || has t j) u (has_append c t))
          (before_more (has c) (has s) (has t) u order (out g) (out h) (rw (own g, own h) b))
        where
          out : {s : List ℕ} → Part s (fitting_each fits c u) → (j : ℕ) → j ∈ c → has s j ≡ false
          out {s} g j i = ⊎_elim (λ k. absurd (fitting_apart fits c u j i (part_in g j k))) (λ n. n) (cases (has s j))

          own : {s : List ℕ} → Part s (fitting_each fits c u) → keep (has s) u ≡ s
          own g = both_part (part_trans g (fitting_part fits c u)) distinct

      -- a set that holds every pin, put together again
      whole : {t : List ℕ} → Part t u → Within c t → both u (c ++ minus t c) ≡ t
      unfolding both
      whole {t} h f = keep_same (has (c ++ minus t c)) (has t) u (λ j. both_ways _ _ (back j) (forth j (cases (has c j)))) ∙ both_part h distinct
        where
          back : (j : ℕ) → j ∈ (c ++ minus t c) → j ∈ t
          back j i = ⊎_elim (f j) (λ k. (minus_in t c j k).0) (in_append c (minus t c) j i)

          forth : (j : ℕ) → (has c j ≡ true) ⊎ (has c j ≡ false) → j ∈ t → j ∈ (c ++ minus t c)
          forth j (inl k) i = in_append_left c (minus t c) j k
          forth j (inr n) i = in_append_right c (minus t c) j (in_minus t c j i n)

      module _ (clique : Clique fits c) (two_way : (a b : ℕ) → fits a b ≡ fits b a) where
        joined_size : {a : List ℕ} → (e : Extends fits c (fitting_each fits c u) a) → length (both u a) ≡ length c + length e.added
        joined_size e = (joined_alike fits c u once distinct held e).size ∙ ap length e.same ∙ length-append c e.added

        -- what is left of the largest is the largest of the candidates
        largest_left : {t : List ℕ} → MaximumHolding fits c u t → MaximumClique fits (fitting_each fits c u) (minus t c)
        largest_left {t} m = record {
          inside = split.0;
          clique = split.1;
          largest = λ r h q.
              let e : Extends fits c (fitting_each fits c u) (c ++ r) = record { added = r; same = refl; inside = h; clique = q } in
              let l = m.largest (both u (c ++ r)) (part_both u (c ++ r)) (joined_clique fits c u once distinct held two_way clique e) (joined_holds fits c u once distinct held e) in
              omega (arith, split.2, joined_size e);
        }
          where
            split : Part (minus t c) (fitting_each fits c u) × Clique fits (minus t c) × (length t ≡ length c + length (minus t c))
            split = holding_split fits c u once distinct m.inside m.clique m.holding

        -- a maximum clique "among cliques holding every pin", and "Among equals it is the first"
        pub first_holding : {k : List ℕ} → FirstFrom R fits c (fitting_each fits c u) k → FirstHolding R fits c u (both u k)
        first_holding {k} x = record {
          maximum = record {
            inside = part_both u k;
            clique = joined_clique fits c u once distinct held two_way clique found;
            holding = joined_holds fits c u once distinct held found;
            largest = λ t h q f.
                let split = holding_split fits c u once distinct h q f in
                let most = x.first.maximum.largest (minus t c) split.0 split.1 in
                omega (arith, split.2, joined_size found);
          };
          first = λ t m. rw x.same (by t m (x.first.first (minus t c) (largest_left m)));
        }
          where
            found : Extends fits c (fitting_each fits c u) k
            found = record { added = x.added; same = x.same; inside = x.first.maximum.inside; clique = x.first.maximum.clique }

            by : (t : List ℕ) → MaximumHolding fits c u t → (x.added ≡ minus t c) ⊎ Before R x.added (minus t c) → (both u (c ++ x.added) ≡ t) ⊎ Before R (both u (c ++ x.added)) t
            by t m (inl e) = inl (ap (λ (s : List ℕ). both u (c ++ s)) e ∙ whole m.inside m.holding)
            by t m (inr b) = inr (subst (λ (s : List ℕ). Before R (both u (c ++ x.added)) s) (whole m.inside m.holding) (before_joined x.first.maximum.inside (largest_left m).inside b))

-- ---- with no pin

pub holding_none : {fits : ℕ → ℕ → Bool} {p s : List ℕ} → MaximumHolding fits [] p s ↔ MaximumClique fits p s
holding_none = (
  λ m. record { inside = m.inside; clique = m.clique; largest = λ t h q. m.largest t h q (λ j. not_in_nil j) },
  λ m. record { inside = m.inside; clique = m.clique; holding = λ j. not_in_nil j; largest = λ t h q f. m.largest t h q },
)

pub first_none : {R : ℕ → ℕ → Type 0} {fits : ℕ → ℕ → Bool} {p s : List ℕ} → FirstHolding R fits [] p s ↔ FirstMaximum R fits p s
first_none = (
  λ m. record { maximum = holding_none.0 m.maximum; first = λ t k. m.first t (holding_none.1 k) },
  λ m. record { maximum = holding_none.1 m.maximum; first = λ t k. m.first t (holding_none.0 k) },
)
