-- Laws of lists of jobs: membership, `keep`, `from`, order and parts. Everything goes by induction on the list. Assumes nothing.
use mathlib.Core.Path.{◌≡◌, refl, sym, ◌∙◌, ap, subst}
use mathlib.Core.Bool.{Bool, true, false, ◌&&◌, ◌||◌, false≢true}
use mathlib.Core.Logic.{◌⊎◌, inl, inr, ⊎_elim}
use mathlib.Core.List.{List, [], ◌∷◌, ◌++◌}
use Prim.Native.Nat.{ℕ, zero, suc, ◌+◌, ◌≤◌, ◌<◌}
use native.Mathlib.Omega.{arith}
use native.Mathlib.Nat.{le_refl}
use lib.Dec.{eqb, ltb}
use lib.ListN.{length}
use borrow.Author.Tests.{eqb-true, eqb-false, eq-eqb, ne_eqb, lt-ltb, ltb-true}
use Rattle.graphs.specs.Jobs.{from, up_to, put, keep, has, every, ◌∈◌, InOrder, Ascending, Distinct, Part}
use Rattle.graphs.specs.Jobs.Part.{none, taken, left}
use Rattle.graphs.proofs.Bools.{cases, never, and_left, and_right, and_both, and_no_right, or_cases, or_left, or_right, or_none, or_no_left, or_no_right, both_ways, same?}

-- ---- membership

pub in_head : (a : ℕ) (l : List ℕ) → a ∈ (a ∷ l)
unfolding has
in_head a l = or_left (eqb a a) (has l a) (eq-eqb a a refl)

pub in_tail : (a j : ℕ) (l : List ℕ) → j ∈ l → j ∈ (a ∷ l)
unfolding has
in_tail a j l h = or_right (eqb a j) (has l j) h

pub in_cons : (a j : ℕ) (l : List ℕ) → j ∈ (a ∷ l) → (a ≡ j) ⊎ (j ∈ l)
unfolding has
in_cons a j l h = ⊎_elim (λ e. inl (eqb-true a j e)) (λ e. inr e) (or_cases (eqb a j) (has l j) h)

pub not_in_nil : {A : Type 0} (j : ℕ) → j ∈ [] → A
unfolding has
not_in_nil j h = absurd (false≢true h)

pub not_in_tail : (a j : ℕ) (l : List ℕ) → has (a ∷ l) j ≡ false → has l j ≡ false
unfolding has
not_in_tail a j l h = or_no_right (eqb a j) (has l j) h

pub not_in_head : (a j : ℕ) (l : List ℕ) → has (a ∷ l) j ≡ false → a ≡ j → ⊥
unfolding has
not_in_head a j l h = eqb-false a j (or_no_left (eqb a j) (has l j) h)

pub not_in_cons : (a j : ℕ) (l : List ℕ) → (a ≡ j → ⊥) → has l j ≡ false → has (a ∷ l) j ≡ false
unfolding has
not_in_cons a j l n h = or_none (eqb a j) (has l j) (ne_eqb a j n) h

pub has_append : (l m : List ℕ) (j : ℕ) → has (l ++ m) j ≡ (has l j || has m j)
unfolding has
has_append [] m j = refl
has_append (a ∷ l) m j = rw (has_append l m j) (by (eqb a j) (has l j) (has m j))
  where
    by : (x y z : Bool) → (x || (y || z)) ≡ (x || y || z)
    by true y z = refl
    by false y z = refl

pub in_append : (l m : List ℕ) (j : ℕ) → j ∈ (l ++ m) → (j ∈ l) ⊎ (j ∈ m)
in_append l m j h = or_cases (has l j) (has m j) (sym (has_append l m j) ∙ h)

pub in_append_left : (l m : List ℕ) (j : ℕ) → j ∈ l → j ∈ (l ++ m)
in_append_left l m j h = has_append l m j ∙ or_left (has l j) (has m j) h

pub in_append_right : (l m : List ℕ) (j : ℕ) → j ∈ m → j ∈ (l ++ m)
in_append_right l m j h = has_append l m j ∙ or_right (has l j) (has m j) h

-- the last of a list with one more
pub in_last : (l : List ℕ) (a : ℕ) → a ∈ (l ++ a ∷ [])
in_last l a = in_append_right l (a ∷ []) a (in_head a [])

pub in_snoc : (l : List ℕ) (a j : ℕ) → j ∈ (l ++ a ∷ []) → (j ∈ l) ⊎ (a ≡ j)
in_snoc l a j h = ⊎_elim (λ i. inl i) (λ i. ⊎_elim (λ e. inr e) (λ n. not_in_nil j n) (in_cons a j [] i)) (in_append l (a ∷ []) j h)

-- ---- keep

module _ {A : Type 0} (t : A → Bool) where
  pub keep_yes : (a : A) (l : List A) → t a ≡ true → keep t (a ∷ l) ≡ a ∷ keep t l
  unfolding keep
  keep_yes a l e = rw e

  pub keep_no : (a : A) (l : List A) → t a ≡ false → keep t (a ∷ l) ≡ keep t l
  unfolding keep
  keep_no a l e = rw e

  pub keep_append : (l m : List A) → keep t (l ++ m) ≡ keep t l ++ keep t m
  unfolding keep
  keep_append [] m = refl
  keep_append (a ∷ l) m = rw (keep_append l m) (by (t a))
    where
      by : (b : Bool) → put b a (keep t l ++ keep t m) ≡ put b a (keep t l) ++ keep t m
      by true = refl
      by false = refl

  pub length_keep : (l : List A) → length (keep t l) ≤ length l
  unfolding keep
  length_keep [] = le_refl 0
  length_keep (a ∷ l) = by (t a) (length_keep l)
    where
      by : (b : Bool) → length (keep t l) ≤ length l → length (put b a (keep t l)) ≤ suc (length l)
      by true h = omega arith
      by false h = omega arith

-- tests that agree on the list keep the same
pub keep_same : {A : Type 0} (t u : A → Bool) (l : List A) → ((a : A) → t a ≡ u a) → keep t l ≡ keep u l
unfolding keep
keep_same t u [] e = refl
keep_same t u (a ∷ l) e = rw (e a, keep_same t u l e)

pub keep_keep : {A : Type 0} (t u : A → Bool) (l : List A) → keep t (keep u l) ≡ keep (λ a. u a && t a) l
unfolding keep
keep_keep t u [] = refl
keep_keep t u (a ∷ l) = by (u a) ∙ ap (λ (m : List _). put (u a && t a) a m) (keep_keep t u l)
  where
    by : (b : Bool) → keep t (put b a (keep u l)) ≡ put (b && t a) a (keep t (keep u l))
    by true = refl
    by false = refl

pub has_keep : (t : ℕ → Bool) (l : List ℕ) (j : ℕ) → has (keep t l) j ≡ (has l j && t j)
unfolding keep has
has_keep t [] j = refl
has_keep t (a ∷ l) j = by (cases (t a)) (same? a j) (has_keep t l j)
  where
    by : (t a ≡ true) ⊎ (t a ≡ false) → (a ≡ j) ⊎ (a ≡ j → ⊥) → has (keep t l) j ≡ (has l j && t j)
        → has (put (t a) a (keep t l)) j ≡ ((eqb a j || has l j) && t j)
    by (inl y) (inl e) ih = rw (y, eq-eqb a j e) (sym (sym (ap t e) ∙ y))
    by (inl y) (inr n) ih = rw (y, ne_eqb a j n) ih
    by (inr y) (inl e) ih = rw (y, eq-eqb a j e, sym (ap t e) ∙ y) (ih ∙ and_no_right (has l j) (t j) (sym (ap t e) ∙ y))
    by (inr y) (inr n) ih = rw (y, ne_eqb a j n) ih

pub keep_in : (t : ℕ → Bool) (l : List ℕ) (j : ℕ) → j ∈ keep t l → j ∈ l
keep_in t l j h = and_left (has l j) (t j) (sym (has_keep t l j) ∙ h)

pub keep_test : (t : ℕ → Bool) (l : List ℕ) (j : ℕ) → j ∈ keep t l → t j ≡ true
keep_test t l j h = and_right (has l j) (t j) (sym (has_keep t l j) ∙ h)

pub in_keep : (t : ℕ → Bool) (l : List ℕ) (j : ℕ) → j ∈ l → t j ≡ true → j ∈ keep t l
in_keep t l j h e = has_keep t l j ∙ and_both (has l j) (t j) h e

-- tests that agree at the jobs of the list keep the same
pub keep_agree : (t u : ℕ → Bool) (l : List ℕ) → ((a : ℕ) → a ∈ l → t a ≡ u a) → keep t l ≡ keep u l
unfolding keep
keep_agree t u [] e = refl
keep_agree t u (a ∷ l) e = rw (e a (in_head a l), keep_agree t u l (λ b h. e b (in_tail a b l h)))

pub keep_all : (t : ℕ → Bool) (l : List ℕ) → ((a : ℕ) → a ∈ l → t a ≡ true) → keep t l ≡ l
unfolding keep
keep_all t [] e = refl
keep_all t (a ∷ l) e = rw (e a (in_head a l), keep_all t l (λ b h. e b (in_tail a b l h)))

pub keep_none : (t : ℕ → Bool) (l : List ℕ) → ((a : ℕ) → a ∈ l → t a ≡ false) → keep t l ≡ []
unfolding keep
keep_none t [] e = refl
keep_none t (a ∷ l) e = rw (e a (in_head a l)) (keep_none t l (λ b h. e b (in_tail a b l h)))

-- a test that holds more often keeps more
pub keep_more : (t u : ℕ → Bool) (l : List ℕ) → ((a : ℕ) → a ∈ l → t a ≡ true → u a ≡ true) → length (keep t l) ≤ length (keep u l)
unfolding keep
keep_more t u [] e = le_refl 0
keep_more t u (a ∷ l) e = by (t a) (u a) (e a (in_head a l)) (keep_more t u l (λ b h. e b (in_tail a b l h)))
  where
    by : (x y : Bool) → (x ≡ true → y ≡ true) → length (keep t l) ≤ length (keep u l) → length (put x a (keep t l)) ≤ length (put y a (keep u l))
    by true true f h = omega arith
    by true false f h = absurd (false≢true (f refl))
    by false true f h = omega arith
    by false false f h = h

-- ---- every: it holds exactly if the test holds at each job

pub every_in : (t : ℕ → Bool) (l : List ℕ) → every t l ≡ true → (a : ℕ) → a ∈ l → t a ≡ true
unfolding every
every_in t [] e a h = not_in_nil a h
every_in t (c ∷ l) e a h =
    ⊎_elim (λ q. sym (ap t q) ∙ and_left (t c) (every t l) e) (λ i. every_in t l (and_right (t c) (every t l) e) a i) (in_cons c a l h)

pub in_every : (t : ℕ → Bool) (l : List ℕ) → ((a : ℕ) → a ∈ l → t a ≡ true) → every t l ≡ true
unfolding every
in_every t [] f = refl
in_every t (c ∷ l) f = and_both (t c) (every t l) (f c (in_head c l)) (in_every t l (λ a h. f a (in_tail c a l h)))

-- ---- from and up_to

pub length_from : (at n : ℕ) → length (from at n) ≡ n
unfolding from
length_from at zero = refl
length_from at (suc n) = ap suc (length_from (suc at) n)

pub in_from : (at n j : ℕ) → at ≤ j → j < at + n → j ∈ from at n
unfolding from
in_from at zero j h k = absurd (omega arith)
in_from at (suc n) j h k = by (same? at j) (λ l. in_from (suc at) n j l (omega arith))
  where
    by : (at ≡ j) ⊎ (at ≡ j → ⊥) → (suc at ≤ j → j ∈ from (suc at) n) → j ∈ (at ∷ from (suc at) n)
    by (inl e) f = subst (λ (x : ℕ). x ∈ (at ∷ from (suc at) n)) e (in_head at (from (suc at) n))
    by (inr ne) f = in_tail at j (from (suc at) n) (f (omega arith))

pub from_in : (at n j : ℕ) → j ∈ from at n → (at ≤ j) × (j < at + n)
unfolding from
from_in at zero j h = not_in_nil j h
from_in at (suc n) j h = ⊎_elim (λ e. omega arith) (λ k. let r = from_in (suc at) n j k in omega arith) (in_cons at j (from (suc at) n) h)

pub in_up_to : (n j : ℕ) → j < n → j ∈ up_to n
unfolding up_to
in_up_to n j h = in_from 0 n j (omega arith) (omega arith)

pub up_to_in : (n j : ℕ) → j ∈ up_to n → j < n
unfolding up_to
up_to_in n j h = let r = from_in 0 n j h in omega arith

pub has_up_to : (n j : ℕ) → has (up_to n) j ≡ ltb j n
has_up_to n j = both_ways (has (up_to n) j) (ltb j n) (λ h. lt-ltb j n (up_to_in n j h)) (λ h. in_up_to n j (ltb-true j n h))

pub length_up_to : (n : ℕ) → length (up_to n) ≡ n
unfolding up_to
length_up_to n = length_from 0 n

pub from_append : (at m n : ℕ) → from at (m + n) ≡ from at m ++ from (at + m) n
unfolding from
from_append at zero n =
    let e : 0 + n ≡ n = omega arith in
    let f : at ≡ at + 0 = omega arith in
    ap (from at) e ∙ ap (λ (x : ℕ). from x n) f
from_append at (suc m) n =
    let e : suc m + n ≡ suc (m + n) = omega arith in
    let f : suc at + m ≡ at + suc m = omega arith in
    ap (from at) e ∙ ap (λ (l : List ℕ). at ∷ l) (from_append (suc at) m n ∙ ap (λ (x : ℕ). from (suc at) m ++ from x n) f)

-- ---- order

module _ (R : ℕ → ℕ → Type 0) where
  pub order_head : (a : ℕ) (l : List ℕ) → InOrder R (a ∷ l) → (b : ℕ) → b ∈ l → R a b
  unfolding InOrder
  order_head a l o = o.0

  pub order_tail : (a : ℕ) (l : List ℕ) → InOrder R (a ∷ l) → InOrder R l
  unfolding InOrder
  order_tail a l o = o.1

  pub order_nil : InOrder R []
  unfolding InOrder
  order_nil = tt

  pub order_cons : (a : ℕ) (l : List ℕ) → ((b : ℕ) → b ∈ l → R a b) → InOrder R l → InOrder R (a ∷ l)
  unfolding InOrder
  order_cons a l h o = (h, o)

  pub order_part : {s p : List ℕ} → Part s p → InOrder R p → InOrder R s
  order_part none o = order_nil
  order_part (taken {a = a} {s = s} {p = p} h) o = order_cons a s (λ b i. order_head a p o b (go h b i)) (order_part h (order_tail a p o))
    where
      go : {s p : List ℕ} → Part s p → (b : ℕ) → b ∈ s → b ∈ p
      go none b i = i
      go (taken {a = c} {s = u} {p = v} k) b i = ⊎_elim (λ e. subst (λ (x : ℕ). x ∈ (c ∷ v)) e (in_head c v)) (λ m. in_tail c b v (go k b m)) (in_cons c b u i)
      go (left {a = c} {p = v} k) b i = in_tail c b v (go k b i)
  order_part (left {a = a} {p = p} h) o = order_part h (order_tail a p o)

pub order_weaken : (R S : ℕ → ℕ → Type 0) → ((a b : ℕ) → R a b → S a b) → (l : List ℕ) → InOrder R l → InOrder S l
order_weaken R S f [] o = order_nil S
order_weaken R S f (a ∷ l) o = order_cons S a l (λ b i. f a b (order_head R a l o b i)) (order_weaken R S f l (order_tail R a l o))

pub ascending_from : (at n : ℕ) → Ascending (from at n)
unfolding from
ascending_from at zero = order_nil ◌<◌
ascending_from at (suc n) = order_cons ◌<◌ at (from (suc at) n) (λ b i. let r = from_in (suc at) n b i in omega arith) (ascending_from (suc at) n)

pub ascending_up_to : (n : ℕ) → Ascending (up_to n)
unfolding up_to
ascending_up_to n = ascending_from 0 n

pub ascending_distinct : (l : List ℕ) → Ascending l → Distinct l
ascending_distinct l o = order_weaken ◌<◌ _ (λ a b h e. omega arith) l o

-- the head of a list without repeats stands nowhere else in it
pub distinct_head : (a : ℕ) (l : List ℕ) → Distinct (a ∷ l) → has l a ≡ false
distinct_head a l d = ⊎_elim (λ i. absurd (order_head _ a l d a i refl)) (λ n. n) (cases (has l a))

pub ascending_once : (a : ℕ) (l : List ℕ) → Ascending (a ∷ l) → has l a ≡ false
ascending_once a l o = distinct_head a l (ascending_distinct (a ∷ l) o)

-- ---- parts

pub part_nil : (p : List ℕ) → Part [] p
part_nil [] = none
part_nil (a ∷ p) = left (part_nil p)

pub part_refl : (p : List ℕ) → Part p p
part_refl [] = none
part_refl (a ∷ p) = taken (part_refl p)

pub part_in : {s p : List ℕ} → Part s p → (b : ℕ) → b ∈ s → b ∈ p
part_in none b i = i
part_in (taken {a = c} {s = u} {p = v} k) b i = ⊎_elim (λ e. subst (λ (x : ℕ). x ∈ (c ∷ v)) e (in_head c v)) (λ m. in_tail c b v (part_in k b m)) (in_cons c b u i)
part_in (left {a = c} {p = v} k) b i = in_tail c b v (part_in k b i)

pub part_out : {s p : List ℕ} → Part s p → (b : ℕ) → has p b ≡ false → has s b ≡ false
part_out {s} {p} h b o = ⊎_elim (λ i. never (has p b) (part_in h b i) o) (λ n. n) (cases (has s b))

pub part_length : {s p : List ℕ} → Part s p → length s ≤ length p
part_length none = le_refl 0
part_length (taken k) = let h = part_length k in omega arith
part_length (left k) = let h = part_length k in omega arith

pub part_trans : {r s p : List ℕ} → Part r s → Part s p → Part r p
part_trans h none = h
part_trans (taken h) (taken k) = taken (part_trans h k)
part_trans (left h) (taken k) = left (part_trans h k)
part_trans h (left k) = left (part_trans h k)

pub keep_part : (t : ℕ → Bool) (l : List ℕ) → Part (keep t l) l
unfolding keep
keep_part t [] = none
keep_part t (a ∷ l) = by (t a) (keep_part t l)
  where
    by : (b : Bool) → Part (keep t l) l → Part (put b a (keep t l)) (a ∷ l)
    by true h = taken h
    by false h = left h

-- a part all of whose jobs pass the test is a part of what is kept
pub part_keep : (t : ℕ → Bool) {s p : List ℕ} → Part s p → ((b : ℕ) → b ∈ s → t b ≡ true) → Part s (keep t p)
part_keep t none f = subst (λ (l : List ℕ). Part [] l) refl (part_nil (keep t []))
part_keep t (taken {a = a} {s = s} {p = p} h) f = subst (λ (l : List ℕ). Part (a ∷ s) l) (sym (keep_yes t a p (f a (in_head a s)))) (taken (part_keep t h (λ b i. f b (in_tail a b s i))))
part_keep t (left {a = a} {s = s} {p = p} h) f = by (cases (t a)) (part_keep t h f)
  where
    by : (t a ≡ true) ⊎ (t a ≡ false) → Part s (keep t p) → Part s (keep t (a ∷ p))
    by (inl e) k = subst (λ (l : List ℕ). Part s l) (sym (keep_yes t a p e)) (left k)
    by (inr e) k = subst (λ (l : List ℕ). Part s l) (sym (keep_no t a p e)) k

-- for ascending lists a part is what one expects: the jobs of s are among those of p
pub part_of_members : (s p : List ℕ) → Ascending s → Ascending p → ((b : ℕ) → b ∈ s → b ∈ p) → Part s p
part_of_members [] p os op f = part_nil p
part_of_members (a ∷ s) [] os op f = not_in_nil a (f a (in_head a s))
part_of_members (a ∷ s) (c ∷ p) os op f = by (same? c a)
    (λ e. part_of_members s p (order_tail ◌<◌ a s os) (order_tail ◌<◌ c p op)
    (λ b i. ⊎_elim (λ d. absurd (let l = order_head ◌<◌ a s os b i in omega arith)) (λ m. m) (in_cons c b p (f b (in_tail a b s i)))))
    (λ n. part_of_members (a ∷ s) p os (order_tail ◌<◌ c p op) (λ b i. below n b i))
  where
    below : (c ≡ a → ⊥) → (b : ℕ) → b ∈ (a ∷ s) → b ∈ p
    below n b i =
        let m = ⊎_elim (λ e. absurd (n e)) (λ k. k) (in_cons c a p (f a (in_head a s))) in
        let ca = order_head ◌<◌ c p op a m in
        ⊎_elim (λ e. ⊎_elim (λ d. absurd (omega arith)) (λ k. k) (in_cons c b p (f b i))) (λ k. ⊎_elim (λ d. absurd (let l = order_head ◌<◌ a s os b k in omega arith)) (λ q. q) (in_cons c b p (f b i))) (in_cons a b s i)

    by : (c ≡ a) ⊎ (c ≡ a → ⊥) → (c ≡ a → Part s p) → ((c ≡ a → ⊥) → Part (a ∷ s) p) → Part (a ∷ s) (c ∷ p)
    by (inl e) f g = subst (λ (x : ℕ). Part (a ∷ s) (x ∷ p)) (sym e) (taken (f e))
    by (inr n) f g = left (g n)

-- two parts of each other are equal
pub part_antisym : {s p : List ℕ} → Part s p → length p ≤ length s → s ≡ p
part_antisym none h = refl
part_antisym (taken {a = a} k) h = ap (λ (l : List ℕ). a ∷ l) (part_antisym k (omega arith))
part_antisym (left k) h = absurd (let l = part_length k in omega arith)

-- a job above all others comes last
pub ascending_snoc : (l : List ℕ) (v : ℕ) → Ascending l → ((a : ℕ) → a ∈ l → a < v) → Ascending (l ++ v ∷ [])
ascending_snoc [] v o h = order_cons ◌<◌ v [] (λ b i. not_in_nil b i) (order_nil ◌<◌)
ascending_snoc (a ∷ l) v o h =
    order_cons ◌<◌ a (l ++ v ∷ []) (λ b i. ⊎_elim (λ j. order_head ◌<◌ a l o b j) (λ e. let k = h a (in_head a l) in omega arith) (in_snoc l v b i))
    (ascending_snoc l v (order_tail ◌<◌ a l o) (λ b i. h b (in_tail a b l i)))

-- ascending lists with the same members are equal
pub ascending_ext : (s p : List ℕ) → Ascending s → Ascending p → ((b : ℕ) → has s b ≡ has p b) → s ≡ p
ascending_ext s p os op e =
    let f = part_of_members s p os op (λ b i. sym (e b) ∙ i) in
    let g = part_of_members p s op os (λ b i. e b ∙ i) in
    part_antisym f (part_length g)
