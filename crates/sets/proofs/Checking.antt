-- Check. First what its answer is on each way through the code. Then, from a reply that the promise allows, what it means, and back: yes exactly for a clique, with
-- its size (`yes_means`, `means_yes`); the first pair that does not fit (`pair_means`, `means_pair`), and a set that is no clique has one (`no_clique_pair`);
-- refused exactly as the rules say (`refused_means`, `means_refused`). Two replies that the promise allows are equal (`check_unique`). Assumes nothing.
use mathlib.Core.Path.{◌≡◌, refl, sym, ◌∙◌, ap, ap₂, subst}
use mathlib.Core.Bool.{true, false, not, ◌&&◌}
use mathlib.Core.Logic.{◌⊎◌, inl, inr, ⊎_elim}
use mathlib.Core.List.{List, [], ◌∷◌}
use Prim.Native.Nat.{ℕ, ◌*◌, ◌≤◌, ◌<◌}
use native.Mathlib.Omega.{arith}
use lib.Dec.{eqb}
use borrow.Author.Tests.{eqb-false, not-true}
use lib.ListN.{length}
use Rattle.graphs.specs.Clique as G
use Rattle.graphs.proofs.Bools.{cases, never, same?, lt_or_le, and_left, and_right}
use Rattle.sets.specs.declared.refusal.Refusal.{Refusal}
use Rattle.sets.specs.declared.check.Checked.{Checked}
use Rattle.sets.specs.declared.check.Checked.TheVariants.{Clique, Misfit}
use Rattle.std.specs.Prelude.{Result, Ok, Err}
use Rattle.sets.specs.Words.{in_words, jobs, fits}
use Rattle.sets.specs.Places.{first_place, Found, Nowhere}
use Rattle.sets.specs.Refusals.{comes_back}
use Rattle.sets.specs.Rules.{Judged, AllClear, first_given, if_passed}
use Rattle.sets.specs.Tables.{no5, no6, no7, misfit}
use Rattle.sets.specs.Check.{CheckAnswer, yes, pair, refused, check_answer, check_rules, yes_or_pair, check_says, CheckPromise}
use Rattle.sets.specs.Pairs.{Checkable, Misfitting, FirstPair}
use Rattle.sets.proofs.Words.{jobs_below, in_words_job}
use Rattle.sets.proofs.Tables.{misfit_in, few_jobs, right_length, accepted, set_inside, no5_clear, no6_clear, no7_clear}
use Rattle.sets.proofs.Finder.{place_nowhere, place_none, place_found, place_cases, found_place}
use Rattle.sets.proofs.Judging.{judged_gives, judged_exactly, first_clear, clear_all, all_clear}
use Rattle.sets.proofs.Verdicts.{no1_applies, no1_clear, no2_applies, no2_clear, no4_applies, no4_clear, no4_four, refusal_back, refusal_once}

-- ---- on the way through the code

module _ (n : ℕ) (table set : List ℕ) where
  -- what comes back is the answer
  pub says_refused : (f : Refusal) → first_given (check_rules n table set) ≡ comes_back f → CheckPromise n table set (Err f)
  unfolding check_says check_answer
  says_refused f e =
      let b = refusal_back f in
      record { reply_is = ap refused b.is ∙ sym (ap (λ (l : List ℕ). if_passed l (yes_or_pair (first_place (misfit table set) n n) (length (jobs set))) (refused l)) (e ∙ b.is)) }

  pub says_pair : {a b : ℕ} → first_given (check_rules n table set) ≡ [] → first_place (misfit table set) n n ≡ a ∷ b ∷ [] → CheckPromise n table set (Ok (Misfit a b))
  unfolding check_says check_answer
  says_pair e f = record { reply_is = sym (ap₂ (λ (l m : List ℕ). if_passed l (yes_or_pair m (length (jobs set))) (refused l)) e f) }

  pub says_yes : {size : ℕ} → size ≡ length (jobs set) → first_given (check_rules n table set) ≡ [] → first_place (misfit table set) n n ≡ [] → CheckPromise n table set (Ok (Clique size))
  unfolding check_says check_answer
  says_yes s e f = record { reply_is = ap yes s ∙ sym (ap₂ (λ (l m : List ℕ). if_passed l (yes_or_pair m (length (jobs set))) (refused l)) e f) }

  -- number 1, 2 or 4 where it is the first to apply; and past these the table's own rules decide
  pub check_no1 : 256 < n → first_given (check_rules n table set) ≡ 1 ∷ []
  unfolding check_rules Judged
  check_no1 h = judged_gives (check_rules n table set) (inl (no1_applies n h))

  module _ (few : n ≤ 256) where
    pub check_no2 : (length table ≡ 4 * n → ⊥) → first_given (check_rules n table set) ≡ 2 ∷ []
    unfolding check_rules Judged
    check_no2 l = judged_gives (check_rules n table set) (inr (no1_clear n few, inl (no2_applies n table l)))

    module _ (long : length table ≡ 4 * n) where
      pub check_no4 : (length set ≡ 4 → ⊥) → first_given (check_rules n table set) ≡ 4 ∷ []
      unfolding check_rules Judged
      check_no4 s = judged_gives (check_rules n table set) (inr (no1_clear n few, inr (no2_clear n table long, inl (no4_applies set s))))

      pub check_rest : length set ≡ 4 → first_given (check_rules n table set) ≡ first_given (no5 n table set ∷ no6 n table ∷ no7 n table ∷ [])
      unfolding check_rules
      check_rest s = first_clear _ _ (no1_clear n few) ∙ first_clear _ _ (no2_clear n table long) ∙ first_clear _ _ (no4_clear set s)

  -- ---- what is refused

  pub check_passes : first_given (check_rules n table set) ≡ [] → Checkable n table set
  unfolding check_rules AllClear
  check_passes e =
      let k = all_clear (check_rules n table set) e in
      let marks = k.1.1.1 in
      record {
        accepted_table = accepted n table set k.0 k.1.0 marks.0 marks.1.0 marks.1.1.0;
        set_words = no4_four set k.1.1.0;
        set_inside = set_inside n table set (few_jobs n k.0) (right_length n table k.1.0) marks.0;
      }

  pub check_accepts : Checkable n table set → first_given (check_rules n table set) ≡ []
  unfolding check_rules AllClear
  check_accepts k =
      let a = k.accepted_table in
      clear_all (check_rules n table set)
      (no1_clear n a.few, (no2_clear n table a.long, (no4_clear set k.set_words, (no5_clear n table a set k.set_inside, (no6_clear n table a, (no7_clear n table a, tt))))))

-- ---- two replies that the promise allows are equal

same_answer : (a b : Result Checked Refusal) → check_answer a ≡ check_answer b → a ≡ b
unfolding check_answer
same_answer (Ok (Clique s)) (Ok (Clique t)) e = cc
same_answer (Ok (Misfit a b)) (Ok (Misfit c d)) e = cc
same_answer (Err f) (Err g) e = ap Err (refusal_once f g (cc))
same_answer (Ok (Clique s)) (Ok (Misfit c d)) e = cc
same_answer (Ok (Clique s)) (Err g) e = cc
same_answer (Ok (Misfit a b)) (Ok (Clique t)) e = cc
same_answer (Ok (Misfit a b)) (Err g) e = cc
same_answer (Err f) (Ok (Clique t)) e = cc
same_answer (Err f) (Ok (Misfit c d)) e = cc

pub check_unique : {n : ℕ} {table set : List ℕ} {a b : Result Checked Refusal} → CheckPromise n table set a → CheckPromise n table set b → a ≡ b
check_unique {a = a} {b = b} p q = same_answer a b (p.reply_is ∙ sym q.reply_is)

-- ---- what a reply means

misfit_means : (table set : List ℕ) → length set ≡ 4 → (a b : ℕ) → misfit table set a b ≡ true → Misfitting table set a b
unfolding misfit
misfit_means table set four a b e =
    let w = and_right (not (eqb a b) && not (fits table a b) && in_words set a) (in_words set b) e in
    let e2 = and_left (not (eqb a b) && not (fits table a b) && in_words set a) (in_words set b) e in
    let v = and_right (not (eqb a b) && not (fits table a b)) (in_words set a) e2 in
    let e3 = and_left (not (eqb a b) && not (fits table a b)) (in_words set a) e2 in
    record {
      first_inside = in_words_job set a (omega arith) v;
      second_in = in_words_job set b (omega arith) w;
      different = eqb-false a b (not-true (eqb a b) (and_left (not (eqb a b)) (not (fits table a b)) e3));
      not_fitting = not-true (fits table a b) (and_right (not (eqb a b)) (not (fits table a b)) e3);
    }

means_misfit : (table set : List ℕ) {a b : ℕ} → Misfitting table set a b → misfit table set a b ≡ true
means_misfit table set {a} {b} m =
    misfit_in table set a b m.different m.not_fitting (jobs_below set a m.first_inside) (jobs_below set b m.second_in) m.first_inside ∙ m.second_in

module _ {n : ℕ} {table set : List ℕ} (ok : Checkable n table set) where
  -- no pair is found exactly if the set is a clique
  clique_nowhere : G.Clique (fits table) (jobs set) → Nowhere (misfit table set) n n
  unfolding G.Clique
  clique_nowhere q a b ha hb = by (cases (misfit table set a b))
    where
      by : (misfit table set a b ≡ true) ⊎ (misfit table set a b ≡ false) → misfit table set a b ≡ false
      by (inr e) = e
      by (inl e) = let m = misfit_means table set ok.set_words a b e in never (fits table a b) (q a b m.first_inside m.second_in m.different) m.not_fitting

  nowhere_clique : Nowhere (misfit table set) n n → G.Clique (fits table) (jobs set)
  unfolding G.Clique
  nowhere_clique none a b i j d = ⊎_elim
      (λ y. y)
      (λ no. never (misfit table set a b) (means_misfit table set (record { first_inside = i; second_in = j; different = d; not_fitting = no })) (none a b (ok.set_inside a i) (ok.set_inside b j)))
      (cases (fits table a b))

  -- the place that is found is the first pair, and the first pair is found
  found_first : {a b : ℕ} → Found (misfit table set) n n a b → FirstPair table set a b
  found_first {a} {b} f =
      record {
        misfitting = misfit_means table set ok.set_words a b f.holds;
        first_of_all = λ x y m. order x y (ok.set_inside y m.second_in) (means_misfit table set m);
      }
    where
      order : (x y : ℕ) → y < n → misfit table set x y ≡ true → (a < x) ⊎ ((a ≡ x) × (b ≤ y))
      order x y hy t = ⊎_elim
          (λ l. inl l)
          (λ l. ⊎_elim
          (λ d. inr (d, ⊎_elim (λ lt. never (misfit table set x y) t (subst (λ (z : ℕ). misfit table set z y ≡ false) d (f.earlier_column y lt))) (λ ge. ge) (lt_or_le y b)))
          (λ d. never (misfit table set x y) t (f.earlier_row x y (omega arith) hy))
          (same? a x))
          (lt_or_le a x)

  first_found : {a b : ℕ} → FirstPair table set a b → Found (misfit table set) n n a b
  first_found {a} {b} p =
      record {
        row = ok.set_inside a p.misfitting.first_inside;
        column = ok.set_inside b p.misfitting.second_in;
        holds = means_misfit table set p.misfitting;
        earlier_row = λ x y hx hy. not_before x y (λ l. omega arith) (λ e l. omega arith) (cases (misfit table set x y));
        earlier_column = λ y hy. not_before a y (λ l. omega arith) (λ e l. omega arith) (cases (misfit table set a y));
      }
    where
      not_before : (x y : ℕ) → (a < x → ⊥) → (a ≡ x → b ≤ y → ⊥) → (misfit table set x y ≡ true) ⊎ (misfit table set x y ≡ false) → misfit table set x y ≡ false
      not_before x y no_row no-column (inr e) = e
      not_before x y no_row no-column (inl e) =
          absurd (⊎_elim no_row (λ h. no-column h.0 h.1) (p.first_of_all x y (misfit_means table set ok.set_words x y e)))

  -- "yes with the size exactly if the set is a clique"
  pub means_yes : {r : Result Checked Refusal} → G.Clique (fits table) (jobs set) → CheckPromise n table set r → r ≡ Ok (Clique (length (jobs set)))
  means_yes q p = check_unique p (says_yes n table set refl (check_accepts n table set ok) (place_none (misfit table set) n n (clique_nowhere q)))

  -- "otherwise the first pair that doesn't fit"
  pub means_pair : {r : Result Checked Refusal} {a b : ℕ} → FirstPair table set a b → CheckPromise n table set r → r ≡ Ok (Misfit a b)
  means_pair f p = check_unique p (says_pair n table set (check_accepts n table set ok) (found_place (first_found f)))

  pub no_clique_pair : {r : Result Checked Refusal} → (G.Clique (fits table) (jobs set) → ⊥) → CheckPromise n table set r → (a : ℕ) × (b : ℕ) × (r ≡ Ok (Misfit a b)) × FirstPair table set a b
  no_clique_pair {r} other p = ⊎_elim
      (λ f. (f.0, f.1, means_pair (found_first f.2) p, found_first f.2))
      (λ none. absurd (other (nowhere_clique none)))
      (place_cases (misfit table set) n n)

-- the answer that is not refused, and the place that was looked for
data Ends (refusal found : List ℕ) (size : ℕ) : CheckAnswer → Type 0 where
  ends_yes : refusal ≡ [] → found ≡ [] → Ends refusal found size (yes size)
  ends_pair : {a : ℕ} {l : List ℕ} → refusal ≡ [] → found ≡ a ∷ l → Ends refusal found size (pair (a ∷ l))
  ends_refused : {k : ℕ} {l : List ℕ} → refusal ≡ k ∷ l → Ends refusal found size (refused (k ∷ l))

ends : (refusal found : List ℕ) (size : ℕ) → Ends refusal found size (if_passed refusal (yes_or_pair found size) (refused refusal))
ends [] [] size = ends_yes refl refl
ends [] (a ∷ l) size = ends_pair refl refl
ends (k ∷ l) found size = ends_refused refl

module _ {n : ℕ} {table set : List ℕ} where
  ended : {r : Result Checked Refusal} → CheckPromise n table set r → Ends (first_given (check_rules n table set)) (first_place (misfit table set) n n) (length (jobs set)) (check_answer r)
  unfolding check_says
  ended p = subst (λ (a : CheckAnswer). Ends (first_given (check_rules n table set)) (first_place (misfit table set) n n) (length (jobs set)) a) (sym p.reply_is) (ends _ _ _)

  pub yes_means : {size : ℕ} → CheckPromise n table set (Ok (Clique size)) → Checkable n table set × G.Clique (fits table) (jobs set) × (size ≡ length (jobs set))
  unfolding check_answer
  yes_means {size} p = by size (ended p)
    where
      by : (s : ℕ) → Ends (first_given (check_rules n table set)) (first_place (misfit table set) n n) (length (jobs set)) (yes s) → Checkable n table set × G.Clique (fits table) (jobs set) × (s ≡ length (jobs set))
      by s (ends_yes e f) = let ok = check_passes n table set e in (ok, nowhere_clique ok (place_nowhere (misfit table set) n n f), refl)

  pub pair_means : {a b : ℕ} → CheckPromise n table set (Ok (Misfit a b)) → Checkable n table set × FirstPair table set a b
  unfolding check_answer
  pair_means {a} {b} p = by (ended p)
    where
      by : Ends (first_given (check_rules n table set)) (first_place (misfit table set) n n) (length (jobs set)) (pair (a ∷ b ∷ [])) → Checkable n table set × FirstPair table set a b
      by (ends_pair e f) = let ok = check_passes n table set e in (ok, found_first ok (place_found (misfit table set) n n f))

  -- "Given exactly when"
  pub refused_means : {f : Refusal} → CheckPromise n table set (Err f) → Judged (check_rules n table set) (comes_back f)
  unfolding check_answer
  refused_means {f} p = by (comes_back f) (ended p)
    where
      by : (l : List ℕ) → Ends (first_given (check_rules n table set)) (first_place (misfit table set) n n) (length (jobs set)) (refused l) → Judged (check_rules n table set) l
      by l (ends_refused e) = (judged_exactly (check_rules n table set) l).0 e

  pub means_refused : {r : Result Checked Refusal} {f : Refusal} → Judged (check_rules n table set) (comes_back f) → CheckPromise n table set r → r ≡ Err f
  means_refused {r} {f} j p = check_unique p (says_refused n table set f (judged_gives (check_rules n table set) j))
