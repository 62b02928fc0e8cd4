-- The tests of step 5: each keeps its promise (`Sound`), and so do any of them together; so the paper's walk finds the first maximum clique.
-- Which of them is tried first changes nothing, and one more of them never costs a visit (W-210).
use mathlib.Core.Path.{◌≡◌, refl, sym, ◌∙◌, ap, fun_ext}
use mathlib.Core.Bool.{Bool, true, false≢true}
use mathlib.Core.Logic.{◌⊎◌, ⊎_elim}
use mathlib.Core.List.Memᴰ.{cases_cons as among-cons}
use mathlib.Core.List.Memᴰ.{head as first}
use mathlib.Core.List.Memᴰ.{not-nil as none-in-nil}
use mathlib.Core.List.Memᴰ.{tail as further}
use mathlib.Core.List.{List, [], ◌∷◌, Memᴰ as Among}
use Prim.Native.Nat.{ℕ, ◌+◌, ◌≤◌, ◌<◌}
use native.Mathlib.Omega.{arith}
use lib.Dec.{leb}
use lib.ListN.{length}
use borrow.Author.Tests.{leb-true}
use Rattle.graphs.specs.Jobs.{some, Ascending, Distinct, Part}
use Rattle.graphs.specs.Clique.{Clique}
use Rattle.graphs.specs.First.{FirstFrom}
use Rattle.graphs.specs.Colouring.{colours}
use Rattle.graphs.specs.Matching.{matching_bound}
use Rattle.graphs.specs.Walk.{Test, by_size, by_colouring, by_matching, by_dominance, any_of, paper_tests, walk_from, walk_of, Start, NoWorse, Sound}
use Rattle.graphs.proofs.Bools.{or_cases, or_left, or_right, both_ways}
use Rattle.graphs.proofs.Lists.{part_length, part_trans}
use Rattle.graphs.proofs.Cliques.{clique_part}
use Rattle.graphs.proofs.Colouring.{colours_bound}
use Rattle.graphs.proofs.Matching.{matching_bound_lem}
use Rattle.graphs.proofs.Dominance.{dominates_trade, dominated_by}
use Rattle.graphs.proofs.WalkFinds.{visit_start, walk_finds}
use Rattle.graphs.proofs.WalkVisits.{more_helps}

-- ---- the promises

module _ (fits : ℕ → ℕ → Bool) where
  -- "Every bound is at least the largest clique in P": of a test that compares such a bound
  pub sound_bound : (bound : List ℕ → ℕ) → ((p s : List ℕ) → Distinct p → Part s p → Clique fits s → length s ≤ bound p) → Sound fits (λ c p x k. leb (length c + bound p) (length k))
  unfolding Sound
  sound_bound bound most c p x k w e s h q = let l = most p s w.start.once h q in let m = leb-true (length c + bound p) (length k) e in omega arith

  pub sound_size : Sound fits by_size
  unfolding by_size
  sound_size = sound_bound length (λ p s d h q. part_length h)

  pub sound_colouring : Sound fits (by_colouring fits)
  unfolding by_colouring
  sound_colouring = sound_bound (colours fits) (λ p s d h q. colours_bound fits d h q)

  pub sound_matching : Sound fits (by_matching fits)
  unfolding by_matching
  sound_matching = sound_bound (matching_bound fits) (λ p s d h q. matching_bound_lem fits s p d h q)

  -- "some x in X fits all of P, or all but one": trade that one for x
  pub sound_dominance : Sound fits (by_dominance fits)
  unfolding Sound by_dominance
  sound_dominance c p x k w e s h q =
      let d = dominated_by fits p x e in
      let t = dominates_trade fits d.0 d.2 h in
      let l = w.spent d.0 d.1 t.0 (part_trans t.1 h) (clique_part fits t.1 q) t.2 in
      let m = t.3 in
      omega arith

  -- "any of these"
  pub sound_any : (tests : List Test) → ((t : Test) → Among t tests → Sound fits t) → Sound fits (any_of tests)
  unfolding Sound any_of some
  sound_any [] f c p x k w e s h q = absurd (false≢true e)
  sound_any (t ∷ tests) f c p x k w e s h q = ⊎_elim (λ o. f t (first refl) c p x k w o s h q) (λ o. sound_any tests (λ u i. f u (further i)) c p x k w o s h q) (or_cases _ _ e)

  pub sound_paper : Sound fits (any_of (paper_tests fits))
  unfolding paper_tests
  sound_paper = sound_any (paper_tests fits) (λ t i. size t (among-cons i))
    where
      is : {t u : Test} → Sound fits u → t ≡ u → Sound fits t
      is s e = rw e s

      dominance : (t : Test) → (t ≡ by_dominance fits) ⊎ Among t [] → Sound fits t
      dominance t = ⊎_elim (is sound_dominance) (λ i. absurd (none-in-nil i))

      matching : (t : Test) → (t ≡ by_matching fits) ⊎ Among t (by_dominance fits ∷ []) → Sound fits t
      matching t = ⊎_elim (is sound_matching) (λ i. dominance t (among-cons i))

      colouring : (t : Test) → (t ≡ by_colouring fits) ⊎ Among t (by_matching fits ∷ by_dominance fits ∷ []) → Sound fits t
      colouring t = ⊎_elim (is sound_colouring) (λ i. matching t (among-cons i))

      size : (t : Test) → (t ≡ by_size) ⊎ Among t (by_colouring fits ∷ by_matching fits ∷ by_dominance fits ∷ []) → Sound fits t
      size t = ⊎_elim (is sound_size) (λ i. colouring t (among-cons i))

  -- demand 2 for the paper's walk
  pub paper_finds : ((a b : ℕ) → fits a b ≡ fits b a) → (c p : List ℕ) → Start fits c p → Ascending p → FirstFrom ◌<◌ fits c p (walk_of fits (paper_tests fits) c p).kept
  paper_finds two_way c p w o = walk_finds fits two_way (paper_tests fits) c p sound_paper ◌<◌ w o

-- ---- one test more or less

-- a test of the list that holds makes `any_of` hold, and so does a list with those tests
any_in : (tests : List Test) (t : Test) → Among t tests → (c p x k : List ℕ) → t c p x k ≡ true → any_of tests c p x k ≡ true
unfolding any_of some
any_in [] t i c p x k o = absurd (none-in-nil i)
any_in (u ∷ tests) t i c p x k o =
    ⊎_elim (λ e. or_left _ _ (ap (λ (f : Test). f c p x k) (sym e) ∙ o)) (λ j. or_right (u c p x k) _ (any_in tests t j c p x k o)) (among-cons i)

any_more : (tests others : List Test) → ((t : Test) → Among t tests → Among t others) → (c p x k : List ℕ) → any_of tests c p x k ≡ true → any_of others c p x k ≡ true
unfolding any_of some
any_more [] others f c p x k o = absurd (false≢true o)
any_more (t ∷ tests) others f c p x k o =
    ⊎_elim (any_in others t (f t (first refl)) c p x k) (any_more tests others (λ u i. f u (further i)) c p x k) (or_cases _ _ o)

-- "Which test of step 5 is tried first can't change it."
pub tests_order : (fits : ℕ → ℕ → Bool) (tests others : List Test) → ((t : Test) → Among t tests → Among t others) → ((t : Test) → Among t others → Among t tests)
    → (c p : List ℕ) → walk_of fits tests c p ≡ walk_of fits others c p
unfolding walk_of
tests_order fits tests others f g c p =
    let same : any_of tests ≡ any_of others =
    fun_ext λ c. fun_ext λ p. fun_ext λ x. fun_ext λ k. both_ways (any_of tests c p x k) (any_of others c p x k) (any_more tests others f c p x k) (any_more others tests g c p x k) in
    ap (λ (over : Test). walk_from fits over c p [] []) same

-- with more tests the same set is found after no more visits
pub tests_help : (fits : ℕ → ℕ → Bool) → ((a b : ℕ) → fits a b ≡ fits b a) → (tests others : List Test) → ((t : Test) → Among t tests → Among t others) → Sound fits (any_of others)
    → (c p : List ℕ) → Start fits c p → NoWorse (walk_of fits others c p) (walk_of fits tests c p)
unfolding walk_of
tests_help fits two_way tests others f sound c p w = more_helps fits two_way (any_of tests) (any_of others) (any_more tests others f) sound c p [] [] (visit_start fits [] w)
