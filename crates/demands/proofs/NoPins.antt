-- Without pins the search is document 01's. From an empty C each set that the walk lists is a part of P, so it is ascending, and as a set it stays as it is; this asks
-- nothing of the table. The refusals are those of the list without pins. Assumes nothing.
use mathlib.Core.Path.{◌≡◌, refl, sym, ◌∙◌, ap, ap₂, subst}
use mathlib.Core.Bool.{Bool}
use mathlib.Core.Logic.{⊎_elim, ◌↔◌}
use mathlib.Core.List.Memᴰ.{append_cases as among-append}
use mathlib.Core.List.Memᴰ.{cases_cons as among-cons}
use mathlib.Core.List.Memᴰ.{head as first}
use mathlib.Core.List.Memᴰ.{not-nil as none-in-nil}
use mathlib.Core.List.Memᴰ.{tail as further}
use mathlib.Core.List.{List, [], ◌∷◌, ◌++◌, map, append-nil, append_assoc, Memᴰ as Among}
use Prim.Native.Nat.{ℕ, ◌≤◌, ◌<◌}
use native.Mathlib.Omega.{arith}
use Rattle.graphs.specs.Jobs.{Part}
use Rattle.graphs.specs.Jobs.Part.{taken, left}
use Rattle.graphs.specs.First.{FirstMaximum}
use Rattle.graphs.specs.Pins.{FirstHolding}
use Rattle.graphs.specs.Walk.{Test, any_of, paper_tests, Walked, walk_from, walk_of, outcome}
use Rattle.graphs.proofs.Lists.{keep_part, order_part, part_in, part_nil, part_trans}
use Rattle.graphs.proofs.Holding.{first_none}
use Rattle.graphs.proofs.Walk.{goes_part, WhereStops, WhereGoes, walk_induction, first_largest_in}
use Rattle.graphs.proofs.WalkBudget.{walk_kept}
use Rattle.sets.specs.Words.{words, set_of}
use Rattle.sets.specs.Rules.{first_given, if_passed}
use Rattle.sets.specs.Tables.{no4}
use Rattle.sets.proofs.Words.{set_same}
use Rattle.question.specs.Question.{Question, no_pins, fitting, unheld}
use Rattle.question.specs.Start.{pinned}
use Rattle.question.proofs.Asking.{ask_unpinned, ascending_unheld, unheld_inside}
use Rattle.question.proofs.Starting.{unpinned}
use Rattle.search.specs.Search.{refused, search_rules, in_sets, published_walk, said_of, search_says, result_after}
use Rattle.search.proofs.Searching.{search_passes}
use Rattle.demands.specs.NoPins.{old_walk, old_says, old_result, NoPins}

-- ---- the walk's sets

-- each is C followed by a part of P
visits_part : (fits : ℕ → ℕ → Bool) (over : Test) (c p x k a : List ℕ) → Among a (walk_from fits over c p x k).visits → (s : List ℕ) × (a ≡ c ++ s) × Part s p
visits_part fits over c p x k a = walk_induction fits over (λ c p x k w. Among a w.visits → (s : List ℕ) × (a ≡ c ++ s) × Part s p) stops goes c p x k
  where
    first_visit : (c p : List ℕ) → a ≡ c → (s : List ℕ) × (a ≡ c ++ s) × Part s p
    first_visit c p e = ([], e ∙ sym (append-nil c), part_nil p)

    stops : WhereStops fits over (λ c p x k w. Among a w.visits → (s : List ℕ) × (a ≡ c ++ s) × Part s p)
    stops c p x k s i = ⊎_elim (first_visit c p) (λ n. absurd (none-in-nil n)) (among-cons i)

    goes : WhereGoes fits over (λ c p x k w. Among a w.visits → (s : List ℕ) × (a ≡ c ++ s) × Part s p)
    goes c p x k v r g f h i = ⊎_elim
        (first_visit c p)
        (λ j. ⊎_elim
        (λ n. let m = f n in (v ∷ m.0, m.1 ∙ append_assoc c (v ∷ []) m.0, part_trans (taken (part_trans m.2 (keep_part (fits v) r))) (goes_part fits over g)))
        (λ n. let m = h n in (m.0, m.1, part_trans (left m.2) (goes_part fits over g)))
        (among-append _ j))
        (among-cons i)

map_same : (f : List ℕ → List ℕ) (l : List (List ℕ)) → ((a : List ℕ) → Among a l → f a ≡ a) → map f l ≡ l
map_same f [] e = refl
map_same f (a ∷ l) e = ap₂ (λ (b : List ℕ) (m : List (List ℕ)). b ∷ m) (e a (first refl)) (map_same f l (λ b i. e b (further i)))

module _ (q : Question) (few : q.n ≤ 256) where
  set_listed : (a : List ℕ) → Among a (old_walk q).visits → set_of a ≡ a
  unfolding walk_of
  set_listed a i =
      let m = visits_part (fitting q) (any_of (paper_tests (fitting q))) [] (unheld q) [] [] a i in
      let part : Part a (unheld q) = subst (λ (l : List ℕ). Part l (unheld q)) (sym m.1) m.2 in
      set_same (order_part ◌<◌ part (ascending_unheld q)) (λ j h. let l = (unheld_inside q).inside j (part_in part j h) in omega arith)

  same_sets : in_sets (old_walk q) ≡ old_walk q
  same_sets =
      let kept = set_listed (old_walk q).kept (first_largest_in (walk_kept (fitting q) (paper_tests (fitting q)) [] (unheld q))) in
      let visits = map_same set_of (old_walk q).visits set_listed in
      λ i. record { kept = kept i; visits = visits i }

-- ---- a question without pins

-- what is told where something comes back is the same
if_same : {A : Type 0} (l : List ℕ) {a b : A} (c : A) → (l ≡ [] → a ≡ b) → if_passed l a c ≡ if_passed l b c
if_same [] c e = e refl
if_same (k ∷ l) c e = refl

module _ (q : Question) (none : q.pins ≡ no_pins) where
  old_walk_lem : q.n ≤ 256 → published_walk q ≡ old_walk q
  unfolding published_walk
  old_walk_lem few = ap₂ (λ (c p : List ℕ). in_sets (walk_of (fitting q) (paper_tests (fitting q)) c p)) (unpinned q none).0 (unpinned q none).1 ∙ same_sets q few

  -- where nothing is refused
  passed_walk : (result : List ℕ) → first_given (search_rules q result) ≡ [] → published_walk q ≡ old_walk q
  passed_walk result e = old_walk_lem (search_passes q result e).question.accepted_table.few

  module _ (budget : ℕ) (result : List ℕ) where
    old_says_lem : search_says q budget result ≡ old_says q budget result
    unfolding search_says old_says search_rules
    old_says_lem =
        if_same (first_given (search_rules q result)) (refused (first_given (search_rules q result))) (λ e. ap (λ (w : Walked). said_of (outcome w.visits budget)) (passed_walk result e))
        ∙ ap (λ (l : List ℕ). if_passed l (said_of (outcome (old_walk q).visits budget)) (refused l)) (ask_unpinned q (no4 result) none)

    old_leaves : result_after q budget result ≡ old_result q budget result
    unfolding result_after old_result search_rules
    old_leaves =
        if_same (first_given (search_rules q result)) result (λ e. ap (λ (w : Walked). words (outcome w.visits budget).best) (passed_walk result e))
        ∙ ap (λ (l : List ℕ). if_passed l (words (outcome (old_walk q).visits budget).best) result) (ask_unpinned q (no4 result) none)

  old_first : (s : List ℕ) → FirstHolding ◌<◌ (fitting q) (pinned q) (unheld q) s ↔ FirstMaximum ◌<◌ (fitting q) (unheld q) s
  old_first s = subst (λ (c : List ℕ). FirstHolding ◌<◌ (fitting q) c (unheld q) s ↔ FirstMaximum ◌<◌ (fitting q) (unheld q) s) (sym (unpinned q none).0) first_none

-- "no pins gives the old walk"
pub no_pins_lem : NoPins
unfolding NoPins
no_pins_lem q none = record {
  chosen = (unpinned q none).0;
  candidates_are = (unpinned q none).1;
  refusals = λ lent. ask_unpinned q lent none;
  walk = old_walk_lem q none;
  says = old_says_lem q none;
  leaves = old_leaves q none;
  first_as_before = old_first q none;
}
