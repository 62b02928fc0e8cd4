-- The starred items of document 01 hold, all of them, by computation: a test of every case of the list comes out true, and it says what the case says.
use mathlib.Core.Path.{◌≡◌, refl, ◌∙◌, ap, ap₂}
use mathlib.Core.Bool.{Bool, true, false, ◌&&◌, false≢true}
use mathlib.Core.Logic.{⊎_elim}
use mathlib.Core.List.Memᴰ.{cases_cons as among-cons}
use mathlib.Core.List.Memᴰ.{not-nil as none-in-nil}
use mathlib.Core.List.{List, [], ◌∷◌, Memᴰ as Among}
use Prim.Native.Nat.{ℕ, ◌*◌, ◌-◌}
use lib.Dec.{eqb}
use borrow.Author.Tests.{eqb-true}
use Rattle.graphs.specs.Jobs.{from, up_to, keep, has, every, some, without}
use Rattle.graphs.specs.Clique.{fits_all, is_clique, parts, cliques, clique_count}
use Rattle.graphs.specs.Filter.{to_take, rounds, filtered}
use Rattle.graphs.specs.Colouring.{fits_none, join_first, classes_on, classes, colours}
use Rattle.graphs.specs.Matching.{joined, best_of, most_joins, matched, matching_bound}
use Rattle.graphs.specs.Dominance.{dominates, dominated}
use Rattle.graphs.specs.Pins.{fitting_each}
use Rattle.graphs.specs.Walk.{by_size, by_colouring, by_matching, by_dominance, any_of, paper_tests, larger, walk, walk_from, walk_of, largest_met, outcome}
use Rattle.graphs.proofs.Bools.{and_left, and_right}
use Rattle.sets.specs.Words.{bit, in_words, jobs, number, words, set_of, row_of, fits}
use Rattle.sets.specs.Places.{first_in, first_place_in, first_place}
use Rattle.sets.specs.Tables.{no1, no2, no3, no4, beyond, itself, no6, one_way, no7, misfit}
use Rattle.sets.specs.Rules.{gives, first_given}
use Rattle.question.specs.Pins.{no40, no5_pins, pin_held, no41, no42}
use Rattle.question.specs.Question.{unheld}
use Rattle.question.specs.Start.{candidates}
use Rattle.search.specs.Search.{SearchAnswer, best, unfinished, refused, search_rules, published_walk, search_says, result_after}
use Rattle.demands.specs.Starred.{Case, answers, counts, bounds, table, small, lent, Holds, starred}

-- a test of what a case says, which computes
same_list : List ℕ → List ℕ → Bool
same_list [] [] = true
same_list [] (b ∷ t) = false
same_list (a ∷ s) [] = false
same_list (a ∷ s) (b ∷ t) = eqb a b && same_list s t

is_same_answer : SearchAnswer → SearchAnswer → Bool
is_same_answer (best s v) (best t w) = eqb s t && eqb v w
is_same_answer (unfinished s v) (unfinished t w) = eqb s t && eqb v w
is_same_answer (refused l) (refused m) = same_list l m
is_same_answer (best s v) (unfinished t w) = false
is_same_answer (best s v) (refused m) = false
is_same_answer (unfinished s v) (best t w) = false
is_same_answer (unfinished s v) (refused m) = false
is_same_answer (refused l) (best t w) = false
is_same_answer (refused l) (unfinished t w) = false

passes : Case → Bool
passes (answers n rows held budget answer after) = is_same_answer (search_says (small n rows held) budget lent) answer && same_list (result_after (small n rows held) budget lent) after
passes (counts n rows held q most) = eqb (clique_count (fits (table rows)) (unheld (small n rows held))) q && eqb (2 * q - 1) most
passes (bounds n rows k m bound) = eqb (colours (fits (table rows)) (up_to n)) k && (eqb (matched (fits (table rows)) (up_to n)) m && eqb (matching_bound (fits (table rows)) (up_to n)) bound)

all_pass : every passes starred ≡ true
unfolding every passes starred same_list is_same_answer table search_says result_after search_rules published_walk unheld candidates fitting_each jobs set_of no1 no2 no3 no4 no40 beyond no5_pins itself no6 one_way no7 pin_held no41 misfit no42 gives first_given first_in first_place_in first_place bit in_words number words row_of fits by_size by_colouring by_matching by_dominance any_of paper_tests larger walk walk_from walk_of largest_met outcome dominates dominated joined best_of most_joins matched matching_bound fits_none join_first classes_on classes colours to_take rounds filtered fits_all is_clique parts cliques clique_count from up_to keep has some without
all_pass = refl

same_list_lem : (s t : List ℕ) → same_list s t ≡ true → s ≡ t
unfolding same_list
same_list_lem [] [] e = refl
same_list_lem [] (b ∷ t) e = absurd (false≢true e)
same_list_lem (a ∷ s) [] e = absurd (false≢true e)
same_list_lem (a ∷ s) (b ∷ t) e = ap₂ (λ (x : ℕ) (l : List ℕ). x ∷ l) (eqb-true a b (and_left (eqb a b) (same_list s t) e)) (same_list_lem s t (and_right (eqb a b) (same_list s t) e))

same_answer : (a b : SearchAnswer) → is_same_answer a b ≡ true → a ≡ b
unfolding is_same_answer
same_answer (best s v) (best t w) e = ap₂ best (eqb-true s t (and_left (eqb s t) (eqb v w) e)) (eqb-true v w (and_right (eqb s t) (eqb v w) e))
same_answer (unfinished s v) (unfinished t w) e = ap₂ unfinished (eqb-true s t (and_left (eqb s t) (eqb v w) e)) (eqb-true v w (and_right (eqb s t) (eqb v w) e))
same_answer (refused l) (refused m) e = ap refused (same_list_lem l m e)
same_answer (best s v) (unfinished t w) e = absurd (false≢true e)
same_answer (best s v) (refused m) e = absurd (false≢true e)
same_answer (unfinished s v) (best t w) e = absurd (false≢true e)
same_answer (unfinished s v) (refused m) e = absurd (false≢true e)
same_answer (refused l) (best t w) e = absurd (false≢true e)
same_answer (refused l) (unfinished t w) e = absurd (false≢true e)

-- what passes holds
passes_holds : (c : Case) → passes c ≡ true → Holds c
unfolding passes Holds
passes_holds (answers n rows held budget answer after) e =
    let said = is_same_answer (search_says (small n rows held) budget lent) answer in
    let left = same_list (result_after (small n rows held) budget lent) after in
    (same_answer _ _ (and_left said left e), same_list_lem _ _ (and_right said left e))
passes_holds (counts n rows held q most) e =
    let counted = eqb (clique_count (fits (table rows)) (unheld (small n rows held))) q in
    let twice = eqb (2 * q - 1) most in
    (eqb-true _ _ (and_left counted twice e), eqb-true _ _ (and_right counted twice e))
passes_holds (bounds n rows k m bound) e =
    let coloured = eqb (colours (fits (table rows)) (up_to n)) k in
    let joins = eqb (matched (fits (table rows)) (up_to n)) m in
    let bounded = eqb (matching_bound (fits (table rows)) (up_to n)) bound in
    let rest = and_right coloured (joins && bounded) e in
    (eqb-true _ _ (and_left coloured (joins && bounded) e), eqb-true _ _ (and_left joins bounded rest), eqb-true _ _ (and_right joins bounded rest))

every_among : (t : Case → Bool) (l : List Case) → every t l ≡ true → (c : Case) → Among c l → t c ≡ true
unfolding every
every_among t [] e c i = absurd (none-in-nil i)
every_among t (a ∷ l) e c i = ⊎_elim (λ q. ap t q ∙ and_left (t a) (every t l) e) (λ j. every_among t l (and_right (t a) (every t l) e) c j) (among-cons i)

-- "The starred items are proved in a single statement over one list, against the definitions."
pub starred_hold : (c : Case) → Among c starred → Holds c
starred_hold c i = passes_holds c (every_among passes starred all_pass c i)
