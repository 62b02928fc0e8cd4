-- What a reply of Search that the promise allows can be. Two such replies are equal (`search_unique`). A refusal is the first rule that applies (`refused_exactly`),
-- and it leaves the result; Best and Unfinished are said of accepted searches, of the walk's outcome (`best-ends`, `unfinished-ends`). Assumes nothing.
use Rattle.std.specs.Prelude.{Result, Ok, Err}
use mathlib.Core.Path.{◌≡◌, refl, sym, ◌∙◌, ap, subst}
use mathlib.Core.Bool.{Bool, true, false}
use mathlib.Core.Logic.{◌↔◌}
use mathlib.Core.List.{List, [], ◌∷◌}
use Prim.Native.Nat.{ℕ}
use native.Mathlib.Omega.{arith}
use lib.ListN.{length}
use Rattle.graphs.specs.Walk.{Outcome, outcome}
use Rattle.sets.specs.declared.refusal.Refusal.{Refusal}
use Rattle.sets.specs.Words.{words}
use Rattle.sets.specs.Refusals.{comes_back}
use Rattle.sets.specs.Rules.{first_given, if_passed}
use Rattle.question.specs.Question.{Question}
use Rattle.sets.proofs.Verdicts.{refusal_once}
use Rattle.search.specs.declared.Searched.{Searched}
use Rattle.search.specs.declared.Searched.TheVariants.{Best, Unfinished}
use Rattle.search.specs.Search.{best, unfinished, refused, search_answer, search_rules, search_visits, search_ends, said_of, search_says, result_after, Searchable, SearchPromise}
use Rattle.search.proofs.Searching.{search_passes, search_accepts, says_refused}

-- which reply it was, from the answer in the paper's words
pub same_answer : (a b : Result Searched Refusal) → search_answer a ≡ search_answer b → a ≡ b
unfolding search_answer
same_answer (Ok (Best s v)) (Ok (Best t w)) e = cc
same_answer (Ok (Best s v)) (Ok (Unfinished t w)) e = absurd (let z : ◌≡◌ {A = ℕ} 0 1 = cc in omega arith)
same_answer (Ok (Best s v)) (Err f) e = absurd (let z : ◌≡◌ {A = ℕ} 0 1 = cc in omega arith)
same_answer (Ok (Unfinished s v)) (Ok (Best t w)) e = absurd (let z : ◌≡◌ {A = ℕ} 0 1 = cc in omega arith)
same_answer (Ok (Unfinished s v)) (Ok (Unfinished t w)) e = cc
same_answer (Ok (Unfinished s v)) (Err f) e = absurd (let z : ◌≡◌ {A = ℕ} 0 1 = cc in omega arith)
same_answer (Err f) (Ok (Best t w)) e = absurd (let z : ◌≡◌ {A = ℕ} 0 1 = cc in omega arith)
same_answer (Err f) (Ok (Unfinished t w)) e = absurd (let z : ◌≡◌ {A = ℕ} 0 1 = cc in omega arith)
same_answer (Err f) (Err g) e = ap Err (refusal_once f g (cc))

-- "two replies it allows are equal", and so are the results that they leave
pub search_unique : {q : Question} {budget : ℕ} {result : List ℕ} {a b : Result Searched Refusal} {x y : List ℕ}
    → SearchPromise q budget result a x → SearchPromise q budget result b y → (a ≡ b) × (x ≡ y)
search_unique {a = a} {b = b} p r = (same_answer a b (p.reply_is ∙ sym r.reply_is), p.result_is ∙ sym r.result_is)

-- ---- a refusal

-- an answer that is refused says what came back
refused_back : (l : List ℕ) (o : Outcome) (m : List ℕ) → refused m ≡ if_passed l (said_of o) (refused l) → l ≡ m
refused_back [] o m e = by o.finished e
  where
    by : (b : Bool) → refused m ≡ search_ends b (length o.best) o.visited → [] ≡ m
    by true d = absurd (let z : ◌≡◌ {A = ℕ} 0 1 = cc in omega arith)
    by false d = absurd (let z : ◌≡◌ {A = ℕ} 0 1 = cc in omega arith)
refused_back (k ∷ l) o m e = cc

module _ {q : Question} {budget : ℕ} {result now : List ℕ} where
  refused_given : {f : Refusal} → SearchPromise q budget result (Err f) now → first_given (search_rules q result) ≡ comes_back f
  unfolding search_answer search_says
  refused_given {f} p = refused_back (first_given (search_rules q result)) (outcome (search_visits q) budget) (comes_back f) p.reply_is

  pub refused_exactly : {reply : Result Searched Refusal} → SearchPromise q budget result reply now → (f : Refusal) → (reply ≡ Err f) ↔ (first_given (search_rules q result) ≡ comes_back f)
  refused_exactly p f = (λ e. refused_given (subst (λ (r : Result Searched Refusal). SearchPromise q budget result r now) e p), λ e. (search_unique p (says_refused q budget result f e)).0)

  pub refused_leaves : {f : Refusal} → SearchPromise q budget result (Err f) now → now ≡ result
  refused_leaves {f} p = (search_unique p (says_refused q budget result f (refused_given p))).1

  -- ---- an answer

  -- an accepted search says and leaves the walk's outcome
  module _ {reply : Result Searched Refusal} (p : SearchPromise q budget result reply now) where
    pub accepted_says : Searchable q result → search_answer reply ≡ said_of (outcome (search_visits q) budget)
    unfolding search_says
    accepted_says k = p.reply_is ∙ ap (λ (l : List ℕ). if_passed l (said_of (outcome (search_visits q) budget)) (refused l)) (search_accepts k)

    pub accepted_leaves : Searchable q result → now ≡ words (outcome (search_visits q) budget).best
    unfolding result_after
    accepted_leaves k = p.result_is ∙ ap (λ (l : List ℕ). if_passed l (words (outcome (search_visits q) budget).best) result) (search_accepts k)

    -- what is not refused is accepted
    pub not_refused : ((l : List ℕ) → search_answer reply ≡ refused l → ⊥) → Searchable q result
    unfolding search_says
    not_refused never = by (first_given (search_rules q result)) refl
      where
        by : (l : List ℕ) → first_given (search_rules q result) ≡ l → Searchable q result
        by [] e = search_passes q result e
        by (k ∷ l) e = absurd (never (k ∷ l) (p.reply_is ∙ ap (λ (m : List ℕ). if_passed m (said_of (outcome (search_visits q) budget)) (refused m)) e))

-- what a finished outcome, and an unfinished one, is said to be
pub ends_best : {b : Bool} {s v size visits : ℕ} → best size visits ≡ search_ends b s v → (b ≡ true) × (size ≡ s) × (visits ≡ v)
ends_best {b = true} e = (refl, cc, cc)
ends_best {b = false} e = absurd (let z : ◌≡◌ {A = ℕ} 0 1 = cc in omega arith)

pub ends_unfinished : {b : Bool} {s v size visits : ℕ} → unfinished size visits ≡ search_ends b s v → (b ≡ false) × (size ≡ s) × (visits ≡ v)
ends_unfinished {b = true} e = absurd (let z : ◌≡◌ {A = ℕ} 0 1 = cc in omega arith)
ends_unfinished {b = false} e = (refl, cc, cc)

pub best_searchable : {q : Question} {budget size visits : ℕ} {result x : List ℕ} → SearchPromise q budget result (Ok (Best size visits)) x → Searchable q result
unfolding search_answer
best_searchable p = not_refused p (λ l e. let z : ◌≡◌ {A = ℕ} 0 1 = cc in omega arith)

pub unfinished_searchable : {q : Question} {budget size visits : ℕ} {result x : List ℕ} → SearchPromise q budget result (Ok (Unfinished size visits)) x → Searchable q result
unfolding search_answer
unfinished_searchable p = not_refused p (λ l e. let z : ◌≡◌ {A = ℕ} 0 1 = cc in omega arith)
