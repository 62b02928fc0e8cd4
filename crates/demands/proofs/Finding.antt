-- Demands 2 and 3: what an accepted search leaves. The jobs of the result are those of the walk's outcome (`result_jobs`), in sets: the pins with a clique of P. The
-- theory's theorems on the walk, at the start with the pins for C, then say the rest. Assumes nothing.
use Rattle.std.specs.Prelude.{Result, Ok}
use mathlib.Core.Path.{◌≡◌, refl, sym, ◌∙◌, ap, subst}
use mathlib.Core.Bool.{true, false, not}
use mathlib.Core.Logic.{◌↔◌}
use mathlib.Core.List.{List, [], map}
use Prim.Native.Nat.{ℕ, zero, suc, ◌-◌, ◌*◌, ◌≤◌, ◌<◌}
use native.Mathlib.Omega.{arith}
use lib.ListN.{length, take, length-map}
use borrow.Author.Tests.{leb-true, leb-false, not-true}
use Rattle.graphs.specs.Jobs.{up_to, has, ◌∈◌, Within, Part}
use Rattle.graphs.specs.Clique.{Clique, Extends, clique_count}
use Rattle.graphs.specs.Pins.{FirstHolding}
use Rattle.graphs.specs.Walk.{any_of, paper_tests, Walked, walk_of, Outcome, outcome, FirstLargest}
use Rattle.graphs.proofs.Bools.{not_of_false}
use Rattle.graphs.proofs.Lists.{in_up_to, keep_test, in_keep, order_part, part_nil, part_in}
use Rattle.graphs.proofs.Cliques.{clique_nil}
use Rattle.graphs.proofs.Pigeonhole.{part_both}
use Rattle.graphs.proofs.Pins.{joined_clique, joined_holds}
use Rattle.graphs.proofs.Holding.{first_holding}
use Rattle.graphs.proofs.Walk.{visits_begin}
use Rattle.graphs.proofs.WalkBudget.{outcome_first, outcome_short, outcome_more, outcome_zero, walk_enough}
use Rattle.graphs.proofs.WalkFinds.{outcome_clique, kept_clique}
use Rattle.graphs.proofs.WalkVisits.{visits_bound}
use Rattle.graphs.proofs.WalkTests.{paper_finds}
use Rattle.sets.specs.declared.refusal.Refusal.{Refusal}
use Rattle.sets.specs.Words.{in_words, jobs, words, set_of}
use Rattle.question.specs.Question.{Question, fitting, unheld, Answerable}
use Rattle.question.specs.Start.{pinned, candidates}
use Rattle.question.proofs.Asking.{ascending_unheld, distinct_unheld, unheld_inside}
use Rattle.question.proofs.Starting.{ascending_candidates, distinct_candidates, distinct_pinned, pins_within, start_answerable}
use Rattle.sets.proofs.Words.{has_jobs, jobs_words}
use Rattle.search.specs.declared.Searched.{Searched}
use Rattle.search.specs.declared.Searched.TheVariants.{Best, Unfinished}
use Rattle.search.specs.Search.{search_answer, published_walk, search_visits, visits_for, search_ends, Searchable, SearchPromise}
use Rattle.search.proofs.Searching.{visit_set, outcome_sets}
use Rattle.night.proofs.RoundTrip.{always_accepted, one_table, read_then_write, write_then_read}
use Rattle.demands.specs.Demand2.{Finished, StillFits, Demand2}
use Rattle.demands.specs.Demand3.{WithinBudget, Demand3}
use Rattle.demands.proofs.Replies.{same_answer, accepted_says, accepted_leaves, ends_best, ends_unfinished, best_searchable, unfinished_searchable}

-- ---- the unheld jobs

module _ (q : Question) where
  -- they are the jobs that are not in the holds
  pub unheld_exactly : q.n ≤ 256 → (j : ℕ) → (j ∈ unheld q) ↔ ((j < q.n) × (has (jobs q.holds) j ≡ false))
  unfolding unheld
  unheld_exactly few j = (
    λ i. let h = (unheld_inside q).inside j i in (h, has_jobs q.holds j (omega arith) ∙ not-true (in_words q.holds j) (keep_test (λ j. not (in_words q.holds j)) (up_to q.n) j i)),
    λ h. in_keep (λ j. not (in_words q.holds j)) (up_to q.n) j (in_up_to q.n j h.0) (not_of_false (in_words q.holds j) (sym (has_jobs q.holds j (let l = h.0 in omega arith)) ∙ h.1)),
  )

-- ---- the walk of an accepted question

-- the walk as it lists its sets: the pins first
abbrev listed : Question → Walked
listed q = walk_of (fitting q) (paper_tests (fitting q)) (pinned q) (candidates q)

module _ (q : Question) (k : Answerable q) where
  two_way : (a b : ℕ) → fitting q a b ≡ fitting q b a
  two_way = k.accepted_table.two_way

  -- the pins with a clique of P, as a set
  joined : {a : List ℕ} → Extends (fitting q) (pinned q) (candidates q) a → Part (set_of a) (unheld q) × Clique (fitting q) (set_of a) × Within (pinned q) (set_of a)
  unfolding candidates
  joined {a} e = rw (visit_set k e) (
    part_both (unheld q) a,
    joined_clique (fitting q) (pinned q) (unheld q) (distinct_pinned q) (distinct_unheld q) (pins_within k) two_way k.pins_fit e,
    joined_holds (fitting q) (pinned q) (unheld q) (distinct_pinned q) (distinct_unheld q) (pins_within k) e,
  )

  met : ℕ → List ℕ
  met budget = (outcome (search_visits q) budget).best

  met_zero : met 0 ≡ []
  unfolding met
  met_zero = outcome_zero (search_visits q)

  met_set : (budget : ℕ) → met budget ≡ set_of (outcome (listed q).visits budget).best
  unfolding met
  met_set budget = ap (λ (o : Outcome). o.best) (outcome_sets k budget)

  met_some : (b : ℕ) → Part (met (suc b)) (unheld q) × Clique (fitting q) (met (suc b)) × Within (pinned q) (met (suc b))
  met_some b = rw (met_set (suc b)) (joined (outcome_clique (fitting q) two_way (paper_tests (fitting q)) (pinned q) (candidates q) b))

  met_part : (budget : ℕ) → Part (met budget) (unheld q) × Clique (fitting q) (met budget)
  met_part zero = rw met_zero (part_nil (unheld q), clique_nil (fitting q))
  met_part (suc b) = let m = met_some b in (m.0, m.1)

  met_holds : (budget : ℕ) → 0 < budget → Within (pinned q) (met budget)
  met_holds zero h = absurd (omega arith)
  met_holds (suc b) h = (met_some b).2

  -- its words have the same jobs
  met_jobs : (budget : ℕ) → jobs (words (met budget)) ≡ met budget
  met_jobs budget = jobs_words (met budget) (order_part ◌<◌ (met_part budget).0 (ascending_unheld q))
      (λ j i. let h = (unheld_inside q).inside j (part_in (met_part budget).0 j i) in let f = k.accepted_table.few in omega arith)

  visits_listed : visits_for q ≡ length (listed q).visits
  unfolding published_walk
  visits_listed = length-map (listed q).visits set_of

  -- "A budget of N or more"
  whole : (budget : ℕ) → visits_for q ≤ budget → outcome (search_visits q) budget ≡ record { finished = true; best = (published_walk q).kept; visited = visits_for q }
  unfolding published_walk
  whole budget enough =
      outcome_sets k budget
      ∙ ap (λ (o : Outcome). record { finished = o.finished; best = set_of o.best; visited = o.visited })
      (walk_enough (fitting q) (paper_tests (fitting q)) (pinned q) (candidates q) budget (omega (arith, enough, visits_listed)))
      ∙ (λ i. record { finished = true; best = set_of (listed q).kept; visited = sym visits_listed i })

  -- "a maximum clique of the jobs not held", "among cliques holding every pin", and "Among equals it is the first"
  walk_first_holding : FirstHolding ◌<◌ (fitting q) (pinned q) (unheld q) (published_walk q).kept
  unfolding published_walk candidates
  walk_first_holding = rw (visit_set k (kept_clique (fitting q) two_way (paper_tests (fitting q)) (pinned q) (candidates q))) (
      first_holding ◌<◌ (λ a b h l. omega arith) (fitting q) (pinned q) (unheld q) (ascending_unheld q) (distinct_pinned q) (pins_within k) k.pins_fit two_way
      (paper_finds (fitting q) two_way (pinned q) (candidates q) (start_answerable k) (ascending_candidates q)))

  -- "N is at most 2q - 1"
  visits_at_most : visits_for q ≤ 2 * clique_count (fitting q) (candidates q) - 1
  visits_at_most = rw visits_listed (visits_bound (fitting q) two_way (paper_tests (fitting q)) (pinned q) (candidates q) (distinct_candidates q))

  -- "the first met of the largest sets in those visits (the empty set at 0)"
  met_first_largest : (b : ℕ) → FirstLargest (take (suc b) (search_visits q)) (met (suc b))
  unfolding met published_walk walk_of
  met_first_largest b =
      let t = visits_begin (fitting q) (any_of (paper_tests (fitting q))) (pinned q) (candidates q) [] [] in
      subst (λ (l : List (List ℕ)). FirstLargest (take (suc b) (map set_of l)) (outcome (map set_of l) (suc b)).best) (sym t.1) (outcome_first (set_of (pinned q)) (map set_of t.0) b)

-- ---- a reply to an accepted search

module _ {q : Question} {budget : ℕ} {result : List ℕ} {reply : Result Searched Refusal} {now : List ℕ} (k : Searchable q result) (p : SearchPromise q budget result reply now) where
  result_jobs : jobs now ≡ met q k.question budget
  unfolding met
  result_jobs = ap jobs (accepted_leaves p k) ∙ met_jobs q k.question budget

  now_clique : Part (jobs now) (unheld q) × Clique (fitting q) (jobs now)
  now_clique = rw result_jobs (met_part q k.question budget)

  now_holds : 0 < budget → Within (pinned q) (jobs now)
  now_holds h = rw result_jobs (met_holds q k.question budget h)

  -- the answer, with the size of what is left
  said : search_answer reply ≡ search_ends (outcome (search_visits q) budget).finished (length (jobs now)) (outcome (search_visits q) budget).visited
  unfolding met
  said = accepted_says p k ∙ ap (λ (s : List ℕ). search_ends (outcome (search_visits q) budget).finished (length s) (outcome (search_visits q) budget).visited) (sym result_jobs)

  enough_reply : visits_for q ≤ budget → reply ≡ Ok (Best (length (jobs now)) (visits_for q))
  unfolding search_answer
  enough_reply h = same_answer reply (Ok (Best (length (jobs now)) (visits_for q))) (said ∙ ap (λ (o : Outcome). search_ends o.finished (length (jobs now)) o.visited) (whole q k.question budget h))

  enough_kept : visits_for q ≤ budget → jobs now ≡ (published_walk q).kept
  unfolding met
  enough_kept h = result_jobs ∙ ap (λ (o : Outcome). o.best) (whole q k.question budget h)

  smaller_reply : budget < visits_for q → reply ≡ Ok (Unfinished (length (jobs now)) budget)
  unfolding search_answer
  smaller_reply h =
      let o = outcome_short (search_visits q) budget h in
      same_answer reply (Ok (Unfinished (length (jobs now)) budget)) (said ∙ (λ i. search_ends (o.0 i) (length (jobs now)) (o.1 i)))

  first_met : 0 < budget → FirstLargest (take budget (search_visits q)) (jobs now)
  first_met h = by budget refl
    where
      by : (b : ℕ) → budget ≡ b → FirstLargest (take budget (search_visits q)) (jobs now)
      by zero e = absurd (omega arith)
      by (suc b) e = subst (λ (s : List ℕ). FirstLargest (take budget (search_visits q)) s) (sym result_jobs) (subst (λ (m : ℕ). FirstLargest (take m (search_visits q)) (met q k.question m)) (sym e) (met_first_largest q k.question b))

  empty_at_0 : budget ≡ 0 → jobs now ≡ []
  unfolding met
  empty_at_0 e = result_jobs ∙ ap (met q k.question) e ∙ met_zero q k.question

-- ---- the demands

finished_answer : {q : Question} {budget size visits : ℕ} {result now : List ℕ} → SearchPromise q budget result (Ok (Best size visits)) now → Finished q size now
unfolding search_answer outcome
finished_answer {q} {budget} {size} {visits} {result} {now} p =
    let k = best_searchable p in
    let e = ends_best (said k p) in
    let enough = leb-true (visits_for q) budget e.0 in
    record { first_maximum = subst (λ (s : List ℕ). FirstHolding ◌<◌ (fitting q) (pinned q) (unheld q) s) (sym (enough_kept k p enough)) (walk_first_holding q k.question); sized = e.1 }

unfinished_answer : {q : Question} {budget size visits : ℕ} {result now : List ℕ} → SearchPromise q budget result (Ok (Unfinished size visits)) now → StillFits q size visits now
unfolding search_answer outcome
unfinished_answer {q} {budget} {size} {visits} p =
    let k = unfinished_searchable p in
    let c = now_clique k p in
    let e = ends_unfinished (said k p) in
    -- the visits are the budget
    let spent : visits ≡ budget = e.2 ∙ (outcome_short (search_visits q) budget (leb-false (visits_for q) budget e.0)).1 in
    record { unheld_jobs = c.0; all_fit = c.1; sized = e.1; holds_pins = λ h. now_holds k p (omega arith); empty_at_0 = λ z. empty_at_0 k p (sym spent ∙ z) }

pub demand_2 : Demand2
demand_2 = record {
  finished = finished_answer;
  unfinished = unfinished_answer;
  accepted_always = always_accepted;
  reads_to_one = one_table;
  writes_back = read_then_write;
  reads_back = write_then_read;
}

pub demand_3 : Demand3
unfolding met
demand_3 = record { within_budget = within; always_the_same = same; never_smaller = never; at_most = λ k. visits_at_most _ k }
  where
    within : {q : Question} {budget : ℕ} {result : List ℕ} {reply : Result Searched Refusal} {now : List ℕ} → Searchable q result → SearchPromise q budget result reply now → WithinBudget q budget reply now
    within k p = record { enough = enough_reply k p; same_answer = enough_kept k p; smaller = smaller_reply k p; first_met = first_met k p; empty_at_0 = empty_at_0 k p }

    same : {q : Question} {a b : ℕ} {result result' : List ℕ} {reply reply' : Result Searched Refusal} {now now' : List ℕ} → Searchable q result → Searchable q result'
        → SearchPromise q a result reply now → SearchPromise q b result' reply' now' → visits_for q ≤ a → visits_for q ≤ b → (reply ≡ reply') × (now ≡ now')
    same {q} {a} {b} {reply = reply} {reply' = reply'} {now = now} {now' = now'} k k' p p' h h' =
        let jobs-same : jobs now ≡ jobs now' = enough_kept k p h ∙ sym (enough_kept k' p' h') in (
          enough_reply k p h ∙ ap (λ (s : List ℕ). Ok (Best (length s) (visits_for q))) jobs-same ∙ sym (enough_reply k' p' h'),
          accepted_leaves p k ∙ ap (λ (o : Outcome). words o.best) (whole q k.question a h ∙ sym (whole q k.question b h')) ∙ sym (accepted_leaves p' k'),
        )

    never : {q : Question} {a b : ℕ} {result result' : List ℕ} {reply reply' : Result Searched Refusal} {now now' : List ℕ} → Searchable q result → Searchable q result'
        → SearchPromise q a result reply now → SearchPromise q b result' reply' now' → a ≤ b → length (jobs now) ≤ length (jobs now')
    never {q} {a} {b} k k' p p' h = shorter (ap length (result_jobs k p)) (ap length (result_jobs k' p')) (outcome_more (search_visits q) a b h)
      where
        shorter : {m n x y : ℕ} → m ≡ x → n ≡ y → x ≤ y → m ≤ n
        shorter e f l = omega arith
