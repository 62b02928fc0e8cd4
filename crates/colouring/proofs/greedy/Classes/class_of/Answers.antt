-- `class_of`: `find` says of the set that it found that it has the job, and of every set before it that it has not; where it found none, no set has it.
use Rattle.std.proofs.Common.{◌≡◌, ℕ, List, ◌<◌, ◌≤◌, false, Some, None, arith, rules}
use Rattle.std.proofs.lemmas.Iterator.{first_from_Range, serves_from_Range}
use borrow.Author.Tests.{tests}
use Rattle.graphs.specs.Jobs.{has, ◌∈◌}
use Rattle.sets.specs.Words.{jobs}
use Rattle.rows.specs.Rows.{set_at, jobs_at}
use Rattle.rows.proofs.Rows.{set_short}
use Rattle.colouring.proofs.Numbers.{set_within, set_found, set_none}
use Rattle.colouring.proofs.greedy.Classes.class_of.Goals.{In-Some}
use Rattle.colouring.proofs.greedy.Classes.class_of.Goals as goal

pub find-requires-clause-callable : goal.find-requires-clause-callable
find-requires-clause-callable c = serves_from_Range (λ x q k. search (rules, tests)) (λ i low high.
    let within = set_within c.args.self.now.sets.width c.args.self.now.k i c.args.self.now.sets.words.now c.args.self.now.room high in
    let short = set_short c.args.self.now.sets.width c.args.self.now.sets.words.now i in
    search rules)

abbrev class : In-Some → ℕ → List ℕ
class c i = set_at c.args.self.now.sets.width c.args.self.now.sets.words.now i

-- the set found has the job, and those before it have not
found : (c : In-Some) → (0 ≤ c.in-Some.i) × (c.in-Some.i < c.args.self.now.k) × (c.args.j ∈ jobs (class c c.in-Some.i)) × ((m : ℕ) → 0 ≤ m → m < c.in-Some.i → has (jobs (class c m)) c.args.j ≡ false)
found c = first_from_Range _ _ _ (Some c.in-Some.i) (λ i. c.args.j ∈ jobs (class c i)) (λ i. has (jobs (class c i)) c.args.j ≡ false) c.in-Some.ensures.ran
    (λ i q e. search (rules, tests)) (λ i q e. search (rules, tests))

pub returns-in-Some : goal.returns-in-Some
unfolding jobs_at
returns-in-Some c =
    let here = found c in
    set_found c.args.self.now.sets.width c.args.self.now.sets.words.now c.args.self.now.k c.args.j c.in-Some.i here.1 here.2 (λ m l. here.3 m (omega arith) l)

pub overflow_cast-result : goal.overflow_cast-result
overflow_cast-result c = record { fits = let here = found c in omega arith }

pub returns-in-None : goal.returns-in-None
unfolding jobs_at
returns-in-None c =
    let none = first_from_Range _ _ _ None (λ i. c.args.j ∈ jobs (set_at c.args.self.now.sets.width c.args.self.now.sets.words.now i)) (λ i. has (jobs (set_at c.args.self.now.sets.width c.args.self.now.sets.words.now i)) c.args.j ≡ false)
    c.in-None.ensures.ran (λ i q e. search (rules, tests)) (λ i q e. search (rules, tests)) in
    set_none c.args.self.now.sets.width c.args.self.now.sets.words.now c.args.self.now.k c.args.j (λ i l. none i (omega arith) l)
