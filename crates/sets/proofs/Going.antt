-- Going up through a set: its lowest job is the head of its list, what is left without it is the tail. Assumes nothing.
use mathlib.Core.Path.{◌≡◌, refl, sym, ◌∙◌, ap}
use mathlib.Core.List.{List, [], ◌∷◌}
use Prim.Native.Nat.{ℕ, ◌≤◌, ◌<◌}
use native.Mathlib.Omega.{arith}
use lib.ListN.{length}
use Rattle.graphs.specs.Jobs.{up_to, ◌∈◌, Ascending, lowest, without}
use Rattle.graphs.proofs.Lists.{ascending_distinct, in_head, length_keep, length_up_to}
use Rattle.graphs.proofs.Pigeonhole.{without_head}
use Rattle.sets.specs.Words.{in_words, jobs}
use Rattle.sets.proofs.Words.{jobs_below, jobs_ascending}

-- where the lowest job is one, the list is that job and what is left without it; 256 says that there is none
lowest_cons : (l : List ℕ) → Ascending l → lowest l < 256 → l ≡ lowest l ∷ without (lowest l) l
unfolding lowest
lowest_cons [] o h = absurd (omega arith)
lowest_cons (a ∷ l) o h = ap (λ (m : List ℕ). a ∷ m) (sym (without_head a l (ascending_distinct (a ∷ l) o)))

lowest_nil : (l : List ℕ) → ((j : ℕ) → j ∈ l → j < 256) → 256 ≤ lowest l → l ≡ []
unfolding lowest
lowest_nil [] b h = refl
lowest_nil (a ∷ l) b h = absurd (let k = b a (in_head a l) in omega arith)

lowest_at_most : (l : List ℕ) → ((j : ℕ) → j ∈ l → j < 256) → lowest l ≤ 256
unfolding lowest
lowest_at_most [] b = omega arith
lowest_at_most (a ∷ l) b = let k = b a (in_head a l) in omega arith

-- no job is above 256, so what is not 256 is a job
pub lowest_within : (ws : List ℕ) → lowest (jobs ws) ≤ 256
lowest_within ws = lowest_at_most (jobs ws) (jobs_below ws)

pub lowest_some : (ws : List ℕ) → lowest (jobs ws) < 256 → jobs ws ≡ lowest (jobs ws) ∷ without (lowest (jobs ws)) (jobs ws)
lowest_some ws h = lowest_cons (jobs ws) (jobs_ascending ws) h

pub lowest_empty : (ws : List ℕ) → 256 ≤ lowest (jobs ws) → jobs ws ≡ []
lowest_empty ws h = lowest_nil (jobs ws) (jobs_below ws) h

-- a set has at most 256 jobs
pub jobs_length : (ws : List ℕ) → length (jobs ws) ≤ 256
unfolding jobs
jobs_length ws =
    let all = length_up_to 256 in
    let some = length_keep (in_words ws) (up_to 256) in
    omega arith

-- y is the lowest job of a set, and l what is left without it
pub lowest_gone : (ws : List ℕ) {l : List ℕ} {y : ℕ} → y ≡ lowest (jobs ws) → l ≡ without (lowest (jobs ws)) (jobs ws) → l ≡ without y (jobs ws)
lowest_gone ws e r = r ∙ ap (λ (x : ℕ). without x (jobs ws)) (sym e)

-- it comes first, and then those; or there is none
pub lowest_then : (ws : List ℕ) {l : List ℕ} {y : ℕ} → y ≡ lowest (jobs ws) → y < 256 → l ≡ without (lowest (jobs ws)) (jobs ws) → jobs ws ≡ y ∷ l
lowest_then ws e h r = rw (e, r) (lowest_some ws (rw (← e) h))

pub lowest_last : (ws : List ℕ) {y : ℕ} → y ≡ lowest (jobs ws) → 256 ≤ y → jobs ws ≡ []
lowest_last ws e h = lowest_empty ws (rw (← e) h)
