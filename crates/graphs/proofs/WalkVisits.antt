-- How many visits the walk makes: at most 2q - 1, where q counts the cliques of the candidates; and no more of them where the test says "over"
-- more often, with the same set kept in the end, as long as that test keeps its promise.
use mathlib.Core.Path.{◌≡◌, refl, sym, ◌∙◌, ap, subst}
use mathlib.Core.Bool.{Bool, true, false}
use mathlib.Core.Logic.{◌⊎◌, inl, inr, ⊎_elim}
use mathlib.Core.List.{List, [], ◌∷◌, ◌++◌}
use Prim.Native.Nat.{ℕ, ◌+◌, ◌-◌, ◌*◌, ◌≤◌, ◌<◌}
use native.Mathlib.Omega.{arith}
use native.Mathlib.Nat.{le_refl}
use lib.ListN.{length, length-append}
use Rattle.graphs.specs.Jobs.{keep, Distinct}
use Rattle.graphs.specs.Jobs.Part.{left}
use Rattle.graphs.specs.Clique.{Extends, clique_count}
use Rattle.graphs.specs.Walk.{Test, any_of, larger, Walked, walk_from, walk_of, NoWorse, AtVisit, Sound}
use Rattle.graphs.proofs.Bools.{cases}
use Rattle.graphs.proofs.Lists.{keep_part, order_part, order_tail, distinct_head, part_refl}
use Rattle.graphs.proofs.Cliques.{count_part, count_pos, count_cons}
use Rattle.graphs.proofs.Walk.Stops.{empty, tested}
use Rattle.graphs.proofs.Walk.{remaining, goes_part, Stops, Goes, inner, rest, around, WhereStops, WhereGoes, walk_stops, walk_goes, walk_induction, kept_grows}
use Rattle.graphs.proofs.WalkFinds.{extends_part, extends_with, kept_extends, visit_filtered, inner_visit, rest_visit}

-- ---- at most 2q - 1

abbrev Few : (ℕ → ℕ → Bool) → List ℕ → List ℕ → List ℕ → List ℕ → Walked → Type 0
Few fits c p x k w = Distinct p → length w.visits + 1 ≤ 2 * clique_count fits p

module _ (fits : ℕ → ℕ → Bool) (two_way : (a b : ℕ) → fits a b ≡ fits b a) where
  pub visits_few : (over : Test) (c p x k : List ℕ) → Distinct p → length (walk_from fits over c p x k).visits + 1 ≤ 2 * clique_count fits p
  visits_few over = walk_induction fits over (Few fits) stops goes
    where
      stops : WhereStops fits over (Few fits)
      stops c p x k e d = let q = count_pos fits p in omega arith

      goes : WhereGoes fits over (Few fits)
      goes c p x k v r g f e d =
          let once = order_part _ (goes_part fits over g) d in
          let all = count_part fits (goes_part fits over g) in
          let both = count_cons fits two_way v r (distinct_head v r once) in
          let a = f (order_part _ (keep_part (fits v) r) (order_tail _ v r once)) in
          let b = e (order_tail _ v r once) in
          let n = length-append (inner fits (walk_from fits over) c x k v r).visits (rest fits (walk_from fits over) c x k v r).visits in
          omega arith

  -- "N is at most 2q - 1, where q counts the cliques of unheld jobs, the empty one included."
  pub visits_bound : (tests : List Test) (c p : List ℕ) → Distinct p → length (walk_of fits tests c p).visits ≤ 2 * clique_count fits p - 1
  unfolding walk_of
  visits_bound tests c p d = let h = visits_few (any_of tests) c p [] [] d in omega arith

  -- ---- each test only helps

  -- `more` says "over" wherever `over` does, and keeps its promise
  module _ (over more : Test) (helps : (c p x k : List ℕ) → over c p x k ≡ true → more c p x k ≡ true) (sound : Sound fits more) where
    pub sound_less : Sound fits over
    unfolding Sound
    sound_less c p x k w e = sound c p x k w (helps c p x k e)

    module _ {c p x k : List ℕ} (w : AtVisit fits c p x k) where
      -- where `more` says "over", no clique of C and the candidates left is larger than what is kept
      nothing_larger : more c (remaining fits c p k) x (larger c k) ≡ true → (a : List ℕ) → Extends fits c (remaining fits c p k) a → length a ≤ length (larger c k)
      unfolding Sound
      nothing_larger o a e =
          let l = sound c (remaining fits c p k) x (larger c k) (visit_filtered fits w) o e.added e.inside e.clique in
          let n = length-append c e.added in
          let m = ap length e.same in
          omega arith

      -- so the walk with `over`, which goes on, keeps that
      nothing_new : {v : ℕ} {r : List ℕ} → Goes fits over c p x k v r → more c (remaining fits c p k) x (larger c k) ≡ true → (rest fits (walk_from fits over) c x k v r).kept ≡ larger c k
      nothing_new {v} {r} g o =
          let grows = kept_grows fits over (c ++ v ∷ []) (keep (fits v) r) (keep (fits v) x) (larger c k) in
          let still = settle (kept_extends fits two_way over c r (x ++ v ∷ []) (inner fits (walk_from fits over) c x k v r).kept) (extends_part fits (left (part_refl r))) grows in
          let begun = settle (kept_extends fits two_way over (c ++ v ∷ []) (keep (fits v) r) (keep (fits v) x) (larger c k)) (extends_with fits two_way) (le_refl (length (larger c k))) in
          still ∙ begun
        where
          settle : {a b : List ℕ} {E : Type 0} → (b ≡ a) ⊎ (E × (length a < length b)) → (E → Extends fits c (v ∷ r) b) → length (larger c k) ≤ length a → b ≡ a
          settle (inl e) f l = e
          settle {a} {b} (inr m) f l = absurd (omega (arith, m.1, nothing_larger o b (subst (λ (q : List ℕ). Extends fits c q b) (sym g.split) (f m.0))))

    same_in_fewer : WhereGoes fits over (λ c p x k w. AtVisit fits c p x k → NoWorse (walk_from fits more c p x k) w)
    same_in_fewer c p x k v r g f e w = ⊎_elim cut both (cases (more c (remaining fits c p k) x (larger c k)))
      where
        cut : more c (remaining fits c p k) x (larger c k) ≡ true → NoWorse (walk_from fits more c p x k) (around fits (walk_from fits over) c x k v r)
        cut o = rw (walk_stops fits more (tested o)) (record { same = sym (nothing_new w g o); fewer = omega arith })

        both : more c (remaining fits c p k) x (larger c k) ≡ false → NoWorse (walk_from fits more c p x k) (around fits (walk_from fits over) c x k v r)
        both o =
            let i = f (inner_visit fits two_way over sound_less g w) in
            let j = e (rest_visit fits two_way over sound_less g w) in
            let new = (inner fits (walk_from fits more) c x k v r).visits in
            let old = (inner fits (walk_from fits over) c x k v r).visits in
            let after = rest fits (walk_from fits over) c x k v r in
            let next : List ℕ → Walked = walk_from fits more c r (x ++ v ∷ []) in
            let all : length (c ∷ new ++ (next (inner fits (walk_from fits over) c x k v r).kept).visits) ≤ length (c ∷ old ++ after.visits) =
            omega (arith, length-append new (next (inner fits (walk_from fits over) c x k v r).kept).visits, length-append old after.visits) in
            rw (walk_goes fits more (record { on = o; split = g.split }))
            (subst (λ (m : List ℕ). NoWorse (record { kept = (next m).kept; visits = c ∷ new ++ (next m).visits }) (around fits (walk_from fits over) c x k v r)) (sym i.same) (record { same = j.same; fewer = all }))

    pub more_helps : (c p x k : List ℕ) → AtVisit fits c p x k → NoWorse (walk_from fits more c p x k) (walk_from fits over c p x k)
    more_helps = walk_induction fits over (λ c p x k w. AtVisit fits c p x k → NoWorse (walk_from fits more c p x k) w) stops same_in_fewer
      where
        stops : WhereStops fits over (λ c p x k w. AtVisit fits c p x k → NoWorse (walk_from fits more c p x k) w)
        stops c p x k e w = rw (walk_stops fits more (by e)) (record { same = refl; fewer = le_refl 1 })
          where
            by : Stops fits over c p x k → Stops fits more c p x k
            by (empty e) = empty e
            by (tested o) = tested (helps c (remaining fits c p k) x (larger c k) o)
