-- Demand 1: each number comes back exactly when its row of document 01's table, or W-203, says so. One theorem over any list of rules (`given_exactly` of sets) says it
-- for all ten; what is left is what each rule asks. Assumes nothing.
use Rattle.std.specs.Prelude.{Result, Ok, Err}
use mathlib.Core.Path.{◌≡◌, refl, sym, ◌∙◌, ap, subst}
use mathlib.Core.Logic.{◌↔◌}
use mathlib.Core.List.{List, [], ◌∷◌, ◌++◌}
use Prim.Native.Nat.{ℕ, ◌+◌, ◌*◌, ◌≤◌, ◌<◌}
use native.Mathlib.Omega.{arith}
use lib.ListN.{length}
use Rattle.graphs.specs.Jobs.{has}
use Rattle.sets.specs.declared.refusal.Refusal.{Refusal}
use Rattle.sets.specs.declared.refusal.Refusal.TheVariants.{Alone, At}
use Rattle.sets.specs.declared.refusal.Fault.TheVariants.{TooManyJobs, TableLength, HoldLength, SetLength, BeyondJobs, SelfPair, OneWay, PinLength, PinHeld, PinsApart}
use Rattle.sets.specs.Refusals.{comes_back}
use Rattle.sets.specs.Places.{Found, Nowhere}
use Rattle.sets.specs.Rules.{Rule, first_given, Clear, AllClear, number_of}
use Rattle.sets.specs.Tables.{no1, no2, no3, no4, no6, no7, itself, one_way, misfit}
use Rattle.question.specs.Pins.{no40, no5_pins, pin_held, no41, no42}
use Rattle.question.specs.Question.{Question}
use Rattle.sets.proofs.Judging.{judged_exactly, given_exactly, clear_split, clear_join}
use Rattle.sets.proofs.Tables.{few_jobs, right_length}
use Rattle.sets.proofs.Verdicts.{no1_applies, no1_clear, no1_over, no2_applies, no2_clear, no2_unequal, no3_applies, no3_clear, no3_four, no3_unequal, no4_applies, no4_clear, no4_four, no4_unequal, across_exactly, refusal_back}
use Rattle.question.proofs.Pins.{no40_applies, no40_clear, no40_four, no40_unequal}
use Rattle.search.specs.declared.Searched.{Searched}
use Rattle.search.specs.declared.Searched.TheVariants.{Best, Unfinished}
use Rattle.search.specs.Search.{search_rules, Searchable, SearchPromise}
use Rattle.search.proofs.Searching.{search_accepts}
use Rattle.demands.specs.Demand1.{place, Sized, outside_jobs, WellMarked, TurnedDown, Demand1}
use Rattle.demands.proofs.Replies.{refused_exactly, refused_leaves, best_searchable, unfinished_searchable}

-- one equivalence after another
then : {A B C : Type 0} → A ↔ B → B ↔ C → A ↔ C
then f g = (λ a. g.0 (f.0 a), λ c. f.1 (g.1 c))

module _ (q : Question) (result : List ℕ) where
  -- the rules before number 5, and what it is that none of them applies
  lengths : List Rule
  lengths = no1 q.n ∷ no2 q.n q.table ∷ no3 q.holds ∷ no4 result ∷ no40 q.pins ∷ []

  sized : AllClear lengths ↔ Sized q result
  unfolding lengths AllClear
  sized = (
    λ k. record {
      few = few_jobs q.n k.0;
      table_words = right_length q.n q.table k.1.0;
      hold_words = no3_four q.holds k.1.1.0;
      result_words = no4_four result k.1.1.1.0;
      pin_words = no40_four q.pins k.1.1.1.1.0;
    },
    λ s. (no1_clear q.n s.few, (no2_clear q.n q.table s.table_words, (no3_clear q.holds s.hold_words, (no4_clear result s.result_words, (no40_clear q.pins s.pin_words, tt))))),
  )

  -- numbers 5, 6 and 7, and what it is that no place is found for them
  marks : List Rule
  marks = no5_pins q.n q.table q.holds q.pins ∷ no6 q.n q.table ∷ no7 q.n q.table ∷ []

  sound : AllClear marks ↔ WellMarked q
  unfolding marks AllClear Clear no5_pins no6 no7
  sound = (λ k. record { none_outside = k.0; none_itself = k.1.0; none_one_way = k.1.1.0 }, λ s. (s.none_outside, (s.none_itself, (s.none_one_way, tt))))

  given_1 : (first_given (search_rules q result) ≡ 1 ∷ []) ↔ (256 < q.n)
  unfolding search_rules AllClear number_of has no1 no2 no3 no4 no40 no5_pins no6 no7 no41 no42
  given_1 = then (given_exactly [] (no1 q.n) _ 1 [] refl refl) (λ h. no1_over q.n (1 ∷ []) h.1, λ h. (tt, no1_applies q.n h))

  given_2 : (first_given (search_rules q result) ≡ 2 ∷ []) ↔ ((q.n ≤ 256) × (length q.table ≡ 4 * q.n → ⊥))
  unfolding search_rules AllClear number_of has no1 no2 no3 no4 no40 no5_pins no6 no7 no41 no42
  given_2 = then (given_exactly (no1 q.n ∷ []) (no2 q.n q.table) _ 2 [] refl refl)
      (λ h. (few_jobs q.n h.0.0, no2_unequal q.n q.table (2 ∷ []) h.1), λ h. ((no1_clear q.n h.0, tt), no2_applies q.n q.table h.1))

  given_3 : (first_given (search_rules q result) ≡ 3 ∷ []) ↔ ((q.n ≤ 256) × (length q.table ≡ 4 * q.n) × (length q.holds ≡ 4 → ⊥))
  unfolding search_rules AllClear number_of has no1 no2 no3 no4 no40 no5_pins no6 no7 no41 no42
  given_3 = then (given_exactly (no1 q.n ∷ no2 q.n q.table ∷ []) (no3 q.holds) _ 3 [] refl refl) (
    λ h. (few_jobs q.n h.0.0, right_length q.n q.table h.0.1.0, no3_unequal q.holds (3 ∷ []) h.1),
    λ h. ((no1_clear q.n h.0, (no2_clear q.n q.table h.1, tt)), no3_applies q.holds h.2),
  )

  given_4 : (first_given (search_rules q result) ≡ 4 ∷ []) ↔ ((q.n ≤ 256) × (length q.table ≡ 4 * q.n) × (length q.holds ≡ 4) × (length result ≡ 4 → ⊥))
  unfolding search_rules AllClear number_of has no1 no2 no3 no4 no40 no5_pins no6 no7 no41 no42
  given_4 = then (given_exactly (no1 q.n ∷ no2 q.n q.table ∷ no3 q.holds ∷ []) (no4 result) _ 4 [] refl refl) (
    λ h. (few_jobs q.n h.0.0, right_length q.n q.table h.0.1.0, no3_four q.holds h.0.1.1.0, no4_unequal result (4 ∷ []) h.1),
    λ h. ((no1_clear q.n h.0, (no2_clear q.n q.table h.1, (no3_clear q.holds h.2, tt))), no4_applies result h.3),
  )

  given_40 : (first_given (search_rules q result) ≡ 40 ∷ []) ↔ ((q.n ≤ 256) × (length q.table ≡ 4 * q.n) × (length q.holds ≡ 4) × (length result ≡ 4) × (length q.pins ≡ 4 → ⊥))
  unfolding search_rules AllClear number_of has no1 no2 no3 no4 no40 no5_pins no6 no7 no41 no42
  given_40 = then (given_exactly (no1 q.n ∷ no2 q.n q.table ∷ no3 q.holds ∷ no4 result ∷ []) (no40 q.pins) _ 40 [] refl refl) (
    λ h. (few_jobs q.n h.0.0, right_length q.n q.table h.0.1.0, no3_four q.holds h.0.1.1.0, no4_four result h.0.1.1.1.0, no40_unequal q.pins (40 ∷ []) h.1),
    λ h. ((no1_clear q.n h.0, (no2_clear q.n q.table h.1, (no3_clear q.holds h.2, (no4_clear result h.3, tt)))), no40_applies q.pins h.4),
  )

  -- the rules of places, each behind the lengths and the places before it
  module _ (r c : ℕ) where
    given_5 : (first_given (search_rules q result) ≡ 5 ∷ r ∷ c ∷ []) ↔ (Sized q result × Found (outside_jobs q) (q.n + 2) 256 r c)
    unfolding search_rules lengths number_of has no1 no2 no3 no4 no40 no5_pins no6 no7 no41 no42
    given_5 =
        let place = across_exactly 5 (outside_jobs q) (q.n + 2) 256 r c in
        then (given_exactly lengths (no5_pins q.n q.table q.holds q.pins) _ 5 (r ∷ c ∷ []) refl refl) (λ h. (sized.0 h.0, place.0 h.1), λ h. (sized.1 h.0, place.1 h.1))

    given_6 : (first_given (search_rules q result) ≡ 6 ∷ r ∷ c ∷ []) ↔ (Sized q result × Nowhere (outside_jobs q) (q.n + 2) 256 × Found (itself q.table) q.n q.n r c)
    unfolding search_rules lengths number_of has no1 no2 no3 no4 no40 no5_pins no6 no7 no41 no42 Clear AllClear
    given_6 =
        let before = no5_pins q.n q.table q.holds q.pins ∷ [] in
        let place = across_exactly 6 (itself q.table) q.n q.n r c in
        then (given_exactly (lengths ++ before) (no6 q.n q.table) _ 6 (r ∷ c ∷ []) refl refl) (
          λ h. let k = clear_split lengths before h.0 in (sized.0 k.0, k.1.0, place.0 h.1),
          λ h. (clear_join lengths before (sized.1 h.0) (h.1, tt), place.1 h.2),
        )

    given_7 : (first_given (search_rules q result) ≡ 7 ∷ r ∷ c ∷ [])
        ↔ (Sized q result × Nowhere (outside_jobs q) (q.n + 2) 256 × Nowhere (itself q.table) q.n q.n × Found (one_way q.table) q.n q.n r c)
    unfolding search_rules lengths number_of has no1 no2 no3 no4 no40 no5_pins no6 no7 no41 no42 Clear AllClear
    given_7 =
        let before = no5_pins q.n q.table q.holds q.pins ∷ no6 q.n q.table ∷ [] in
        let place = across_exactly 7 (one_way q.table) q.n q.n r c in
        then (given_exactly (lengths ++ before) (no7 q.n q.table) _ 7 (r ∷ c ∷ []) refl refl) (
          λ h. let k = clear_split lengths before h.0 in (sized.0 k.0, k.1.0, k.1.1.0, place.0 h.1),
          λ h. (clear_join lengths before (sized.1 h.0) (h.1, (h.2, tt)), place.1 h.3),
        )

    given_41 : (first_given (search_rules q result) ≡ 41 ∷ r ∷ c ∷ []) ↔ (Sized q result × WellMarked q × Found (pin_held q.n q.holds q.pins) (q.n + 2) 256 r c)
    unfolding search_rules lengths marks number_of has no1 no2 no3 no4 no40 no5_pins no6 no7 no41 no42
    given_41 =
        let place = across_exactly 41 (pin_held q.n q.holds q.pins) (q.n + 2) 256 r c in
        then (given_exactly (lengths ++ marks) (no41 q.n q.holds q.pins) _ 41 (r ∷ c ∷ []) refl refl) (
          λ h. let k = clear_split lengths marks h.0 in (sized.0 k.0, sound.0 k.1, place.0 h.1),
          λ h. (clear_join lengths marks (sized.1 h.0) (sound.1 h.1), place.1 h.2),
        )

    given_42 : (first_given (search_rules q result) ≡ 42 ∷ r ∷ c ∷ [])
        ↔ (Sized q result × WellMarked q × Nowhere (pin_held q.n q.holds q.pins) (q.n + 2) 256 × Found (misfit q.table q.pins) q.n q.n r c)
    unfolding search_rules lengths marks number_of has no1 no2 no3 no4 no40 no5_pins no6 no7 no41 no42 Clear AllClear
    given_42 =
        let last = no41 q.n q.holds q.pins ∷ [] in
        let place = across_exactly 42 (misfit q.table q.pins) q.n q.n r c in
        then (given_exactly (lengths ++ marks ++ last) (no42 q.n q.table q.pins) [] 42 (r ∷ c ∷ []) refl refl) (
          λ h. let k = clear_split lengths (marks ++ last) h.0 in let m = clear_split marks last k.1 in (sized.0 k.0, sound.0 m.0, m.1.0, place.0 h.1),
          λ h. (clear_join lengths (marks ++ last) (sized.1 h.0) (clear_join marks last (sound.1 h.1) (h.2, tt)), place.1 h.3),
        )

-- ---- the demand

turned_down : {q : Question} {budget : ℕ} {result : List ℕ} {reply : Result Searched Refusal} {now : List ℕ} → SearchPromise q budget result reply now → TurnedDown q result reply
turned_down {q} {result = result} p =
    record {
      too_many_jobs = then (refused_exactly p (Alone TooManyJobs)) (given_1 q result);
      table_length = then (refused_exactly p (Alone TableLength)) (given_2 q result);
      hold_length = then (refused_exactly p (Alone HoldLength)) (given_3 q result);
      result_length = then (refused_exactly p (Alone SetLength)) (given_4 q result);
      pin_length = then (refused_exactly p (Alone PinLength)) (given_40 q result);
      outside_the_jobs = λ r c. then (refused_exactly p (At BeyondJobs (place r c))) (given_5 q result r c);
      with_itself = λ r c. then (refused_exactly p (At SelfPair (place r c))) (given_6 q result r c);
      one_way_only = λ r c. then (refused_exactly p (At OneWay (place r c))) (given_7 q result r c);
      held_pin = λ r c. then (refused_exactly p (At PinHeld (place r c))) (given_41 q result r c);
      pins_apart = λ a b. then (refused_exactly p (At PinsApart (place a b))) (given_42 q result a b);
    }

-- an accepted search is not refused, and what is refused in no way is accepted
no_other : {q : Question} {budget : ℕ} {result : List ℕ} {reply : Result Searched Refusal} {now : List ℕ} → SearchPromise q budget result reply now → ((f : Refusal) → reply ≡ Err f → ⊥) ↔ Searchable q result
no_other {q} {budget} {result} {reply} {now} p = (by reply p, λ k f e. let b = refusal_back f in let z = ap length (sym (search_accepts k) ∙ (refused_exactly p f).0 e ∙ b.is) in omega arith)
  where
    by : (r : Result Searched Refusal) → SearchPromise q budget result r now → ((f : Refusal) → r ≡ Err f → ⊥) → Searchable q result
    by (Ok (Best size visits)) p never = best_searchable p
    by (Ok (Unfinished size visits)) p never = unfinished_searchable p
    by (Err f) p never = absurd (never f refl)

unchanged : {q : Question} {budget : ℕ} {result : List ℕ} {reply : Result Searched Refusal} {now : List ℕ} → SearchPromise q budget result reply now → (f : Refusal) → reply ≡ Err f → now ≡ result
unchanged {q} {budget} {result} {now = now} p f e = refused_leaves (subst (λ (r : Result Searched Refusal). SearchPromise q budget result r now) e p)

pub demand_1 : Demand1
demand_1 = record { turned_down = turned_down; by_the_list = λ p f. then (refused_exactly p f) (judged_exactly _ (comes_back f)); unchanged = unchanged; no_other = no_other }
