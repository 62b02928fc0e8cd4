-- A question: its candidates, the rules of what is refused of it in the code's order, what is known where nothing is, and that without pins document 01's list decides.
-- The rule for what a call is lent for its answer may be any. Assumes nothing.
use mathlib.Core.Path.{◌≡◌, refl, sym, ◌∙◌, ap, ap₂}
use mathlib.Core.Bool.{Bool, not, false}
use mathlib.Core.Logic.{inl, inr, ⊎_elim}
use mathlib.Core.List.{List, [], ◌∷◌}
use Prim.Native.Nat.{ℕ, ◌*◌, ◌≤◌, ◌<◌, min}
use native.Mathlib.Omega.{arith}
use lib.ListN.{length}
use Rattle.graphs.specs.Jobs.{up_to, keep, minus, has, ◌∈◌, Ascending, Distinct}
use Rattle.graphs.specs.Clique.{Clique}
use Rattle.graphs.proofs.Lists.{keep_agree, keep_in, keep_part, up_to_in, order_part, ascending_up_to, ascending_distinct}
use Rattle.sets.specs.Words.{in_words, jobs}
use Rattle.sets.specs.Rules.{Rule, when, Applies, Judged, Clear, AllClear, first_given}
use Rattle.sets.specs.Tables.{no1, no2, no3, no5, no6, no7, Accepted}
use Rattle.question.specs.Pins.{no40, no5_pins, no41, no42}
use Rattle.sets.specs.Tables.{Inside}
use Rattle.question.specs.Question.{Question, asked, no_pins, unheld, Answerable, ask_rules}
use Rattle.sets.proofs.Words.{has_jobs, no_jobs}
use Rattle.sets.proofs.Judging.{rule_cases, judged_gives, first_applies, first_clear, first_same, nothing_given, clear_all, all_clear, clear_before}
use Rattle.sets.proofs.Tables.{few_jobs, right_length, accepted, set_inside, no5_clear, no6_clear, no7_clear}
use Rattle.sets.proofs.Verdicts.{when_true, no1_applies, no1_clear, no2_applies, no2_clear, no3_applies, no3_clear, no3_four, passed_before}
use Rattle.question.proofs.Pins.{no40_applies, no40_clear, no40_four, no5_pins_applies, no5_pins_clear, no5_of_pins, pins_inside, no41_clear, no41_apart, no42_clear, no42_clique, in_none, unpinned_clear}

-- ---- the candidates

-- the first n jobs without those held
pub unheld_jobs : (q : Question) {first hs : List ℕ} → q.n ≤ 256 → first ≡ up_to (min 256 q.n) → hs ≡ q.holds → minus first (jobs hs) ≡ unheld q
unfolding minus unheld
unheld_jobs q h e f =
    let m : min 256 q.n ≡ q.n = omega arith in
    ap₂ (λ (l m : List ℕ). keep (λ j. not (has (jobs m) j)) l) (e ∙ ap up_to m) f
    ∙ keep_agree (λ j. not (has (jobs q.holds) j)) (λ j. not (in_words q.holds j)) (up_to q.n) (λ j i. ap not (has_jobs q.holds j (let l = up_to_in q.n j i in omega arith)))

pub ascending_unheld : (q : Question) → Ascending (unheld q)
unfolding unheld
ascending_unheld q = order_part ◌<◌ (keep_part (λ j. not (in_words q.holds j)) (up_to q.n)) (ascending_up_to q.n)

pub distinct_unheld : (q : Question) → Distinct (unheld q)
distinct_unheld q = ascending_distinct (unheld q) (ascending_unheld q)

pub unheld_inside : (q : Question) → Inside q.n (unheld q)
unfolding unheld
unheld_inside q = record { inside = λ j i. up_to_in q.n j (keep_in (λ j. not (in_words q.holds j)) (up_to q.n) j i) }

-- ---- the rules in the code's order

-- those after the lengths
abbrev pub mark_rules : Question → List Rule
mark_rules q = no5_pins q.n q.table q.holds q.pins ∷ no6 q.n q.table ∷ no7 q.n q.table ∷ no41 q.n q.holds q.pins ∷ no42 q.n q.table q.pins ∷ []

module _ (q : Question) (lent : Rule) where
  -- the lent words are a table: the rules say so
  module _ (sized : [] ≡ first_given (no1 q.n ∷ no2 q.n q.table ∷ [])) where
    ask_sized : first_given (no3 q.holds ∷ lent ∷ no40 q.pins ∷ mark_rules q) ≡ first_given (ask_rules q lent)
    ask_sized = passed_before (no1 q.n ∷ no2 q.n q.table ∷ []) (no3 q.holds ∷ lent ∷ no40 q.pins ∷ mark_rules q) sized

    pub sized_no3 : (length q.holds ≡ 4 → ⊥) → 3 ∷ [] ≡ first_given (ask_rules q lent)
    sized_no3 s = sym (first_applies _ _ (no3_applies q.holds s)) ∙ ask_sized

    module _ (four : length q.holds ≡ 4) where
      ask_held : first_given (lent ∷ no40 q.pins ∷ mark_rules q) ≡ first_given (ask_rules q lent)
      ask_held = sym (first_clear _ _ (no3_clear q.holds four)) ∙ ask_sized

      pub ask_lent : {back : List ℕ} → Applies lent back → back ≡ first_given (ask_rules q lent)
      ask_lent a = sym (first_applies _ _ a) ∙ ask_held

      module _ (lent-right : Clear lent) where
        pub sized_no40 : (length q.pins ≡ 4 → ⊥) → 40 ∷ [] ≡ first_given (ask_rules q lent)
        sized_no40 p = sym (first_clear _ _ lent-right ∙ first_applies _ _ (no40_applies q.pins p)) ∙ ask_held

        -- every length is right: the marks decide
        pub sized_rest : length q.pins ≡ 4 → first_given (mark_rules q) ≡ first_given (ask_rules q lent)
        sized_rest p = sym (first_clear _ _ lent-right ∙ first_clear _ _ (no40_clear q.pins p)) ∙ ask_held

  -- the same where its size says so, from the first rule on
  pub ask_no1 : 256 < q.n → first_given (ask_rules q lent) ≡ 1 ∷ []
  unfolding Judged
  ask_no1 h = judged_gives (ask_rules q lent) (inl (no1_applies q.n h))

  module _ (few : q.n ≤ 256) where
    pub ask_no2 : (length q.table ≡ 4 * q.n → ⊥) → first_given (ask_rules q lent) ≡ 2 ∷ []
    unfolding Judged
    ask_no2 l = judged_gives (ask_rules q lent) (inr (no1_clear q.n few, inl (no2_applies q.n q.table l)))

    module _ (long : length q.table ≡ 4 * q.n) where
      pub ask_no3 : (length q.holds ≡ 4 → ⊥) → first_given (ask_rules q lent) ≡ 3 ∷ []
      unfolding Judged
      ask_no3 s = judged_gives (ask_rules q lent) (inr (no1_clear q.n few, inr (no2_clear q.n q.table long, inl (no3_applies q.holds s))))

      module _ (four : length q.holds ≡ 4) (lent-right : Clear lent) where
        -- what is lent is as it must be
        lengths : AllClear (no1 q.n ∷ no2 q.n q.table ∷ no3 q.holds ∷ lent ∷ [])
        unfolding AllClear
        lengths = (no1_clear q.n few, (no2_clear q.n q.table long, (no3_clear q.holds four, (lent-right, tt))))

        pub ask_no40 : (length q.pins ≡ 4 → ⊥) → first_given (ask_rules q lent) ≡ 40 ∷ []
        ask_no40 p = clear_before _ _ lengths ∙ first_applies _ _ (no40_applies q.pins p)

        -- and so are the pins
        pub ask_rest : length q.pins ≡ 4 → first_given (ask_rules q lent) ≡ first_given (mark_rules q)
        ask_rest p = clear_before _ _ lengths ∙ first_clear _ _ (no40_clear q.pins p)

  -- what is known where nothing comes back
  pub ask_passes : first_given (ask_rules q lent) ≡ [] → Answerable q × Clear lent
  unfolding AllClear
  ask_passes e =
      let k = all_clear (ask_rules q lent) e in
      let few = few_jobs q.n k.0 in
      let long = right_length q.n q.table k.1.0 in
      let four = no3_four q.holds k.1.1.0 in
      let marks = k.1.1.1.1.1 in
      let none = no5_of_pins q.n q.table q.holds q.pins long four marks.0 in
      let inside = pins_inside q.n q.table q.holds q.pins long four marks.0 in (
        record {
          accepted_table = accepted q.n q.table q.holds k.0 k.1.0 none marks.1.0 marks.1.1.0;
          hold_words = four;
          holds_inside = set_inside q.n q.table q.holds few long none;
          pin_words = no40_four q.pins k.1.1.1.1.0;
          pins_inside = inside;
          pins_unheld = no41_apart q.n q.holds q.pins marks.1.1.1.0;
          pins_fit = no42_clique q.n q.table q.pins inside marks.1.1.1.1.0;
        },
        k.1.1.1.0,
      )

  -- and nothing does otherwise
  pub ask_accepts : Answerable q → Clear lent → first_given (ask_rules q lent) ≡ []
  unfolding AllClear
  ask_accepts k c =
      let a = k.accepted_table in
      ask_rest a.few a.long k.hold_words c k.pin_words
      ∙ clear_all (mark_rules q) (
        no5_pins_clear q.n q.table q.holds q.pins a.long k.hold_words (no5_clear q.n q.table a q.holds k.holds_inside) k.pins_inside,
        (
          no6_clear q.n q.table a,
          (no7_clear q.n q.table a, (no41_clear q.n q.holds q.pins k.pins_unheld, (no42_clear q.n q.table q.pins a.few k.pins_fit, tt))),
        ),
      )

-- what is lent is not as it must be
pub ask_no4 : (q : Question) {right : Bool} → q.n ≤ 256 → length q.table ≡ 4 * q.n → length q.holds ≡ 4 → right ≡ false → first_given (ask_rules q (when 4 (not right))) ≡ 4 ∷ []
unfolding Judged
ask_no4 q {right} few long four e =
    judged_gives (ask_rules q (when 4 (not right))) (inr (no1_clear q.n few, inr (no2_clear q.n q.table long, inr (no3_clear q.holds four, inl (when_true 4 (ap not e))))))

-- 1 and 4, as `check_question` gives them: 4 where the lent words are a table of n jobs, which is said by the rules or by its size
pub gives_1 : (n : ℕ) (table holds pins : List ℕ) (lent : Rule) → 256 < n → 1 ∷ [] ≡ first_given (ask_rules (asked n table holds pins) lent)
gives_1 n table holds pins lent h = sym (ask_no1 (asked n table holds pins) lent h)

pub gives_lent : (n : ℕ) (table holds pins : List ℕ) (right : Bool) → [] ≡ first_given (no1 n ∷ no2 n table ∷ []) → length holds ≡ 4 → right ≡ false
    → 4 ∷ [] ≡ first_given (ask_rules (asked n table holds pins) (when 4 (not right)))
gives_lent n table holds pins right sized four e = ask_lent (asked n table holds pins) (when 4 (not right)) sized four (when_true 4 (ap not e))

pub gives_4 : (n : ℕ) (table holds pins : List ℕ) (right : Bool) → n ≤ 256 → length table ≡ 4 * n → length holds ≡ 4 → right ≡ false
    → 4 ∷ [] ≡ first_given (ask_rules (asked n table holds pins) (when 4 (not right)))
gives_4 n table holds pins right few long four e = sym (ask_no4 (asked n table holds pins) few long four e)

-- ---- without pins

pub unpinned_answerable : {n : ℕ} {table holds : List ℕ} → Accepted n table → length holds ≡ 4 → ((j : ℕ) → j ∈ jobs holds → j < n) → Answerable (asked n table holds no_pins)
unfolding Clique
unpinned_answerable a four inside =
    record {
      accepted_table = a;
      hold_words = four;
      holds_inside = inside;
      pin_words = refl;
      pins_inside = λ j i. in_none (jobs no_pins) no_jobs j i;
      pins_unheld = λ j i. in_none (jobs no_pins) no_jobs j i;
      pins_fit = λ a b i. in_none (jobs no_pins) no_jobs a i;
    }

module _ (q : Question) (lent : Rule) (unpinned : q.pins ≡ no_pins) where
  -- 5 finds what it finds without them, and 41 and 42 find nothing
  marks_unpinned : q.n ≤ 256 → length q.table ≡ 4 * q.n → length q.holds ≡ 4 → first_given (mark_rules q) ≡ first_given (no5 q.n q.table q.holds ∷ no6 q.n q.table ∷ no7 q.n q.table ∷ [])
  marks_unpinned few long four = ⊎_elim
      (λ a. first_applies _ _ (no5_pins_applies q.n q.table q.holds q.pins long four _ a) ∙ sym (first_applies _ _ a))
      (λ c. first_clear _ _ (no5_pins_clear q.n q.table q.holds q.pins long four c (λ j i. in_none (jobs q.pins) empty j i))
      ∙ first_same (no6 q.n q.table) _ _ (λ _. first_same (no7 q.n q.table) _ _ (λ _. clear_all _ (unpinned_clear q.n q.table q.holds q.pins few empty) ∙ sym nothing_given))
      ∙ sym (first_clear _ _ c))
      (rule_cases (no5 q.n q.table q.holds))
    where
      empty : jobs q.pins ≡ []
      empty = ap jobs unpinned ∙ no_jobs

  -- "1, 2, 3, 4, 5, 6, 7.": the list of a question without pins is document 01's
  pub ask_unpinned : first_given (ask_rules q lent) ≡ first_given (no1 q.n ∷ no2 q.n q.table ∷ no3 q.holds ∷ lent ∷ no5 q.n q.table q.holds ∷ no6 q.n q.table ∷ no7 q.n q.table ∷ [])
  ask_unpinned =
      first_same (no1 q.n) _ _ (λ few.
      first_same (no2 q.n q.table) _ _ (λ long.
      first_same (no3 q.holds) _ _ (λ four.
      first_same lent _ _ (λ _.
      first_clear _ _ (no40_clear q.pins (ap length unpinned)) ∙ marks_unpinned (few_jobs q.n few) (right_length q.n q.table long) (no3_four q.holds four)))))
