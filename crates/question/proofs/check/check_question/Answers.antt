-- `check_question`: each check adds its rules behind those that passed: 1 and 2 of the table, 3, 4, 40, then the marks. The table and the sets are the lent words.
-- What a way has passed is left to the tactics to find, and 4 to the law named at the function, so that no answer rests on the name of a test.
use Rattle.std.proofs.Common.{◌≡◌, Bool, true, not, ℕ, List, [], ◌∷◌, ◌++◌, length, ◌∙◌, ap, arith, rules}
use Rattle.std.proofs.lemmas.Result.{err_from_is_err_and}
use Rattle.std.specs.Borrow.{Bor}
use Rattle.sets.specs.Rules.{Rule, when, first_given}
use Rattle.sets.specs.Tables.{no1, no2, no3, no6, no7}
use Rattle.question.specs.Pins.{no40, no5_pins, no41, no42}
use Rattle.question.specs.Question.{Question, asked, ask_rules}
use Rattle.sets.proofs.Verdicts.{when_false, refused_before, passed_before}
use Rattle.question.proofs.Asking.{mark_rules, sized_no3, sized_no40, sized_rest}
use Rattle.question.proofs.check.check_question.Goals as goal

-- the rules on the table's size, and those on the marks: 5, then 6 and 7, then 41 and 42
abbrev sizes : Question → List Rule
sizes q = no1 q.n ∷ no2 q.n q.table ∷ []

abbrev fives : Question → List Rule
fives q = no5_pins q.n q.table q.holds q.pins ∷ []

abbrev pairs : Question → List Rule
pairs q = no6 q.n q.table ∷ no7 q.n q.table ∷ []

abbrev pinned : Question → List Rule
pinned q = no41 q.n q.holds q.pins ∷ no42 q.n q.table q.pins ∷ []

-- every length is right: the marks decide
record Measured (q : Question) (right : Bool) : Type 0 where
  pub sized : [] ≡ first_given (sizes q)
  pub holds : length q.holds ≡ 4
  pub lent : right ≡ true
  pub pins : length q.pins ≡ 4

rest : (q : Question) (right : Bool) → Measured q right → first_given (mark_rules q) ≡ first_given (ask_rules q (when 4 (not right)))
rest q right m = sized_rest q (when 4 (not right)) m.sized m.holds (when_false 4 (ap not m.lent)) m.pins

-- past 5
passed : (q : Question) (right : Bool) → Measured q right → [] ≡ first_given (fives q) → first_given (pairs q ++ pinned q) ≡ first_given (ask_rules q (when 4 (not right)))
passed q right m e = passed_before (fives q) (pairs q ++ pinned q) e ∙ rest q right m

-- the question of the table and the sets that the code has made, which is the one that was asked
same_question : (m n : ℕ) (u table h holds p pins : List ℕ) → m ≡ n → u ≡ table → h ≡ holds → p ≡ pins → asked m u h p ≡ asked n table holds pins
same_question m n u table h holds p pins d e f g = cc

pub returns-in_err-table : goal.returns-in_err-table
returns-in_err-table c =
    let a = c.args in
    let q = asked a.n a.table.now a.holds.now a.pins.now in
    let p = err_from_is_err_and c.from_residual.result c.from_residual.ensures.1 in
    rw (p.1, p.2) (refused_before _ (sizes q) (no3 q.holds ∷ when 4 (not a.right) ∷ no40 q.pins ∷ mark_rules q) c.in_err-table.ensures.refused)

pub returns-then-holds-ne-SET_WORDS : goal.returns-then-holds-ne-SET_WORDS
returns-then-holds-ne-SET_WORDS c =
    let a = c.args in
    sized_no3 (asked a.n a.table.now a.holds.now a.pins.now) (when 4 (not a.right)) c.in_ok-table.ensures.refused (λ e. omega arith)

pub returns-then-pins-ne-SET_WORDS : goal.returns-then-pins-ne-SET_WORDS
returns-then-pins-ne-SET_WORDS c =
    let a = c.args in
    let right : a.right ≡ true = search rules in
    sized_no40 (asked a.n a.table.now a.holds.now a.pins.now) (when 4 (not a.right)) c.in_ok-table.ensures.refused (omega arith) (when_false 4 (ap not right)) (λ e. omega arith)

pub returns-in_err-check_marks : goal.returns-in_err-check_marks
returns-in_err-check_marks c =
    let a = c.args in
    let q = asked a.n a.table.now a.holds.now a.pins.now in
    let m : Measured q a.right = record { sized = c.in_ok-table.ensures.refused; holds = omega arith; lent = search rules; pins = omega arith } in
    let made = c.in_ok-table.ensures.made in
    let same = same_question _ a.n _ a.table.now _ a.holds.now _ a.pins.now made.0 (ap (λ (b : Bor (List ℕ)). b.now) made.1) c.from_words-held.ensures c.from_words-pinned.ensures in
    let p = err_from_is_err_and c.from_residual-in_err-check_marks.result c.from_residual-in_err-check_marks.ensures.1 in
    rw (p.1, p.2) (refused_before _ (fives q) (pairs q ++ pinned q) (c.in_err-check_marks.ensures ∙ ap (λ (q : Question). first_given (fives q)) same) ∙ rest q a.right m)

pub returns-in_err-check_pairs : goal.returns-in_err-check_pairs
returns-in_err-check_pairs c =
    let a = c.args in
    let q = asked a.n a.table.now a.holds.now a.pins.now in
    let m : Measured q a.right = record { sized = c.in_ok-table.ensures.refused; holds = omega arith; lent = search rules; pins = omega arith } in
    let made = c.in_ok-table.ensures.made in
    let same = same_question _ a.n _ a.table.now _ a.holds.now _ a.pins.now made.0 (ap (λ (b : Bor (List ℕ)). b.now) made.1) c.from_words-held.ensures c.from_words-pinned.ensures in
    let marks = c.in_ok-check_marks.ensures ∙ ap (λ (q : Question). first_given (fives q)) same in
    let p = err_from_is_err_and c.from_residual-in_err-check_pairs.result c.from_residual-in_err-check_pairs.ensures.1 in
    rw (p.1, p.2) (refused_before _ (pairs q) (pinned q) (c.in_err-check_pairs.ensures ∙ ap (λ (q : Question). first_given (pairs q)) same) ∙ passed q a.right m marks)

pub returns : goal.returns
returns c =
    let a = c.args in
    let q = asked a.n a.table.now a.holds.now a.pins.now in
    let m : Measured q a.right = record { sized = c.in_ok-table.ensures.refused; holds = omega arith; lent = search rules; pins = omega arith } in
    let made = c.in_ok-table.ensures.made in
    let same = same_question _ a.n _ a.table.now _ a.holds.now _ a.pins.now made.0 (ap (λ (b : Bor (List ℕ)). b.now) made.1) c.from_words-held.ensures c.from_words-pinned.ensures in
    let marks = c.in_ok-check_marks.ensures ∙ ap (λ (q : Question). first_given (fives q)) same in
    let paired = c.in_ok-check_pairs.ensures ∙ ap (λ (q : Question). first_given (pairs q)) same in
    c.check_pins.ensures
    ∙ ap (λ (q : Question). first_given (pinned q)) same
    ∙ passed_before (pairs q) (pinned q) paired
    ∙ passed q a.right m marks
