-- `check_set`: each check adds its rules behind those that passed: 1 and 2 of the table, then 4, then 5, 6 and 7. The table and the asked set are the lent words.
use Rattle.std.proofs.Common.{◌≡◌, List, [], ◌∷◌, ℕ, length, sym, ◌∙◌, ap}
use Rattle.std.proofs.lemmas.Result.{err_from_is_err_and}
use Rattle.std.specs.Borrow.{Bor}
use Rattle.sets.specs.declared.refusal.Refusal.TheVariants.{Alone}
use Rattle.sets.specs.declared.refusal.Fault.TheVariants.{SetLength}
use Rattle.sets.specs.Words.{jobs}
use Rattle.sets.specs.Places.{first_place}
use Rattle.sets.specs.Rules.{Rule, first_given}
use Rattle.sets.specs.Tables.{no1, no2, no4, no5, no6, no7, misfit}
use Rattle.sets.specs.Check.{check_rules}
use Rattle.sets.proofs.Judging.{first_applies, first_clear}
use Rattle.sets.proofs.Verdicts.{no4_applies, no4_clear, refused_before, passed_before}
use Rattle.sets.proofs.Checking.{says_pair, says_yes, says_refused}
use Rattle.sets.proofs.check.check_set.Goals as goal

-- the rules on the table's size, and those on the marks
abbrev sizes : ℕ → List ℕ → List Rule
sizes n table = no1 n ∷ no2 n table ∷ []

abbrev marks : ℕ → List ℕ → List ℕ → List Rule
marks n table set = no5 n table set ∷ no6 n table ∷ no7 n table ∷ []

-- the lent words are a table, and as many as a set has: the marks decide
sized : (n : ℕ) (table set : List ℕ) → [] ≡ first_given (sizes n table) → first_given (no4 set ∷ marks n table set) ≡ first_given (check_rules n table set)
unfolding check_rules
sized n table set e = passed_before (sizes n table) (no4 set ∷ marks n table set) e

measured : (n : ℕ) (table set : List ℕ) → [] ≡ first_given (sizes n table) → length set ≡ 4 → first_given (marks n table set) ≡ first_given (check_rules n table set)
measured n table set e four = sym (first_clear _ _ (no4_clear set four)) ∙ sized n table set e

-- what is said of the table and the set that were made is said of the lent words
marks_are : (m n : ℕ) (u table w set : List ℕ) → m ≡ n → u ≡ table → w ≡ set → marks m u w ≡ marks n table set
marks_are m n u table w set e f g = cc

misfits_are : (m n : ℕ) (u table w set : List ℕ) → m ≡ n → u ≡ table → w ≡ set → first_place (misfit u w) m m ≡ first_place (misfit table set) n n
misfits_are m n u table w set e f g = cc

pub returns-in_err-table : goal.returns-in_err-table
unfolding check_rules
returns-in_err-table c =
    let n = c.args.n in
    let table = c.args.table.now in
    let set = c.args.set.now in
    let p = err_from_is_err_and c.from_residual.result c.from_residual.ensures.1 in
    rw (p.1, p.2) (says_refused n table set _ (sym (refused_before _ (sizes n table) (no4 set ∷ marks n table set) c.in_err-table.ensures.refused)))

pub returns-then-set-ne-SET_WORDS : goal.returns-then-set-ne-SET_WORDS
returns-then-set-ne-SET_WORDS c =
    let n = c.args.n in
    let table = c.args.table.now in
    let set = c.args.set.now in
    says_refused n table set (Alone SetLength) (sym (sized n table set c.in_ok-table.ensures.refused) ∙ first_applies _ _ (no4_applies set c.if-set-ne-SET_WORDS.true))

pub returns-in_err-check : goal.returns-in_err-check
returns-in_err-check c =
    let n = c.args.n in
    let table = c.args.table.now in
    let set = c.args.set.now in
    let made = c.in_ok-table.ensures.made in
    let same = marks_are _ n _ table _ set made.0 (ap (λ (b : Bor (List ℕ)). b.now) made.1) c.from_words-asked.ensures in
    let p = err_from_is_err_and c.from_residual-in_err-check.result c.from_residual-in_err-check.ensures.1 in
    rw (p.1, p.2) (says_refused n table set _ (sym (c.in_err-check.ensures ∙ ap first_given same ∙ measured n table set c.in_ok-table.ensures.refused c.if-set-ne-SET_WORDS.false)))

pub returns-in-Some : goal.returns-in-Some
returns-in-Some c =
    let n = c.args.n in
    let table = c.args.table.now in
    let set = c.args.set.now in
    let made = c.in_ok-table.ensures.made in
    let words = ap (λ (b : Bor (List ℕ)). b.now) made.1 in
    let same = marks_are _ n _ table _ set made.0 words c.from_words-asked.ensures in
    let passed = sym (c.in_ok-check.ensures ∙ ap first_given same ∙ measured n table set c.in_ok-table.ensures.refused c.if-set-ne-SET_WORDS.false) in
    says_pair n table set passed (sym (c.in-Some.ensures ∙ misfits_are _ n _ table _ set made.0 words c.from_words-asked.ensures))

pub returns-in-None : goal.returns-in-None
returns-in-None c =
    let n = c.args.n in
    let table = c.args.table.now in
    let set = c.args.set.now in
    let made = c.in_ok-table.ensures.made in
    let words = ap (λ (b : Bor (List ℕ)). b.now) made.1 in
    let same = marks_are _ n _ table _ set made.0 words c.from_words-asked.ensures in
    let passed = sym (c.in_ok-check.ensures ∙ ap first_given same ∙ measured n table set c.in_ok-table.ensures.refused c.if-set-ne-SET_WORDS.false) in
    says_yes n table set (c.size.ensures ∙ ap (λ (ws : List ℕ). length (jobs ws)) c.from_words-asked.ensures) passed
    (sym (c.in-None.ensures ∙ misfits_are _ n _ table _ set made.0 words c.from_words-asked.ensures))
