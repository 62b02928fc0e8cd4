-- What the promises of Read and Search come to for the text of a file; and that Search accepts what Read accepts. Assumes nothing.
use mathlib.Core.Path.{◌≡◌, refl, sym, ◌∙◌, ap, ap₂, subst}
use mathlib.Core.Bool.{Bool, true, false}
use mathlib.Core.List.{List, [], ◌++◌, append_assoc}
use Prim.Native.Nat.{ℕ, ◌*◌, ◌≤◌}
use lib.ListN.{length, take, replicate, length-replicate}
use Rattle.std.specs.Prelude.{Ok, Err}
use Rattle.graphs.specs.Walk.{outcome}
use Rattle.sets.specs.declared.refusal.Refusal.{Refusal}
use Rattle.sets.specs.Words.{jobs, words}
use Rattle.sets.specs.Refusals.{comes_back}
use Rattle.sets.specs.Rules.{first_given, if_passed}
use Rattle.question.specs.Question.{Question, asked, no_pins}
use Rattle.sets.proofs.Judging.{all_clear}
use Rattle.sets.proofs.Verdicts.{refusal_back}
use Rattle.night.specs.Answers.{night_answer, read_says}
use Rattle.night.specs.Promises.{ReadPromise}
use Rattle.night.specs.Reading.{jobs_in, table_in, holds_in, file_rules, read_rules, filled_table}
use Rattle.night.proofs.Decoding.{length_table, length_filled, take_filled}
use Rattle.night.proofs.Promises.{was_turned_down, filled}
use Rattle.night.proofs.Refusing.{few_in_file, read_file}
use Rattle.night.proofs.Accepting.{answerable}
use Rattle.search.proofs.Searching.{search_accepts}
use Rattle.search.specs.Search.{SearchAnswer, refused, search_answer, search_ends, said_of, search_rules, search_visits, search_says, result_after}
use Rattle.search.specs.declared.Searched.{Searched}
use Rattle.search.specs.declared.Searched.TheVariants.{Best, Unfinished}
use Rattle.sheet.specs.Text.{number_line}
use Rattle.sheet.specs.Lines.{end_lines, searched_lines}
use Rattle.sheet.specs.Sheet.{jobs_word, held_word, job_lines, lines, refusal_line, answer_text, budget, empty, night_text, question_in, sheet_text, Printed}

-- ---- Search

pub night_is : (q : Question) {held : ℕ} {a : SearchAnswer} {hs ws : List ℕ} → held ≡ length (jobs hs) → hs ≡ q.holds → a ≡ search_says q budget empty
    → ws ≡ result_after q budget empty → answer_text q.n held a (jobs ws) ≡ night_text q
unfolding night_text
night_is q h d e f = λ i. answer_text q.n ((h ∙ ap (λ (l : List ℕ). length (jobs l)) d) i) (e i) (jobs (f i))

-- the code's lines are the text of such an answer
pub searched_is : (n held : ℕ) (s : Searched) (kept : List ℕ) → number_line jobs_word n ++ (number_line held_word held ++ (searched_lines s ++ job_lines kept)) ≡ answer_text n held (search_answer (Ok s)) kept
unfolding lines end_lines search_answer
searched_is n held (Best size visits) kept = simp append_assoc
searched_is n held (Unfinished size visits) kept = simp append_assoc

-- ---- Read

-- what is known where Read answers n
pub record Accepts (file : List ℕ) (n : ℕ) (table holds : List ℕ) : Type 0 where
  pub none : first_given (file_rules file) ≡ []
  pub jobs_are : n ≡ jobs_in file
  pub few : n ≤ 256
  pub table_is : table ≡ filled_table file n
  pub holds_are : holds ≡ holds_in file n

-- the words that Read is lent
abbrev pub blank : ℕ → List ℕ
blank k = replicate k 0

module _ (file : List ℕ) where
  refusal_is : first_given (read_rules file (blank 1024) (blank 4)) ≡ first_given (file_rules file)
  refusal_is = read_file file (blank 1024) (blank 4) (length-replicate {A = ℕ} 1024 0) (length-replicate {A = ℕ} 4 0)

  pub read_accepts : {table_now holds_now : List ℕ} {n : ℕ} → ReadPromise file (blank 1024) (blank 4) (Ok n) table_now holds_now → Accepts file n table_now holds_now
  read_accepts p =
      let f = filled p in
      let checks = sym refusal_is ∙ f.none in
      record {
        none = checks;
        jobs_are = f.jobs_are;
        few = subst (λ (k : ℕ). k ≤ 256) (sym f.jobs_are) (few_in_file file checks);
        table_is = f.table_is;
        holds_are = f.holds_are;
      }

  pub read_refuses : {table_now holds_now : List ℕ} (f : Refusal) → ReadPromise file (blank 1024) (blank 4) (Err f) table_now holds_now → first_given (file_rules file) ≡ comes_back f
  unfolding night_answer read_says
  read_refuses f p = sym refusal_is ∙ was_turned_down (first_given (read_rules file (blank 1024) (blank 4))) (jobs_in file) p.reply_is

-- the words that an accepted file leaves for Search
module _ {file : List ℕ} {n : ℕ} {table holds : List ℕ} (ok : Accepts file n table holds) where
  pub table_taken : take (4 * n) table ≡ table_in file n
  table_taken = ap (take (4 * n)) ok.table_is ∙ take_filled file n

  pub length_taken : length (take (4 * n) table) ≡ 4 * n
  length_taken = ap length table_taken ∙ length_table file n

  pub table_long : length table ≡ 1024
  table_long = ap length ok.table_is ∙ length_filled file n ok.few

  -- the text of an accepted file
  pub sheet_accepted : night_text (asked n (take (4 * n) table) holds no_pins) ≡ sheet_text file
  unfolding sheet_text
  sheet_accepted =
      ap₂ (λ (t h : List ℕ). night_text (asked n t h no_pins)) table_taken ok.holds_are
      ∙ ap (λ (k : ℕ). night_text (asked k (table_in file k) (holds_in file k) no_pins)) ok.jobs_are
      ∙ sym (ap (λ (l : List ℕ). if_passed l (night_text (question_in file)) (refusal_line l)) ok.none)

-- the text of a refused one
pub sheet_refused : (file : List ℕ) (f : Refusal) → first_given (file_rules file) ≡ comes_back f → refusal_line (comes_back f) ≡ sheet_text file
unfolding sheet_text
sheet_refused file f e =
    let b = refusal_back f in
    ap refusal_line b.is ∙ sym (ap (λ (l : List ℕ). if_passed l (night_text (question_in file)) (refusal_line l)) (e ∙ b.is))

-- ---- Search accepts what Read accepts: Read made checks 1, 5, 6 and 7, and lengths are right

-- the two ways to end are the two words
as_it_ends : (n held : ℕ) (finished : Bool) (size visits : ℕ) (kept : List ℕ) → answer_text n held (search_ends finished size visits) kept ≡ lines n held finished size visits kept
as_it_ends n held true size visits kept = refl
as_it_ends n held false size visits kept = refl

module _ (file : List ℕ) (none : first_given (file_rules file) ≡ []) where
  pub accepted_file : (result : List ℕ) → length result ≡ 4 → first_given (search_rules (question_in file) result) ≡ []
  accepted_file result four = search_accepts (record { question = answerable file (all_clear (file_rules file) none); result_words = four })

  -- so that the text is a sheet, of what the walk comes to within the budget
  pub accepted_sheet : let q = question_in file in let o = outcome (search_visits q) budget in
      sheet_text file ≡ lines q.n (length (jobs q.holds)) o.finished (length o.best) o.visited (jobs (words o.best))
  unfolding sheet_text night_text search_says result_after
  accepted_sheet =
      let q = question_in file in
      let o = outcome (search_visits q) budget in
      ap (λ (l : List ℕ). if_passed l (night_text q) (refusal_line l)) none
      ∙ ap (λ (l : List ℕ). answer_text q.n (length (jobs q.holds)) (if_passed l (said_of o) (refused l)) (jobs (if_passed l (words o.best) empty))) (accepted_file empty refl)
      ∙ as_it_ends q.n (length (jobs q.holds)) o.finished (length o.best) o.visited (jobs (words o.best))

-- ---- "two replies it allows are equal", with every lent byte

pub print_unique : {text out now now' : List ℕ} {r r' : ℕ} → Printed text out now r → Printed text out now' r' → (r ≡ r') × (now ≡ now')
print_unique p q = (p.answers ∙ sym q.answers, p.prints ∙ sym q.prints)
