-- The promises of Read and Write: how each way through the code keeps them; what a reply says; and that they leave no choice: two replies with their buffers that
-- a promise allows are equal. Assumes nothing.
use mathlib.Core.Path.{◌≡◌, refl, sym, ◌∙◌, ap}
use Rattle.std.specs.Prelude.{Result, Ok, Err}
use mathlib.Core.List.{List, [], ◌∷◌, ◌++◌}
use Prim.Native.Nat.{ℕ}
use native.Mathlib.Omega.{arith}
use lib.ListN.{length, drop}
use Rattle.sets.specs.declared.refusal.Refusal.{Refusal}
use Rattle.sets.specs.Refusals.{comes_back}
use Rattle.sets.specs.Rules.{first_given, if_passed}
use Rattle.sets.proofs.Verdicts.{refusal_back, refusal_once}
use Rattle.night.specs.Format.{held}
use Rattle.night.specs.Versions.{Version, bytes_as, length_as}
use Rattle.night.specs.Reading.{jobs_in, holds_in, filled_table, read_rules, table_after, holds_after}
use Rattle.night.specs.Writing.{write_rules, out_after}
use Rattle.night.specs.Answers.{answered, turned_down, night_answer, read_says, write_says}
use Rattle.night.specs.Promises.{ReadPromise, WritePromise, SameRead, SameWrite}
use Rattle.night.proofs.Encoding.{length_as_lem}

-- ---- keeping them

module _ (file table holds : List ℕ) where
  pub read_refused : (f : Refusal) → first_given (read_rules file table holds) ≡ comes_back f → ReadPromise file table holds (Err f) table holds
  unfolding night_answer read_says table_after holds_after
  read_refused f e =
      let b = refusal_back f in
      let d = e ∙ b.is in
      record {
        reply_is = ap turned_down b.is ∙ sym (ap (λ (l : List ℕ). if_passed l (answered (jobs_in file)) (turned_down l)) d);
        table_is = sym (ap (λ (l : List ℕ). if_passed l (filled_table file (jobs_in file)) table) d);
        holds_is = sym (ap (λ (l : List ℕ). if_passed l (holds_in file (jobs_in file)) holds) d);
      }

  pub read_filled : (n : ℕ) (table_now holds_now : List ℕ) → first_given (read_rules file table holds) ≡ [] → n ≡ jobs_in file → table_now ≡ filled_table file n → holds_now ≡ holds_in file n
      → ReadPromise file table holds (Ok n) table_now holds_now
  unfolding night_answer read_says table_after holds_after
  read_filled n table_now holds_now e d t h =
      record {
        reply_is = ap answered d ∙ sym (ap (λ (l : List ℕ). if_passed l (answered (jobs_in file)) (turned_down l)) e);
        table_is = t ∙ ap (filled_table file) d ∙ sym (ap (λ (l : List ℕ). if_passed l (filled_table file (jobs_in file)) table) e);
        holds_is = h ∙ ap (holds_in file) d ∙ sym (ap (λ (l : List ℕ). if_passed l (holds_in file (jobs_in file)) holds) e);
      }

module _ (v : Version) (n : ℕ) (table holds out : List ℕ) where
  pub write_refused : (f : Refusal) → first_given (write_rules v n table holds out) ≡ comes_back f → WritePromise v n table holds out (Err f) out
  unfolding night_answer write_says out_after
  write_refused f e =
      let b = refusal_back f in
      let d = e ∙ b.is in
      record {
        reply_is = ap turned_down b.is ∙ sym (ap (λ (l : List ℕ). if_passed l (answered (length_as v n (held holds))) (turned_down l)) d);
        out_is = sym (ap (λ (l : List ℕ). if_passed l (bytes_as v n table holds ++ drop (length (bytes_as v n table holds)) out) out) d);
      }

  pub write_done : (length : ℕ) (out_now : List ℕ) → first_given (write_rules v n table holds out) ≡ [] → length ≡ length_as v n (held holds) → out_now ≡ bytes_as v n table holds ++ drop (length_as v n (held holds)) out
      → WritePromise v n table holds out (Ok length) out_now
  unfolding night_answer write_says out_after
  write_done length out_now e d o =
      record {
        reply_is = ap answered d ∙ sym (ap (λ (l : List ℕ). if_passed l (answered (length_as v n (held holds))) (turned_down l)) e);
        out_is = o ∙ ap (λ (k : ℕ). bytes_as v n table holds ++ drop k out) (sym (length_as_lem v n table holds))
            ∙ sym (ap (λ (l : List ℕ). if_passed l (bytes_as v n table holds ++ drop (lib.ListN.length (bytes_as v n table holds)) out) out) e);
      }

-- ---- what a reply says

pub was_answered : {value m : ℕ} (l : List ℕ) → answered value ≡ if_passed l (answered m) (turned_down l) → (l ≡ []) × (value ≡ m)
was_answered [] e = (refl, cc)
was_answered (a ∷ l) e = absurd (let z : ◌≡◌ {A = ℕ} 0 1 = cc in omega arith)

pub was_turned_down : {back : List ℕ} (l : List ℕ) (m : ℕ) → turned_down back ≡ if_passed l (answered m) (turned_down l) → l ≡ back
was_turned_down [] m e = absurd (let z : ◌≡◌ {A = ℕ} 0 1 = cc in omega arith)
was_turned_down (a ∷ l) m e = cc

-- Read answered n: nothing was refused, and both buffers are filled
pub record Filled (file t h : List ℕ) (n : ℕ) (table holds : List ℕ) : Type 0 where
  pub none : first_given (read_rules file t h) ≡ []
  pub jobs_are : n ≡ jobs_in file
  pub table_is : table ≡ filled_table file n
  pub holds_are : holds ≡ holds_in file n

pub filled : {file t h table holds : List ℕ} {n : ℕ} → ReadPromise file t h (Ok n) table holds → Filled file t h n table holds
unfolding night_answer read_says table_after holds_after
filled {file} {t} {h} p =
    let a = was_answered (first_given (read_rules file t h)) p.reply_is in
    record {
      none = a.0;
      jobs_are = a.1;
      table_is = p.table_is ∙ ap (λ (l : List ℕ). if_passed l (filled_table file (jobs_in file)) t) a.0 ∙ ap (filled_table file) (sym a.1);
      holds_are = p.holds_is ∙ ap (λ (l : List ℕ). if_passed l (holds_in file (jobs_in file)) h) a.0 ∙ ap (holds_in file) (sym a.1);
    }

-- Write answered a length: nothing was refused, and the output is the file with what stood behind it
pub record Laid (v : Version) (n : ℕ) (table holds out : List ℕ) (size : ℕ) (out_now : List ℕ) : Type 0 where
  pub none : first_given (write_rules v n table holds out) ≡ []
  pub size_is : size ≡ length_as v n (held holds)
  pub out_is : out_now ≡ bytes_as v n table holds ++ drop (length (bytes_as v n table holds)) out

pub laid : {v : Version} {n size : ℕ} {table holds out out_now : List ℕ} → WritePromise v n table holds out (Ok size) out_now → Laid v n table holds out size out_now
unfolding night_answer write_says out_after
laid {v} {n} {size} {table} {holds} {out} p =
    let a = was_answered (first_given (write_rules v n table holds out)) p.reply_is in
    let file = bytes_as v n table holds in
    record { none = a.0; size_is = a.1; out_is = p.out_is ∙ ap (λ (l : List ℕ). if_passed l (file ++ drop (length file) out) out) a.0 }

-- ---- they leave no choice

-- the answer says which reply it was
same_reply : (a b : Result ℕ Refusal) → night_answer a ≡ night_answer b → a ≡ b
unfolding night_answer
same_reply (Ok n) (Ok m) e = cc
same_reply (Ok n) (Err g) e = absurd (let z : ◌≡◌ {A = ℕ} 0 1 = cc in omega arith)
same_reply (Err f) (Ok m) e = absurd (let z : ◌≡◌ {A = ℕ} 0 1 = cc in omega arith)
same_reply (Err f) (Err g) e = ap Err (refusal_once f g (cc))

-- "two replies it allows are equal", with every lent buffer
pub read_unique : {file table holds t t' h h' : List ℕ} {r r' : Result ℕ Refusal} → ReadPromise file table holds r t h → ReadPromise file table holds r' t' h' → SameRead r r' t t' h h'
read_unique {r = r} {r' = r'} p q =
    record {
      same_reply = same_reply r r' (p.reply_is ∙ sym q.reply_is);
      same_table = p.table_is ∙ sym q.table_is;
      same_holds = p.holds_is ∙ sym q.holds_is;
    }

pub write_unique : {v : Version} {n : ℕ} {table holds out o o' : List ℕ} {r r' : Result ℕ Refusal} → WritePromise v n table holds out r o → WritePromise v n table holds out r' o' → SameWrite r r' o o'
write_unique {r = r} {r' = r'} p q =
    record { same_reply = same_reply r r' (p.reply_is ∙ sym q.reply_is); same_out = p.out_is ∙ sym q.out_is }
