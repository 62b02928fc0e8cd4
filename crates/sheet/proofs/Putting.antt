-- Texts put one behind the other, in bytes and on a page, numbers in decimal, and how long a sheet can be. Assumes nothing.
use mathlib.Core.Path.{◌≡◌, refl, sym, ◌∙◌, ap, ap₂, subst}
use mathlib.Core.Bool.{Bool, true, false}
use mathlib.Core.List.{List, [], ◌∷◌, ◌++◌, map, flat_map, append_assoc}
use mathlib.Core.Logic.{⊎_elim}
use Prim.Native.Nat.{ℕ, zero, suc, ◌+◌, ◌-◌, ◌*◌, ◌/◌, ◌%◌, ◌^◌, ◌≤◌, ◌<◌}
use native.Mathlib.Numerals.{add-one}
use native.Mathlib.Omega.{arith}
use lib.ListN.{length, get_or, take, drop, set, length-append}
use lib.Seq.{sets, sets-eq, length-sets, length-take-le, take-suc, drop-cons}
use mir.Syntax.{w64}
use mir.Val.{Fits}
use borrow.Rule.Slice.PartMut.{put_mid, Post-is}
use borrow.Author.Tests.{lt-ltb, le-ltb}
use Rattle.std.specs.Prelude.{Result, Ok, Err}
use Rattle.std.specs.Fmt as F
use Rattle.std.proofs.Math.Facts.{Fits-of_lt}
use Rattle.std.proofs.lemmas.Fmt.{AppendsLastDigit, decimal_from_appends, length-decimal-le_succ}
use Rattle.graphs.specs.Jobs.{◌∈◌, lowest, without}
use Rattle.graphs.proofs.Bools.{lt_or_le}
use Rattle.graphs.proofs.Lists.{in_head, in_tail}
use Rattle.sets.specs.Words.{jobs}
use Rattle.sets.specs.declared.refusal.Refusal.{Refusal}
use Rattle.sets.specs.declared.refusal.Refusal.TheVariants.{Alone, WithOne, At}
use Rattle.sets.specs.declared.refusal.Fault.{Fault}
use Rattle.sets.specs.declared.places.Place.{Place}
use Rattle.sets.specs.Refusals.{number_of, comes_back}
use Rattle.sets.proofs.Words.{jobs_below}
use Rattle.sets.proofs.Going.{jobs_length, lowest_some, lowest_last}
use Rattle.night.proofs.Pieces.{sets_append}
use Rattle.search.specs.Search.{search_answer}
use Rattle.search.specs.declared.Searched.{Searched}
use Rattle.search.specs.declared.Searched.TheVariants.{Best, Unfinished}
use Rattle.sheet.specs.declared.page.Page.{Page}
use Rattle.sheet.specs.declared.lines.Sheet.{Sheet}
use Rattle.sheet.specs.Text.{last_digits, decimal, behind, line, number_line, Put}
use Rattle.sheet.specs.Page.{HasRoom, Gets}
use Rattle.sheet.specs.Sheet.{jobs_word, held_word, answer_word, best_word, unfinished_word, end_word, size_word, visits_word, job_word, refused_word, job_lines, lines, refusal_line, Printed}
use Rattle.sheet.specs.Lines.{end_lines, searched_lines, told_text}
use Rattle.sheet.proofs.Printing.{searched_is}

-- ---- one behind the other

-- a word copied into its place
pub word_put : (bytes word now : List ℕ) (at : ℕ) → at + length word ≤ length bytes → now ≡ word → put_mid at (at + length word - at) bytes now ≡ sets bytes at word
word_put bytes word now at h e =
    ap₂ (λ (a b : List ℕ). take at bytes ++ (a ++ b)) e (Post-is at (at + length word) bytes (omega arith))
    ∙ sym (append_assoc (take at bytes) word (drop (at + length word) bytes)) ∙ sym (sets-eq word bytes at h)

pub put_then : {bytes mid now : List ℕ} {at m end : ℕ} {a b : List ℕ} → Put bytes at a mid m → Put mid m b now end → Put bytes at (a ++ b) now end
put_then {bytes} {mid} {now} {at} {m} {end} {a} {b} p q = record {
  stored = q.stored ∙ ap₂ (λ (o : List ℕ) (x : ℕ). sets o x b) p.stored p.ends ∙ sets_append bytes at a b;
  ends = let l = length-append a b in let d = p.ends in let e = q.ends in omega arith;
}

-- the same text, written another way
pub put_same : {bytes now : List ℕ} {at end : ℕ} {a b : List ℕ} → a ≡ b → Put bytes at a now end → Put bytes at b now end
put_same {bytes} {now} {at} {end} e p = subst (λ (t : List ℕ). Put bytes at t now end) e p

-- in the midst of putting a text: once what is left of it is put too, all of it is put; and there is room for that
pub record Left (bytes : List ℕ) (at : ℕ) (text now : List ℕ) (from : ℕ) (rest : List ℕ) : Type 0 where
  pub completes : (later : List ℕ) (end : ℕ) → Put now from rest later end → Put bytes at text later end
  pub room : from + length rest ≤ length now
  pub long : length now ≡ length bytes

pub left_all : (bytes : List ℕ) (at : ℕ) (text : List ℕ) → at + length text ≤ length bytes → Left bytes at text bytes at text
left_all bytes at text r = record { completes = λ later end p. p; room = r; long = refl }

module _ {bytes text now : List ℕ} {at from : ℕ} (a b : List ℕ) where
  -- there is room for the next part
  pub left_room : Left bytes at text now from (a ++ b) → from + length a ≤ length now
  left_room l = let e = length-append a b in let r = l.room in omega arith

  -- and once that is put, the parts behind it are left
  pub left_next : {mid : List ℕ} {m : ℕ} → Left bytes at text now from (a ++ b) → Put now from a mid m → Left bytes at text mid m b
  left_next {mid} {m} l p =
      let grown = length-append a b in
      let end = p.ends in
      let kept = ap length p.stored ∙ length-sets now from a in
      let room = l.room in
      record {
        completes = λ later e q. l.completes later e (put_then p q);
        room = omega arith;
        long = kept ∙ l.long;
      }

-- there is room for the first byte
pub left_byte : {bytes text now rest : List ℕ} {at from b : ℕ} → Left bytes at text now from (b ∷ rest) → from < length now
left_byte l = let r = l.room in omega arith

pub left_same : {bytes text now rest rest' : List ℕ} {at from : ℕ} → rest ≡ rest' → Left bytes at text now from rest → Left bytes at text now from rest'
left_same {bytes} {text} {now} {at = at} {from} e l = subst (λ (r : List ℕ). Left bytes at text now from r) e l

pub left_none : {bytes text now : List ℕ} {at from : ℕ} → Left bytes at text now from [] → Put bytes at text now from
left_none {now = now} {from = from} l = l.completes now from (record { stored = refl; ends = omega arith })

-- one byte more of a word
pub word_more : {bytes now : List ℕ} {at : ℕ} (word : List ℕ) (i : ℕ) → i < length word → Put bytes at (take i word) now (at + i)
    → Put bytes at (take (i + 1) word) (set now (at + i) (get_or word i 0)) (at + (i + 1))
word_more {bytes} {now} {at} word i h p =
    let one : Put now (at + i) (get_or word i 0 ∷ []) (set now (at + i) (get_or word i 0)) (at + (i + 1)) = record { stored = refl; ends = omega arith } in
    put_same (sym (rw (add-one, take-suc word i 0))) (put_then p one)

-- ---- decimal

-- a number below ten is its digit, and of another the last digit stands behind the others
one_digit : (k n : ℕ) → n < 10 → last_digits (suc k) n ≡ (48 + n) ∷ []
unfolding last_digits
one_digit k n h = rw (lt-ltb n 10 h, last_digits)

more_digits : (k n : ℕ) → 10 ≤ n → last_digits (suc k) n ≡ last_digits k (n / 10) ++ (48 + n % 10) ∷ []
unfolding last_digits
more_digits k n h = rw (le-ltb n 10 h, last_digits)

-- more places than digits change nothing
enough : (k m n : ℕ) → n < k → n < m → last_digits k n ≡ last_digits m n
enough zero m n h g = absurd (omega arith)
enough (suc k) zero n h g = absurd (omega arith)
enough (suc k) (suc m) n h g = ⊎_elim
    (λ s. one_digit k n s ∙ sym (one_digit m n s))
    (λ s. more_digits k n s ∙ ap (λ (l : List ℕ). l ++ (48 + n % 10) ∷ []) (enough k m (n / 10) (omega arith) (omega arith)) ∙ sym (more_digits m n s))
    (lt_or_le n 10)

pub decimal_one : (n : ℕ) → n < 10 → decimal n ≡ (48 + n) ∷ []
unfolding decimal
decimal_one n h = one_digit n n h

pub decimal_more : (n : ℕ) → 10 ≤ n → decimal n ≡ decimal (n / 10) ++ (48 + n % 10) ∷ []
unfolding decimal
decimal_more n h = more_digits n n h ∙ ap (λ (l : List ℕ). l ++ (48 + n % 10) ∷ []) (enough n (suc (n / 10)) (n / 10) (omega arith) (omega arith))

-- the library writes a number so
digits_append : AppendsLastDigit last_digits
digits_append = record { one = one_digit; more = more_digits }

pub decimal_is : (n : ℕ) → n < 2 ^ 64 → F.decimal n ≡ decimal n
unfolding decimal
decimal_is n h = sym (decimal_from_appends last_digits digits_append (suc n) n h (omega (arith, length-decimal-le_succ n h)))

-- putting a number of one digit
module _ (n : ℕ) (h : n < 10) {at : ℕ} where
  pub room_one : (bytes : List ℕ) → at + length (decimal n) ≤ length bytes → at < length bytes
  room_one bytes r = let l = ap length (decimal_one n h) in omega arith

  pub put_one : {bytes now : List ℕ} {end : ℕ} → Put bytes at ((48 + n) ∷ []) now end → Put bytes at (decimal n) now end
  put_one p = put_same (sym (decimal_one n h)) p

-- putting one of more digits: all but its last digit, and the last
module _ (n : ℕ) (h : 10 ≤ n) (bytes : List ℕ) (at : ℕ) (room : at + length (decimal n) ≤ length bytes) where
  front_left : Left bytes at (decimal n) bytes at (decimal (n / 10) ++ (48 + n % 10) ∷ [])
  front_left = left_same (decimal_more n h) (left_all bytes at (decimal n) room)

  pub room_front : at + length (decimal (n / 10)) ≤ length bytes
  room_front = left_room (decimal (n / 10)) ((48 + n % 10) ∷ []) front_left

  pub last_left : {mid : List ℕ} {m : ℕ} → Put bytes at (decimal (n / 10)) mid m → Left bytes at (decimal n) mid m ((48 + n % 10) ∷ [])
  last_left p = left_next (decimal (n / 10)) ((48 + n % 10) ∷ []) front_left p

-- ---- on a page

pub gets_then : {p q r : Page} {a b : List ℕ} → Gets p a q → Gets q b r → Gets p (a ++ b) r
gets_then f g = record { lent = g.lent ∙ f.lent; long = g.long ∙ f.long; put = put_then f.put g.put; within = g.within }

-- in the midst of a text on a page: its bytes are still those lent, and in the midst of putting the text
pub record LeftOn (page : Page) (text : List ℕ) (now : Page) (rest : List ℕ) : Type 0 where
  pub lent : now.bytes.ghost_name ≡ page.bytes.ghost_name
  pub left : Left page.bytes.now page.at text now.bytes.now now.at rest

pub on_all : (page : Page) (text : List ℕ) → HasRoom page text → LeftOn page text page text
on_all page text r = record { lent = refl; left = left_all page.bytes.now page.at text r }

pub on_room : {page now : Page} {text : List ℕ} (a b : List ℕ) → LeftOn page text now (a ++ b) → HasRoom now a
on_room a b l = left_room a b l.left

pub on_next : {page now next : Page} {text : List ℕ} (a : List ℕ) {b : List ℕ} → LeftOn page text now (a ++ b) → Gets now a next → LeftOn page text next b
on_next a {b} l g = record { lent = g.lent ∙ l.lent; left = left_next a b l.left g.put }

pub on_same : {page now : Page} {text a b : List ℕ} → a ≡ b → LeftOn page text now a → LeftOn page text now b
on_same e l = record { lent = l.lent; left = left_same e l.left }

-- once the rest is put too, the page got the text
pub on_completes : {page now later : Page} {text rest : List ℕ} → LeftOn page text now rest → Gets now rest later → Gets page text later
on_completes {later = later} l g = record { lent = g.lent ∙ l.lent; long = g.long ∙ l.left.long; put = l.left.completes later.bytes.now later.at g.put; within = g.within }

pub on_none : {page now : Page} {text : List ℕ} → LeftOn page text now [] → Gets page text now
on_none l = let room = l.left.room in record { lent = l.lent; long = l.left.long; put = left_none l.left; within = omega arith }

-- the next number of a line, and the others behind it
pub behind_next : (numbers : List ℕ) (i : ℕ) → i < length numbers
    → behind (map decimal (drop i numbers)) ≡ (32 ∷ decimal (get_or numbers i 0)) ++ behind (map decimal (drop (i + 1) numbers))
unfolding behind
behind_next numbers i h = rw (add-one, drop-cons numbers i 0)

-- ---- how long

one_long : (k n : ℕ) → n < 10 → length (decimal n) ≤ suc k
one_long k n s = let l = ap length (decimal_one n s) in omega arith

-- a number below a power of ten
digits_most : (k n : ℕ) → n < 10 ^ suc k → length (decimal n) ≤ suc k
digits_most zero n h = one_long zero n h
digits_most (suc k) n h = ⊎_elim
    (one_long (suc k) n)
    (λ s.
    let g = digits_most k (n / 10) (omega arith) in
    let l = ap length (decimal_more n s) ∙ length-append (decimal (n / 10)) ((48 + n % 10) ∷ []) in
    omega arith)
    (lt_or_le n 10)

length_line : (word : List ℕ) (n : ℕ) → length (number_line word n) ≡ length word + 2 + length (decimal n)
unfolding number_line line behind
length_line word n = simp length-append (omega arith)

line_most : (word : List ℕ) (n : ℕ) → Fits w64 n → length (number_line word n) ≤ length word + 22
line_most word n f = let l = length_line word n in let d = digits_most 19 n (omega arith) in omega arith

pub jobs_none : job_lines [] ≡ []
unfolding job_lines flat_map
jobs_none = refl

pub jobs_next : (j : ℕ) (l : List ℕ) → job_lines (j ∷ l) ≡ number_line job_word j ++ job_lines l
unfolding job_lines flat_map
jobs_next j l = refl

-- going up through a set: the line of its lowest job, and the lines of the others
module _ (ws : List ℕ) {y : ℕ} (low : y ≡ lowest (jobs ws)) (is : y < 256) where
  lines_next : job_lines (jobs ws) ≡ number_line job_word y ++ job_lines (without y (jobs ws))
  lines_next = ap job_lines (subst (λ (x : ℕ). x < 256 → jobs ws ≡ x ∷ without x (jobs ws)) (sym low) (lowest_some ws) is) ∙ jobs_next y (without y (jobs ws))

  module _ {bytes text now : List ℕ} {at from : ℕ} (l : Left bytes at text now from (job_lines (jobs ws))) where
    pub room_job : from + length (number_line job_word y) ≤ length now
    room_job = left_room (number_line job_word y) (job_lines (without y (jobs ws))) (left_same lines_next l)

    pub jobs_left : (vs : List ℕ) {mid : List ℕ} {m : ℕ} → Put now from (number_line job_word y) mid m → jobs vs ≡ without y (jobs ws) → Left bytes at text mid m (job_lines (jobs vs))
    jobs_left vs p e = left_same (ap job_lines (sym e)) (left_next (number_line job_word y) (job_lines (without y (jobs ws))) (left_same lines_next l) p)

-- past its last job
pub jobs_done : (ws : List ℕ) {y : ℕ} → y ≡ lowest (jobs ws) → 256 ≤ y → {bytes text now : List ℕ} {at from : ℕ} → Left bytes at text now from (job_lines (jobs ws)) → Put bytes at text now from
jobs_done ws low h l = left_none (left_same (ap job_lines (lowest_last ws low h) ∙ jobs_none) l)

-- the same on a page, going up through a set by its iterator
pub on_job : {page now : Page} {text l m : List ℕ} {j : ℕ} → l ≡ j ∷ m → LeftOn page text now (job_lines l) → LeftOn page text now (number_line job_word j ++ job_lines m)
on_job {m = m} {j} e p = on_same (ap job_lines e ∙ jobs_next j m) p

pub on_last : {page now : Page} {text l : List ℕ} → l ≡ [] → LeftOn page text now (job_lines l) → Gets page text now
on_last e p = on_none (on_same (ap job_lines e ∙ jobs_none) p)

jobs_most : (l : List ℕ) → ((j : ℕ) → j ∈ l → j < 256) → length (job_lines l) ≤ 8 * length l
jobs_most [] b = let e = ap length jobs_none in omega arith
jobs_most (j ∷ l) b =
    let more = jobs_most l (λ i m. b i (in_tail j i l m)) in
    let here = length_line job_word j in
    let small = b j (in_head j l) in
    let digits = digits_most 2 j (omega arith) in
    let both = ap length (jobs_next j l) ∙ length-append (number_line job_word j) (job_lines l) in
    omega arith

answer_most : (finished : Bool) → length (line answer_word (end_word finished ∷ [])) ≤ 18
unfolding line behind
answer_most true = omega arith
answer_most false = omega arith

pub sheet_most : (n held : ℕ) (finished : Bool) (size visits : ℕ) (ws : List ℕ) → Fits w64 n → Fits w64 held → Fits w64 size → Fits w64 visits
    → length (lines n held finished size visits (jobs ws)) ≤ 4096
unfolding lines
sheet_most n held finished size visits ws a b d e =
    let l1 = line_most jobs_word n a in
    let l2 = line_most held_word held b in
    let l3 = answer_most finished in
    let l4 = line_most size_word size d in
    let l5 = line_most visits_word visits e in
    let l6 = jobs_most (jobs ws) (jobs_below ws) in
    let l7 = jobs_length ws in
    simp length-append (omega arith)

-- a refusal with no value, with one and with two
pub refusal_one : (number : ℕ) → refusal_line (number ∷ []) ≡ number_line refused_word number
unfolding refusal_line number_line
refusal_one number = refl

-- a number has 20 digits at the most
number_most : (number : ℕ) → Fits w64 number → length (decimal number) ≤ 20
number_most number f = digits_most 19 number (omega arith)

pub one_most : (number value : ℕ) → Fits w64 number → Fits w64 value → length (refusal_line (number ∷ value ∷ [])) ≤ 4096
unfolding refusal_line line behind
one_most number value f g =
    let a = number_most number f in
    let b = number_most value g in
    simp length-append (omega arith)

pub two_most : (number first second : ℕ) → Fits w64 number → Fits w64 first → Fits w64 second → length (refusal_line (number ∷ first ∷ second ∷ [])) ≤ 4096
unfolding refusal_line line behind
two_most number first second f g h =
    let a = number_most number f in
    let b = number_most first g in
    let d = number_most second h in
    simp length-append (omega arith)

pub refusal_most : (number : ℕ) → Fits w64 number → length (number_line refused_word number) ≤ 4096
refusal_most number f = let l = line_most refused_word number f in omega arith

-- ---- what the code holds as one value

-- two numbers of 64 bits
abbrev pub Fit : ℕ → ℕ → Type 0
Fit a b = (a < 2 ^ 64) × (b < 2 ^ 64)

-- the lines on the search alone: by how it ended, and of what it answered
end_most : (word : List ℕ) (size visits : ℕ) → size < 2 ^ 64 → visits < 2 ^ 64 → length (end_lines word size visits) ≤ length word + 62
unfolding end_lines line behind
end_most word size visits d e =
    let a = line_most size_word size (Fits-of_lt d) in
    let b = line_most visits_word visits (Fits-of_lt e) in
    simp length-append (omega arith)

searched_most : (f : Searched) → ((size visits : ℕ) → f ≡ Best size visits → Fit size visits) → ((size visits : ℕ) → f ≡ Unfinished size visits → Fit size visits)
    → length (searched_lines f) ≤ 72
searched_most (Best size visits) b u = let h = b size visits refl in let m = end_most best_word size visits h.0 h.1 in omega arith
searched_most (Unfinished size visits) b u = let h = u size visits refl in let m = end_most unfinished_word size visits h.0 h.1 in omega arith

-- its lines are `lines` (`searched_is`)
lines_most : (n held : ℕ) (f : Searched) (ws : List ℕ) → Fit n held
    → ((size visits : ℕ) → f ≡ Best size visits → Fit size visits) → ((size visits : ℕ) → f ≡ Unfinished size visits → Fit size visits)
    → length (number_line jobs_word n ++ (number_line held_word held ++ (searched_lines f ++ job_lines (jobs ws)))) ≤ 4096
unfolding search_answer
lines_most n held (Best size visits) ws h b u =
    let f = b size visits refl in
    let l = ap length (searched_is n held (Best size visits) (jobs ws)) in
    let m = sheet_most n held true size visits ws (Fits-of_lt h.0) (Fits-of_lt h.1) (Fits-of_lt f.0) (Fits-of_lt f.1) in
    omega arith
lines_most n held (Unfinished size visits) ws h b u =
    let f = u size visits refl in
    let l = ap length (searched_is n held (Unfinished size visits) (jobs ws)) in
    let m = sheet_most n held false size visits ws (Fits-of_lt h.0) (Fits-of_lt h.1) (Fits-of_lt f.0) (Fits-of_lt f.1) in
    omega arith

-- every fault has a number of 64 bits
fault_fits : (fault : Fault) → Fits w64 (number_of fault)
fault_fits fault = Fits-of_lt (grind arith)

refused_most : (f : Refusal) → ((a : Fault) (v : ℕ) → f ≡ WithOne a v → v < 2 ^ 64) → ((a : Fault) (p : Place) → f ≡ At a p → Fit p.row p.column)
    → length (refusal_line (comes_back f)) ≤ 4096
refused_most (Alone a) b d = let l = refusal_most (number_of a) (fault_fits a) in let e = ap length (refusal_one (number_of a)) in omega arith
refused_most (WithOne a v) b d = one_most (number_of a) v (fault_fits a) (Fits-of_lt (b a v refl))
refused_most (At a p) b d = let h = d a p refl in two_most (number_of a) p.row p.column (fault_fits a) (Fits-of_lt h.0) (Fits-of_lt h.1)

-- the text of a night whose numbers, if it has a sheet, are 64-bit numbers
pub told_most : (r : Result Sheet Refusal) → ((s : Sheet) → r ≡ Ok s → Fit s.n s.held)
    → ((s : Sheet) (size visits : ℕ) → r ≡ Ok s → s.searched ≡ Best size visits → Fit size visits) → ((s : Sheet) (size visits : ℕ) → r ≡ Ok s → s.searched ≡ Unfinished size visits → Fit size visits)
    → ((a : Fault) (v : ℕ) → r ≡ Err (WithOne a v) → v < 2 ^ 64) → ((a : Fault) (p : Place) → r ≡ Err (At a p) → Fit p.row p.column)
    → length (told_text r) ≤ 4096
told_most (Ok s) n b u w p = lines_most s.n s.held s.searched s.kept.words (n s refl) (λ size visits e. b s size visits refl e) (λ size visits e. u s size visits refl e)
told_most (Err f) n b u w p = refused_most f (λ a v e. w a v (ap Err e)) (λ a q e. p a q (ap Err e))

-- ---- what is printed

-- a text put at the start of bytes that take it
printed_in : {text bytes now : List ℕ} {end : ℕ} → length text ≤ length bytes → Put bytes 0 text now end → Printed text bytes now end
printed_in {text} {bytes} short p =
    let z : 0 + length text ≡ length text = omega arith in
    record {
      answers = p.ends ∙ z;
      prints = p.stored ∙ sets-eq text bytes 0 (omega arith) ∙ ap (λ (k : ℕ). text ++ drop k bytes) z;
    }

-- of 4,096 bytes
pub printed : {text bytes now : List ℕ} {end : ℕ} → length text ≤ 4096 → length bytes ≡ 4096 → Put bytes 0 text now end → Printed text bytes now end
printed short long p = printed_in (omega arith) p

-- a text that a page got from its first byte on
pub page_printed : {page now : Page} {text : List ℕ} → page.at ≡ 0 → Gets page text now → Printed text page.bytes.now now.bytes.now now.at
page_printed {page} {now} {text} start g =
    let put = subst (λ (k : ℕ). Put page.bytes.now k text now.bytes.now now.at) start g.put in
    let ends = put.ends in
    let long = g.long in
    let within = g.within in
    printed_in (omega arith) put

-- the bytes that are to be written out
module _ {text bytes now : List ℕ} {end : ℕ} (p : Printed text bytes now end) where
  pub printed_within : end ≤ length now
  printed_within =
      let e = p.answers in
      let l = ap length p.prints ∙ length-append text (drop (length text) bytes) in
      omega arith

  pub printed_front : end ≡ length (take end now)
  printed_front = sym (length-take-le end now printed_within)
