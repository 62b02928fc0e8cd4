-- The layout of every reply, as four numbers: the kind, then the paper's number and values; what a call leaves where it is lent too little room for them.
use Rattle.std.specs.Prelude.{◌≡◌, Bool, cond, List, [], ◌∷◌, ◌++◌, ℕ, ltb, length, get_or, drop, Result, Ok, Err}
use Rattle.sets.specs.declared.refusal.Refusal.{Refusal}
use Rattle.sets.specs.Refusals.{comes_back}
use Rattle.night.specs.Versions.{Version}
use Rattle.night.specs.Answers.{NightAnswer, answered, turned_down, read_says, write_says}
use Rattle.buyerspruce.specs.declared.reply.Kind.{Kind}
use Rattle.buyerspruce.specs.declared.reply.Kind.TheVariants.{Refused, Best, Unfinished, Clique, Pair, Preferred, Read, Written, Classes}
use Rattle.buyerspruce.specs.declared.reply.Numbers.{Numbers}
use Rattle.buyerspruce.specs.declared.prefer.Choice.{Choice}
use Rattle.buyerspruce.specs.declared.prefer.Choice.TheVariants.{Neither, First, Second}
use Rattle.search.specs.Search.{SearchAnswer}
use Rattle.search.specs.Search as S
use Rattle.colouring.specs.Colour.{ColourAnswer}
use Rattle.colouring.specs.Colour as K
use Rattle.sets.specs.Check.{CheckAnswer}
use Rattle.sets.specs.Check as C
use Rattle.sets.specs.Prefer.{preferred}

-- the numbers of the kinds
abbrev pub kind_number : Kind → ℕ
kind_number Refused = 0
kind_number Best = 1
kind_number Unfinished = 2
kind_number Clique = 3
kind_number Pair = 4
kind_number Preferred = 5
kind_number Read = 6
kind_number Written = 7
kind_number Classes = 8

-- the code's four numbers, in order
abbrev pub listed : Numbers → List ℕ
listed l = l.0

-- kind 0, refused: the number, then the one or two values that come back with it; 0 where there is none
unfoldable pub refused_numbers : List ℕ → List ℕ
refused_numbers back = 0 ∷ get_or back 0 0 ∷ get_or back 1 0 ∷ get_or back 2 0 ∷ []

-- a number of a kind, or a refusal
abbrev pub number_or_refused : ℕ → Result ℕ Refusal → List ℕ
number_or_refused k (Ok n) = k ∷ n ∷ 0 ∷ 0 ∷ []
number_or_refused k (Err f) = refused_numbers (comes_back f)

-- kind 1, best, and kind 2, unfinished: size and visits
unfoldable pub search_numbers : SearchAnswer → List ℕ
search_numbers (S.best size visits) = 1 ∷ size ∷ visits ∷ 0 ∷ []
search_numbers (S.unfinished size visits) = 2 ∷ size ∷ visits ∷ 0 ∷ []
search_numbers (S.refused back) = refused_numbers back

-- kind 3, yes: the size; kind 4, the first pair that doesn't fit: its two jobs
unfoldable pub check_numbers : CheckAnswer → List ℕ
check_numbers (C.yes size) = 3 ∷ size ∷ 0 ∷ 0 ∷ []
check_numbers (C.pair p) = 4 ∷ get_or p 0 0 ∷ get_or p 1 0 ∷ 0 ∷ []
check_numbers (C.refused back) = refused_numbers back

-- the numbers of the choices
abbrev pub choice_number : Choice → ℕ
choice_number Neither = 0
choice_number First = 1
choice_number Second = 2

-- kind 5, preferred: 1 for the first set, 2 for the second, 0 for neither
unfoldable pub prefer_numbers : List ℕ → List ℕ → List ℕ
prefer_numbers first second = 5 ∷ preferred first second 1 2 0 ∷ 0 ∷ 0 ∷ []

-- kind 6, read: n; kind 7, written: the length
unfoldable pub night_numbers : ℕ → NightAnswer → List ℕ
night_numbers number (answered value) = number ∷ value ∷ 0 ∷ 0 ∷ []
night_numbers number (turned_down back) = refused_numbers back

unfoldable pub read_numbers : List ℕ → List ℕ → List ℕ → List ℕ
read_numbers file table holds = night_numbers 6 (read_says file table holds)

unfoldable pub write_numbers : Version → ℕ → List ℕ → List ℕ → List ℕ → List ℕ
write_numbers v n table holds out = night_numbers 7 (write_says v n table holds out)

-- kind 8, coloured: the number of classes
unfoldable pub colour_numbers : ColourAnswer → List ℕ
colour_numbers (K.classed k) = 8 ∷ k ∷ 0 ∷ 0 ∷ []
colour_numbers (K.refused back) = refused_numbers back

-- a reply needs four words; with fewer nothing is done: every lent buffer is as it came
unfoldable pub no_room : List ℕ → Bool
no_room reply = ltb (length reply) 4

unfoldable pub if_room : List ℕ → List ℕ → List ℕ → List ℕ
if_room reply new old = cond (no_room reply) old new

-- the lent reply after: the four numbers, and past them what was there
unfoldable pub laid : List ℕ → List ℕ → List ℕ
laid numbers reply = if_room reply (numbers ++ drop 4 reply) reply

-- what the call returns: the kind, or 255 where there was no room
unfoldable pub kind : List ℕ → List ℕ → ℕ
kind numbers reply = cond (no_room reply) 255 (get_or numbers 0 0)

-- what every call promises of what it returns and of the lent reply
pub record Replies (numbers reply : List ℕ) (r : ℕ) (reply_now : List ℕ) : Type 0 where
  pub returned : r ≡ kind numbers reply
  pub replied : reply_now ≡ laid numbers reply
