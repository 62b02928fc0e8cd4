-- What each call promises, in one record that its contract cites: what it returns and lays into the lent reply, and what it leaves in each lent buffer that it
-- may write. Both are the planner's own call's, where there is room for a reply.
use Rattle.std.specs.Prelude.{◌≡◌, List, ℕ}
use Rattle.search.specs.Search.{search_says, result_after}
use Rattle.colouring.specs.Colour.{colour_says, classes_after}
use Rattle.question.specs.Question.{Question}
use Rattle.sets.specs.Check.{check_says}
use Rattle.night.specs.Versions.{Version}
use Rattle.night.specs.Reading.{table_after, holds_after}
use Rattle.night.specs.Writing.{out_after}
use Rattle.buyerspruce.specs.Reply.{Replies, if_room, search_numbers, colour_numbers, check_numbers, prefer_numbers, read_numbers, write_numbers}

pub record SearchCall (q : Question) (budget : ℕ) (result reply : List ℕ) (r : ℕ) (reply_now result_now : List ℕ) : Type 0 where
  pub replied : Replies (search_numbers (search_says q budget result)) reply r reply_now
  pub result_is : result_now ≡ if_room reply (result_after q budget result) result

pub record ColourCall (q : Question) (lent reply : List ℕ) (r : ℕ) (reply_now classes_now : List ℕ) : Type 0 where
  pub replied : Replies (colour_numbers (colour_says q lent)) reply r reply_now
  pub classes_are : classes_now ≡ if_room reply (classes_after q lent) lent

pub record CheckCall (n : ℕ) (table set reply : List ℕ) (r : ℕ) (reply_now : List ℕ) : Type 0 where
  pub replied : Replies (check_numbers (check_says n table set)) reply r reply_now

pub record PreferCall (first second reply : List ℕ) (r : ℕ) (reply_now : List ℕ) : Type 0 where
  pub replied : Replies (prefer_numbers first second) reply r reply_now

pub record ReadCall (file table holds reply : List ℕ) (r : ℕ) (reply_now table_now holds_now : List ℕ) : Type 0 where
  pub replied : Replies (read_numbers file table holds) reply r reply_now
  pub table_is : table_now ≡ if_room reply (table_after file table holds) table
  pub holds_is : holds_now ≡ if_room reply (holds_after file table holds) holds

pub record WriteCall (v : Version) (n : ℕ) (table holds out reply : List ℕ) (r : ℕ) (reply_now out_now : List ℕ) : Type 0 where
  pub replied : Replies (write_numbers v n table holds out) reply r reply_now
  pub out_is : out_now ≡ if_room reply (out_after v n table holds out) out
