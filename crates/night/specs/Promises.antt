-- What Read and Write promise: the reply and every lent buffer, on every input; and what it is for two replies with their buffers to be equal.
use Rattle.std.specs.Prelude.{◌≡◌, List, ℕ, Result}
use Rattle.sets.specs.declared.refusal.Refusal.{Refusal}
use Rattle.night.specs.Versions.{Version}
use Rattle.night.specs.Reading.{table_after, holds_after}
use Rattle.night.specs.Writing.{out_after}
use Rattle.night.specs.Answers.{read_answer, write_answer, read_says, write_says}

-- the promise of Read: its reply, and every word of the lent table and holds after it
pub record ReadPromise (file table holds : List ℕ) (reply : Result ℕ Refusal) (table_now holds_now : List ℕ) : Type 0 where
  pub reply_is : read_answer reply ≡ read_says file table holds
  pub table_is : table_now ≡ table_after file table holds
  pub holds_is : holds_now ≡ holds_after file table holds

-- the promise of the Write of a version: its reply, and every byte of the lent output after it
pub record WritePromise (v : Version) (n : ℕ) (table holds out : List ℕ) (reply : Result ℕ Refusal) (out_now : List ℕ) : Type 0 where
  pub reply_is : write_answer reply ≡ write_says v n table holds out
  pub out_is : out_now ≡ out_after v n table holds out

-- "two replies it allows are equal", with every lent buffer
pub record SameRead (r r' : Result ℕ Refusal) (table table' holds holds' : List ℕ) : Type 0 where
  pub same_reply : r ≡ r'
  pub same_table : table ≡ table'
  pub same_holds : holds ≡ holds'

pub record SameWrite (r r' : Result ℕ Refusal) (out out' : List ℕ) : Type 0 where
  pub same_reply : r ≡ r'
  pub same_out : out ≡ out'
