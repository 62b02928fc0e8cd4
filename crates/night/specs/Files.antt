-- A file and what it stands for, in a version: what Write writes, and what Read reads.
use Rattle.std.specs.Prelude.{◌≡◌, List, ℕ}
use Rattle.sets.specs.Words.{Words}
use Rattle.sets.specs.Rules.{AllClear}
use Rattle.night.specs.Versions.{Version, version_number, bytes_as}
use Rattle.night.specs.Reading.{version_in, jobs_in, table_in, holds_in, file_rules}
use Rattle.night.specs.Writing.{table_rules}

-- what no rule of Write refuses but that of the output's length; a lent word is of 64 bits
pub record Writable (n : ℕ) (table holds : List ℕ) : Type 0 where
  pub checked : AllClear (table_rules n table holds)
  pub table_words : Words table
  pub hold_words : Words holds

-- the file is what the Write of this version writes
pub record WrittenAs (v : Version) (file : List ℕ) (n : ℕ) (table holds : List ℕ) : Type 0 where
  pub can : Writable n table holds
  pub is : file ≡ bytes_as v n table holds

-- the file is of this version, no rule of Read refuses it, and it reads to n, the table and the holds
pub record ReadAs (v : Version) (file : List ℕ) (n : ℕ) (table holds : List ℕ) : Type 0 where
  pub version : version_in file ≡ version_number v
  pub accepted : AllClear (file_rules file)
  pub jobs : jobs_in file ≡ n
  pub table_is : table_in file n ≡ table
  pub holds_is : holds_in file n ≡ holds
