-- The versions of the night file: a second joins by one more case in each definition that takes one.
use Rattle.std.specs.Prelude.{Bool, List, ℕ}
use Rattle.night.specs.Format.{bytes, file_length}

pub data Version : Type 0 where
  one : Version

-- "3 and 4: version 1."
unfoldable pub version_number : Version → ℕ
version_number one = 1

-- the bytes of n jobs, their table and their holds in a version, and how many they are
abbrev pub bytes_as : Version → ℕ → List ℕ → List ℕ → List ℕ
bytes_as one = bytes

abbrev pub length_as : Version → ℕ → Bool → ℕ
length_as one = file_length
