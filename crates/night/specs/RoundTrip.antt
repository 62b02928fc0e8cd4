-- The night file goes round, in demand 2's words: "A night file we accept reads to one table with its holds, and writing that table gives the same bytes;
-- reading what we wrote gives both back." Said of the two calls, through their promises alone: t and h are the words lent to
-- Read, table and holds the same words after it. What is lent are bytes, and words of 64 bits.
use Rattle.std.specs.Prelude.{◌≡◌, List, ◌++◌, ℕ, ◌-◌, ◌*◌, ◌≤◌, length, take, drop, replicate, Result, Ok}
use Rattle.sets.specs.Words.{Words}
use Rattle.sets.specs.declared.refusal.Refusal.{Refusal}
use Rattle.night.specs.Format.{Bytes}
use Rattle.night.specs.Versions.{Version, version_number}
use Rattle.night.specs.Reading.{version_in}
use Rattle.night.specs.Promises.{ReadPromise, WritePromise, SameRead, SameWrite}

-- "A night file we accept": accepted once, it is accepted wherever 1,024 table words and four hold words are lent
abbrev pub AcceptedAlways : Type 0
AcceptedAlways = (file t h table holds t' h' table' holds' : List ℕ) (n : ℕ) (reply : Result ℕ Refusal)
    → ReadPromise file t h (Ok n) table holds → ReadPromise file t' h' reply table' holds' → length t' ≡ 1024 → length h' ≡ 4 → reply ≡ Ok n

-- "reads to one table with its holds": two accepting replies for one file have the same n, table and holds, whatever was lent
abbrev pub ReadsToOne : Type 0
ReadsToOne = (file t h table holds t' h' table' holds' : List ℕ) (n n' : ℕ)
    → ReadPromise file t h (Ok n) table holds → ReadPromise file t' h' (Ok n') table' holds' → (n ≡ n') × (table ≡ table') × (holds ≡ holds')

-- "and writing that table gives the same bytes": the Write of the file's own version, lent room enough, writes the file and leaves what stands behind it
abbrev pub WritesBack : Type 0
WritesBack = (file t h table holds : List ℕ) (n : ℕ) → Bytes file → ReadPromise file t h (Ok n) table holds
    → (v : Version) × (version_in file ≡ version_number v) × ((out out_now : List ℕ) (reply : Result ℕ Refusal) → WritePromise v n (take (4 * n) table) holds out reply out_now → length file ≤ length out
    → SameWrite reply (Ok (length file)) out_now (file ++ drop (length file) out))

-- "reading what we wrote gives both back", in every version: n, the table ("zero past 4n") and the holds
abbrev pub ReadsBack : Type 0
ReadsBack = (v : Version) (n k : ℕ) (table holds out out_now t h table_now holds_now : List ℕ) (reply : Result ℕ Refusal) → Words table → Words holds
    → WritePromise v n table holds out (Ok k) out_now → ReadPromise (take k out_now) t h reply table_now holds_now → length t ≡ 1024 → length h ≡ 4
    → SameRead reply (Ok n) table_now (table ++ replicate (1024 - 4 * n) 0) holds_now holds
