-- The night file goes round. Read accepts exactly the files that Write can write; such a file reads to one table with its holds, and writing these gives the
-- same bytes; what was written reads back. First of the files, over the versions, then of the two calls, through their promises alone. Assumes nothing.
use mathlib.Core.Path.{◌≡◌, refl, sym, ◌∙◌, ap, ap₂, subst}
use Rattle.std.specs.Prelude.{Ok}
use mathlib.Core.List.{List, ◌++◌}
use Prim.Native.Nat.{ℕ, ◌-◌, ◌*◌, ◌≤◌}
use lib.ListN.{length, take, drop, replicate}
use lib.Seq.{take_at}
use Rattle.sets.specs.Rules.{AllClear}
use Rattle.sets.proofs.Judging.{first_clear, nothing_given, all_clear, clear_all, clear_before, clear_split}
use Rattle.night.specs.Format.{Bytes, header, held, bytes}
use Rattle.night.specs.Versions.{Version, one, version_number, bytes_as, length_as}
use Rattle.night.specs.Reading.{number_at, version_in, jobs_in, table_in, holds_in, filled_table, header_rules, file_rules, read_rules}
use Rattle.night.specs.Writing.{table_rules, write_rules}
use Rattle.night.specs.Promises.{ReadPromise}
use Rattle.night.specs.Files.{WrittenAs, ReadAs}
use Rattle.night.specs.RoundTrip.{AcceptedAlways, ReadsToOne, WritesBack, ReadsBack}
use Rattle.night.proofs.Decoding.{take_filled}
use Rattle.night.proofs.Encoding.{length_as_lem}
use Rattle.night.proofs.Refusing as C
use Rattle.night.proofs.Promises.{read_filled, write_done, read_unique, write_unique, filled, laid}
use Rattle.night.proofs.Accepting as A
use Rattle.night.proofs.Returning as B

-- ---- files

-- an accepted file is of one of the versions, and reads to what it holds
pub accepted_reads : {file : List ℕ} → AllClear (file_rules file) → (v : Version) × ReadAs v file (jobs_in file) (table_in file (jobs_in file)) (holds_in file (jobs_in file))
unfolding file_rules version_number
accepted_reads {file} c = (one, record { version = (A.headed file (clear_split (header_rules file) _ c).0).version; accepted = c; jobs = refl; table_is = refl; holds_is = refl })

-- "writing that table gives the same bytes"
pub read_is_written : (v : Version) {file : List ℕ} {n : ℕ} {table holds : List ℕ} → Bytes file → ReadAs v file n table holds → WrittenAs v file n table holds
unfolding file_rules
read_is_written one {file} {n} {table} {holds} small p =
    let k = jobs_in file in
    let both = clear_split (header_rules file) _ p.accepted in
    let head = A.headed file both.0 in
    let rest = both.1 in
    let t : table_in file k ≡ table = ap (table_in file) p.jobs ∙ p.table_is in
    let h : holds_in file k ≡ holds = ap (holds_in file) p.jobs ∙ p.holds_is in
    let now : WrittenAs one file k (table_in file k) (holds_in file k) = record {
      can = record { checked = A.can_write file k head.few rest; table_words = A.table_words file k; hold_words = A.hold_words file k };
      is = sym (A.bytes_are file small head (A.list_kept file k rest));
    } in
    subst (λ (m : ℕ). WrittenAs one file m table holds) p.jobs (subst (λ (l : List ℕ). WrittenAs one file k table l) h (subst (λ (l : List ℕ). WrittenAs one file k l (holds_in file k)) t now))

-- "reading what we wrote gives both back"
pub written_is_read : (v : Version) {file : List ℕ} {n : ℕ} {table holds : List ℕ} → WrittenAs v file n table holds → ReadAs v file n table holds
unfolding version_number version_in number_at bytes header
written_is_read one {file} {n} {table} {holds} p =
    let g = B.good n table holds p.can.checked in
    let tw = p.can.table_words in
    let hw = p.can.hold_words in
    let now : ReadAs one (bytes n table holds) n table holds = record {
      version = refl;
      accepted = B.accepts n table holds g tw hw;
      jobs = B.jobs_back n table holds g tw hw;
      table_is = B.table_back n table holds g tw hw;
      holds_is = B.holds_back n table holds g tw hw;
    } in
    subst (λ (f : List ℕ). ReadAs one f n table holds) (sym p.is) now

-- Read accepts exactly the files that Write can write
pub accepted_is_written : {file : List ℕ} → Bytes file → AllClear (file_rules file) → (v : Version) × WrittenAs v file (jobs_in file) (table_in file (jobs_in file)) (holds_in file (jobs_in file))
accepted_is_written small c = let r = accepted_reads c in (r.0, read_is_written r.0 small r.1)

pub written_is_accepted : {v : Version} {file : List ℕ} {n : ℕ} {table holds : List ℕ} → WrittenAs v file n table holds → AllClear (file_rules file)
written_is_accepted {v} p = (written_is_read v p).accepted

-- ---- the two calls

-- what an accepting reply says of the file alone
accepts : {file t h table holds : List ℕ} {n : ℕ} → ReadPromise file t h (Ok n) table holds → AllClear (file_rules file)
unfolding read_rules AllClear
accepts {file} {t} {h} p = (all_clear (read_rules file t h) (filled p).none).1.1

-- "A night file we accept"
pub always_accepted : AcceptedAlways
always_accepted file t h table holds t' h' table' holds' n reply p q long four =
    let f = filled p in
    (read_unique q (read_filled file t' h' n (filled_table file n) (holds_in file n) (C.read_file file t' h' long four ∙ clear_all (file_rules file) (accepts p)) f.jobs_are refl refl)).same_reply

-- "reads to one table with its holds"
pub one_table : ReadsToOne
one_table file t h table holds t' h' table' holds' n n' p q =
    let f = filled p in
    let g = filled q in
    let e = f.jobs_are ∙ sym g.jobs_are in
    (e, f.table_is ∙ ap (filled_table file) e ∙ sym g.table_is, f.holds_are ∙ ap (holds_in file) e ∙ sym g.holds_are)

-- what Read filled is what the file, of some version, holds
reads_as : {file t h table holds : List ℕ} {n : ℕ} → ReadPromise file t h (Ok n) table holds → (v : Version) × ReadAs v file n (take (4 * n) table) holds
reads_as {file} {table = table} {holds = holds} {n = n} p =
    let f = filled p in
    let r = accepted_reads (accepts p) in (
      r.0,
      record {
        version = r.1.version;
        accepted = r.1.accepted;
        jobs = sym f.jobs_are;
        table_is = sym (take_filled file n) ∙ ap (take (4 * n)) (sym f.table_is);
        holds_is = sym f.holds_are;
      },
    )

-- "and writing that table gives the same bytes"
pub read_then_write : WritesBack
unfolding write_rules
read_then_write file t h table holds n small p =
    let r = reads_as p in
    let v = r.0 in
    let w = read_is_written v small r.1 in
    let size : length file ≡ length_as v n (held holds) = ap length w.is ∙ length_as_lem v n (take (4 * n) table) holds in (
      v,
      r.1.version,
      λ out out_now reply q room.
          write_unique q (write_done v n (take (4 * n) table) holds out (length file) (file ++ drop (length file) out)
          (clear_before (table_rules n (take (4 * n) table) holds) _ w.can.checked ∙ first_clear _ _ (C.no27_clear v n holds out (subst (λ (x : ℕ). x ≤ length out) size room)) ∙ nothing_given) size
          (ap₂ (λ (f : List ℕ) (x : ℕ). f ++ drop x out) w.is size)),
    )

-- "reading what we wrote gives both back"
pub write_then_read : ReadsBack
unfolding write_rules filled_table
write_then_read v n k table holds out out_now t h table_now holds_now reply tw hw p q long four =
    let l = laid p in
    let file = bytes_as v n table holds in
    let file-is : take k out_now ≡ file = ap (take k) l.out_is ∙ take_at file (drop (length file) out) k (length_as_lem v n table holds ∙ sym l.size_is) in
    let s = written_is_read v (record { can = record { checked = (clear_split (table_rules n table holds) _ (all_clear (write_rules v n table holds out) l.none)).0; table_words = tw; hold_words = hw }; is = refl }) in
    let back : ReadPromise file t h (Ok n) (table ++ replicate (1024 - 4 * n) 0) holds = read_filled file t h n (table ++ replicate (1024 - 4 * n) 0) holds
    (C.read_file file t h long four ∙ clear_all (file_rules file) s.accepted) (sym s.jobs) (ap (λ (x : List ℕ). x ++ replicate (1024 - 4 * n) 0) (sym s.table_is)) (sym s.holds_is) in
    read_unique (subst (λ (f : List ℕ). ReadPromise f t h reply table_now holds_now) file-is q) back
