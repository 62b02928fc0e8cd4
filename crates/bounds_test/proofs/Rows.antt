-- Rows for the jobs of a set: room for 1024 words has the row of every job, and packed rows of n jobs those of a set of jobs below n.
-- A table that no check refuses pairs jobs, and so do its packed rows. Assumes nothing.
use mathlib.Core.Path.{◌≡◌, sym, ◌∙◌, ap, subst}
use mathlib.Core.Bool.{not}
use mathlib.Core.Logic.{⊎_elim}
use mathlib.Core.List.{List, [], ◌∷◌}
use Prim.Native.Nat.{ℕ, ◌*◌, ◌/◌, ◌%◌, ◌≤◌, ◌<◌, min}
use native.Mathlib.Omega.{arith}
use lib.ListN.{length, take, length-take}
use lib.Seq.{length-take-le, get_or-take}
use Rattle.graphs.specs.Jobs.{up_to, has, both, minus, ◌∈◌}
use Rattle.graphs.specs.Clique.{Paired}
use Rattle.graphs.proofs.Bools.{cases, not_of_false}
use Rattle.graphs.proofs.Lists.{keep_all, in_keep, up_to_in, not_in_nil}
use Rattle.sets.specs.Words.{bit, in_words, jobs}
use Rattle.sets.specs.Rules.{first_given, AllClear}
use Rattle.sets.specs.Tables.{no5, no6, no7, Accepted}
use Rattle.sets.proofs.Words.{has_jobs, jobs_below}
use Rattle.sets.proofs.Judging.{all_clear}
use Rattle.sets.proofs.Tables.{accepted}
use Rattle.sets.proofs.Verdicts.{no1_clear, no2_clear}
use Rattle.rows.specs.Rows.{fits_at, SetIn, Packed}
use Rattle.rows.proofs.Onward.{jobs_within}
use Rattle.rows.proofs.Packing.{row_room, packed_fits}

-- ---- the set that the filter is given

-- the jobs of a set that are in it are all of them
pub both_same : (l : List ℕ) → both l l ≡ l
unfolding both
both_same l = keep_all (has l) l (λ a i. i)

empty : {A : Type 0} (l : List ℕ) (j : ℕ) → length l ≡ 0 → j ∈ l → A
empty [] j e i = not_in_nil j i
empty (a ∷ l) j e i = absurd (omega arith)

-- where none is left without the first n jobs, each is below n
pub all_below : (n : ℕ) (l : List ℕ) {first left : List ℕ} → first ≡ up_to (min 256 n) → left ≡ minus l first → length left ≡ 0 → (j : ℕ) → j ∈ l → j < n
unfolding minus
all_below n l {first} {left} e f none j i = ⊎_elim
    (λ h. let b = up_to_in (min 256 n) j (subst (λ (m : List ℕ). j ∈ m) e h) in omega arith)
    (λ h. empty left j none (subst (λ (m : List ℕ). j ∈ m) (sym f) (in_keep (λ j. not (has first j)) l j i (not_of_false (has first j) h))))
    (cases (has first j))

-- a job of the first words is one of all of them
first_inside : (w : ℕ) (ws : List ℕ) (j : ℕ) → j ∈ jobs (take w ws) → j ∈ jobs ws
unfolding in_words
first_inside w ws j i =
    let b = jobs_below (take w ws) j i in
    let l = jobs_within (take w ws) j i in
    let s = length-take w ws in
    has_jobs ws j b ∙ ap (λ (x : ℕ). bit x (j % 64)) (sym (get_or-take w ws (j / 64) 0 (omega arith))) ∙ sym (has_jobs (take w ws) j b) ∙ i

-- rows of n jobs have the row of each job of such a set
pub rows_of_set : (w n : ℕ) (rows ws : List ℕ) → w ≤ 4 → w ≤ length ws → length rows ≡ w * n → ((j : ℕ) → j ∈ jobs ws → j < n) → SetIn w rows (take w ws)
rows_of_set w n rows ws few words room below = record {
  narrow = few;
  words = length-take-le w ws words;
  row = λ j i. let a = row_room w {r = j} {n = n} (below j (first_inside w ws j i)) in omega arith;
}

-- ---- the table that the filter is given

module _ (n : ℕ) (table set : List ℕ) (few : n ≤ 256) (long : length table ≡ 4 * n) (passed : first_given (no5 n table set ∷ no6 n table ∷ no7 n table ∷ []) ≡ []) where
  accepted_table : Accepted n table
  unfolding AllClear
  accepted_table =
      let k = all_clear (no5 n table set ∷ no6 n table ∷ no7 n table ∷ []) passed in
      accepted n table set (no1_clear n few) (no2_clear n table long) k.0 k.1.0 k.1.1.0

  -- no check refuses it, and its packed rows say what fits as it does
  pub packed_pairs : {w : ℕ} {rows : List ℕ} → n ≤ 64 * w → Packed w n table rows → Paired (fits_at w rows)
  packed_pairs {w} {rows} enough packed = subst Paired (sym (packed_fits w n enough table accepted_table packed)) (record { apart = accepted_table.apart; two_way = accepted_table.two_way })
