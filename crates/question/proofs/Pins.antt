-- Numbers 40, 41 and 42, and 5 with the pins behind the holds: each rule from what it asks of the pins, and back. Row n + 1 of the table with holds and pins behind it
-- is the pins, and the rows before it are as they were without pins. Assumes nothing.
use mathlib.Core.Path.{◌≡◌, refl, sym, ◌∙◌, ap, ap₂, subst}
use mathlib.Core.Bool.{Bool, true, false, not, ◌&&◌}
use mathlib.Core.Logic.{◌⊎◌, inl, inr, ⊎_elim}
use mathlib.Core.List.{List, [], ◌∷◌, ◌++◌, append_assoc}
use Prim.Native.Nat.{ℕ, ◌+◌, ◌*◌, ◌≤◌, ◌<◌, min}
use native.Mathlib.Omega.{arith}
use lib.Dec.{leb}
use lib.ListN.{length, length-append}
use borrow.Author.Tests.{le-leb, lt-leb, le-ltb, eq-eqb, ne_eqb}
use Rattle.graphs.specs.Jobs.{up_to, keep, has, ◌∈◌, both, minus}
use Rattle.graphs.specs.Clique.{Clique}
use Rattle.graphs.proofs.Bools.{cases, never, same?, lt_or_le, and_both, and_true, and_no_left, and_no_right}
use Rattle.graphs.proofs.Lists.{not_in_nil, in_up_to, keep_in, in_keep, has_keep, keep_none, has_up_to, keep_part, order_part}
use Rattle.sets.specs.Words.{in_words, jobs, fits}
use Rattle.sets.specs.Places.{in_row, first_place, Found, Nowhere}
use Rattle.sets.specs.declared.refusal.Refusal.{Refusal}
use Rattle.sets.specs.Refusals.{comes_back}
use Rattle.sets.specs.Rules.{Rule, Applies, Clear, AllClear, Judged, numbered, first_given}
use Rattle.sets.specs.Tables.{beyond, misfit, no5}
use Rattle.question.specs.Pins.{no40, no5_pins, pin_held, no41, no42}
use Rattle.sets.proofs.Words.{has_jobs, jobs_below, jobs_ascending}
use Rattle.sets.proofs.Finder.{place_last, place_nowhere}
use Rattle.sets.proofs.Tables.{fits_table, fits_set, misfit_same, misfit_fits, misfit_in, misfit_out}
use Rattle.sets.proofs.Judging.{judged_exactly, first_applies, all_clear}
use Rattle.sets.proofs.Verdicts.{unequal_applies, equal_clear, applies_unequal, clear_equal, place_given, refusal_back}

-- ---- number 40

module _ (pins : List ℕ) where
  pub no40_applies : (length pins ≡ 4 → ⊥) → Applies (no40 pins) (40 ∷ [])
  unfolding no40
  no40_applies = unequal_applies 40 (length pins) 4

  pub no40_clear : length pins ≡ 4 → Clear (no40 pins)
  unfolding no40
  no40_clear = equal_clear 40 (length pins) 4

  pub no40_unequal : (back : List ℕ) → Applies (no40 pins) back → length pins ≡ 4 → ⊥
  unfolding no40
  no40_unequal = applies_unequal 40 (length pins) 4

  pub no40_four : Clear (no40 pins) → length pins ≡ 4
  unfolding no40
  no40_four = clear_equal 40 (length pins) 4

-- ---- number 5, with the pins in row n + 1

-- what one rule alone gave, it applies with
alone_applies : (rule : Rule) (f : Refusal) → comes_back f ≡ first_given (rule ∷ []) → Applies rule (comes_back f)
unfolding Judged
alone_applies rule f e = by ((judged_exactly (rule ∷ []) (comes_back f)).0 (sym e))
  where
    by : Applies rule (comes_back f) ⊎ (Clear rule × (comes_back f ≡ [])) → Applies rule (comes_back f)
    by (inl a) = a
    by (inr c) = absurd (let b = refusal_back f in let z = ap length (sym b.is ∙ c.1) in omega arith)

-- the jobs of a list that are n or above
above : (n : ℕ) (l : List ℕ) (c : ℕ) → (leb n c && has l c) ≡ has (minus l (up_to n)) c
unfolding minus
above n l c = ⊎_elim
    (λ h. ap (λ (b : Bool). b && has l c) (lt-leb n c h) ∙ sym (kept ∙ and_no_right (has l c) (not (has (up_to n) c)) (ap not (in_up_to n c h))))
    (λ h. ap (λ (b : Bool). b && has l c) (le-leb n c h) ∙ sym (kept ∙ ap (λ (b : Bool). has l c && not b) (has_up_to n c ∙ le-ltb c n h) ∙ and_true (has l c)))
    (lt_or_le c n)
  where
    kept : has (keep (λ j. not (has (up_to n) j)) l) c ≡ (has l c && not (has (up_to n) c))
    kept = has_keep (λ j. not (has (up_to n) j)) l c

module _ (n : ℕ) (table holds pins : List ℕ) (long : length table ≡ 4 * n) (four : length holds ≡ 4) where
  rows_long : length (table ++ holds) ≡ 4 * (n + 1)
  rows_long = let l = length-append table holds in omega arith

  -- the rows before are as without pins
  pub beyond_before : (r c : ℕ) → r < n + 1 → beyond n table (holds ++ pins) r c ≡ beyond n table holds r c
  unfolding beyond
  beyond_before r c h = ap (λ (b : Bool). leb n c && b) (ap (λ (l : List ℕ). fits l r c) (sym (append_assoc table holds pins)) ∙ fits_table (n + 1) (table ++ holds) pins rows_long r c h)

  -- and that row is the pins
  pub beyond_pins : (c : ℕ) → c < 256 → beyond n table (holds ++ pins) (n + 1) c ≡ (leb n c && has (jobs pins) c)
  unfolding beyond
  beyond_pins c b =
      ap (λ (x : Bool). leb n c && x) (ap (λ (l : List ℕ). fits l (n + 1) c) (sym (append_assoc table holds pins)) ∙ fits_set (n + 1) (table ++ holds) pins rows_long c b ∙ sym (has_jobs pins c b))

  before_none : Nowhere (beyond n table holds) (n + 1) 256 → Nowhere (beyond n table (holds ++ pins)) (n + 1) 256
  before_none none r c h b = beyond_before r c h ∙ none r c h b

  -- what is found without pins is found with them
  pub no5_pins_applies : (back : List ℕ) → Applies (no5 n table holds) back → Applies (no5_pins n table holds pins) back
  unfolding no5 no5_pins Applies
  no5_pins_applies back a = (a.0, a.1, found a.2, a.3)
    where
      found : {r c : ℕ} → Found (beyond n table holds) (n + 1) 256 r c → Found (beyond n table (holds ++ pins)) (n + 2) 256 r c
      found {r} {c} f =
          record {
            row = let h = f.row in omega arith;
            column = f.column;
            holds = beyond_before r c f.row ∙ f.holds;
            earlier_row = λ q k h i. beyond_before q k (let l = f.row in omega arith) ∙ f.earlier_row q k h i;
            earlier_column = λ k h. beyond_before r k f.row ∙ f.earlier_column k h;
          }

  -- otherwise the place is the lowest pin that is n or above
  pins_place : Clear (no5 n table holds) → first_place (beyond n table (holds ++ pins)) (n + 2) 256 ≡ in_row (n + 1) (minus (jobs pins) (up_to n)) []
  unfolding no5 Clear minus
  pins_place none = place_last (beyond n table (holds ++ pins)) (n + 2) 256 (n + 1) (minus (jobs pins) (up_to n)) (omega arith)
      (order_part ◌<◌ (keep_part _ (jobs pins)) (jobs_ascending pins))
      (λ j i. jobs_below pins j (keep_in _ (jobs pins) j i))
      (λ c b. beyond_pins c b ∙ above n (jobs pins) c)
      (before_none none)

  -- as the code has them, without the first n jobs
  pub pins_row : n ≤ 256 → Clear (no5 n table holds) → {first high : List ℕ} → first ≡ up_to (min 256 n) → high ≡ minus (jobs pins) first
      → in_row (n + 1) high [] ≡ first_place (beyond n table (holds ++ pins)) (n + 2) 256
  pins_row few none f e =
      let m : min 256 n ≡ n = omega arith in
      ap (λ (l : List ℕ). in_row (n + 1) l []) (e ∙ ap (minus (jobs pins)) (f ∙ ap up_to m)) ∙ sym (pins_place none)

  -- as the code refuses them, one after the other: what was found without pins, then the pins' row
  pub marks_before : (f : Refusal) → comes_back f ≡ first_given (no5 n table holds ∷ []) → comes_back f ≡ first_given (no5_pins n table holds pins ∷ [])
  marks_before f e = sym (first_applies _ _ (no5_pins_applies (comes_back f) (alone_applies (no5 n table holds) f e)))

  pub marks_after : n ≤ 256 → [] ≡ first_given (no5 n table holds ∷ []) → {first high back place : List ℕ} → first ≡ up_to (min 256 n) → high ≡ minus (jobs pins) first
      → place ≡ in_row (n + 1) high [] → back ≡ numbered 5 place → back ≡ first_given (no5_pins n table holds pins ∷ [])
  unfolding no5_pins AllClear
  marks_after few none f e p b = place_given 5 _ (n + 2) 256 b (p ∙ pins_row few (all_clear (no5 n table holds ∷ []) (sym none)).0 f e)

  pub no5_pins_clear : Clear (no5 n table holds) → ((j : ℕ) → j ∈ jobs pins → j < n) → Clear (no5_pins n table holds pins)
  unfolding no5_pins Clear minus
  no5_pins_clear none inside =
      place_nowhere (beyond n table (holds ++ pins)) (n + 2) 256 (pins_place none ∙ ap (λ (l : List ℕ). in_row (n + 1) l []) (keep_none _ (jobs pins) (λ j i. ap not (in_up_to n j (inside j i)))))

  pub no5_of_pins : Clear (no5_pins n table holds pins) → Clear (no5 n table holds)
  unfolding no5 no5_pins Clear
  no5_of_pins none r c h b = sym (beyond_before r c h) ∙ none r c (omega arith) b

  pub pins_inside : Clear (no5_pins n table holds pins) → (j : ℕ) → j ∈ jobs pins → j < n
  unfolding no5_pins Clear
  pins_inside none j i = ⊎_elim
      (λ h. h)
      (λ h. let b = jobs_below pins j i in never (beyond n table (holds ++ pins) (n + 1) j) (beyond_pins j b ∙ and_both _ _ (le-leb n j h) i) (none (n + 1) j (omega arith) b))
      (lt_or_le j n)

-- ---- number 41

module _ (n : ℕ) (holds pins : List ℕ) where
  pinheld_row : (c : ℕ) → c < 256 → pin_held n holds pins (n + 1) c ≡ has (both (jobs pins) (jobs holds)) c
  unfolding pin_held both
  pinheld_row c b =
      ap₂ (λ (x y : Bool). x && y && in_words holds c) (eq-eqb (n + 1) (n + 1) refl) (sym (has_jobs pins c b))
      ∙ ap (λ (x : Bool). has (jobs pins) c && x) (sym (has_jobs holds c b))
      ∙ sym (has_keep (has (jobs holds)) (jobs pins) c)

  pinheld_other : Nowhere (pin_held n holds pins) (n + 1) 256
  unfolding pin_held
  pinheld_other r c h b = and_no_left _ _ (and_no_left _ _ (ne_eqb r (n + 1) (λ e. omega arith)))

  -- the place is the lowest pin that is held
  held_place : first_place (pin_held n holds pins) (n + 2) 256 ≡ in_row (n + 1) (both (jobs pins) (jobs holds)) []
  unfolding both
  held_place = place_last (pin_held n holds pins) (n + 2) 256 (n + 1) (both (jobs pins) (jobs holds)) (omega arith)
      (order_part ◌<◌ (keep_part _ (jobs pins)) (jobs_ascending pins))
      (λ j i. jobs_below pins j (keep_in _ (jobs pins) j i))
      pinheld_row
      pinheld_other

  pub held_row : {l : List ℕ} → l ≡ both (jobs pins) (jobs holds) → in_row (n + 1) l [] ≡ first_place (pin_held n holds pins) (n + 2) 256
  held_row e = ap (λ (l : List ℕ). in_row (n + 1) l []) e ∙ sym held_place

  pub no41_clear : ((j : ℕ) → j ∈ jobs pins → j ∈ jobs holds → ⊥) → Clear (no41 n holds pins)
  unfolding no41 Clear both
  no41_clear apart =
      place_nowhere (pin_held n holds pins) (n + 2) 256
      (held_place ∙ ap (λ (l : List ℕ). in_row (n + 1) l []) (keep_none _ (jobs pins) (λ j i. ⊎_elim (λ k. absurd (apart j i k)) (λ k. k) (cases (has (jobs holds) j)))))

  pub no41_apart : Clear (no41 n holds pins) → (j : ℕ) → j ∈ jobs pins → j ∈ jobs holds → ⊥
  unfolding no41 Clear both
  no41_apart none j i k = never (pin_held n holds pins (n + 1) j) (pinheld_row j (jobs_below pins j i) ∙ in_keep (has (jobs holds)) (jobs pins) j i k) (none (n + 1) j (omega arith) (jobs_below pins j i))

-- ---- number 42

module _ (n : ℕ) (table pins : List ℕ) where
  pub no42_clear : n ≤ 256 → Clique (fits table) (jobs pins) → Clear (no42 n table pins)
  unfolding no42 Clear Clique
  no42_clear few clique a b h k = ⊎_elim (misfit_same table pins a b) (λ d. differ d (cases (fits table a b))) (same? a b)
    where
      differ : (a ≡ b → ⊥) → (fits table a b ≡ true) ⊎ (fits table a b ≡ false) → misfit table pins a b ≡ false
      differ d = ⊎_elim
          (misfit_fits table pins a b d)
          (λ f. ⊎_elim
          (λ i. misfit_in table pins a b d f (omega arith) (omega arith) i ∙ ⊎_elim (λ j. never (fits table a b) (clique a b i j d) f) (λ j. j) (cases (has (jobs pins) b)))
          (misfit_out table pins a b d f (omega arith) (omega arith))
          (cases (has (jobs pins) a)))

  pub no42_clique : ((j : ℕ) → j ∈ jobs pins → j < n) → Clear (no42 n table pins) → Clique (fits table) (jobs pins)
  unfolding no42 Clear Clique
  no42_clique inside none a b i j d = ⊎_elim
      (λ f. f)
      (λ f. never (misfit table pins a b) (misfit_in table pins a b d f (jobs_below pins a i) (jobs_below pins b j) i ∙ j) (none a b (inside a i) (inside b j)))
      (cases (fits table a b))

-- ---- without pins nothing is refused of them

pub in_none : {A : Type 0} (l : List ℕ) → l ≡ [] → (j : ℕ) → j ∈ l → A
in_none l e j i = not_in_nil j (subst (λ (m : List ℕ). j ∈ m) e i)

pub unpinned_clear : (n : ℕ) (table holds pins : List ℕ) → n ≤ 256 → jobs pins ≡ [] → AllClear (no41 n holds pins ∷ no42 n table pins ∷ [])
unfolding AllClear Clique
unpinned_clear n table holds pins few e = (
  no41_clear n holds pins (λ j i. in_none (jobs pins) e j i),
  (no42_clear n table pins few (λ a b i. in_none (jobs pins) e a i), tt),
)
