-- What Search and Colour say together: beside the pins a run has jobs of P only. Two jobs of one class do not fit, so it has one of each at the most. Assumes nothing.
use mathlib.Core.Path.{◌≡◌, sym, ◌∙◌, ap, subst}
use mathlib.Core.Logic.{◌⊎◌, inl, inr, ⊎_elim}
use mathlib.Core.List.{List, [], ◌∷◌}
use Prim.Native.Nat.{ℕ, ◌+◌, ◌≤◌}
use native.Mathlib.Omega.{arith}
use lib.ListN.{length, get_or}
use borrow.Author.Tests.{eq-eqb, eqb-true}
use Rattle.graphs.specs.Jobs.{has, ◌∈◌, Within, minus, Part}
use Rattle.graphs.specs.Clique.{Clique}
use Rattle.graphs.proofs.Bools.{cases, never, same?, lt_or_le}
use Rattle.graphs.proofs.Lists.{not_in_nil, part_in}
use Rattle.graphs.proofs.Pigeonhole.{in_minus}
use Rattle.graphs.proofs.Pins.{holding_split}
use Rattle.sets.specs.Words.{jobs}
use Rattle.question.specs.Question.{Question, fitting, unheld}
use Rattle.question.specs.Start.{pinned, candidates}
use Rattle.question.proofs.Asking.{distinct_unheld}
use Rattle.question.proofs.Starting.{distinct_pinned}
use Rattle.colouring.specs.Shown.{Seen}
use Rattle.colouring.proofs.Shown.{colour_seen}
use Rattle.demands.specs.Demand2.{StillFits}
use Rattle.demands.specs.Foreman.{Explained, Foreman}
use Rattle.demands.proofs.Finding.{demand_2}

-- a clique that holds every pin is the pins with a clique of P
split : (q : Question) {run : List ℕ} → Part run (unheld q) → Clique (fitting q) run → Within (pinned q) run
    → Part (minus run (pinned q)) (candidates q) × Clique (fitting q) (minus run (pinned q)) × (length run ≡ length (pinned q) + length (minus run (pinned q)))
unfolding candidates
split q = holding_split (fitting q) (pinned q) (unheld q) (distinct_pinned q) (distinct_unheld q)

module _ {q : Question} {k : ℕ} {classes : List ℕ} (s : Seen q k classes) {run : List ℕ} (part : Part run (unheld q)) (clique : Clique (fitting q) run) where
  most : Within (pinned q) run → length run ≤ length (pinned q) + k
  most holds = let p = split q part clique holds in omega (arith, p.2, s.none_larger p.0 p.1)

  one_of_each : (a b : ℕ) → a ∈ run → b ∈ run → a ∈ candidates q → get_or classes a 65535 ≡ get_or classes b 65535 → a ≡ b
  unfolding Clique
  one_of_each a b h i j e = by (same? a b)
    where
      by : (a ≡ b) ⊎ (a ≡ b → ⊥) → a ≡ b
      by (inl same) = same
      by (inr n) =
          let c = s.colouring.covers a j in
          let other = eq-eqb (get_or classes b 65535) c.0 (sym e ∙ eqb-true (get_or classes a 65535) c.0 c.2) in
          never (fitting q a b) (clique a b h i n) (s.colouring.apart c.0 a b c.1 c.2 other n)

  -- the run of a budget of 0 is empty; every other holds the pins
  explained : (run ≡ []) ⊎ Within (pinned q) run → Explained q k classes run
  explained (inl e) = record {
    pin_or_class = λ a h. not_in_nil a (subst (λ (l : List ℕ). a ∈ l) e h);
    one_of_each = one_of_each;
    none_larger = omega (arith, ap length e);
  }
  explained (inr holds) = record {
    pin_or_class = λ a h. ⊎_elim (λ i. inl i) (λ n. inr (part_in (split q part clique holds).0 a (in_minus run (pinned q) a h n))) (cases (has (pinned q) a));
    one_of_each = one_of_each;
    none_larger = most holds;
  }

-- an unfinished run is empty, or it holds the pins
empty_or_holds : {q : Question} {size visits : ℕ} {now : List ℕ} → StillFits q size visits now → (jobs now ≡ []) ⊎ Within (pinned q) (jobs now)
empty_or_holds {visits = visits} f = ⊎_elim (λ h. inr (f.holds_pins h)) (λ h. inl (f.empty_at_0 (omega arith))) (lt_or_le 0 visits)

-- where an empty run is as long as the pins, there are none
no_pin : (run pins : List ℕ) → length pins ≤ length run → (run ≡ []) ⊎ Within pins run → Within pins run
no_pin run [] e h = λ j. not_in_nil j
no_pin run (a ∷ pins) e (inl n) = absurd (omega (arith, ap length n))
no_pin run (a ∷ pins) e (inr h) = h

pub foreman : Foreman
foreman = record {
  finished = λ p c. let f = (demand_2.finished p).first_maximum.maximum in explained (colour_seen c) f.inside f.clique (inr f.holding);
  unfinished = λ p c. let f = demand_2.unfinished p in explained (colour_seen c) f.unheld_jobs f.all_fit (empty_or_holds f);
  none_left = λ {q} {result_now = now} p c e.
      let f = demand_2.unfinished p in
      let s = colour_seen c in
      record {
        inside = f.unheld_jobs;
        clique = f.all_fit;
        holding = no_pin (jobs now) (pinned q) (omega (arith, f.sized, e)) (empty_or_holds f);
        largest = λ t h r w. omega (arith, most s h r w, f.sized, e);
      };
}
