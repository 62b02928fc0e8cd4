-- `has_in`: past the last word no job is in the set; before it the bit that is looked at is the one that `jobs` goes by.
use mathlib.Core.Path.{sym, ap, ◌∙◌}
use mathlib.Core.Logic.{⊎_elim}
use Prim.Native.Nat.{ℕ, ◌/◌, ◌%◌, ◌^◌}
use native.Mathlib.Omega.{arith}
use lib.Dec.{eqb}
use Rattle.graphs.proofs.Bools.{cases}
use Rattle.sets.specs.Words.{in_words, bit}
use Rattle.sets.proofs.Words.{has_jobs}
use Rattle.rows.proofs.Onward.{jobs_within}
use Rattle.rows.proofs.set.has_in.Goals as goal

pub returns-in-Some : goal.returns-in-Some
unfolding in_words bit
returns-in-Some c =
    let here = (c.in-Some.ensures.lookup).3 in
    ap (λ (x : ℕ). eqb (x / 2 ^ (c.args.j % 64) % 2) 1) (here.1 0) ∙ sym (has_jobs c.args.a.now c.args.j (omega (arith, here.0)))

pub returns-in-None : goal.returns-in-None
returns-in-None c =
    ⊎_elim (λ e. absurd (omega (arith, jobs_within c.args.a.now c.args.j e, (c.in-None.ensures.lookup).3))) (λ e. sym e) (cases _)
