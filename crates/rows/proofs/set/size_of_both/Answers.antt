-- `size_of_both`: the bits of both words are those of the first where the second has one.
use mathlib.Core.Path.{◌∙◌, ap}
use Prim.Native.Nat.{ℕ}
use Rattle.std.proofs.Common.{rules, ◌≡◌}
use lib.Bits.{bit_and}
use Rattle.sets.specs.Words.{bit}
use lib.ListN.{length}
use Rattle.sets.specs.Words.{jobs}
use Rattle.sets.proofs.Bits.{bit_and_lem}
use Rattle.rows.proofs.Sizes.{both_kept}
use Rattle.rows.proofs.set.size_of_both.Goals as goal

pub returns : goal.returns
returns c = c.size_of.ensures (λ b. b) (record { each = λ x y r i h l e. let is : r ≡ bit_and x y = search rules in ap (λ (w : ℕ). bit w i) is ∙ bit_and_lem x y i }) ∙ ap length (both_kept (jobs c.args.a.now) (jobs c.args.b.now))
