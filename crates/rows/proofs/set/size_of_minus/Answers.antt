-- `size_of_minus`: the bits of the first word where the second has none.
use mathlib.Core.Path.{◌∙◌, ap}
use mathlib.Core.Bool.{not}
use Prim.Native.Nat.{ℕ, ◌-◌}
use Rattle.std.proofs.Common.{rules, ◌≡◌, Bool, ◌&&◌}
use Rattle.sets.specs.Words.{bit}
use Rattle.sets.proofs.Words.{and_not}
use lib.ListN.{length}
use Rattle.sets.specs.Words.{jobs}
use Rattle.sets.proofs.Bits.{bit_and_lem, bit_not}
use Rattle.rows.proofs.Sizes.{minus_kept}
use Rattle.rows.proofs.set.size_of_minus.Goals as goal

pub returns : goal.returns
returns c = c.size_of.ensures not (record { each = λ x y r i h l e. let is : r ≡ and_not x y = search rules in ap (λ (w : ℕ). bit w i) is ∙ bit_and_lem x (18446744073709551615 - y) i ∙ ap (λ (b : Bool). bit x i && b) (bit_not 64 y i h l) }) ∙ ap length (minus_kept (jobs c.args.a.now) (jobs c.args.b.now))
