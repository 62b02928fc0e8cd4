-- `row`: its bytes, cut out of the file.
use Rattle.night.proofs.Bytes.{set_of_part}
use Rattle.night.specs.Format.{width}
use Rattle.night.specs.Reading.{set_at, row_at}
use Rattle.sets.specs.Words.{words}
use lib.ListN.{length, take, drop}
use native.Mathlib.Omega.{arith}
use Prim.Native.Nat.{ℕ, ◌+◌, ◌-◌, ◌*◌}
use mathlib.Core.List.{List}
use mathlib.Core.Path.{◌≡◌, ◌∙◌, ap, ap₂}
use Rattle.night.proofs.decode.NightFile.row.Goals as goal

pub returns : goal.returns
unfolding row_at
returns c =
    let file = c.args.self.bytes.now in
    let w = width c.args.self.layout.n in
    let part : ℕ → ℕ → List ℕ = λ at w. take w (drop at file) in
    let e : c.row_at-at.result + c.width.result - c.row_at-at.result ≡ w = omega arith in
    c.set_of.ensures ∙ ap₂ (λ (at w : ℕ). words (set_at (part at w) 0 (length (part at w)))) c.row_at-at.ensures e ∙ ap words (set_of_part file (8 + c.args.r * w) w (omega arith))
