-- `length`: eight bytes, n rows, and one more with a list.
use Rattle.night.proofs.Decoding.{width_le, area_le, length_flagged, length_plain}
use Rattle.night.specs.Format.{width, file_length}
use native.Mathlib.Omega.{arith}
use mathlib.Core.Path.{◌∙◌, ap}
use Rattle.night.proofs.layout.Layout.length.Goals as goal

pub returns-then-self : goal.returns-then-self
returns-then-self c =
    let a = c.args.self in
    let e = ap (file_length a.n) c.if-self.true ∙ length_flagged a.n in
    let k = area_le a.n a.n (width a.n) (omega arith) a.few (width_le a.n a.few) in
    (omega arith, omega arith)

pub returns-else-self : goal.returns-else-self
returns-else-self c =
    let a = c.args.self in
    let e = ap (file_length a.n) c.if-self.false ∙ length_plain a.n in
    let k = area_le a.n a.n (width a.n) (omega arith) a.few (width_le a.n a.few) in
    (omega arith, omega arith)
