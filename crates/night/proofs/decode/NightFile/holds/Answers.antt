-- `holds`: the list stands behind the n rows; without one there is no hold.
use Rattle.night.proofs.Decoding.{holds_listed, holds_plain, length_flagged}
use native.Mathlib.Omega.{arith}
use mathlib.Core.Path.{sym, ◌∙◌, ap}
use Rattle.night.specs.Format.{file_length}
use Rattle.night.specs.Reading.{row_at}
use Rattle.night.proofs.decode.NightFile.holds.Goals as goal

pub row-requires : goal.row-requires
row-requires c =
    let file = c.args.self in
    let k = ap (file_length file.layout.n) c.if-self.true ∙ length_flagged file.layout.n in
    let l = file.long in
    (omega arith, omega arith)

pub returns-then-self : goal.returns-then-self
unfolding row_at
returns-then-self c =
    let file = c.args.self in
    c.row.ensures ∙ sym (holds_listed file.bytes.now file.layout.n (sym file.list ∙ c.if-self.true))

pub returns-else-self : goal.returns-else-self
returns-else-self c =
    let file = c.args.self in
    sym (holds_plain file.bytes.now file.layout.n (sym file.list ∙ c.if-self.false))
