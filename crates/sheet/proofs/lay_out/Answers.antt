-- `lay_out`: the text of a night fits 4,096 bytes.
use Rattle.std.proofs.Common.{refl, List, ℕ, subst, arith, rules}
use Rattle.sheet.specs.Sheet.{Printed}
use Rattle.sheet.proofs.Putting.{told_most, page_printed}
use Rattle.sheet.proofs.lay_out.Goals as goal

pub put_told-requires : goal.put_told-requires
put_told-requires c =
    let short = told_most c.sheet_of.result (λ s e. (search rules, search rules)) (λ s size visits e f. (search rules, search rules)) (λ s size visits e f. (search rules, search rules))
    (λ a v e. search rules) (λ a p e. (search rules, search rules)) in
    omega arith

pub returns : goal.returns
returns c = subst (λ (t : List ℕ). Printed t c.args.out.now c.put_told.new.page.bytes.now c.put_told.new.page.at) c.sheet_of.ensures (page_printed refl c.put_told.ensures)
