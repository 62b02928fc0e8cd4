-- `put_next`: the library writes the number as `decimal` says.
use Rattle.std.proofs.Common.{◌∙◌, ap, List, ℕ, subst, length, arith}
use Rattle.sheet.specs.Page.{Gets}
use Rattle.sheet.proofs.Putting.{gets_then, decimal_is}
use Rattle.sheet.proofs.page.Page.put_next.Goals as goal

pub put_word-requires-2 : goal.put_word-requires-2
put_word-requires-2 c =
    let e = ap length (c.as_bytes.ensures.value ∙ c.format.ensures.text ∙ decimal_is c.args.n (omega arith)) in
    let long = c.put_word.ensures.long in
    let end = c.put_word.ensures.put.ends in
    omega arith

pub returns : goal.returns
returns c =
    let e = c.as_bytes.ensures.value ∙ c.format.ensures.text ∙ decimal_is c.args.n (omega arith) in
    gets_then c.put_word.ensures (subst (λ (t : List ℕ). Gets c.put_word.new.self t c.put_word-2.new.self) e c.put_word-2.ensures)
