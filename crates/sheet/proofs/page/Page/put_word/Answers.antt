-- `put_word`: the word lies behind what stood on the page.
use Rattle.std.proofs.Common.{refl, arith, ◌∙◌, ap, length}
use lib.Seq.{length-sets}
use Rattle.sheet.proofs.Putting.{word_put}
use Rattle.sheet.proofs.page.Page.put_word.Goals as goal

pub returns : goal.returns
returns c =
    let page = c.args.self.now in
    let word = c.args.word.now in
    let room = c.requires in
    let put = word_put page.bytes.now word _ page.at c.requires c.copy_from_slice.ensures.after in
    let long = ap length put ∙ length-sets page.bytes.now page.at word in
    record { lent = refl; long = long; put = record { stored = put; ends = refl }; within = omega arith }
