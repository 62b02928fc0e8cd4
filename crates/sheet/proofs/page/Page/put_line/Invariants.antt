-- `put_line`: the numbers that are to come, and the line feed, are left of the line.
use Rattle.std.proofs.Common.{map, drop}
use Rattle.sheet.specs.Text.{decimal, behind, line}
use Rattle.sheet.proofs.Putting.{LeftOn}
use Rattle.sheet.proofs.page.Page.put_line.Given as goal

abbrev pub invariant-loop-n : goal.invariant-loop-n
invariant-loop-n l = LeftOn l.fn.self (line l.fn.word (map decimal l.numbers)) l.self (behind (map decimal (drop l.n-index l.numbers)))
