-- `put`: the lines, one behind the other.
use Rattle.sheet.specs.Text.{line, number_line}
use Rattle.sheet.proofs.Putting.{gets_then}
use Rattle.sheet.proofs.lines.Sheet.put.Goals as goal

pub returns : goal.returns
unfolding line number_line
returns c = gets_then c.put_line.ensures (gets_then c.put_line-2.ensures (gets_then c.put_searched.ensures c.put_jobs.ensures))
