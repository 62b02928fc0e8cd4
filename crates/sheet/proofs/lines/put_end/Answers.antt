-- `put_end`: three lines, one behind the other.
use Rattle.sheet.specs.Text.{behind, line, number_line}
use Rattle.sheet.specs.Lines.{end_lines}
use Rattle.sheet.proofs.Putting.{gets_then}
use Rattle.sheet.proofs.lines.put_end.Goals as goal

pub returns : goal.returns
unfolding end_lines line number_line behind
returns c =
    gets_then c.put_word.ensures (gets_then (gets_then c.put_word-2.ensures c.put_word-3.ensures) (gets_then c.put_line.ensures c.put_line-2.ensures))
