-- The jobs of a word that are left, where one goes through them.
use Rattle.std.specs.Prelude.{List, ℕ, ◌-◌}
use Rattle.graphs.specs.Jobs.{from, keep}
use Rattle.sets.specs.Words.{bit}
use Rattle.rows.specs.declared.word.WordJobs.{WordJobs}

unfoldable pub left_of : WordJobs → List ℕ
left_of w = keep (λ j. bit w.rest (j - w.first)) (from w.first 64)
