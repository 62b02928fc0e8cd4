-- `number_jobs`: the jobs before job j have their numbers, and a turn gives job j its own.
use Rattle.rows.proofs.Sizes.{CopiedTo}
use Rattle.colouring.specs.Numbers.{sets_in, numbers_of}
use Rattle.colouring.proofs.greedy.Classes.number_jobs.Given as goal

abbrev pub invariant-loop-j : goal.invariant-loop-j
invariant-loop-j l = CopiedTo l.j (numbers_of (sets_in l.self.sets.width l.self.sets.words.now l.self.k)) l.numbers
