use Rattle.std.proofs.Common.{arith}
use Rattle.std.proofs.lemmas.Int.{ints}
use Rattle.budget_top.proofs.problems.measured.Goals as goal

pub certified-requires-in-Meets-clause-meets : goal.certified-requires-in-Meets-clause-meets
certified-requires-in-Meets-clause-meets c =
    λ path is_path. let answer = rw c.in-Meets.is at c.run.ensures.answer in omega (arith, ints, answer.0.least path is_path, answer.1)
