use Rattle.std.proofs.Common.{arith}
use Rattle.std.proofs.lemmas.Int.{ints}
use Rattle.flow_solver.proofs.tests.checked.Goals as goal

pub solved-requires-clause-meets : goal.solved-requires-clause-meets
solved-requires-clause-meets g c = λ path is. omega (arith, ints, c.in-Meets.ensures.answer.0.least path is, c.in-Meets.ensures.answer.1)
