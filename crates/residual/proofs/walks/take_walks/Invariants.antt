use Rattle.residual.specs.Walks.{AreWalksTaken, LoseAtMost, IsTakenAnswer}
use Rattle.residual.proofs.walks.take_walks.Given as goal

abbrev pub invariant-loop-start : goal.invariant-loop-start
invariant-loop-start l = AreWalksTaken l.arcs l.first l.fn.flows l.flows × IsTakenAnswer l.arcs l.ways l.from l.start l.fn.flows l.flows l.is_taken × LoseAtMost l.from l.to l.fn.flows l.flows
