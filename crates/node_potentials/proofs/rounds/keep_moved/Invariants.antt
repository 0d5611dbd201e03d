use Rattle.node_potentials.proofs.Keeping.{AreKeptTo}
use Rattle.node_potentials.proofs.rounds.keep_moved.Given as goal

abbrev pub invariant-loop-place : goal.invariant-loop-place
invariant-loop-place l = AreKeptTo l.kept l.present l.is_moved l.moved l.place l.count
