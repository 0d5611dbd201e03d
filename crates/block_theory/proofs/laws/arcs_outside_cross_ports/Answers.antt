use Rattle.block_theory.proofs.Insides.{CrossesPorts-arc}
use Rattle.block_theory.proofs.laws.arcs_outside_cross_ports.Goals as goal

pub returns : goal.returns
returns c = λ d b a design block has outer. (let crosses = CrossesPorts-arc d design b block a has outer in (crosses.leaves, crosses.enters))
