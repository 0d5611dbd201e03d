use Rattle.block_names.proofs.NamesBelow.{pin-means, port-means}
use Rattle.block_names.proofs.laws.pins_have_own_names.Goals as goal

pub returns-clause-pins : goal.returns-clause-pins
returns-clause-pins c = λ d b v design block. pin-means d design b block v

pub returns-clause-ports : goal.returns-clause-ports
returns-clause-ports c = λ d b v design block. port-means d design b block v
