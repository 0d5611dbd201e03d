use Rattle.block_pieces.proofs.BlockRequirements.{own-class, other-class, data-pin}
use Rattle.block_pieces.proofs.laws.table_of_requirements.Goals as goal

pub returns-clause-own : goal.returns-clause-own
returns-clause-own c = λ x block l vs k y j parts table. own-class x block parts table l vs k y j

pub returns-clause-other : goal.returns-clause-other
returns-clause-other c = λ x block l vs k y j parts table. other-class x block parts table l vs k y j

pub returns-clause-checks : goal.returns-clause-checks
returns-clause-checks c = λ x block l vs k y z parts table. data-pin x block parts table l vs k y z
