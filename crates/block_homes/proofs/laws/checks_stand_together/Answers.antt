use Rattle.block_homes.proofs.OneLeaf.{checks-together}
use Rattle.block_homes.proofs.laws.checks_stand_together.Goals as goal

pub returns : goal.returns
returns c = checks-together
