use Rattle.block_homes.proofs.Homes.{homes}
use Rattle.block_homes.proofs.laws.arcs_have_homes.Goals as goal

pub returns : goal.returns
returns c = homes
