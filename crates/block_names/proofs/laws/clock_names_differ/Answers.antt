use Rattle.block_names.proofs.ClockNames.{resolved-names}
use Rattle.block_names.proofs.laws.clock_names_differ.Goals as goal

pub returns : goal.returns
returns c = resolved-names
