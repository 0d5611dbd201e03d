use Rattle.constraint_names.proofs.Clocks.{constraints_named}
use Rattle.constraint_names.proofs.laws.constraints_have_names.Goals as goal

pub returns : goal.returns
returns c = record { names = constraints_named }
