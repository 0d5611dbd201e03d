use Rattle.clock_names.proofs.Readings.{clocks_named}
use Rattle.clock_names.proofs.laws.clocks_have_names.Goals as goal

pub returns : goal.returns
returns c = record { names = clocks_named }
