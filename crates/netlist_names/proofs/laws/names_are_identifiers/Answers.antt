use Rattle.netlist_names.proofs.Readings.{reads_identifiers}
use Rattle.netlist_names.proofs.laws.names_are_identifiers.Goals as goal

pub returns : goal.returns
returns c = record { identifiers = reads_identifiers }
