use Rattle.read_laws.proofs.PortLaws.{reads_ports_once}
use Rattle.read_laws.proofs.laws.ports_stand_once.Goals as goal

pub returns : goal.returns
returns c = record { once = reads_ports_once }
