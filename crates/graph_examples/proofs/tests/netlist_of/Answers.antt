use Rattle.read_laws.proofs.PortLaws.{reads_ports_once}
use Rattle.graph_examples.proofs.tests.netlist_of.Goals as goal

pub returns-clause-once : goal.returns-clause-once
returns-clause-once g c = reads_ports_once c.as_bytes.result.now c.in-Ok.modules c.in-Ok.ensures.answer
