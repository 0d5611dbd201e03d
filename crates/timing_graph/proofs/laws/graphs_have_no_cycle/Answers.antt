use Rattle.timing_graph.proofs.CycleLaws.{no-cycle}
use Rattle.timing_graph.proofs.laws.graphs_have_no_cycle.Goals as goal

pub returns : goal.returns
returns c = no-cycle
