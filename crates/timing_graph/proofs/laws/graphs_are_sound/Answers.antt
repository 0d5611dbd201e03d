use Rattle.timing_graph.proofs.CycleLaws.{IsSoundGraph-from_graph}
use Rattle.timing_graph.proofs.laws.graphs_are_sound.Goals as goal

pub returns : goal.returns
returns c = IsSoundGraph-from_graph
