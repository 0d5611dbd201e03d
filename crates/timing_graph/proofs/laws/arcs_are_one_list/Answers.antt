use Rattle.timing_graph.proofs.CycleLaws.{one-list_of_arcs}
use Rattle.timing_graph.proofs.laws.arcs_are_one_list.Goals as goal

pub returns : goal.returns
returns c = one-list_of_arcs
