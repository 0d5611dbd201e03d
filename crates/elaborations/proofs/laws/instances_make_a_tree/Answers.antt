use Rattle.elaborations.proofs.Trees.{elaborated_tree}
use Rattle.elaborations.proofs.laws.instances_make_a_tree.Goals as goal

pub returns : goal.returns
returns c = record { tree = elaborated_tree }
