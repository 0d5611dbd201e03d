use Rattle.budget_report.proofs.LayeredPaths.{node_pin}
use Rattle.budget_report.proofs.design_paths.node_name.Goals as goal

pub name_of-requires : goal.name_of-requires
name_of-requires c = rw c.as_slice.ensures (node_pin c.args.layered.now c.args.flat.now _ c.requires.layered c.requires.node)
