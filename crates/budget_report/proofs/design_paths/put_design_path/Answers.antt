use Rattle.budget_report.proofs.LayeredPaths.{path_items}
use Rattle.budget_report.proofs.design_paths.put_design_path.Goals as goal

pub path_classes-requires-clause-items : goal.path_classes-requires-clause-items
path_classes-requires-clause-items c = path_items c.args.layered.now c.args.flat.now _ c.requires.layered c.requires.path

pub put_items-requires-clause-items : goal.put_items-requires-clause-items
put_items-requires-clause-items c = path_items c.args.layered.now c.args.flat.now _ c.requires.layered c.requires.path
