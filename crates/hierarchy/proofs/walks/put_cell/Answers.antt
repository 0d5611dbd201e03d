use Rattle.module_nets.specs.Tops.{module_at}
use Rattle.hierarchy.proofs.WalkLaws.{called-itself}
use Rattle.hierarchy.proofs.walks.put_cell.Goals as goal

pub put_module-requires-clause-called : goal.put_module-requires-clause-called
put_module-requires-clause-called c = called-itself c.args.library.now.modules.now c.args.instance.now.«module» (module_at c.args.library.now.modules.now c.args.kind) c.requires.called
