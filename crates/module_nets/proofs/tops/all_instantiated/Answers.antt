use Rattle.std.proofs.Common.{[], take}
use Rattle.std.proofs.lemmas.List.{take_all}
use Rattle.module_nets.specs.Tables.{holds, seen_behind}
use Rattle.module_nets.specs.Tops.{instantiated}
use Rattle.module_nets.proofs.TopSteps.{modules_more, all_noted}
use Rattle.module_nets.proofs.tops.all_instantiated.Goals as goal

pub loop-module-preserved : goal.loop-module-preserved
loop-module-preserved c =
    modules_more c.args.modules.now c.loop-module.module-index c.module-item.result c.as_slice.result.now (holds c.note_instances.new.names) c.loop-module-test.true c.module-item.is c.as_slice.ensures
    (c.in_ok-note_instances.ensures.noted (seen_behind [] (instantiated (take c.loop-module.module-index c.args.modules.now))) c.loop-module.invariant)

pub returns-clause-names : goal.returns-clause-names
returns-clause-names c =
    all_noted c.args.modules.now (holds c.loop-module.names)
    (rw (take_all c.loop-module.module-index c.args.modules.now c.loop-module-test.false) at c.loop-module.invariant)
