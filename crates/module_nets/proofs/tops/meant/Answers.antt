use Rattle.std.proofs.Common.{sym}
use Rattle.std.specs.Str.{bytes_eq}
use Rattle.bud_design.specs.Names.{printed}
use Rattle.module_nets.proofs.ListSteps.{at_place}
use Rattle.module_nets.proofs.TopSteps.{meant_printed, meant_named, found_within}
use Rattle.module_nets.proofs.tops.meant.Goals as goal

pub returns-in-None-clause-meaning : goal.returns-in-None-clause-meaning
returns-in-None-clause-meaning c = meant_named c.args.library.now.modules.now c.args.name.now c.find.result c.args.library.now.apart c.in-None.ensures c.find.ensures.number

pub returns-in-None-clause-within : goal.returns-in-None-clause-within
returns-in-None-clause-within c = found_within (λ m. bytes_eq m.name c.args.name.now) c.args.library.now.modules.now c.find.result c.find.ensures.number

pub returns-in-Some-clause-meaning : goal.returns-in-Some-clause-meaning
returns-in-Some-clause-meaning c = meant_printed c.args.library.now.modules.now c.args.name.now c.in-Some.number c.args.library.now.apart c.in-Some.ensures

pub returns-in-Some-clause-within : goal.returns-in-Some-clause-within
returns-in-Some-clause-within c = (at_place (λ m. bytes_eq (printed m.name) c.args.name.now) c.args.library.now.modules.now c.in-Some.number (sym c.in-Some.ensures)).within
