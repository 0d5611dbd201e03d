use Rattle.std.proofs.Common.{length, subst}
use Rattle.met_lists.specs.Classes.{AreMet}
use Rattle.met_lists.proofs.MetSteps.{AreMet-all}
use Rattle.met_lists.proofs.classes.first_classes.Goals as goal

pub returns-clause-classes : goal.returns-clause-classes
returns-clause-classes c =
    let x = c.in_ok-classes.field-0 in
    AreMet-all c.args.all.now x
    (subst (λ es. AreMet c.args.all.now.launches es (length es) x) c.as_slice.ensures
    (subst (λ ls. AreMet ls c.as_slice.result.now (length c.as_slice.result.now) x) c.as_slice-launches.ensures c.in_ok-classes.ensures))
