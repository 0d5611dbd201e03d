use Rattle.std.proofs.Common.{◌∙◌, ap}
use Rattle.bud_design.specs.Designs.{named_ports}
use Rattle.bud_design.specs.Names.{meaning}
use Rattle.timing_objects.proofs.scenes.Scene.port.Goals as goal

pub returns : goal.returns
returns c =
    c.find_port.ensures
    ∙ (ap (λ os. meaning os c.args.name.now) c.self.invariant.1.names.named
    ∙ ap (λ s. meaning (named_ports s.design s.root) c.args.name.now) c.self.view_is)
