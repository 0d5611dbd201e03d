use Rattle.class_steps.proofs.GroupSets.{holds-inserted}
use Rattle.class_steps.proofs.groups.add_pin.Goals as goal

pub returns-in-Ok : goal.returns-in-Ok
returns-in-Ok c = holds-inserted c.args.pins.now.keys c.insert_full.new.self.keys c.args.pin c.in-Ok.ensures.keys
