use Rattle.hierarchy.proofs.WalkLaws.{kinds-put}
use Rattle.hierarchy.proofs.walks.put_module.Goals as goal

pub returns-in-Ok-clause-walk : goal.returns-in-Ok-clause-walk
returns-in-Ok-clause-walk c = record {
  trail = c.requires.walk.trail;
  survey = c.requires.walk.survey;
  kinds = kinds-put c.args.library.now.modules.now c.args.walk.now.survey.known.items c.args.walk.now.places.items c.put_place.new.places.items c.args.walk.now.kinds.items c.push.new.self.items c.args.name c.args.parent c.args.kind
      c.module_at-module.result.now c.module_at-module.ensures c.in_ok-put_place.ensures.put c.in-Ok.ensures.items c.requires.kind c.requires.called c.requires.known c.requires.walk.kinds;
  short = c.in_ok-put_pins.ensures.short;
}
