use Rattle.arc_lists.proofs.Pushing.{lists-pushed}
use Rattle.arc_lists.proofs.lists.ArcLists.push.Goals as goal
use Rattle.arc_lists.proofs.lists.ArcLists.push.Goals.{in-Ok, in-Err}

pub returns-clause-pushed : goal.returns-clause-pushed
returns-clause-pushed c = elim c.match-push.branch [
  | in-Ok w ↦
      rw w.result-is
      (lists-pushed c.self.inside.lists.items c.args.self.now c.args.node.0 c.args.key c.index_mut.result.now c.push.new.self c.self.view_is c.requires c.index_mut.ensures.value (rw w.in-Ok.is at c.push.ensures.ok))
  | in-Err w ↦ rw w.result-is tt
]
