use Rattle.registers.proofs.Thinning.{IsThinned-more, IsThinned-skip}
use Rattle.registers.proofs.tables.last_of_each.Goals as goal
use Rattle.registers.proofs.tables.last_of_each.Goals.{then-is_last+in_ok-push, else-is_last}

pub loop-place-preserved : goal.loop-place-preserved
loop-place-preserved c = elim c.if-is_last.branch [
  | then-is_last+in_ok-push w ↦ rw (w.kept-is, w.in_ok-push.ensures.items) (IsThinned-more c.args.values.now c.requires c.loop-place.place c.loop-place.kept.items c.loop-place-test.true (c.is_last.ensures.last w.if-is_last.true) c.loop-place.invariant)
  | else-is_last w ↦ rw w.kept-is (let other = c.is_last.ensures.other w.if-is_last.false in IsThinned-skip c.args.values.now c.requires c.loop-place.place c.loop-place.kept.items other.0 other.1 c.loop-place.invariant)
]
