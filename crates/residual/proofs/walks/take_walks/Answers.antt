use Rattle.std.proofs.Common.{List, ℤ, refl, subst, sym}
use Rattle.residual.specs.Walks.{AreWalksTaken, LoseAtMost}
use Rattle.residual.proofs.Walking.{AreWalksTaken-more, LoseAtMost-more, LoseAtMost-walk, IsTakenAnswer-skip, IsTakenAnswer-take}
use Rattle.residual.proofs.walks.take_walks.Goals.{then-is_open_start, else-is_open_start}
use Rattle.residual.proofs.walks.take_walks.Goals as goal

pub loop-start-preserved : goal.loop-start-preserved
loop-start-preserved c =
    let T : List ℤ → Type 0 = λ fs. AreWalksTaken c.args.arcs.now c.args.first c.args.flows.now fs in
    let L : List ℤ → Type 0 = λ fs. LoseAtMost c.args.from c.args.to c.args.flows.now fs in
    elim c.if-is_open_start.branch [
      | then-is_open_start w ↦ (
        subst T (sym w.flows-is) (AreWalksTaken-more c.args.arcs.now c.args.first c.args.flows.now c.loop-start.flows w.take_walk.new.flows c.loop-start.invariant.0 w.take_walk.ensures.taken),
        rw (w.flows-is, w.is_taken-is)
            (IsTakenAnswer-take c.args.arcs.now c.args.first c.args.ways.now c.args.from c.loop-start.start c.args.flows.now c.loop-start.flows w.take_walk.new.flows c.loop-start.is_taken
            c.requires.flow c.loop-start.auto.start c.loop-start.invariant.0 c.loop-start.invariant.1 (w.if-is_open_start.ensures.yes refl) w.take_walk.ensures),
        subst L (sym w.flows-is) (LoseAtMost-more c.args.from c.args.to c.args.flows.now c.loop-start.flows w.take_walk.new.flows c.loop-start.invariant.2 (LoseAtMost-walk c.args.arcs.now c.args.first c.loop-start.start c.args.from c.args.to c.args.ways.now c.loop-start.flows w.take_walk.new.flows c.loop-start.auto.start c.loop-start-test.true w.take_walk.ensures)),
      )
      | else-is_open_start w ↦ (
        subst T (sym w.flows-is) c.loop-start.invariant.0,
        rw (w.flows-is, w.is_taken-is)
            (IsTakenAnswer-skip c.args.arcs.now c.args.ways.now c.args.from c.loop-start.start c.args.flows.now c.loop-start.flows c.loop-start.is_taken c.loop-start.invariant.1 (w.if-is_open_start.ensures.no refl)),
        subst L (sym w.flows-is) c.loop-start.invariant.2,
      )
    ]
