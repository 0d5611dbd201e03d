use Rattle.std.proofs.Common.{length, ap, arith}
use Rattle.bud_base.specs.Orders.{node_at}
use Rattle.bud_base.proofs.ReachLemmas.{IsSpread-marked, IsSpread-unmarked, AreReached-from_spread}
use Rattle.bud_base.proofs.liveness.mark_reached.Goals as goal
use Rattle.bud_base.proofs.liveness.mark_reached.Goals.{then-marks-node, else-marks-node}

pub loop-node-preserved : goal.loop-node-preserved
loop-node-preserved c =
    let same = ap (λ nodes. node_at nodes c.loop-node.node-index) c.nodes-node-items.ensures in
    let size = ap length c.nodes-node-items.ensures in
    elim c.if-marks-node.branch [
      | then-marks-node w ↦
          rw w.marks-is
          (IsSpread-marked _ _ _ _ _ _ _ w.as_slice-then-marks-node.ensures same c.requires.order.in_order (omega arith) w.if-marks-node.true w.mark_heads.ensures c.loop-node.invariant)
      | else-marks-node w ↦ rw w.marks-is (IsSpread-unmarked _ _ _ _ _ same w.if-marks-node.false c.loop-node.invariant)
    ]

pub returns : goal.returns
returns c =
    let size = ap length c.nodes-node-items.ensures in
    AreReached-from_spread _ _ _ _ (omega arith) c.requires.names c.requires.order.in_order c.loop-node.invariant
