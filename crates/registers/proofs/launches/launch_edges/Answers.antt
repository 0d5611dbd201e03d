use Rattle.std.proofs.Common.{sym}
use Rattle.registers.proofs.LaunchLaws.{AreLaunches-skip, AreLaunches-more}
use Rattle.registers.proofs.launches.launch_edges.Goals as goal
use Rattle.registers.proofs.launches.launch_edges.Goals.{in-Some+in_ok-push-in-Some, in-None}

pub loop-pin-preserved : goal.loop-pin-preserved
loop-pin-preserved c = elim c.match-launch_at.branch [
  | in-Some+in_ok-push-in-Some w ↦ rw (w.edges-is, w.in_ok-push-in-Some.ensures.items) (AreLaunches-more c.args.marks.now c.loop-pin.pin c.loop-pin.edges.items c.loop-pin.invariant w.in-Some.edge (sym w.in-Some.ensures))
  | in-None w ↦ rw w.edges-is (AreLaunches-skip c.args.marks.now c.loop-pin.pin c.loop-pin.edges.items c.loop-pin.invariant (sym w.in-None.ensures))
]
