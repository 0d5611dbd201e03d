use Rattle.std.proofs.Common.{◌≡◌, ◌<◌, length, arith, ap, sym, ◌∙◌}
use Rattle.net_delays.specs.Drives.{drive_of}
use Rattle.net_delays.specs.Alongs.{sum_of}
use Rattle.net_delays.proofs.RestSteps.{IsLeastNegative-skip, IsLeastNegative-more}
use Rattle.net_delays.proofs.rests.least_negative.Goals as goal
use Rattle.net_delays.proofs.rests.least_negative.Goals.{then-has_negative_rest, else-has_negative_rest}

pub loop-along-preserved : goal.loop-along-preserved
loop-along-preserved c = elim c.if-has_negative_rest.branch [
  | then-has_negative_rest w ↦ rw w.least-is (IsLeastNegative-more (drive_of c.args.drivers.now) (sum_of c.args.sums.now) c.args.alongs.now c.loop-along.along-index c.loop-along.least _ w.lesser.ensures (sym c.has_negative_rest.ensures ∙ w.if-has_negative_rest.true) c.loop-along.invariant)
  | else-has_negative_rest w ↦ rw w.least-is (IsLeastNegative-skip (drive_of c.args.drivers.now) (sum_of c.args.sums.now) c.args.alongs.now c.loop-along.along-index c.loop-along.least (sym c.has_negative_rest.ensures ∙ w.if-has_negative_rest.false) c.loop-along.invariant)
]
