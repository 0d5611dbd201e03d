use Rattle.std.proofs.Common.{◌<◌, ◌≡◌, length, arith, [], Some, None, refl}
use Rattle.std.proofs.lemmas.Int.{ints}
use Rattle.bud_base.specs.Paths.{end_at}
use Rattle.bud_base.specs.Soundness.{IsSoundEnd}
use Rattle.least_check.specs.Arrivals.{arrival_at}
use Rattle.least_check.proofs.ArrivalSteps.{is_none}
use Rattle.least_check.proofs.CarrySteps.{IsSwept-between}
use Rattle.least_check.proofs.WorstEndSteps.{IsWorstEnd-more, IsWorstEnd-skip}
use Rattle.least_check.proofs.worst_ends.worst_end.Goals as goal
use Rattle.least_check.proofs.worst_ends.worst_end.Goals.{in-Some, in_default}

pub loop-number-preserved : goal.loop-number-preserved
loop-number-preserved c =
    let within : c.loop-number.number < length c.args.problem.now.ends = rw c.as_slice-end-items.ensures at c.loop-number-test.true in
    let sound : IsSoundEnd c.args.problem.now.nodes (end_at c.args.problem.now.ends c.loop-number.number) =
    c.requires.sound.ends c.loop-number.number (end_at [] 0) within in
    elim c.match-arrivals-end.branch [
      | in-Some w ↦
          let is : arrival_at c.args.arrivals.now (end_at c.args.problem.now.ends c.loop-number.number).node.0 ≡ Some w.in-Some.arrival =
          rw c.as_slice-end-items.ensures at w.in-Some.is in
          let between = IsSwept-between c.args.problem.now c.args.arrivals.now (end_at c.args.problem.now.ends c.loop-number.number).node.0 w.in-Some.arrival c.requires.swept sound.node is in
          rw (w.worst-is, w.worse.ensures, c.as_slice-end-items.ensures)
          (IsWorstEnd-more c.args.problem.now c.loop-number.number c.args.arrivals.now c.loop-number.worst w.in-Some.arrival _ is (omega (arith, ints, between.0, between.1, sound.time.low, sound.time.high, c.requires.sound.limits.nodes)) refl c.loop-number.invariant)
      | in_default w ↦
          let none : arrival_at c.args.arrivals.now (end_at c.args.problem.now.ends c.loop-number.number).node.0 ≡ None =
          rw c.as_slice-end-items.ensures at (is_none _ w.in_default.not-Some) in
          rw w.worst-is (IsWorstEnd-skip c.args.problem.now c.loop-number.number c.args.arrivals.now c.loop-number.worst none c.loop-number.invariant)
    ]
