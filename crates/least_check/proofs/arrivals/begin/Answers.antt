use Rattle.std.proofs.Common.{◌<◌, length, [], arith, refl}
use Rattle.std.proofs.lemmas.Int.{ints}
use Rattle.bud_base.specs.Paths.{start_at}
use Rattle.bud_base.specs.Soundness.{IsSoundStart}
use Rattle.least_check.proofs.StartSteps.{AreOfStarts-more}
use Rattle.least_check.proofs.arrivals.begin.Goals as goal

pub loop-number-preserved : goal.loop-number-preserved
loop-number-preserved c =
    let within : c.loop-number.number < length c.args.problem.now.starts = rw c.as_slice-start-items.ensures at c.loop-number-test.true in
    let sound : IsSoundStart c.args.problem.now.nodes (start_at c.args.problem.now.starts c.loop-number.number) =
    c.requires.sound.starts c.loop-number.number (start_at [] 0) within in
    rw (c.arrive.ensures, c.as_slice-start-items.ensures)
    (AreOfStarts-more _ _ _ _ _ within sound.node refl (omega (arith, ints, sound.time.low, sound.time.high)) refl
    (omega (arith, ints, sound.time.low, sound.time.high), omega (arith, ints, sound.time.low, sound.time.high)) c.loop-number.invariant)
