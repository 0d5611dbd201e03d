use Rattle.std.proofs.Common.{◌≡◌, ◌<◌, ℤ, List, arith, length, to_z, of_z, w64, subst}
use Rattle.std.proofs.lemmas.Int.{ints}
use Rattle.bud_base.specs.Paths.{start_at}
use Rattle.bud_base.specs.declared.problems.Start.{Start}
use Rattle.residual.specs.Sweeps.{raised}
use Rattle.residual.proofs.Sweeping.{SuitStarts-more, AreReached-start, sound_start}
use Rattle.residual.proofs.arrivals.begin.Goals as goal

pub loop-start-preserved : goal.loop-start-preserved
loop-start-preserved c =
    let starts : List Start = c.args.problem.now.starts in
    let k = c.loop-start.start-index in
    let P : List Start → Type 0 = λ xs. k < length xs in
    let within : k < length starts = subst P c.as_slice-start-items.ensures c.loop-start-test.true in
    let time : ℤ = to_z w64 (of_z w64 (start_at starts k).offset) in
    let x = sound_start c.args.problem.now k c.requires.sound within in
    let same : time ≡ (start_at starts k).offset = omega (arith, ints, x.time.low, x.time.high) in
    let is : c.raise.new.arrivals ≡ raised c.loop-start.arrivals (start_at starts k).node.0 time = rw c.as_slice-start-items.ensures at c.raise.ensures in
    (AreReached-start _ _ _ _ time c.requires.sound c.loop-start.invariant.0 within same is, SuitStarts-more _ _ _ _ time c.requires.sound c.loop-start.invariant.0 c.loop-start.invariant.1 within same is)
