use Rattle.std.proofs.Common.{◌≡◌, ◌<◌, length, arith, ap, sym, ◌∙◌, pos}
use Rattle.std.proofs.lemmas.Int.{ints}
use Rattle.std.proofs.lemmas.List.{length-set}
use Rattle.net_delays.specs.Rests.{wire_at}
use Rattle.net_delays.specs.Alongs.{sum_of}
use Rattle.net_delays.proofs.RestSteps.{steps_more}
use Rattle.net_delays.proofs.rests.put_steps.Goals as goal

pub loop-place-preserved : goal.loop-place-preserved
loop-place-preserved c =
    let from = c.requires.within (wire_at c.args.wires.now c.loop-place.place).from.0 in
    let to = c.requires.within (wire_at c.args.wires.now c.loop-place.place).to.0 in (
      length-set _ _ _ ∙ c.loop-place.invariant.0,
      λ k below. steps_more (sum_of c.args.sums.now) c.args.wires.now c.loop-place.delays c.loop-place.place _ (omega (arith, c.loop-place.invariant.0)) (omega (arith, ints, from.low, from.high, to.low, to.high)) c.loop-place.invariant.1 k below,
    )
