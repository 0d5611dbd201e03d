use Rattle.std.proofs.Common.{◌≡◌, ◌<◌, length, subst, arith}
use Rattle.met_lists.specs.Classes.{AreMet}
use Rattle.met_lists.proofs.MetSteps.{AreMet-next}
use Rattle.met_lists.proofs.classes.met_lists.Goals as goal

pub loop-place-preserved : goal.loop-place-preserved
loop-place-preserved c =
    let below : c.loop-place.place < length c.args.exceptions.now = omega (arith, c.loop-place-test.true) in
    AreMet-next c.args.launches.now c.args.exceptions.now c.loop-place.place c.index-exceptions-place.result c.index-exceptions-place.result c.in_ok-table.table c.in_ok-turn.turn c.loop-place.lists
    c.meet.new.lists below c.index-exceptions-place.is c.in_ok-table.ensures c.in_ok-turn.ensures c.loop-place.invariant c.in_ok-meet.ensures

pub returns : goal.returns
returns c =
    let all : c.loop-place.place ≡ length c.args.exceptions.now = omega (arith, c.loop-place-test.false, c.loop-place.auto.place-end) in
    subst (λ n. AreMet c.args.launches.now c.args.exceptions.now n c.loop-place.lists) all c.loop-place.invariant
