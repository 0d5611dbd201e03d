use Rattle.std.proofs.Common.{◌≡◌, ◌+◌, ◌-◌, ◌<◌, length, arith, refl, sym, subst, ◌∙◌}
use Rattle.registers.proofs.FaultSteps.{fault_skip, is_none}
use Rattle.registers.proofs.register_faults.first_fault.Goals as goal

pub loop-place-preserved : goal.loop-place-preserved
loop-place-preserved c =
    c.loop-place.invariant
    ∙ fault_skip c.args.faults.now c.args.latches.now c.loop-place.place (length c.args.faults.now - c.loop-place.place) (length c.args.faults.now - (c.loop-place.place + 1)) (omega arith)
    (is_none _ c.in_default.not-Some) c.if-latches-place.false
