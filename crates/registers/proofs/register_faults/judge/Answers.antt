use Rattle.std.specs.List.{range_with_len}
use Rattle.std.proofs.Common.{◌≡◌, ℕ, length, arith, refl, sym, ap, subst, ◌∙◌}
use Rattle.bud_design.specs.Lists.{first_some}
use Rattle.registers.specs.FaultLists.{fault_of}
use Rattle.registers.proofs.FaultSteps.{register_fault-marked}
use Rattle.registers.proofs.register_faults.judge.Goals as goal

pub returns : goal.returns
returns c = λ d setups pins places marks.
    c.first_fault.ensures
    ∙ (ap (λ n. first_some (fault_of c.put_mixed.new.faults c.put_latches.new.latches) (range_with_len 0 n)) (c.put_mixed.ensures.size ∙ sym places)
    ∙ register_fault-marked d c.args.throughs.now setups c.args.marks.now marks c.put_mixed.new.faults c.put_latches.new.latches
    (rw pins c.put_mixed.ensures.first) (rw pins c.put_latches.ensures.marks))
