use Rattle.std.proofs.Common.{ap, sym, ◌∙◌, arith}
use Rattle.net_drivers.specs.Slots.{filled}
use Rattle.net_drivers.proofs.SlotSteps.{assigned_puts-end}
use Rattle.net_drivers.proofs.slots.put_assigned.Goals as goal

pub returns : goal.returns
returns c = ap (λ ps. filled ps c.loop-k.slots) (sym (assigned_puts-end c.loop-k.k c.args.lefts.now c.args.rights.now (omega arith))) ∙ c.loop-k.invariant.slots
