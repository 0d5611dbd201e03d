use Rattle.std.proofs.Common.{ap, ◌∙◌}
use Rattle.module_nets.specs.Nets.{expression_bits}
use Rattle.net_drivers.specs.Slots.{filled, assigned_puts}
use Rattle.net_drivers.proofs.FillLaws.{IsFilled-assign}
use Rattle.net_drivers.proofs.JoinLaws.{numbers-put}
use Rattle.net_drivers.proofs.drives.drive_assign.Goals as goal

pub returns : goal.returns
returns c =
    let m = c.args.table.now.module.now in
    let a = c.args.assign.now in
    let lefts = c.put_pieces.new.into.items in
    let rights = c.put_pieces-2.new.into.items in
    IsFilled-assign m a lefts rights
    (numbers-put (ap (expression_bits m) c.as_slice.ensures) c.new-lefts.ensures.items c.in_ok-put_pieces.ensures)
    (numbers-put (ap (expression_bits m) c.as_slice-2.ensures) c.new-rights.ensures.items c.in_ok-put_pieces-2.ensures)
    (c.put_assigned.ensures
    ∙ (ap (λ ls. filled (assigned_puts ls c.as_slice-4.result.now) c.args.slots.now) c.as_slice-3.ensures.value
    ∙ ap (λ rs. filled (assigned_puts lefts rs) c.args.slots.now) c.as_slice-4.ensures.value))
