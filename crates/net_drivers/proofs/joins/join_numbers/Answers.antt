use Rattle.std.proofs.Common.{◌≡◌, ap, subst, ◌∙◌}
use Rattle.module_nets.specs.Nets.{joined_bits}
use Rattle.net_drivers.specs.Appending.{Appends}
use Rattle.net_drivers.specs.Joins.{joined_ports}
use Rattle.net_drivers.proofs.AppendLaws.{Appends-same}
use Rattle.net_drivers.proofs.JoinLaws.{joined_from-ports, numbers-alone}
use Rattle.net_drivers.proofs.joins.join_numbers.Goals as goal

pub returns : goal.returns
returns c =
    let m = c.args.table.now.module.now in
    let i = c.args.instance.now in
    let child = c.args.header.now.module.now in
    let bits : joined_ports 0 m c.as_slice-links.result.now c.as_slice-ports.result.now ≡ joined_bits m child i
    = ap (λ ls. joined_ports 0 m ls c.as_slice-ports.result.now) c.as_slice-links.ensures ∙ (ap (joined_ports 0 m i.links) c.as_slice-ports.ensures ∙ joined_from-ports 0 m i child.ports) in
    numbers-alone (subst (λ old. Appends m (joined_bits m child i) old c.put_ports.new.into.items) c.clear.ensures.items (Appends-same bits c.in_ok-put_ports.ensures))
