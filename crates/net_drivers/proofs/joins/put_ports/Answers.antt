use Rattle.std.proofs.Common.{◌≡◌, ◌+◌, length, sym, subst, arith}
use Rattle.net_drivers.specs.Slots.{IsBelow}
use Rattle.net_drivers.specs.Links.{link_from}
use Rattle.net_drivers.proofs.LinkLaws.{link_below}
use Rattle.net_drivers.proofs.JoinLaws.{joined-next}
use Rattle.net_drivers.proofs.joins.put_ports.Goals as goal

pub put_link-requires-clause-number : goal.put_link-requires-clause-number
put_link-requires-clause-number c =
    let name = c.index-ports-place.result.name in
    let links = c.args.links.now in
    let none : 0 + length links ≡ length links = omega arith in
    subst (IsBelow (length links)) (sym c.link_of-number.ensures) (subst (λ n. IsBelow n (link_from 0 name c.loop-place.place links)) none (link_below 0 name c.loop-place.place links))

pub loop-place-preserved : goal.loop-place-preserved
loop-place-preserved c =
    joined-next c.args.table.now.module.now c.args.links.now c.args.ports.now c.loop-place.place c.index-ports-place.result c.link_of-number.result c.loop-place-test.true c.index-ports-place.is c.link_of-number.ensures c.loop-place.invariant c.in_ok-put_link.ensures
