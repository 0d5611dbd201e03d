use Rattle.std.proofs.Common.{◌≡◌, ◌<◌, Some, None, length, ◌∙◌, sym, ap, arith}
use Rattle.std.specs.Str.{bytes_eq}
use Rattle.std.proofs.lemmas.List.{get_or_read}
use Rattle.module_nets.specs.Headers.{port_called}
use Rattle.module_nets.proofs.ListSteps.{at_place}
use Rattle.net_drivers.proofs.LinkLaws.{named_link-is, port_found}
use Rattle.net_drivers.proofs.links.first_link.Goals as goal
use Rattle.net_drivers.proofs.links.first_link.Goals.{In-Some}

found : (c : In-Some) → port_called c.args.header.now.module.now c.args.port.now.name ≡ Some c.in-Some.first
found c = ap (port_called c.args.header.now.module.now) (sym c.as_slice.ensures) ∙ (sym c.find.ensures ∙ c.in-Some.is)

below : (c : In-Some) → c.in-Some.first < length c.args.joining.now.named.items
below c = omega (arith, (at_place (λ p. bytes_eq p.name c.args.port.now.name) c.args.header.now.module.now.ports c.in-Some.first (found c)).within, c.requires.joining.named.size)

pub index-requires : goal.index-requires
index-requires c = omega (arith, below (goal.at.index-requires c).In-Some, c.args.joining.now.named.ok.0)

pub returns-in-Some : goal.returns-in-Some
returns-in-Some c =
    let here = (goal.at.returns-in-Some c).In-Some in
    get_or_read c.args.joining.now.named.items c.in-Some.first c.index.result.now (below here) c.index.ensures None
    ∙ named_link-is c.args.header.now.module.now c.args.links.now c.args.joining.now.named.items c.args.port.now.name c.in-Some.first c.requires.joining.named (found here)

pub returns-in-None : goal.returns-in-None
returns-in-None c =
    let none = ap (port_called c.args.header.now.module.now) (sym c.as_slice.ensures) ∙ (sym c.find.ensures ∙ c.in-None.is) in
    absurd (port_found c.args.header.now.module.now c.args.place c.args.port.now c.requires.within c.requires.port none)
