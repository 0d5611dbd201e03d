use Rattle.std.proofs.Common.{◌∙◌, sym, ap}
use Rattle.std.specs.List.{position_from}
use Rattle.net_drivers.specs.Links.{earlier, names, nth}
use Rattle.net_drivers.proofs.LinkLaws.{earlier-is}
use Rattle.net_drivers.proofs.links.link_of.Goals as goal

pub returns : goal.returns
returns c =
    c.earlier.ensures
    ∙ (ap (λ a. earlier a c.nth-by_place.result) c.named_link-by_name.ensures
    ∙ (ap (λ b. earlier (position_from (names c.args.port.now.name) 0 c.args.links.now) b) (c.nth-by_place.ensures ∙ (ap (λ ns. nth ns c.args.place) (c.as_slice.ensures.value ∙ c.requires.joining.placed)))
    ∙ earlier-is 0 c.args.port.now.name c.args.place c.args.links.now))
