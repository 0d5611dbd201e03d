use Rattle.std.proofs.Common.{◌≡◌, ◌<◌, None, length, ◌∙◌, sym, arith}
use Rattle.std.proofs.lemmas.List.{get_or_read}
use Rattle.net_drivers.proofs.LinkLaws.{noted-is}
use Rattle.net_drivers.proofs.links.named_link.Goals as goal

pub index-requires : goal.index-requires
index-requires c = omega (arith, c.requires.within, c.requires.joining.named.size, c.args.joining.now.named.ok.0)

pub returns-in-Some : goal.returns-in-Some
returns-in-Some c =
    let named = c.args.joining.now.named.items in
    let below : c.args.place < length named = omega (arith, c.requires.within, c.requires.joining.named.size) in
    sym (noted-is c.args.header.now.module.now c.args.links.now named c.args.place c.args.port.now c.in-Some.number c.requires.joining.named c.requires.within c.requires.port
    (sym (get_or_read named c.args.place c.index.result.now below c.index.ensures None) ∙ c.in-Some.is))
