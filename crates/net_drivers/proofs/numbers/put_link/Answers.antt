use Rattle.std.proofs.Common.{◌≡◌, ◌<◌, ◌++◌, [], None, All, length, replicate, ap, sym, subst, ◌∙◌, arith}
use Rattle.std.proofs.lemmas.List.{get_or_read}
use Rattle.bud_syntax.specs.declared.modules.Link.TheVariants.{Placed}
use Rattle.module_nets.specs.Nets.{expression_bits, or_open, pieces_of_link}
use Rattle.module_nets.specs.Numbers.{range_width}
use Rattle.net_drivers.specs.Appending.{Appends, IsFine}
use Rattle.net_drivers.specs.Links.{linked_pieces}
use Rattle.net_drivers.specs.Slots.{IsBelow}
use Rattle.net_drivers.proofs.AppendLaws.{on_ok, open_port, Appends-replicate, Appends-same}
use Rattle.net_drivers.proofs.numbers.put_link.Goals as goal
use Rattle.net_drivers.proofs.numbers.put_link.Goals.{In-Some}

pub returns-in-None : goal.returns-in-None
returns-in-None c =
    let m = c.args.table.now.module.now in
    let open' = ap (λ n. or_open c.args.port.now.range (expression_bits m (linked_pieces c.args.links.now n))) c.in-None.is ∙ open_port c.args.port.now.range in
    on_ok c.put_none.result
    (λ (put' : c.put_none.new.into.items ≡ c.args.into.now.items ++ replicate c.range_width.result None).
    Appends-replicate {m = m} {new = c.put_none.new.into.items} (range_width c.args.port.now.range) open' (put' ∙ ap (λ w. c.args.into.now.items ++ replicate w None) c.range_width.ensures))
    c.put_none.ensures

bound : (c : In-Some) → c.in-Some.number < length c.args.links.now
bound c = subst (IsBelow (length c.args.links.now)) c.in-Some.is c.requires.number

pub put_port-requires : goal.put_port-requires
put_port-requires c =
    let m = c.args.table.now.module.now in
    let link = c.index-links-number.result in
    let pieces = subst (λ l. All (IsFine m) (pieces_of_link l)) (sym c.index-links-number.is) (c.requires.fine c.in-Some.number link (bound (goal.at.put_port-requires c).In-Some)) in
    record { small = c.requires.small; fine = subst (All (IsFine m)) (sym c.pieces_of.ensures) pieces }

pub returns-in-Some : goal.returns-in-Some
returns-in-Some c =
    let m = c.args.table.now.module.now in
    let read = get_or_read c.args.links.now c.in-Some.number c.index-links-number.result (bound (goal.at.returns-in-Some c).In-Some) c.index-links-number.is (Placed []) in
    let pieces = c.pieces_of.ensures ∙ (ap pieces_of_link read ∙ ap (linked_pieces c.args.links.now) (sym c.in-Some.is)) in
    on_ok c.put_port.result
    (λ (appends : Appends m (or_open c.args.port.now.range (expression_bits m c.pieces_of.result.now)) c.args.into.now.items c.put_port.new.into.items).
    Appends-same (ap (λ ps. or_open c.args.port.now.range (expression_bits m ps)) pieces) appends)
    c.put_port.ensures
