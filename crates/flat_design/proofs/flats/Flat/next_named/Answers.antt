use Rattle.std.proofs.Common.{sym, ◌∙◌, arith}
use Rattle.flat_design.proofs.FlatLaws.{named-within, named-next, found-keyed}
use Rattle.flat_design.proofs.flats.Flat.next_named.Goals as goal

pub next-start-requires : goal.next-start-requires
next-start-requires c = omega (arith, (named-within c.args.kind c.args.form c.args.self.now c.args.name.now c.args.number c.requires.named).1, c.chains.ensures.all)

pub named_from-requires-clause-low : goal.named_from-requires-clause-low
named_from-requires-clause-low c =
    let d = c.args.self.now in
    let within = named-within c.args.kind c.args.form d c.args.name.now c.args.number c.requires.named in
    let leads = named-next c.args.kind c.args.form d c.args.name.now c.chains.result.now c.args.number c.next-start.result c.chains.ensures within.0 within.1
    (found-keyed c.args.kind c.args.form d c.args.name.now c.args.number c.requires.named) c.next-start.ensures in
    omega (arith, within.0, leads.behind)

pub named_from-requires-clause-end : goal.named_from-requires-clause-end
named_from-requires-clause-end c =
    let d = c.args.self.now in
    let within = named-within c.args.kind c.args.form d c.args.name.now c.args.number c.requires.named in
    let leads = named-next c.args.kind c.args.form d c.args.name.now c.chains.result.now c.args.number c.next-start.result c.chains.ensures within.0 within.1
    (found-keyed c.args.kind c.args.form d c.args.name.now c.args.number c.requires.named) c.next-start.ensures in
    leads.within

pub named_from-requires-clause-key : goal.named_from-requires-clause-key
named_from-requires-clause-key c =
    let d = c.args.self.now in
    let within = named-within c.args.kind c.args.form d c.args.name.now c.args.number c.requires.named in
    let leads = named-next c.args.kind c.args.form d c.args.name.now c.chains.result.now c.args.number c.next-start.result c.chains.ensures within.0 within.1
    (found-keyed c.args.kind c.args.form d c.args.name.now c.args.number c.requires.named) c.next-start.ensures in
    leads.alike

pub returns : goal.returns
returns c =
    let d = c.args.self.now in
    let within = named-within c.args.kind c.args.form d c.args.name.now c.args.number c.requires.named in
    let leads = named-next c.args.kind c.args.form d c.args.name.now c.chains.result.now c.args.number c.next-start.result c.chains.ensures within.0 within.1
    (found-keyed c.args.kind c.args.form d c.args.name.now c.args.number c.requires.named) c.next-start.ensures in
    c.named_from.ensures ∙ sym leads.same
