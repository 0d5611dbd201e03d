use Rattle.std.proofs.Common.{subst, sym, ◌∙◌, ap}
use Rattle.flat_design.specs.Flats.{IsFlat}
use Rattle.flat_design.proofs.FlatLaws.{named-first, low-below}
use Rattle.name_tables.specs.Chained.{first_of}
use Rattle.flat_design.proofs.flats.Flat.first_named.Goals as goal

pub named_from-requires-clause-low : goal.named_from-requires-clause-low
named_from-requires-clause-low c =
    let d = c.args.self.now in
    let flat = subst IsFlat c.self.view_is c.self.invariant.flat in
    let leads = named-first c.args.kind c.args.form d c.args.name.now c.chains.result.now c.first-start.result c.chains.ensures (low-below c.args.kind d flat)
    (c.first-start.ensures ∙ ap (first_of c.chains.result.now) c.name_key.ensures) in
    leads.behind

pub named_from-requires-clause-end : goal.named_from-requires-clause-end
named_from-requires-clause-end c =
    let d = c.args.self.now in
    let flat = subst IsFlat c.self.view_is c.self.invariant.flat in
    let leads = named-first c.args.kind c.args.form d c.args.name.now c.chains.result.now c.first-start.result c.chains.ensures (low-below c.args.kind d flat)
    (c.first-start.ensures ∙ ap (first_of c.chains.result.now) c.name_key.ensures) in
    leads.within

pub named_from-requires-clause-key : goal.named_from-requires-clause-key
named_from-requires-clause-key c =
    let d = c.args.self.now in
    let flat = subst IsFlat c.self.view_is c.self.invariant.flat in
    let leads = named-first c.args.kind c.args.form d c.args.name.now c.chains.result.now c.first-start.result c.chains.ensures (low-below c.args.kind d flat)
    (c.first-start.ensures ∙ ap (first_of c.chains.result.now) c.name_key.ensures) in
    leads.alike

pub returns : goal.returns
returns c =
    let d = c.args.self.now in
    let flat = subst IsFlat c.self.view_is c.self.invariant.flat in
    let leads = named-first c.args.kind c.args.form d c.args.name.now c.chains.result.now c.first-start.result c.chains.ensures (low-below c.args.kind d flat)
    (c.first-start.ensures ∙ ap (first_of c.chains.result.now) c.name_key.ensures) in
    c.named_from.ensures ∙ sym leads.same
