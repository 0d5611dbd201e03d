use Rattle.std.proofs.Common.{sym, ◌∙◌}
use Rattle.flat_design.proofs.FlatLaws.{meant-none, meant-one, meant-two}
use Rattle.flat_design.proofs.flats.Flat.meant.Goals as goal

pub returns-in_default-first_named : goal.returns-in_default-first_named
returns-in_default-first_named c =
    sym (meant-none c.args.kind c.args.self.now c.args.name.now (sym c.first_named.ensures ∙ c.in_default.is) (sym c.first_named-2.ensures ∙ c.in_default-first_named.is))

pub returns-in-Some-next_named : goal.returns-in-Some-next_named
returns-in-Some-next_named c =
    sym (meant-two c.args.kind c.args.self.now c.args.name.now c.in-Some-first_named.number c.in-Some-next_named.field-0 (sym c.first_named.ensures ∙ c.in_default.is)
    (sym c.first_named-2.ensures ∙ c.in-Some-first_named.is) (sym c.next_named.ensures ∙ c.in-Some-next_named.is))

pub returns-in-None : goal.returns-in-None
returns-in-None c =
    sym (meant-one c.args.kind c.args.self.now c.args.name.now c.in-Some-first_named.number (sym c.first_named.ensures ∙ c.in_default.is)
    (sym c.first_named-2.ensures ∙ c.in-Some-first_named.is) (sym c.next_named.ensures ∙ c.in-None.is))
