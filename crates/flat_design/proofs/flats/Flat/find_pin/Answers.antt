use Rattle.std.proofs.Common.{subst, sym, ◌∙◌}
use Rattle.flat_design.specs.Flats.{IsFlat}
use Rattle.flat_design.specs.declared.kinds.Kind.TheVariants.{Bits}
use Rattle.flat_design.proofs.FlatLaws.{meant-pin, meant-within}
use Rattle.flat_design.proofs.flats.Flat.find_pin.Goals as goal

pub returns-in-Some-clause-meaning : goal.returns-in-Some-clause-meaning
returns-in-Some-clause-meaning c =
    let flat = subst IsFlat c.self.view_is c.self.invariant.flat in
    sym (meant-pin c.args.self.now c.args.name.now flat ∙ (sym c.meant.ensures ∙ c.in-Some.is))

pub returns-in-Some-clause-within : goal.returns-in-Some-clause-within
returns-in-Some-clause-within c = meant-within Bits c.args.self.now c.args.name.now c.in-Some.number (sym c.meant.ensures ∙ c.in-Some.is)

pub returns-in-None-clause-meaning : goal.returns-in-None-clause-meaning
returns-in-None-clause-meaning c =
    let flat = subst IsFlat c.self.view_is c.self.invariant.flat in
    sym (meant-pin c.args.self.now c.args.name.now flat ∙ (sym c.meant.ensures ∙ c.in-None.is))
