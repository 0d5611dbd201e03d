use Rattle.std.proofs.Common.{length, subst, sym, ◌∙◌}
use Rattle.flat_design.specs.Flats.{IsFlat}
use Rattle.flat_design.specs.declared.kinds.Kind.TheVariants.{Instances}
use Rattle.flat_design.proofs.FlatLaws.{meant-place, meant-within, within-some}
use Rattle.flat_design.proofs.flats.Flat.find_place.Goals as goal

pub returns-clause-meaning : goal.returns-clause-meaning
returns-clause-meaning c =
    let flat = subst IsFlat c.self.view_is c.self.invariant.flat in
    c.meant.ensures ∙ sym (meant-place c.args.self.now c.args.name.now flat)

pub returns-clause-within : goal.returns-clause-within
returns-clause-within c =
    within-some c.meant.result (length c.args.self.now.places) (λ v is. meant-within Instances c.args.self.now c.args.name.now v (sym c.meant.ensures ∙ is))
