use Rattle.std.proofs.Common.{◌≡◌, ap, sym, ◌∙◌, rules}
use Rattle.std.proofs.lemmas.Slice.Eq.{slice_eq-Decides}
use Rattle.bud_design.specs.declared.layers.Class.{Class}
use Rattle.class_steps.proofs.ClassParts.{Class-same, Met-decides}
use Rattle.class_steps.proofs.classes.same_class.Goals as goal

pub returns : goal.returns
returns c =
    let edges : c.args.«class».now.edge ≡ c.args.other.now.edge = search rules in
    let mets = slice_eq-Decides Met-decides c.as_slice.result.now c.as_slice-2.result.now c.eq.result c.eq.ensures in (
      λ yes. Class-same c.args.«class».now c.args.other.now c.if-class-other.false edges (sym c.as_slice.ensures ∙ (mets.0 yes ∙ c.as_slice-2.ensures)),
      λ same. mets.1 (c.as_slice.ensures ∙ (ap (λ (k : Class). k.exceptions) same ∙ sym c.as_slice-2.ensures)),
    )
