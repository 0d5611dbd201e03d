use Rattle.std.proofs.Common.{[], ◌∷◌, sym, ap, ◌∙◌}
use Rattle.bud_design.specs.Exceptions.{class_of}
use Rattle.bud_design.specs.TimingPaths.{launch_at}
use Rattle.path_states.proofs.ExploringSteps.{IsExploring-begun_by}
use Rattle.path_states.proofs.exploring.begin.Goals as goal

pub returns : goal.returns
returns c =
    let same = ap (λ xs. launch_at xs c.args.number) (sym c.as_slice.ensures) in
    IsExploring-begun_by _ _ _ _ _ c.in_ok-enter.field-0 (launch_at c.as_slice.result.now c.args.number) c.args.«class» same
    (c.requires.first ∙ ap (λ l. class_of c.args.all.now l (l.pin.0 ∷ [])) same) c.requires.within c.requires.exploring c.in_ok-enter.ensures
