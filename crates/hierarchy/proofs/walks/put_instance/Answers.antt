use Rattle.std.proofs.Common.{refl, sym, ◌∙◌, ap}
use Rattle.module_nets.specs.Headers.{module_number}
use Rattle.hierarchy.specs.Walking.{built_of}
use Rattle.hierarchy.proofs.WalkLaws.{called-none, called-number, number-below, step-none}
use Rattle.hierarchy.proofs.walks.put_instance.Goals as goal

pub returns-in_default : goal.returns-in_default
returns-in_default c =
    let none = ap (module_number c.args.library.now.modules.now) (sym c.as_slice.ensures) ∙ (sym c.find.ensures.number ∙ c.in_default.is) in
    record {
      built = step-none c.args.library.now.modules.now c.args.levels c.args.walk.now.trail c.args.here c.args.instance.now (built_of c.args.walk.now) (called-none c.args.library.now.modules.now c.args.instance.now.«module» none);
      trail = record { path = refl; line = refl };
      walk = c.requires.walk;
    }

pub module_at-requires : goal.module_at-requires
module_at-requires c = number-below c.args.library.now.modules.now c.as_slice.result.now c.in-Some.kind (sym c.find.ensures.number ∙ c.in-Some.is)

pub put_cell-requires-clause-called : goal.put_cell-requires-clause-called
put_cell-requires-clause-called c =
    called-number c.args.library.now.modules.now c.args.instance.now.«module» c.in-Some.kind (ap (module_number c.args.library.now.modules.now) (sym c.as_slice.ensures) ∙ (sym c.find.ensures.number ∙ c.in-Some.is))

pub begin-requires-clause-kind : goal.begin-requires-clause-kind
begin-requires-clause-kind c = number-below c.args.library.now.modules.now c.as_slice.result.now c.in-Some.kind (sym c.find.ensures.number ∙ c.in-Some.is)

pub begin-requires-clause-called : goal.begin-requires-clause-called
begin-requires-clause-called c =
    called-number c.args.library.now.modules.now c.args.instance.now.«module» c.in-Some.kind (ap (module_number c.args.library.now.modules.now) (sym c.as_slice.ensures) ∙ (sym c.find.ensures.number ∙ c.in-Some.is))
