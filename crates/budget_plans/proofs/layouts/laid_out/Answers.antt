use Rattle.std.proofs.Common.{Err, refl}
use Rattle.budget_steps.specs.Steps.{◌>>=◌, comes_to}
use Rattle.budget_steps.proofs.Courses.{follows_first, follows_next}
use Rattle.budget_designs.specs.TimedDesigns.{timed_design, timed_of, whole}
use Rattle.budget_designs.proofs.TimedLaws.{seen_exit, steps_of}
use Rattle.budget_plans.specs.Layouts.{laid_of, laid_out, laid_with, layered_by}
use Rattle.budget_plans.proofs.TextNames.{text_names}
use Rattle.budget_plans.proofs.layouts.laid_out.Goals as goal

pub returns-in_err-design-clause-course : goal.returns-in_err-design-clause-course
returns-in_err-design-clause-course c =
    let policy = c.args.policy in
    let stop = c.in_err-design.field-0.0 in
    seen_exit laid_of (laid_out c.args.files policy) c.from_residual.result stop c.from_residual.ensures.1
    (follows_first (timed_design c.args.files) (λ t. layered_by (whole t) policy >>= λ layered. comes_to (laid_with t policy layered)) stop c.in_err-design.ensures.course)

pub returns-in_err-layered-clause-course : goal.returns-in_err-layered-clause-course
returns-in_err-layered-clause-course c =
    let policy = c.args.policy in
    let t = timed_of c.in_ok-design.design in
    let stop = c.in_err-layered.field-0.0 in
    seen_exit laid_of (laid_out c.args.files policy) c.from_residual-in_err-layered.result stop c.from_residual-in_err-layered.ensures.1
    (follows_next (timed_design c.args.files) (λ t. layered_by (whole t) policy >>= λ layered. comes_to (laid_with t policy layered)) t (Err stop) c.in_ok-design.ensures.course
    (follows_first (layered_by (whole t) policy) (λ layered. comes_to (laid_with t policy layered)) stop c.in_err-layered.ensures.course))

pub returns-clause-course : goal.returns-clause-course
returns-clause-course c =
    (timed_of c.in_ok-design.design, (c.in_ok-design.ensures.course, (c.in_ok-layered.layered, (c.in_ok-layered.ensures.course, refl))))

pub returns-clause-laid : goal.returns-clause-laid
returns-clause-laid c =
    let x = c.in_ok-design.design in
    let steps = steps_of c.args.files (timed_of x) c.in_ok-design.ensures.course in
    let layering = c.in_ok-layered.ensures.course.2 in
    let short = rw c.pins.ensures.lent at c.short_bits.ensures in
    record {
      design = c.in_ok-design.ensures.sound;
      layering = layering;
      layered = c.in_ok-layered.ensures.sound;
      paths = c.in_ok-layered.ensures.paths;
      slack = c.in_ok-layered.ensures.slack;
      names = text_names c.args.files (timed_of x) c.args.policy c.in_ok-layered.layered steps c.requires.names short c.in_ok-design.ensures.sound.constraints layering;
    }
