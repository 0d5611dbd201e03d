use Rattle.std.proofs.Common.{Err, refl}
use Rattle.budget_steps.specs.Steps.{◌>>=◌, comes_to}
use Rattle.budget_steps.proofs.Courses.{follows_first, follows_next}
use Rattle.budget_designs.specs.Designs.{numbered, timed, joined, constrained}
use Rattle.budget_designs.specs.TimedDesigns.{timed_of, timed_with, timed_below}
use Rattle.budget_designs.proofs.TimedLaws.{seen_exit, unclocked_within}
use Rattle.budget_designs.proofs.timed_designs.timed_below.Goals as goal

pub returns-in_err-timing-clause-course : goal.returns-in_err-timing-clause-course
returns-in_err-timing-clause-course c =
    let d = c.args.flat in
    let rows = c.args.delays.now.rows in
    let stop = c.in_err-timing.field-0.0 in
    seen_exit timed_of (timed_below d rows c.args.commands) c.from_residual.result stop c.from_residual.ensures.1
    (follows_first (timed d rows)
    (λ t. joined d t >>= λ arcs. constrained d t c.args.commands >>= λ all. comes_to (timed_with d t arcs all)) stop c.in_err-timing.ensures.course)

pub returns-in_err-graph-clause-course : goal.returns-in_err-graph-clause-course
returns-in_err-graph-clause-course c =
    let d = c.args.flat in
    let rows = c.args.delays.now.rows in
    let t = c.in_ok-timing.timing in
    let stop = c.in_err-graph.field-0.0 in
    seen_exit timed_of (timed_below d rows c.args.commands) c.from_residual-in_err-graph.result stop c.from_residual-in_err-graph.ensures.1
    (follows_next (timed d rows)
    (λ t. joined d t >>= λ arcs. constrained d t c.args.commands >>= λ all. comes_to (timed_with d t arcs all)) t (Err stop) c.in_ok-timing.ensures.course
    (follows_first (joined d t)
    (λ arcs. constrained d t c.args.commands >>= λ all. comes_to (timed_with d t arcs all)) stop c.in_err-graph.ensures.course))

pub returns-in_err-constraints-clause-course : goal.returns-in_err-constraints-clause-course
returns-in_err-constraints-clause-course c =
    let d = c.args.flat in
    let rows = c.args.delays.now.rows in
    let t = c.in_ok-timing.timing in
    let arcs = c.in_ok-graph.graph.arcs in
    let stop = c.in_err-constraints.field-0.0 in
    seen_exit timed_of (timed_below d rows c.args.commands) c.from_residual-in_err-constraints.result stop c.from_residual-in_err-constraints.ensures.1
    (follows_next (timed d rows)
    (λ t. joined d t >>= λ arcs. constrained d t c.args.commands >>= λ all. comes_to (timed_with d t arcs all)) t (Err stop) c.in_ok-timing.ensures.course
    (follows_next (joined d t)
    (λ arcs. constrained d t c.args.commands >>= λ all. comes_to (timed_with d t arcs all)) arcs (Err stop) c.in_ok-graph.ensures.course
    (follows_first (constrained d t c.args.commands)
    (λ all. comes_to (timed_with d t arcs all)) stop c.in_err-constraints.ensures.course)))

pub returns-clause-course : goal.returns-clause-course
returns-clause-course c =
    (c.in_ok-timing.timing, (c.in_ok-timing.ensures.course, (c.in_ok-graph.graph.arcs, (c.in_ok-graph.ensures.course, (c.in_ok-constraints.constraints, (c.in_ok-constraints.ensures.course, refl))))))

pub returns-clause-sound : goal.returns-clause-sound
returns-clause-sound c = record {
  design = c.keep.ensures.is_design;
  timing = c.in_ok-timing.ensures.sound;
  leaves = c.in_ok-timing.ensures.leaves;
  graph = c.in_ok-graph.ensures.sound;
  constraints = c.in_ok-constraints.ensures.sound;
  unclocked = unclocked_within (record { design = c.args.flat; root = 0; timing = c.in_ok-timing.timing }) (numbered c.args.commands) c.in_ok-constraints.constraints
      c.in_ok-timing.ensures.sound c.in_ok-constraints.ensures.course;
}
