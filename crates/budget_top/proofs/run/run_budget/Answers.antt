use Rattle.std.proofs.Common.{map, string_bytes}
use Rattle.budget_steps.specs.Inputs.{seen}
use Rattle.budget_top.specs.Words.{job_of}
use Rattle.budget_top.proofs.RunLaws.{run_called, run_budgets, run_causes, run_files, run_unchanged, run_best}
use Rattle.budget_top.proofs.run.run_budget.Goals as goal

pub returns-clause-files : goal.returns-clause-files
returns-clause-files g c = run_files (record {
  asked = job_of (map string_bytes c.args.words.now);
  shelf = seen g.S.Shelf.files g.S.Shelf.faults c.args.shelf.now c.run.new.shelf;
  out = seen g.K.Sink.taken g.K.Sink.faults c.args.out.now c.run.new.out;
  number = c.run.result;
  is_run = c.run.ensures.run;
})

pub returns-clause-unchanged : goal.returns-clause-unchanged
returns-clause-unchanged g c = run_unchanged (record {
  asked = job_of (map string_bytes c.args.words.now);
  shelf = seen g.S.Shelf.files g.S.Shelf.faults c.args.shelf.now c.run.new.shelf;
  out = seen g.K.Sink.taken g.K.Sink.faults c.args.out.now c.run.new.out;
  number = c.run.result;
  is_run = c.run.ensures.run;
})

pub returns-clause-causes : goal.returns-clause-causes
returns-clause-causes g c = run_causes (record {
  asked = job_of (map string_bytes c.args.words.now);
  shelf = seen g.S.Shelf.files g.S.Shelf.faults c.args.shelf.now c.run.new.shelf;
  out = seen g.K.Sink.taken g.K.Sink.faults c.args.out.now c.run.new.out;
  number = c.run.result;
  is_run = c.run.ensures.run;
})

pub returns-clause-exact : goal.returns-clause-exact
returns-clause-exact g c =
    run_called (job_of (map string_bytes c.args.words.now)) (g.S.Shelf.files c.args.shelf.now) (g.S.Shelf.files c.run.new.shelf)
    (g.S.Shelf.faults c.args.shelf.now) (g.S.Shelf.faults c.run.new.shelf)
    (seen g.K.Sink.taken g.K.Sink.faults c.args.out.now c.run.new.out) c.run.result c.run.ensures.run

pub returns-clause-budgets : goal.returns-clause-budgets
returns-clause-budgets g c =
    run_budgets (job_of (map string_bytes c.args.words.now)) (g.S.Shelf.files c.args.shelf.now) (g.S.Shelf.files c.run.new.shelf)
    (g.S.Shelf.faults c.args.shelf.now) (g.S.Shelf.faults c.run.new.shelf)
    (seen g.K.Sink.taken g.K.Sink.faults c.args.out.now c.run.new.out) c.run.result c.run.ensures.run

pub returns-clause-best : goal.returns-clause-best
returns-clause-best g c = run_best (record {
  asked = job_of (map string_bytes c.args.words.now);
  shelf = seen g.S.Shelf.files g.S.Shelf.faults c.args.shelf.now c.run.new.shelf;
  out = seen g.K.Sink.taken g.K.Sink.faults c.args.out.now c.run.new.out;
  number = c.run.result;
  is_run = c.run.ensures.run;
})
