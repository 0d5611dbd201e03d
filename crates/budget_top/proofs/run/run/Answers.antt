use Rattle.std.proofs.Common.{map, string_bytes}
use Rattle.budget_steps.specs.Inputs.{seen}
use Rattle.budget_top.specs.Words.{job_of}
use Rattle.budget_top.proofs.RunLaws.{run_from}
use Rattle.budget_top.proofs.run.run.Goals as goal

pub returns : goal.returns
returns g c = record {
  run =
      run_from (job_of (map string_bytes c.args.words.now))
      (g.S.Shelf.files c.args.shelf.now) (g.S.Shelf.files c.ended-ended.new.shelf) (g.S.Shelf.files c.finish.new.shelf)
      (g.S.Shelf.faults c.args.shelf.now) (g.S.Shelf.faults c.ended-ended.new.shelf) (g.S.Shelf.faults c.finish.new.shelf)
      c.ended-ended.result
      (seen g.K.Sink.taken g.K.Sink.faults c.args.out.now c.finish.new.out)
      c.finish.result c.ended-ended.ensures.files c.ended-ended.ensures.later c.finish.ensures.later c.ended-ended.ensures.course c.finish.ensures.finished;
}
