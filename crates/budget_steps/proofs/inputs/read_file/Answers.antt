use Rattle.budget_steps.specs.Inputs.{seen}
use Rattle.budget_steps.proofs.FileLaws.{file_stopped}
use Rattle.budget_steps.proofs.inputs.read_file.Goals as goal

pub returns-in-Err-clause-file : goal.returns-in-Err-clause-file
returns-in-Err-clause-file g c =
    let shelf = seen g.S.Shelf.files g.S.Shelf.faults c.args.shelf.now c.read.new.self in
    let answer = rw c.in-Err.is at c.read.ensures.answer in
    file_stopped shelf c.args.name.now c.read.new.into.items c.in-Err.fault c.stopped.result answer c.stopped.ensures
