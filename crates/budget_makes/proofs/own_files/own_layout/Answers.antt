use Rattle.budget_makes.proofs.OwnLayouts.{layout_of}
use Rattle.budget_makes.proofs.own_files.own_layout.Goals as goal

pub returns-clause-course : goal.returns-clause-course
returns-clause-course c =
    layout_of c.args.design.now c.in_ok-shelf.shelf c.load_layout.new.shelf c.load_layout.result c.in_ok-shelf.ensures c.load_layout.ensures.files c.load_layout.ensures.course
