use Rattle.std.proofs.Common.{◌∙◌}
use Rattle.bud_shelf.proofs.Names.{file_in-no_long}
use Rattle.bud_shelf.proofs.safe.SafeShelf.file.Goals as goal

pub returns : goal.returns
returns c = rw (← c.self.view_is) (c.file.ensures ∙ file_in-no_long c.self.inside.stored c.args.name.now c.self.invariant)
