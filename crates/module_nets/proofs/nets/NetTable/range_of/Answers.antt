use Rattle.std.proofs.Common.{◌∙◌, ap, sym}
use Rattle.module_nets.proofs.NetLaws.{range_at, table_range}
use Rattle.module_nets.proofs.nets.NetTable.range_of.Goals as goal

pub returns-in_err-find : goal.returns-in_err-find
returns-in_err-find c =
    c.from_residual.ensures ∙ (sym (ap range_at c.in_err-find.was)
    ∙ table_range c.args.self.now.«module».now c.args.name.now c.find.result c.find.ensures)

pub returns : goal.returns
returns c =
    sym (ap range_at c.in_ok-find.was)
    ∙ table_range c.args.self.now.«module».now c.args.name.now c.find.result c.find.ensures
