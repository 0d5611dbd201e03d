use Rattle.std.proofs.Common.{◌∙◌, sym}
use Rattle.module_nets.proofs.ListSteps.{none_of}
use Rattle.module_nets.proofs.tables.enter.Goals as goal

pub enter_new-requires : goal.enter_new-requires
enter_new-requires g c = sym c.known.ensures ∙ none_of c.known.result (sym c.is_some.ensures ∙ c.if-is_some.false)
