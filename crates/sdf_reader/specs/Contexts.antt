-- The scopes that contexts stand for.
use Rattle.sdf_reader.specs.Names.{printed}
use Rattle.sdf_reader.specs.Cells.{Scope}
use Rattle.sdf_reader.specs.declared.contexts.Context.{Context}

abbrev pub scope_of : Context → Scope
scope_of context = record { divider = context.divider; unit = context.unit; cell = context.cell.now; instance = printed context.divider context.instance.now }
