use Rattle.std.proofs.Common.{◌∙◌, ap}
use Rattle.std.specs.Map.{lookup}
use Rattle.std.specs.Str.{bytes_eq}
use Rattle.module_nets.specs.Tables.{known}
use Rattle.module_nets.specs.declared.keys.Key.{Key}
use Rattle.module_nets.proofs.TableSteps.{found_behind, entered_new}
use Rattle.module_nets.proofs.tables.enter_new.Goals as goal

pub returns-in-Ok-clause-entered : goal.returns-in-Ok-clause-entered
returns-in-Ok-clause-entered g c = λ q.
    let key : Key = record { name = c.args.name } in
    ap (λ es. lookup (λ (k : Key). bytes_eq q k.name.now) es) c.in-Ok.ensures.entries
    ∙ found_behind c.args.table.now.entries key c.args.value q
    ∙ entered_new (known c.args.table.now) c.args.name.now c.args.value q c.requires
