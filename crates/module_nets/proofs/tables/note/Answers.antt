use Rattle.std.proofs.Common.{◌∙◌, ap}
use Rattle.std.specs.List.{list_any}
use Rattle.std.specs.Str.{bytes_eq}
use Rattle.module_nets.specs.declared.keys.Key.{Key}
use Rattle.module_nets.proofs.TableSteps.{noted_behind}
use Rattle.module_nets.proofs.tables.note.Goals as goal

pub returns-in-Ok-clause-noted : goal.returns-in-Ok-clause-noted
returns-in-Ok-clause-noted c = λ q.
    let key : Key = record { name = c.args.name } in
    ap (λ ks. list_any (λ (k : Key). bytes_eq q k.name.now) ks) c.in-Ok.ensures.keys
    ∙ noted_behind c.args.names.now.keys key q
