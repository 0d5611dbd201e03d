use Rattle.std.proofs.Common.{◌∙◌, ap, ℕ, List}
use Rattle.std.specs.Map.{lookup}
use Rattle.std.specs.Str.{bytes_eq}
use Rattle.text_tables.proofs.Steps.{found_behind}
use Rattle.text_tables.proofs.standings.TextTable.put.Goals as goal

pub returns : goal.returns
returns c = λ q.
    ap (λ es. lookup (λ k. bytes_eq q k.items) es) c.in-Ok.ensures.entries
    ∙ found_behind c.args.self.now.standings.entries c.args.text c.args.standing q
