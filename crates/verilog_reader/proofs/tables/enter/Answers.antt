use Rattle.std.proofs.Common.{◌∙◌, ap, Some, if◌then◌else◌}
use Rattle.std.specs.Prelude.{List, ℕ}
use Rattle.std.specs.Borrow.{Bor}
use Rattle.std.specs.Map.{lookup}
use Rattle.std.specs.Str.{bytes_eq}
use Rattle.verilog_reader.specs.Tables.{known, with_first}
use Rattle.verilog_reader.proofs.TableSteps.{found_behind}
use Rattle.verilog_reader.proofs.tables.enter.Goals as goal

pub returns-in-Ok-clause-entered : goal.returns-in-Ok-clause-entered
returns-in-Ok-clause-entered c = λ q.
    ap (λ es. lookup (λ (k : Bor (List ℕ)). bytes_eq q k.now) es) c.in-Ok.ensures.entries
    ∙ found_behind c.args.table.now.entries c.args.name c.with_first-first.result q
    ∙ ap (λ v. if bytes_eq c.args.name.now q then Some v else known c.args.table.now q) (c.with_first-first.ensures ∙ ap (λ k. with_first k c.args.declared) c.known.ensures)
