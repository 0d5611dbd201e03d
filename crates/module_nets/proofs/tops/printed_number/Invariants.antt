use Rattle.std.proofs.Common.{◌≡◌, drop}
use Rattle.std.specs.List.{position_from}
use Rattle.std.specs.Str.{bytes_eq}
use Rattle.bud_design.specs.Names.{printed}
use Rattle.module_nets.proofs.tops.printed_number.Given as goal

abbrev pub invariant-loop-k : goal.invariant-loop-k
invariant-loop-k l = position_from (λ m. bytes_eq (printed m.name) l.name) 0 l.modules ≡ position_from (λ m. bytes_eq (printed m.name) l.name) l.k (drop l.k l.modules)
