use Rattle.std.proofs.Common.{◌≡◌, drop}
use Rattle.std.specs.List.{list_any}
use Rattle.std.specs.Str.{bytes_eq}
use Rattle.module_nets.specs.Tops.{module_at}
use Rattle.module_nets.proofs.judging.is_entered.Given as goal

abbrev pub invariant-loop-number : goal.invariant-loop-number
invariant-loop-number l = list_any (λ n. bytes_eq l.name (module_at l.modules n).name) l.entered ≡ list_any (λ n. bytes_eq l.name (module_at l.modules n).name) (drop l.number-index l.entered)
