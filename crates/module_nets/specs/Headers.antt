-- What is known of a module by its ports and of a netlist by its modules' names.
use Rattle.std.specs.Prelude.{ℕ, List, Option}
use Rattle.std.specs.List.{position_from}
use Rattle.std.specs.Str.{bytes_eq}
use Rattle.bud_syntax.specs.declared.modules.Module.{Module}

-- the place of the first port of a name
abbrev pub port_called : Module → List ℕ → Option ℕ
port_called m name = position_from (λ p. bytes_eq p.name name) 0 m.ports

-- the place of the first module of a name
abbrev pub module_number : List Module → List ℕ → Option ℕ
module_number modules name = position_from (λ m. bytes_eq m.name name) 0 modules
