-- Modules that list each port once.
use Rattle.std.specs.Prelude.{◌≡◌, false, AllPairs}
use Rattle.std.specs.Str.{bytes_eq}
use Rattle.bud_syntax.specs.declared.modules.Module.{Module}

-- the names of the module's ports differ
abbrev pub HasPortsOnce : Module → Type 0
HasPortsOnce m = AllPairs (λ p q. bytes_eq p.name q.name ≡ false) m.ports
