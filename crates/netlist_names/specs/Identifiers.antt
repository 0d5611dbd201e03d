-- The names that a module gives.
use Rattle.std.specs.Prelude.{◌≡◌, true, All}
use Rattle.bud_design.specs.DesignRules.{is_identifier}
use Rattle.bud_syntax.specs.declared.modules.Module.{Module}

-- the names of the module, its ports and its instances are identifiers: of one graphic character at least, and of nothing else
pub record HasIdentifiers (m : Module) : Type 0 where
  pub name : is_identifier m.name ≡ true
  pub ports : All (λ p. is_identifier p.name ≡ true) m.ports
  pub instances : All (λ i. is_identifier i.name ≡ true) m.instances
