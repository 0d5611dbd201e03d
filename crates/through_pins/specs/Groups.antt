-- Exceptions whose groups have pins of the design.
use Rattle.std.specs.Prelude.{ℕ, ◌<◌, List, All}
use Rattle.bud_base.specs.declared.ids.PinId.{PinId}
use Rattle.bud_design.specs.declared.clocks.Exception.{Exception}

abbrev pub ArePinsBelow : ℕ → List PinId → Type 0
ArePinsBelow pins group = All (λ v. v.0 < pins) group

abbrev pub HasGroupsBelow : ℕ → Exception → Type 0
HasGroupsBelow pins e = All (ArePinsBelow pins) e.groups
